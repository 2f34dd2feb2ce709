-- `image::load::list_peers` meets its contract. The loop's invariant: the peers before i are listed.
use Rattle.std.proofs.Common.{◌≡◌}
use Rattle.std.proofs.Math.Option.{some}
use Rattle.endpoint.specs.Relist.{relisted}
use Rattle.image.specs.Load.{peer_call}
use Rattle.image.proofs.load.list_peers.Given as goal

abbrev pub invariant-loop-i : goal.invariant-loop-i
invariant-loop-i l = relisted (peer_call l.image) l.i l.initial.e ≡ some l.e
