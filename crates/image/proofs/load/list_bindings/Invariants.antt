-- `image::load::list_bindings` meets its contract. The loop's invariant: the bindings before i are listed.
use Rattle.std.proofs.Common.{◌≡◌}
use Rattle.std.proofs.Math.Option.{some}
use Rattle.endpoint.specs.Relist.{relisted}
use Rattle.image.specs.Load.{binding_call}
use Rattle.image.proofs.load.list_bindings.Given as goal

abbrev pub invariant-loop-i : goal.invariant-loop-i
invariant-loop-i l = relisted (binding_call l.image l.at) l.i l.initial.e ≡ some l.e
