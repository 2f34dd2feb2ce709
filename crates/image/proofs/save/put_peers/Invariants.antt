-- `image::save::put_peers` meets its contract. The loop's invariant: behind the count, the first i peers are laid.
use Rattle.std.proofs.Common.{◌≡◌, length, get_or}
use Rattle.wire.specs.Bytes.{laid}
use Rattle.reassembly.specs.Base.{table}
use Rattle.image.specs.Image.{peer_row, rows}
use Rattle.image.proofs.save.put_peers.Given as goal

abbrev pub invariant-loop-i : goal.invariant-loop-i
invariant-loop-i l = (length l.out ≡ length l.initial.out) × (l.out ≡ laid l.initial.out 14 (rows peer_row (table l.i (λ j. get_or l.addresses j 0))))
