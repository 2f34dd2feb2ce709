-- `image::save::put_bindings` meets its contract. The loop's invariant: behind the count, the first i bindings are laid.
use Rattle.std.proofs.Common.{◌+◌, ◌≡◌, length}
use Rattle.wire.specs.Bytes.{laid}
use Rattle.reassembly.specs.Base.{table}
use Rattle.image.specs.Image.{binding_row, rows}
use Rattle.image.specs.Save.{binding_entry}
use Rattle.image.proofs.save.put_bindings.Given as goal

abbrev pub invariant-loop-i : goal.invariant-loop-i
invariant-loop-i l = (length l.out ≡ length l.initial.out) × (l.out ≡ laid l.initial.out (l.at + 1) (rows binding_row (table l.i (binding_entry l.e.networks l.e.kinds l.e.owners l.e.tenants))))
