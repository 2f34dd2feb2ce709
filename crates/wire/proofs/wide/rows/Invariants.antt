-- `wire::wide::rows` meets its contract. The loop's invariant: the first i blocks of 128 bytes are added in both sums together.
use Rattle.std.proofs.Common.{◌≡◌, ◌+◌, ◌*◌, ◌/◌, ◌≤◌, length}
use Rattle.wire.specs.Sum.{with_rest}
use Rattle.wire.proofs.wide.rows.Given as goal

abbrev pub invariant-loop-i : goal.invariant-loop-i
invariant-loop-i l = (l.i ≤ length l.s / 128) × (with_rest (l.a + l.b) l.s (128 * l.i) ≡ with_rest l.first l.s 0)
