-- `wire::le::le` meets its contract. The loop's invariant: x is the number in the first i bytes.
use Rattle.std.proofs.Common.{◌≡◌, ◌≤◌}
use Rattle.wire.specs.Sum.{le_at}
use Rattle.wire.proofs.le.le.Given as goal

abbrev pub invariant-loop-i : goal.invariant-loop-i
invariant-loop-i g l = (l.i ≤ g.row.N) × (l.x ≡ le_at l.s l.at l.i)
