-- `wire::be::be` meets its contract. The loop's invariant: x is the number in the last i of the N bytes.
use Rattle.std.proofs.Common.{◌≡◌, ◌+◌, ◌-◌, ◌≤◌}
use Rattle.wire.specs.Bytes.{be_at}
use Rattle.wire.proofs.be.be.Given as goal

abbrev pub invariant-loop-i : goal.invariant-loop-i
invariant-loop-i g l = (l.i ≤ g.row.N) × (l.x ≡ be_at l.s (l.at + (g.row.N - l.i)) l.i)
