-- `wire::sum::sum` meets its contract. The loop's invariant: what was added, with what is left to add, folds to the same as the whole.
use Rattle.std.proofs.Common.{◌≡◌, ◌+◌, ◌*◌, ◌≤◌, drop}
use Rattle.wire.specs.Sum.{total, ones}
use Rattle.wire.proofs.sum.sum.Given as goal

abbrev pub invariant-loop-i : goal.invariant-loop-i
invariant-loop-i l = (l.i ≤ l.words) × (l.acc ≤ l.first + 4294967295 * l.i) × (ones (l.acc + total (drop (4 * l.i) l.s)) ≡ ones (l.first + total l.s))
