-- `wire::wide::words` meets its contract. The loop's invariant: the first k words are added.
use Rattle.std.proofs.Common.{◌≡◌, ◌+◌, ◌*◌, ◌/◌, ◌≤◌}
use Rattle.wire.specs.Sum.{with_rest}
use Rattle.wire.proofs.wide.words.Given as goal

abbrev pub invariant-loop-k : goal.invariant-loop-k
invariant-loop-k g l = (l.k ≤ g.row.SIZE / 8) × (with_rest l.sum l.s (l.at + 8 * l.k) ≡ with_rest l.fn.acc l.s l.at)
