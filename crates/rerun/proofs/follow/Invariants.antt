-- `rerun::follow` is safe: so many records as the pieces can bring are left to be told.
use Rattle.std.proofs.Common.{◌≡◌, List, ℕ, ◌+◌, ◌*◌, ◌^◌, ◌≤◌, length}
use Rattle.trace.specs.Reader.{bytes_of}
use Rattle.rerun.specs.Standing.{standing, Ready}
use Rattle.rerun.proofs.follow.Given as goal

abbrev pub invariant-loop : goal.invariant-loop
invariant-loop g l =
    ((m : List ℕ) → Ready (standing l.run m))
    × (length (bytes_of l.run.input.reader) ≡ l.run.input.reader.count)
    × (l.run.number ≤ 2 ^ 62 + 32768 * l.counter)
