-- `rerun::run::Run::advance` meets its contract: what was written and what will be is together the same at every turn, and each turn uses some of the piece.
use Rattle.std.specs.Prelude.{◌≡◌, length}
use Rattle.trace.specs.Reader.{bytes_of}
use Rattle.rerun.specs.Standing.{standing, Through}
use Rattle.rerun.proofs.run.Run.advance.Given as goal

abbrev pub invariant-loop-rest : goal.invariant-loop-rest
invariant-loop-rest l =
    Through (standing l.initial.self l.initial.memory) l.piece (standing l.self l.memory) l.rest l.end l.out
    × (length (bytes_of l.self.input.reader) ≡ l.self.input.reader.count)

abbrev pub decreases-loop-rest : goal.decreases-loop-rest
decreases-loop-rest l = length l.rest
