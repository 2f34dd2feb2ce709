-- `detector::source::source` meets its contract.
use Rattle.std.proofs.Common.{arith, lt-ltb, le-ltb}
use Rattle.std.specs.Prelude.{length}
use Rattle.detector.specs.Source.{source_of}
use Rattle.detector.proofs.source.source.Goals as goal

pub returns-in_default : goal.returns-in_default
unfolding source_of
returns-in_default c = rw (lt-ltb (length c.args.frame.now) 12 (omega arith))

pub returns : goal.returns
unfolding source_of
returns c = rw (le-ltb (length c.args.frame.now) 12 (omega arith)) (omega (arith, c.from_be_bytes.ensures))
