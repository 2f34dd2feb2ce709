-- `detector::detector::Detector::start` meets its contract.
use mathlib.Core.Path.{refl}
use Rattle.detector.specs.Detector.{empty}
use Rattle.detector.proofs.detector.Detector.start.Goals as goal

pub returns : goal.returns
unfolding empty
returns c = refl
