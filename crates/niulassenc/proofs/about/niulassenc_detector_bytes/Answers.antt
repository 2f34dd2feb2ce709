-- `niulassenc::about::niulassenc_detector_bytes` meets its contract, and the number is the size of a detector in memory.
use mathlib.Core.Path.{◌≡◌, refl}
use prog.Memory.{size}
use Rattle.detector.proofs.detector.Detector.TheLaws as T'
use Rattle.niulassenc.specs.About.{detector_bytes}
use Rattle.niulassenc.proofs.about.niulassenc_detector_bytes.Goals as goal

-- as the code is compiled
laid_out : size T'.mir ≡ detector_bytes
laid_out = refl

pub returns : goal.returns
returns c = refl
