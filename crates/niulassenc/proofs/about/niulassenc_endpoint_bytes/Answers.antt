-- `niulassenc::about::niulassenc_endpoint_bytes` meets its contract, and the number is the size of an endpoint in memory.
use mathlib.Core.Path.{◌≡◌, refl}
use prog.Memory.{size}
use Rattle.endpoint.proofs.config.Endpoint.TheLaws as T'
use Rattle.niulassenc.specs.About.{endpoint_bytes}
use Rattle.niulassenc.proofs.about.niulassenc_endpoint_bytes.Goals as goal

-- as the code is compiled
laid_out : size T'.mir ≡ endpoint_bytes
laid_out = refl

pub returns : goal.returns
returns c = refl
