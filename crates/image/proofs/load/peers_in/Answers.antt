-- `image::load::peers_in` meets its contract.
use native.Mathlib.Omega.{arith}
use Rattle.image.proofs.Laws.Load.{peers_in_is}
use Rattle.image.proofs.load.peers_in.Goals as goal

pub returns : goal.returns
returns c = record { value = peers_in_is _ _ (c.get.ensures.value (omega arith)); upper_bound = omega arith }
