-- `image::load::bindings_in` meets its contract.
use native.Mathlib.Omega.{arith}
use Rattle.image.proofs.Laws.Load.{bindings_in_is}
use Rattle.image.proofs.load.bindings_in.Goals as goal

pub returns : goal.returns
returns c = record { value = bindings_in_is _ _ c.peers_in.ensures.value _ (c.get.ensures.value (omega arith)); upper_bound = omega arith }
