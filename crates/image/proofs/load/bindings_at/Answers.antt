-- `image::load::bindings_at` meets its contract.
use native.Mathlib.Omega.{arith}
use Rattle.image.proofs.Laws.Load.{bindings-at_is}
use Rattle.image.proofs.load.bindings_at.Goals as goal

pub returns : goal.returns
returns c = record { value = bindings-at_is _ _ c.peers_in.ensures.value; upper_bound = omega arith }
