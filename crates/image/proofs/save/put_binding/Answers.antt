-- `image::save::put_binding` meets its contract.
use native.Mathlib.Omega.{arith}
use Rattle.image.proofs.Laws.Save.{binding_put}
use Rattle.image.proofs.save.put_binding.Goals as goal

pub returns : goal.returns
returns c =
    binding_put _ _ _ _ _ _ _ _ _ _ c.requires c.set.auto.out c.set-2.auto.out c.set-3.auto.out c.set-4.auto.out
    (c.set.ensures (omega arith)) (c.set-2.ensures (omega arith)) (c.set-3.ensures (omega arith)) (c.set-4.ensures (omega arith))
