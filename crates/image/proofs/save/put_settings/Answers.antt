-- `image::save::put_settings` meets its contract.
use native.Mathlib.Omega.{arith}
use Rattle.image.proofs.Laws.Save.{settings_put}
use Rattle.image.proofs.save.put_settings.Goals as goal

pub returns : goal.returns
returns c =
    settings_put _ _ _ _ _ _ _ _ _ (omega arith) c.set.auto.out c.set-2.auto.out c.set-3.auto.out c.set-4.auto.out
    c.set-5.auto.out (c.set.ensures (omega arith)) (c.set-2.ensures (omega arith)) (c.set-3.ensures (omega arith)) (c.set-4.ensures (omega arith)) (c.set-5.ensures (omega arith))
