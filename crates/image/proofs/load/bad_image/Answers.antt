-- `image::load::bad_image` meets its contract.
use Rattle.image.proofs.Laws.Load.{bad-image_is}
use Rattle.image.proofs.load.bad_image.Goals as goal

pub returns : goal.returns
returns c = bad-image_is _ c.start-refused.ensures.value
