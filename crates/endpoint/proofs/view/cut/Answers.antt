-- `view::cut` meets its contract: the place's flag says which length counts.
use mathlib.Core.Path.{◌∙◌}
use Rattle.endpoint.proofs.Laws.View.{cut_memory, cut-packet}
use Rattle.endpoint.proofs.view.cut.Goals as goal

pub returns-then-place : goal.returns-then-place
returns-then-place c = c.cut_within.ensures ∙ cut_memory _ _ _ c.if-place.true

pub returns : goal.returns
returns c = c.cut_within-2.ensures ∙ cut-packet _ _ _ c.if-place.false
