-- `view::view_one` meets its contract: the place's flag picks the slice, and `part` gives the part of it.
use mathlib.Core.Path.{◌∙◌, sym}
use Rattle.reassembly.proofs.Laws.Answers.{view_packet, view_memory}
use Rattle.endpoint.proofs.view.view_one.Goals as goal

pub returns-then-place : goal.returns-then-place
returns-then-place c =
    record {
      bytes = c.part.ensures.bytes ∙ sym (view_memory _ _ _ c.if-place.true);
      begins = simp c.if-place.true c.part.ensures.begins;
    }

pub returns : goal.returns
returns c =
    record {
      bytes = c.part-2.ensures.bytes ∙ sym (view_packet _ _ _ c.if-place.false);
      begins = simp c.if-place.false c.part-2.ensures.begins;
    }
