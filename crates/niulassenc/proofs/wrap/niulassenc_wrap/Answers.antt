-- `niulassenc::wrap::niulassenc_wrap` meets its contract.
use Rattle.std.proofs.Common.{◌∙◌, sym, ap, Result, arith}
use Rattle.endpoint.specs.Answer.{wrap_values_of}
use Rattle.endpoint.specs.declared.answer.Packet.{Packet}
use Rattle.endpoint.specs.declared.answer.WrapRefusal.{WrapRefusal}
use Rattle.endpoint.proofs.Laws.Answer.{written_values, refused_values}
use Rattle.niulassenc.specs.Answer.{writing_of}
use Rattle.niulassenc.specs.declared.answer.Writing.{Writing}
use Rattle.niulassenc.proofs.Laws.Wrap.{segments_few}
use Rattle.niulassenc.proofs.wrap.niulassenc_wrap.Goals as goal

abbrev written : Result Packet WrapRefusal → Writing
written a = writing_of (wrap_values_of a)

pub overflow_cast-result : goal.overflow_cast-result
overflow_cast-result c = record { fits = omega (arith, segments_few _ _ _ _ _ _ _ (sym c.wrap.ensures.value ∙ c.in-Ok.is)) }

pub returns-in-Ok : goal.returns-in-Ok
returns-in-Ok c =
    (sym (ap written (sym c.wrap.ensures.value ∙ c.in-Ok.is) ∙ ap writing_of (written_values _)), c.wrap.ensures.output_after)

pub returns-in-Err : goal.returns-in-Err
returns-in-Err c =
    (rw c.code.ensures (sym (ap written (sym c.wrap.ensures.value ∙ c.in-Err.is) ∙ ap writing_of (refused_values _))), c.wrap.ensures.output_after)
