-- `endpoint::config::Endpoint::wrap` meets its contract: the way out on the binding, and all the rest.
use Rattle.std.proofs.Common.{◌∙◌, ap, sym}
use Rattle.endpoint.specs.Wrap.{Wrote}
use Rattle.endpoint.proofs.Laws.WrapExits.{wrap_nowhere, wrap_on}
use Rattle.endpoint.proofs.Laws.Promises.{wrap_promised}
use Rattle.endpoint.proofs.config.Endpoint.wrap.Goals as goal

pub returns-in_default : goal.returns-in_default
returns-in_default c =
    let a = c.args in
    let same = wrap_nowhere a.self.now a.binding a.frame.now a.segment a.identifier a.output.now (sym c.route.ensures ∙ c.in_default.is) in
    let (value, (output_after, (result_value, wrap_rule))) = wrap_promised a.self.now a.binding a.frame.now a.segment a.identifier a.output.now _ _
    (ap (λ (w : Wrote). w.answer) same) (ap (λ (w : Wrote). w.output) same) in
    record { value = value; output_after = output_after; result_value = result_value; wrap_rule = wrap_rule }

pub returns : goal.returns
returns c =
    let a = c.args in
    let same = wrap_on a.self.now a.binding a.frame.now a.segment a.identifier a.output.now _ (sym c.route.ensures ∙ c.in-Some.is) in
    let (value, (output_after, (result_value, wrap_rule))) = wrap_promised a.self.now a.binding a.frame.now a.segment a.identifier a.output.now _ _
    (c.send.ensures.value ∙ ap (λ (w : Wrote). w.answer) same) (c.send.ensures.output_after ∙ ap (λ (w : Wrote). w.output) same) in
    record { value = value; output_after = output_after; result_value = result_value; wrap_rule = wrap_rule }
