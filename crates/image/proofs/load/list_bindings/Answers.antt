-- `image::load::list_bindings` meets its contract. The loop's invariant: the bindings before i are listed.
use Rattle.std.proofs.Common.{◌∙◌, arith}
use Rattle.endpoint.proofs.Laws.Relist.{relisted-none}
use Rattle.image.proofs.Laws.Load.{binding_listed, binding_refused, refused, all-bindings}
use Rattle.image.proofs.load.list_bindings.Goals as goal

pub loop-i-init : goal.loop-i-init
loop-i-init c = relisted-none _ _

pub returns-in_err-list_binding_at : goal.returns-in_err-list_binding_at
returns-in_err-list_binding_at c =
    all-bindings _ _ _ _ _
    (binding_refused _ _ _ _ c.loop-i.i c.loop-i.invariant _ c.list_binding_at.ensures.value _ (omega arith) _ c.in_err-list_binding_at.was)
    c.bindings_at-at.ensures.value c.bindings_in-i-end.ensures.value
    ∙ refused _ _ c.from_residual.ensures.0

pub loop-i-preserved : goal.loop-i-preserved
loop-i-preserved c =
    binding_listed _ _ _ _ c.loop-i.i c.loop-i.invariant _ c.list_binding_at.ensures.value _ c.list_binding_at.ensures.endpoint_after _
    c.in_ok-list_binding_at.was

pub returns : goal.returns
returns c = all-bindings _ _ _ c.loop-i.i _ c.loop-i.invariant c.bindings_at-at.ensures.value (omega (arith, c.bindings_in-i-end.ensures.value))
