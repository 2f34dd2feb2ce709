-- `reference::buffer::Buffer::end` meets its contract.
use Rattle.std.proofs.Common.{◌∙◌, ℕ, ◌+◌, arith, ap}
use Rattle.reference.specs.Layout.{kept}
use Rattle.reference.proofs.Laws.Places.{begins-none, begins-more, segment_at}
use Rattle.reference.specs.declared.buffer.Extent.{Extent}
use Rattle.reference.proofs.buffer.Buffer.end.Goals as goal

pub loop-e-init : goal.loop-e-init
loop-e-init c = (begins-none c.args.self.now.extents, omega arith)

pub loop-e-preserved : goal.loop-e-preserved
loop-e-preserved c =
    let at = c.loop-e in
    let e = segment_at c.args.self.now.extents (kept c.args.self.now) c.segments-e-items.result.now at.e-index c.segments-e-items.ensures c.loop-e-test.true in
    (ap (λ (n : ℕ). at.at + n) (c.from-at.ensures ∙ ap (λ (x : Extent). x.length) e) ∙ begins-more c.args.self.now.extents at.e-index at.at at.invariant.0, omega arith)
