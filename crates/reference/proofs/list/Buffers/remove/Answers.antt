-- `reference::list::Buffers::remove` meets its contract.
use Rattle.std.proofs.Common.{ap, ◌∙◌}
use Rattle.reference.specs.Layout.{buffers_of, identifier_in}
use Rattle.reference.proofs.Laws.Lists.{without_begin, without-kept, without_gone, without-room}
use Rattle.reference.proofs.list.Buffers.remove.Goals as goal
use Rattle.reference.proofs.list.Buffers.remove.Goals.{then-b-identifier, else-b-identifier}

pub loop-b-init : goal.loop-b-init
loop-b-init c = c.new-left.ensures ∙ without_begin identifier_in c.args.identifier c.pending-b-items.result.now

pub push-requires : goal.push-requires
push-requires c =
    without-room c.loop-b.left c.pending-b-items.result.now c.args.identifier c.loop-b.b-index c.loop-b-test.true c.loop-b.invariant
    c.args.self.now c.pending-b-items.ensures

pub loop-b-preserved : goal.loop-b-preserved
loop-b-preserved c =
    let l = c.pending-b-items.result.now in
    let at = c.loop-b in
    elim c.if-b-identifier.branch [
      | then-b-identifier w ↦ without-kept at.left l c.args.identifier at.b-index c.loop-b-test.true at.invariant c.if-b-identifier.left
          w.if-b-identifier.true (ap buffers_of w.left-is ∙ w.push.ensures)
      | else-b-identifier w ↦ ap buffers_of w.left-is
          ∙ without_gone at.left l c.args.identifier at.b-index c.loop-b-test.true at.invariant w.if-b-identifier.false
    ]
