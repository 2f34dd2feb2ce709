-- `reference::list::Buffers::tick` meets its contract.
use Rattle.std.proofs.Common.{ap, ◌∙◌}
use Rattle.reference.specs.Layout.{buffers_of}
use Rattle.reference.proofs.Laws.Lists.{older_begin, older-kept, older_gone, older-room}
use Rattle.reference.proofs.list.Buffers.tick.Goals as goal
use Rattle.reference.proofs.list.Buffers.tick.Goals.{then-b-lt-AGE_MAX, else-b-lt-AGE_MAX}

pub loop-b-init : goal.loop-b-init
loop-b-init c = c.new-left.ensures ∙ older_begin c.pending-b-items.result.now

pub push-requires : goal.push-requires
push-requires c =
    older-room c.loop-b.left c.pending-b-items.result.now c.loop-b.b-index c.loop-b-test.true c.loop-b.invariant
    c.args.self.now c.pending-b-items.ensures

pub loop-b-preserved : goal.loop-b-preserved
loop-b-preserved c =
    let l = c.pending-b-items.result.now in
    let at = c.loop-b in
    elim c.if-b-lt-AGE_MAX.branch [
      | then-b-lt-AGE_MAX w ↦ older-kept at.left l at.b-index c.loop-b-test.true at.invariant c.if-b-lt-AGE_MAX.left
          w.if-b-lt-AGE_MAX.true (ap buffers_of w.left-is ∙ w.push.ensures)
      | else-b-lt-AGE_MAX w ↦ ap buffers_of w.left-is
          ∙ older_gone at.left l at.b-index c.loop-b-test.true at.invariant w.if-b-lt-AGE_MAX.false
    ]
