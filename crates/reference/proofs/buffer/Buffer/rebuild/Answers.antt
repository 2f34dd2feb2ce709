-- `reference::buffer::Buffer::rebuild` meets its contract.
use Rattle.std.proofs.Common.{sym, ap, ◌∙◌, [], arith, length-set, rules}
use Rattle.std.proofs.Math.Option.{some}
use Rattle.reference.specs.Layout.{kept, parts_in}
use Rattle.reference.proofs.Laws.Places.{byte_missing, byte_there, rebuilt-none, rebuilt-more, rebuilds_not}
use Rattle.reference.proofs.buffer.Buffer.rebuild.Goals as goal

pub loop-i-init : goal.loop-i-init
loop-i-init c = (search rules, rebuilt-none (parts_in c.args.self.now.extents c.args.memory.now c.args.block (kept c.args.self.now)) [])

pub returns-in_err-place : goal.returns-in_err-place
returns-in_err-place c =
    let b = c.args.self.now in
    let gone = sym c.find.ensures.0 ∙ c.in_err-place.was in
    rw c.from_residual.ensures (rebuilds_not (parts_in b.extents c.args.memory.now c.args.block (kept b)) b.frame_length c.loop-i.i (omega arith)
    (byte_missing b.extents c.args.memory.now c.args.block (kept b) c.loop-i.i gone))

pub loop-i-preserved : goal.loop-i-preserved
loop-i-preserved c =
    let b = c.args.self.now in
    let there = sym c.find.ensures.0 ∙ c.in_ok-place.was in
    let at = c.loop-i in (
      length-set at.frame at.i c.byte_of.result ∙ at.invariant.0,
      rebuilt-more (parts_in b.extents c.args.memory.now c.args.block (kept b)) at.frame at.i c.byte_of.result (omega (arith, c.requires.1)) at.invariant.1
          (byte_there b.extents c.args.memory.now c.args.block (kept b) at.i c.in_ok-place.place there ∙ ap some (sym c.byte_of.ensures)),
    )
