-- `reference::reassembler::Reassembler::receive` meets its contract.
use Rattle.std.proofs.Common.{◌≡◌, false, sym, ap, ◌∙◌, Err, rules}
use Rattle.std.proofs.lemmas.Result.{err_from_is_err_and}
use Rattle.endpoint.proofs.Laws.Receive.{open_below}
use Rattle.reference.specs.Calls.{passed}
use Rattle.reference.proofs.Laws.Receive.{small_out, untaken_out, segment_out}
use Rattle.endpoint.specs.Stages.{brings_segment}
use Rattle.reference.proofs.reassembler.Reassembler.receive.Goals as goal

pub returns-then-memory-lt-MEMORY_BYTES : goal.returns-then-memory-lt-MEMORY_BYTES
returns-then-memory-lt-MEMORY_BYTES c =
    let a = c.args in
    let h = small_out a.self.now a.packet.now a.memory.now c.if-memory-lt-MEMORY_BYTES.true in
    record { reply_value = ap Err c.into.ensures ∙ h.reply; memory_after = h.left; endpoint_value = h.endpoint }

pub take_due-requires : goal.take_due-requires
take_due-requires c = (rw c.open-arrival.ensures (open_below c.args.self.now.endpoint c.args.packet.now 55296), c.if-memory-lt-MEMORY_BYTES.false)

pub returns-in_err-deliver : goal.returns-in_err-deliver
returns-in_err-deliver c =
    let a = c.args in
    let q : brings_segment c.open-arrival.result.content ≡ false = search rules in
    let h = untaken_out a.self.now a.packet.now a.memory.now c.if-memory-lt-MEMORY_BYTES.false _ c.open-arrival.ensures q _ _ c.untaken-offer.ensures c.deliver.ensures in
    let p = err_from_is_err_and c.from_residual.result c.from_residual.ensures.1 in
    record { reply_value = p.1 ∙ ap Err p.2 ∙ ap passed (sym c.in_err-deliver.was) ∙ h.reply; memory_after = h.left; endpoint_value = h.endpoint }

pub returns-in_default : goal.returns-in_default
returns-in_default c =
    let a = c.args in
    let q : brings_segment c.open-arrival.result.content ≡ false = search rules in
    let h = untaken_out a.self.now a.packet.now a.memory.now c.if-memory-lt-MEMORY_BYTES.false _ c.open-arrival.ensures q _ _ c.untaken-offer.ensures c.deliver.ensures in
    record { reply_value = ap passed (sym c.in_ok-deliver.was) ∙ h.reply; memory_after = h.left; endpoint_value = h.endpoint }

pub returns : goal.returns
returns c =
    let a = c.args in
    let h = segment_out a.self.now a.packet.now a.memory.now c.if-memory-lt-MEMORY_BYTES.false _ c.open-arrival.ensures _ _ _ _ _ c.in-Ok-Segment.is
    (rw c.in-Ok-Segment.is at c.in-Ok-Segment.field-0-is) c.take_due.ensures in
    record { reply_value = h.reply; memory_after = h.left; endpoint_value = h.endpoint }
