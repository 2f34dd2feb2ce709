-- `reference::reassembler::Reassembler::take_due` meets its contract.
use Rattle.std.proofs.Common.{false, refl, sym, ap, ◌∙◌, Err}
use Rattle.std.proofs.lemmas.Result.{err_from_is_err_and}
use Rattle.reassembly.proofs.Laws.Answers.{view_packet}
use Rattle.reference.specs.Calls.{passed}
use Rattle.reference.proofs.Laws.Receive.{due_out, settled_refused, settled_pending, settled-complete}
use Rattle.reference.proofs.reassembler.Reassembler.take_due.Goals as goal

pub returns-in_err-take : goal.returns-in_err-take
returns-in_err-take c =
    let a = c.args in
    let p = err_from_is_err_and c.from_residual.result c.from_residual.ensures.1 in
    due_out a.self.now a.peer a.due a.packet.now a.memory.now c.requires.1 _
    (c.view-bytes.ensures.bytes
    ∙ view_packet a.packet.now a.packet.now (record { in_lent_memory = false; start = a.due.start; len = a.due.length }) refl) _ _ _
    c.take.ensures _
    (p.1 ∙ ap Err p.2 ∙ settled_refused a.self.now.endpoint a.peer c.take.result a.due.header.frame_length a.packet.now c.take.new.memory _ c.in_err-take.was)

pub returns-in-Pending : goal.returns-in-Pending
returns-in-Pending c =
    let a = c.args in
    due_out a.self.now a.peer a.due a.packet.now a.memory.now c.requires.1 _
    (c.view-bytes.ensures.bytes
    ∙ view_packet a.packet.now a.packet.now (record { in_lent_memory = false; start = a.due.start; len = a.due.length }) refl) _ _ _
    c.take.ensures _
    (settled_pending a.self.now.endpoint a.peer c.take.result a.due.header.frame_length a.packet.now c.take.new.memory _ c.in_ok-take.was c.in-Pending.is)

pub returns-in_err-deliver-in-Complete : goal.returns-in_err-deliver-in-Complete
returns-in_err-deliver-in-Complete c =
    let p = err_from_is_err_and c.from_residual-in_err-deliver-in-Complete.result c.from_residual-in_err-deliver-in-Complete.ensures.1 in
    let a = c.args in
    due_out a.self.now a.peer a.due a.packet.now a.memory.now c.requires.1 _
    (c.view-bytes.ensures.bytes
    ∙ view_packet a.packet.now a.packet.now (record { in_lent_memory = false; start = a.due.start; len = a.due.length }) refl) _ _ _
    c.take.ensures _
    (p.1 ∙ ap Err p.2 ∙ ap passed (sym c.in_err-deliver-in-Complete.was)
    ∙ settled-complete a.self.now.endpoint a.peer c.take.result a.due.header.frame_length a.packet.now c.take.new.memory _ c.in_ok-take.was c.in-Complete.is _ _
    (rw c.from-size.ensures at c.complete_in-offer.ensures) c.deliver.ensures)

pub returns-in_ok-deliver-in-Complete : goal.returns-in_ok-deliver-in-Complete
returns-in_ok-deliver-in-Complete c =
    let a = c.args in
    due_out a.self.now a.peer a.due a.packet.now a.memory.now c.requires.1 _
    (c.view-bytes.ensures.bytes
    ∙ view_packet a.packet.now a.packet.now (record { in_lent_memory = false; start = a.due.start; len = a.due.length }) refl) _ _ _
    c.take.ensures _
    (ap passed (sym c.in_ok-deliver-in-Complete.was)
    ∙ settled-complete a.self.now.endpoint a.peer c.take.result a.due.header.frame_length a.packet.now c.take.new.memory _ c.in_ok-take.was c.in-Complete.is _ _
    (rw c.from-size.ensures at c.complete_in-offer.ensures) c.deliver.ensures)
