-- `reassembly::slot::Peer::further` meets its contract.
use Rattle.reassembly.specs.Take.{seg_of, slot_no}
use Rattle.reassembly.proofs.Laws.Take.{further_refused, further-stored}
use Rattle.reassembly.proofs.slot.Peer.further.Goals as goal

pub returns-then-some_received : goal.returns-then-some_received
unfolding slot_no
returns-then-some_received c = let a = c.args in
    let gives = further_refused a.peer a.s a.self.now a.memory.now (seg_of a.segment a.bytes.now) c.some_received.result
    c.some_received.ensures c.if-some_received.true in
    record { value = gives.value; record_after = gives.record_after; memory_after = gives.memory_after }

pub returns : goal.returns
unfolding slot_no
returns c = let a = c.args in
    let gives = further-stored a.peer a.s a.self.now a.memory.now (seg_of a.segment a.bytes.now) c.some_received.result c.put.new.memory
    c.finish.result c.finish.new.self
    c.requires.2 c.some_received.ensures c.if-some_received.false c.put.ensures c.finish.ensures.value c.finish.ensures.record_after in
    record { value = gives.value; record_after = gives.record_after; memory_after = gives.memory_after }
