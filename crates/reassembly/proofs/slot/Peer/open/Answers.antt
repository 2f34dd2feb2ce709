-- `reassembly::slot::Peer::open` meets its contract.
use Rattle.reassembly.specs.Take.{seg_of, slot_no}
use Rattle.reassembly.proofs.Laws.Take.{open_stored}
use Rattle.reassembly.proofs.slot.Peer.open.Goals as goal

pub returns : goal.returns
unfolding slot_no
returns c = let a = c.args in
    let gives = open_stored a.peer a.s a.self.now a.memory.now (seg_of a.segment a.bytes.now) c.clear.new.memory c.put.new.memory
    c.finish.result c.finish.new.self
    c.clear.ensures c.put.ensures c.finish.ensures.value c.finish.ensures.record_after in
    record { value = gives.value; record_after = gives.record_after; memory_after = gives.memory_after }
