-- `reassembly::slot::Peer::take` meets its contract: each way out cites its law.
use Rattle.std.proofs.Common.{sym, ◌∙◌}
use Rattle.reassembly.specs.Take.{seg_of}
use Rattle.reassembly.proofs.Laws.Take.{no_memory, take-rejected, take-further, take_open, further_is, open_is}
use Rattle.reassembly.proofs.slot.Peer.take.Goals as goal

pub returns-then-peer-ge-PEERS : goal.returns-then-peer-ge-PEERS
returns-then-peer-ge-PEERS c = let a = c.args in
    let gives = no_memory a.peer a.self.now a.memory.now (seg_of a.segment a.bytes.now) c.then-peer-ge-PEERS.either in
    record { value = gives.value; record_after = gives.record_after; memory_after = gives.memory_after }

pub returns-in-Err : goal.returns-in-Err
returns-in-Err c = let a = c.args in
    let gives = take-rejected a.peer a.self.now a.memory.now (seg_of a.segment a.bytes.now) c.if-peer-ge-PEERS.false c.if-memory-lt-MEMORY_BYTES.false
    c.in-Err.why (sym c.in-Err.is ∙ c.decide.ensures) in
    record { value = gives.value; record_after = gives.record_after; memory_after = gives.memory_after }

pub further-requires : goal.further-requires
further-requires c = let a = c.args in (
  c.if-peer-ge-PEERS.false,
  c.if-memory-lt-MEMORY_BYTES.false,
  further_is a.self.now.slots (seg_of a.segment a.bytes.now) c.in-Ok-Further.s (rw c.in-Ok-Further.field-0-is at (sym c.in-Ok-Further.is ∙ c.decide.ensures)),
)

pub returns-in-Ok-Further : goal.returns-in-Ok-Further
returns-in-Ok-Further c = let a = c.args in
    let gives = take-further a.peer a.self.now a.memory.now (seg_of a.segment a.bytes.now) c.further.result c.further.new.self c.further.new.memory
    c.if-peer-ge-PEERS.false c.if-memory-lt-MEMORY_BYTES.false c.in-Ok-Further.s (rw c.in-Ok-Further.field-0-is at (sym c.in-Ok-Further.is ∙ c.decide.ensures))
    (record { value = c.further.ensures.value; record_after = c.further.ensures.record_after; memory_after = c.further.ensures.memory_after }) in
    record { value = gives.value; record_after = gives.record_after; memory_after = gives.memory_after }

pub open-requires : goal.open-requires
open-requires c = let a = c.args in (
  c.if-peer-ge-PEERS.false,
  c.if-memory-lt-MEMORY_BYTES.false,
  open_is a.self.now.slots (seg_of a.segment a.bytes.now) c.in-Ok-Open.s (rw c.in-Ok-Open.field-0-is at (sym c.in-Ok-Open.is ∙ c.decide.ensures)),
)

pub returns-in-Ok-Open : goal.returns-in-Ok-Open
returns-in-Ok-Open c = let a = c.args in
    let gives = take_open a.peer a.self.now a.memory.now (seg_of a.segment a.bytes.now) c.open.result c.open.new.self c.open.new.memory
    c.if-peer-ge-PEERS.false c.if-memory-lt-MEMORY_BYTES.false c.in-Ok-Open.s (rw c.in-Ok-Open.field-0-is at (sym c.in-Ok-Open.is ∙ c.decide.ensures))
    (record { value = c.open.ensures.value; record_after = c.open.ensures.record_after; memory_after = c.open.ensures.memory_after }) in
    record { value = gives.value; record_after = gives.record_after; memory_after = gives.memory_after }
