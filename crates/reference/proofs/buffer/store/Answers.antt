-- `reference::buffer::store` meets its contract.
use Rattle.reference.proofs.Lent.{laid}
use Rattle.reference.proofs.buffer.store.Goals as goal

pub returns-then-end-memory : goal.returns-then-end-memory
returns-then-end-memory c =
    laid c.args.memory.now c.copy_from_slice.new.self c.args.bytes.now c.args.at c.if-end-memory.true c.copy_from_slice.ensures.after
