-- `reference::list::Buffers::join` meets its contract: each way out cites its law.
use Rattle.std.proofs.Common.{◌≡◌, ap, ◌∙◌, ◌+◌, ◌*◌, ℕ, take}
use Rattle.reassembly.specs.Take.{seg_of}
use Rattle.reference.specs.Layout.{buffers_of, block_at, stored}
use Rattle.reference.specs.Run.{rebuilt_at}
use Rattle.reference.proofs.Laws.Take.{joined-waits, joined-complete}
use Rattle.reference.proofs.list.Buffers.join.Goals as goal

block_is : (p b x y : ℕ) → x ≡ p → y ≡ b → (4 * x + y) * 1536 ≡ block_at p b
block_is p b x y e q = rw (e, q)

pub returns-in_default : goal.returns-in_default
returns-in_default c =
    let a = c.args in
    joined-waits a.peer (buffers_of a.self.now) a.memory.now (seg_of a.segment a.bytes.now) a.frame c.requires _ c.end.result c.store.new.memory
    c.add.new.self c.rebuild.result (block_is a.peer a.frame.block _ _ c.from.ensures c.from-2.ensures) c.end.ensures.0 c.store.ensures c.add.ensures
    c.rebuild.ensures _ c.in_default.is c.put.ensures

pub returns : goal.returns
returns c =
    let a = c.args in
    joined-complete a.peer (buffers_of a.self.now) a.memory.now (seg_of a.segment a.bytes.now) a.frame c.requires _ c.end.result c.store.new.memory
    c.add.new.self c.rebuild.result (block_is a.peer a.frame.block _ _ c.from.ensures c.from-2.ensures) c.end.ensures.0 c.store.ensures c.add.ensures
    c.rebuild.ensures _ _ _ c.in-Some.is c.remove.ensures
    (c.store-2.ensures ∙ ap (λ (n : ℕ). stored c.store.new.memory rebuilt_at (take n c.in-Some.rebuilt)) c.from-3.ensures)
