-- `reassembly::memory::put` meets its contract.
use Rattle.std.proofs.Common.{arith, List, ℕ, ◌++◌, ◌+◌, ◌*◌, ◌-◌, ◌∙◌, ap, sym, refl, length, drop}
use Rattle.std.proofs.Math.Seq.{take-length}
use borrow.Rule.Slice.PartMut.{mid_of}
use Rattle.reassembly.proofs.Lent.{landed}
use Rattle.reassembly.proofs.memory.put.Goals as goal

pub returns : goal.returns
returns c =
    let a = c.args in
    let m = a.memory.now in
    let s = a.bytes.now in
    let p : ℕ = a.k * 1728 + a.offset in
    landed m c.copy.new.dst c.set_bits.new.map s a.k a.offset c.requires.0 c.requires.1 c.requires.2
    (c.copy.ensures.room (omega arith) ∙ ap (λ (t : List ℕ). t ++ drop (length s) (mid_of p (length m - p) m)) (sym (take-length s))) _ refl c.set_bits.ensures
