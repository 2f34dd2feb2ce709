-- `reference::buffer::Buffer::repeats` meets its contract.
use Rattle.std.proofs.Common.{rules, ◌≡◌, ◌+◌, true, false, is_some, ℕ, refl, arith}
use Rattle.std.proofs.lemmas.Iterator.{cases_from_any, YieldsList-from_range}
use Rattle.reference.specs.Layout.{kept, place_in}
use Rattle.reference.proofs.Laws.Places.{some_in_range}
use Rattle.reference.proofs.buffer.Buffer.repeats.Goals as goal

pub returns : goal.returns
returns c =
    let b = c.args.self.now in
    let offset = c.args.offset in
    some_in_range c.args.n (λ i. is_some (place_in b.extents (kept b) (offset + i))) c.any.result
    (cases_from_any _ _ _ (λ (i : ℕ). is_some (place_in b.extents (kept b) (offset + i)) ≡ true) (λ (i : ℕ). is_some (place_in b.extents (kept b) (offset + i)) ≡ false)
    c.any.ensures.ran (YieldsList-from_range 0 c.args.n c.args.n refl (omega arith)) (λ x q k. search rules) (λ x q k. search rules))
