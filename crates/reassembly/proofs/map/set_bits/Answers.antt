-- `reassembly::map::set_bits` meets its contract.
use Rattle.std.proofs.Common.{◌≡◌, ◌∙◌, List, ℕ, ◌+◌, ◌-◌, ◌*◌, ◌/◌, ap, refl, arith, bit_or, length, set, get_or, length-set, length-take, length-drop, drop}
use Rattle.std.proofs.lemmas.List.{get_or_default}
use Rattle.std.proofs.lemmas.List.Edits.{map_over_more}
use borrow.Rule.Slice.PartMut.{put_mid}
use Rattle.reassembly.specs.Store.{set_bits}
use Rattle.reassembly.proofs.Laws.Map.{set-only, set-start, set-between, set-end}
use Rattle.reassembly.proofs.map.set_bits.Goals as goal

pub returns-then-first-last : goal.returns-then-first-last
returns-then-first-last c = set-only c.args.map.now c.args.a c.args.n c.mask.result (omega arith) (omega arith) c.mask.ensures

pub loop-byte-preserved : goal.loop-byte-preserved
loop-byte-preserved c = let at = c.loop-byte in
    map_over_more (λ x. bit_or x 255) _ _ at.byte-index _ (omega arith) at.invariant (get_or_default at.byte-items at.byte-index _ _ (omega arith))

pub returns : goal.returns
returns c =
    let a = c.args in
    let at = c.loop-byte in
    let b : ℕ = a.a / 8 + 1 in
    let n : ℕ = (a.a + a.n) / 8 - b in
    let x : ℕ = bit_or (get_or a.map.now (a.a / 8) 0) c.mask-2.result in
    let m : List ℕ = set a.map.now (a.a / 8) x in
    let same : length m ≡ length a.map.now = length-set a.map.now (a.a / 8) x in
    let bits : n * 8 ≡ (a.a + a.n) / 8 * 8 - b * 8 = omega arith in
    set-end a.map.now a.a a.n c.mask-3.result m (put_mid b n m at.byte-items) ((a.a + a.n) / 8) b (omega arith) (omega arith) refl (omega arith)
    (set-start a.map.now a.a a.n c.mask-2.result (omega arith) c.mask-2.ensures)
    (set-between m b n (omega arith) at.byte-index at.byte-items (omega (arith, length-take n (drop b m), length-drop b m)) at.invariant ∙ ap (λ (k : ℕ). set_bits m 0 (b * 8) k) bits)
    c.mask-3.ensures
