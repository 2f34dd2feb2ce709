-- `wire::sum::sum` meets its contract.
use Rattle.std.proofs.Common.{◌≡◌, ℕ, ◌+◌, ◌-◌, ◌*◌, ◌/◌, length, take, drop, length-drop, take_all, refl, ap, sym, ◌∙◌, arith}
use Rattle.wire.specs.Sum.{total, ones}
use Rattle.wire.proofs.Laws.Sum.{total_four}
use Rattle.wire.proofs.sum.sum.Goals as goal

pub loop-i-init : goal.loop-i-init
loop-i-init c = (omega arith, omega arith, refl)

pub loop-i-preserved : goal.loop-i-preserved
loop-i-preserved c =
    let s = c.args.s.now in
    let acc = c.loop-i.acc in
    let i = 4 * c.loop-i.i in
    let k : 4 * (c.loop-i.i + 1) ≡ i + 4 = omega arith in
    let e = ap (λ (x : ℕ). ones (acc + x + total (drop (i + 4) s))) c.be-acc.ensures.value ∙ total_four s i acc (omega arith) in
    (omega arith, omega arith, rw k e ∙ c.loop-i.invariant.2)

pub returns : goal.returns
returns c =
    let s = c.args.s.now in
    let acc = c.loop-i.acc in
    let i = 4 * (length s / 4) in
    let k : 4 * c.loop-i.i ≡ i = omega arith in
    let n : length (drop i s) ≡ length s - i = length-drop i s in
    let w : take (length s - i) (drop i s) ≡ drop i s = take_all (length s - i) (drop i s) (omega arith) in
    c.fold.ensures ∙ ap (λ (x : ℕ). ones (acc + x)) (c.tail.ensures.value ∙ ap total w) ∙ ap (λ (j : ℕ). ones (acc + total (drop j s))) (sym k)
    ∙ c.loop-i.invariant.2
