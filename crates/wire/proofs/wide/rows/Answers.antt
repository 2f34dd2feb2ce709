-- `wire::wide::rows` meets its contract.
use Rattle.std.proofs.Common.{◌≡◌, ◌+◌, ◌-◌, ◌*◌, ◌%◌, ◌^◌, ℕ, length, ap, ◌∙◌, add-zero, arith}
use Rattle.wire.specs.Sum.{end_around, with_rest, blocks}
use Rattle.wire.proofs.Laws.Le.{rest-two, rest-carried}
use Rattle.wire.proofs.wide.rows.Goals as goal

pub loop-i-init : goal.loop-i-init
loop-i-init c = (omega arith, ap (λ (x : ℕ). with_rest x c.args.s.now 0) (add-zero _))

pub loop-i-preserved : goal.loop-i-preserved
loop-i-preserved c =
    let s = c.args.s.now in
    let i = 128 * c.loop-i.i in
    let e : 128 * (c.loop-i.i + 1) ≡ i + 2 * 64 = omega arith in
    let a : with_rest c.close-a.result s (i + 64) ≡ with_rest c.loop-i.a s i = rw (c.close-a.ensures, ← c.open.ensures) c.words.ensures in
    let b : with_rest c.close-b.result s (i + 64 + 64) ≡ with_rest c.loop-i.b s (i + 64) =
    rw (c.close-b.ensures, ← c.open-in-loop-i.ensures) c.words-in-loop-i.ensures in
    (omega arith, rw e (rest-two 64 _ _ _ _ s i a b) ∙ c.loop-i.invariant.1)

pub returns : goal.returns
unfolding blocks
returns c =
    let s = c.args.s.now in
    let e : length s - length s % 128 ≡ 128 * c.loop-i.i = omega arith in
    ap (λ (i : ℕ). with_rest c.close.result s i) e
    ∙ rest-carried _ _ s _ (c.close.ensures ∙ c.add.ensures ∙ ap (λ (x : ℕ). end_around (2 ^ 64) (x + c.loop-i.b)) c.open-2.ensures)
    ∙ c.loop-i.invariant.1
