-- `wire::wide::words` meets its contract.
use Rattle.std.proofs.Common.{◌≡◌, ◌+◌, ◌*◌, ℕ, ap, sym, ◌∙◌, arith}
use Rattle.wire.specs.Sum.{with_rest}
use Rattle.wire.proofs.Laws.Le.{rest_around}
use Rattle.wire.proofs.wide.words.Goals as goal

pub loop-k-init : goal.loop-k-init
loop-k-init g c = (omega arith, ap (λ (i : ℕ). with_rest c.args.acc c.args.s.now i) (omega arith))

pub loop-k-preserved : goal.loop-k-preserved
loop-k-preserved g c =
    let s = c.args.s.now in
    let i = c.args.at + 8 * c.loop-k.k in
    let e : c.args.at + 8 * (c.loop-k.k + 1) ≡ i + 2 * 4 = omega arith in
    (omega arith, rw e (rest_around 4 _ _ _ s i c.add-sum.ensures c.le.ensures) ∙ c.loop-k.invariant.1)

pub returns : goal.returns
returns g c =
    let e : c.args.at + 8 * c.loop-k.k ≡ c.args.at + g.row.SIZE = omega arith in
    ap (λ (i : ℕ). with_rest c.loop-k.sum c.args.s.now i) (sym e) ∙ c.loop-k.invariant.1
