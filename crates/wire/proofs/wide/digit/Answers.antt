-- `wire::wide::digit` meets its contract.
use Rattle.std.proofs.Common.{◌≡◌, ◌+◌, ◌*◌, ◌/◌, ◌^◌, ℕ, ap, ◌∙◌, add_comm, arith}
use Rattle.wire.specs.Sum.{end_around, le_at, with_rest, blocks}
use Rattle.wire.proofs.Laws.Le.{block_none, block_one, rest_around}
use Rattle.wire.proofs.wide.digit.Goals as goal

pub returns-then-left : goal.returns-then-left
returns-then-left g c = block_none g.row.SIZE _ c.args.s.now (omega arith)

pub returns-then-this-lt8 : goal.returns-then-this-lt8
unfolding blocks
returns-then-this-lt8 g c =
    let s = c.args.s.now in
    let x = c.args.acc in
    let e : c.close.result ≡ end_around (2 ^ 64) (x + c.le.result) =
    c.close.ensures ∙ c.add.ensures ∙ ap (λ (y : ℕ). end_around (2 ^ 64) (y + x)) c.open.ensures ∙ ap (end_around (2 ^ 64)) (add_comm c.le.result x) in
    let m : g.row.SIZE ≡ 2 * (g.row.SIZE / 2) = omega arith in
    let f = rest_around (g.row.SIZE / 2) x c.le.result _ s _ e (c.le.ensures ∙ ap (le_at s _) m) in
    block_one g.row.SIZE _ _ s (omega arith) (omega arith) (ap (λ (n : ℕ). with_rest c.close.result s (blocks (2 * g.row.SIZE) s + n)) m ∙ f)

pub returns : goal.returns
unfolding blocks
returns g c =
    let s = c.args.s.now in
    block_one g.row.SIZE _ _ s (omega arith) (omega arith) (rw (c.close-2.ensures, ← c.open-2.ensures) c.words.ensures)
