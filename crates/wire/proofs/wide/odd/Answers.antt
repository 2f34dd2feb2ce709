-- `wire::wide::odd` meets its contract.
use Rattle.std.proofs.Common.{◌≡◌, ◌+◌, ◌-◌, ◌*◌, ◌%◌, ◌^◌, ℕ, length, slice_index, sym, ap, ◌∙◌, arith}
use Rattle.wire.specs.Sum.{end_around, blocks}
use Rattle.wire.proofs.Laws.Le.{block_none, block_one, le_one, rest_around_last}
use Rattle.wire.proofs.wide.odd.Goals as goal

pub returns-then-s-eq0 : goal.returns-then-s-eq0
returns-then-s-eq0 c = block_none 1 _ c.args.s.now (omega arith)

pub returns : goal.returns
unfolding blocks
returns c =
    let s = c.args.s.now in
    let at = length s - length s % (2 * 1) in
    let last : slice_index s (length s - 1) ≡ slice_index s at = ap (slice_index s) (omega arith) in
    let e = c.close.ensures ∙ c.add.ensures ∙ ap (λ (y : ℕ). end_around (2 ^ 64) (y + slice_index s (length s - 1))) c.open.ensures in
    block_one 1 _ _ s (omega arith) (omega arith)
    (rest_around_last 1 c.args.acc (slice_index s (length s - 1)) _ s at (omega arith) e (last ∙ sym (le_one s at)))
