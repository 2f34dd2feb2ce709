-- `wire::head::stt` meets its contract.
use Rattle.std.proofs.Common.{◌≡◌, ◌%◌, [], ◌∷◌, slice_index, ◌∙◌, arith}
use Rattle.wire.specs.Bytes.{be}
use Rattle.wire.specs.Stt.{stt}
use Rattle.wire.proofs.Laws.Bytes.{be_bytes}
use Rattle.wire.proofs.head.stt.Goals as goal

pub returns : goal.returns
unfolding stt be
returns c =
    let f : c.args.flags ≡ c.args.flags % 256 = omega arith in
    let l : c.args.l4 ≡ c.args.l4 % 256 = omega arith in
    let x = c.to_be_bytes-context_id.ensures ∙ be_bytes 8 c.args.context in
    λ i.
    0 ∷ f i ∷ l i ∷ 0 ∷ 0 ∷ 0 ∷ 0 ∷ 0
    ∷ slice_index (x i) 0 ∷ slice_index (x i) 1 ∷ slice_index (x i) 2 ∷ slice_index (x i) 3
    ∷ slice_index (x i) 4 ∷ slice_index (x i) 5 ∷ slice_index (x i) 6 ∷ slice_index (x i) 7
    ∷ 0 ∷ 0 ∷ []
