-- `wire::head::segment` meets its contract.
use Rattle.std.proofs.Common.{◌≡◌, ◌%◌, [], ◌∷◌, slice_index, ◌∙◌, arith}
use Rattle.wire.specs.Bytes.{be}
use Rattle.wire.specs.Segment.{header}
use Rattle.wire.specs.Write.{tcp_with}
use Rattle.wire.proofs.Laws.Bytes.{be_bytes}
use Rattle.wire.proofs.head.segment.Goals as goal

pub returns : goal.returns
unfolding tcp_with header be
returns c =
    let a = c.args in
    let g : a.flags ≡ a.flags % 256 = omega arith in
    let f = c.to_be_bytes-from.ensures ∙ be_bytes 2 a.from in
    let t = c.to_be_bytes-to.ensures ∙ be_bytes 2 a.to in
    let n = c.to_be_bytes-size.ensures ∙ be_bytes 2 a.size in
    let o = c.to_be_bytes-offset.ensures ∙ be_bytes 2 a.offset in
    let d = c.to_be_bytes-identifier.ensures ∙ be_bytes 4 a.identifier in
    λ i.
    slice_index (f i) 0 ∷ slice_index (f i) 1 ∷ slice_index (t i) 0 ∷ slice_index (t i) 1 ∷ slice_index (n i) 0 ∷ slice_index (n i) 1
    ∷ slice_index (o i) 0 ∷ slice_index (o i) 1 ∷ slice_index (d i) 0 ∷ slice_index (d i) 1 ∷ slice_index (d i) 2 ∷ slice_index (d i) 3
    ∷ 80 ∷ g i ∷ 0 ∷ 0 ∷ 0 ∷ 0 ∷ 0 ∷ 0 ∷ []
