-- `wire::head::ipv4_with` meets its contract.
use Rattle.std.proofs.Common.{◌≡◌, ◌%◌, [], ◌∷◌, slice_index, ◌∙◌, arith}
use Rattle.wire.specs.Bytes.{be}
use Rattle.wire.specs.Ipv4.{header}
use Rattle.wire.specs.Write.{ipv4_with}
use Rattle.wire.proofs.Laws.Bytes.{be_bytes}
use Rattle.wire.proofs.head.ipv4_with.Goals as goal

pub returns : goal.returns
unfolding ipv4_with header be
returns c =
    let a = c.args in
    let f : a.protocol ≡ a.protocol % 256 = omega arith in
    let n = c.to_be_bytes-size.ensures ∙ be_bytes 2 a.size in
    let k = c.to_be_bytes-checksum.ensures ∙ be_bytes 2 a.checksum in
    let s = c.to_be_bytes-source.ensures ∙ be_bytes 4 a.source in
    let d = c.to_be_bytes-destination.ensures ∙ be_bytes 4 a.destination in
    λ i.
    69 ∷ 0 ∷ slice_index (n i) 0 ∷ slice_index (n i) 1 ∷ 0 ∷ 0 ∷ 64 ∷ 0 ∷ 64 ∷ f i ∷ slice_index (k i) 0 ∷ slice_index (k i) 1
    ∷ slice_index (s i) 0 ∷ slice_index (s i) 1 ∷ slice_index (s i) 2 ∷ slice_index (s i) 3
    ∷ slice_index (d i) 0 ∷ slice_index (d i) 1 ∷ slice_index (d i) 2 ∷ slice_index (d i) 3 ∷ []
