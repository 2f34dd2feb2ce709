-- `wire::head::vxlan` meets its contract.
use Rattle.std.proofs.Common.{[], ◌∷◌, slice_index, ◌∙◌}
use Rattle.wire.specs.Bytes.{be}
use Rattle.wire.specs.Udp.{udp}
use Rattle.wire.specs.Vxlan.{vxlan}
use Rattle.wire.proofs.Laws.Bytes.{be_bytes}
use Rattle.wire.proofs.head.vxlan.Goals as goal

pub returns : goal.returns
unfolding udp vxlan be
returns c =
    let p = c.to_be_bytes-port.ensures ∙ be_bytes 2 c.args.port in
    let n = c.to_be_bytes-size.ensures ∙ be_bytes 2 c.args.size in
    let v = c.to_be_bytes-vni.ensures ∙ be_bytes 4 c.args.vni in
    λ i.
    slice_index (p i) 0 ∷ slice_index (p i) 1 ∷ 18 ∷ 181 ∷ slice_index (n i) 0 ∷ slice_index (n i) 1 ∷ 0 ∷ 0
    ∷ 8 ∷ 0 ∷ 0 ∷ 0 ∷ slice_index (v i) 1 ∷ slice_index (v i) 2 ∷ slice_index (v i) 3 ∷ 0 ∷ []
