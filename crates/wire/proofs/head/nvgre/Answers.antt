-- `wire::head::nvgre` meets its contract.
use Rattle.std.proofs.Common.{[], ◌∷◌, slice_index, ◌∙◌}
use Rattle.wire.specs.Bytes.{be}
use Rattle.wire.specs.Nvgre.{gre}
use Rattle.wire.proofs.Laws.Bytes.{be_bytes}
use Rattle.wire.proofs.head.nvgre.Goals as goal

pub returns : goal.returns
unfolding gre be
returns c =
    let v = c.to_be_bytes-vsid.ensures ∙ be_bytes 4 c.args.vsid in
    λ i. 32 ∷ 0 ∷ 101 ∷ 88 ∷ slice_index (v i) 1 ∷ slice_index (v i) 2 ∷ slice_index (v i) 3 ∷ 0 ∷ []
