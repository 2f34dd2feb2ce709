-- `wire::head::ipv4` meets its contract.
use Rattle.std.proofs.Common.{ℕ, List, ap, ◌∙◌, zero-add}
use Rattle.wire.specs.Sum.{total, ones}
use Rattle.wire.proofs.Laws.Write.{ipv4_head-from}
use Rattle.wire.proofs.head.ipv4.Goals as goal

pub returns : goal.returns
returns c = c.ipv4_with.ensures
    ∙ ipv4_head-from _ _ _ _ _ (c.sum-checksum.ensures ∙ ap ones (zero-add _)
    ∙ ap (λ (l : List ℕ). ones (total l)) c.ipv4_with-blank.ensures)
