-- `reference::list::Buffers::spare_block` meets its contract.
use Rattle.std.proofs.Common.{rules, ◌≡◌, ◌∙◌, true, false, ℕ}
use Rattle.std.proofs.lemmas.Iterator.{first_from_Range}
use Rattle.reference.specs.Layout.{buffers_of, uses}
use Rattle.reference.proofs.Laws.Lists.{spare_is}
use Rattle.reference.proofs.list.Buffers.spare_block.Goals as goal

pub returns : goal.returns
returns c =
    let bs = buffers_of c.args.self.now in
    c.unwrap_or.ensures
    ∙ spare_is bs c.find.result
    (first_from_Range _ _ _ c.find.result (λ (i : ℕ). uses bs i ≡ false) (λ (i : ℕ). uses bs i ≡ true) c.find.ensures.ran (λ x q k. search rules)
    (λ x q k. search rules))
