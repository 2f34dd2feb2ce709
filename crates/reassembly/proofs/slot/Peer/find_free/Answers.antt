-- `reassembly::slot::Peer::find_free` meets its contract.
use Rattle.std.proofs.Common.{◌∙◌, arith, rules, tests}
use Rattle.std.proofs.lemmas.Iterator.{YieldsList-from_slice}
use Rattle.std.proofs.lemmas.Iterator.Search.{position_from_yields_List}
use Rattle.reassembly.specs.Slots.{is_free_slot}
use Rattle.reassembly.proofs.Laws.Slots.{position-first}
use Rattle.reassembly.proofs.slot.Peer.find_free.Goals as goal

pub returns : goal.returns
unfolding is_free_slot
returns c =
    let row = c.args.self.now in
    position_from_yields_List is_free_slot _ _ c.position.result c.position.ensures.ran (YieldsList-from_slice _ c.iter.ensures.rest) (λ x b q k. search (rules, tests))
    ∙ position-first is_free_slot row.slots (omega arith)
