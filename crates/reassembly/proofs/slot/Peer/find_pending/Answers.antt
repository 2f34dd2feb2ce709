-- `reassembly::slot::Peer::find_pending` meets its contract.
use Rattle.std.proofs.Common.{◌∙◌, arith, rules, tests}
use Rattle.std.proofs.lemmas.Iterator.{YieldsList-from_slice}
use Rattle.std.proofs.lemmas.Iterator.Search.{position_from_yields_List}
use Rattle.reassembly.specs.Slots.{bears}
use Rattle.reassembly.proofs.Laws.Slots.{position-first}
use Rattle.reassembly.proofs.slot.Peer.find_pending.Goals as goal

pub returns : goal.returns
returns c =
    let row = c.args.self.now in
    position_from_yields_List (bears c.args.identifier) _ _ c.position.result c.position.ensures.ran (YieldsList-from_slice _ c.iter.ensures.rest) (λ x b q k. search (rules, tests))
    ∙ position-first (bears c.args.identifier) row.slots (omega arith)
