-- `reference::reassembler::Reassembler::tick` meets its contract.
use Rattle.std.proofs.Common.{◌≡◌, refl, ◌∙◌, arith, length, rules}
use Rattle.reference.proofs.Laws.Tick.{none-older, one_older_lem, all-older, ticked_is}
use Rattle.reference.proofs.reassembler.Reassembler.tick.Goals as goal

pub loop-pending-init : goal.loop-pending-init
loop-pending-init c = none-older c.args.self.now.peers

pub loop-pending-preserved : goal.loop-pending-preserved
loop-pending-preserved c =
    let at = c.loop-pending in
    let n : length c.args.self.now.peers ≡ 8 = search rules in
    one_older_lem c.args.self.now.peers at.pending-items at.pending-index _ (omega arith) at.invariant c.tick.ensures

pub returns : goal.returns
returns c =
    let at = c.loop-pending in
    let n : length c.args.self.now.peers ≡ 8 = search rules in
    (refl, λ m. ticked_is c.args.self.now _ m refl (at.invariant ∙ all-older c.args.self.now.peers at.pending-index (omega arith)))
