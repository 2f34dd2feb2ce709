-- `endpoint::config::Endpoint::add_peer` meets its contract: each exit gives what the definition gives.
use Rattle.std.proofs.Common.{◌≡◌, false, true, sym, ◌∙◌}
use Rattle.std.proofs.lemmas.Bool.{not-false, not-true}
use Rattle.endpoint.specs.Config.{bad_peer, with_address, is_some, find_peer, config_of}
use Rattle.endpoint.proofs.Laws.ConfigExits.{peer_out_of_range, peer_listed, peers_full, peer_taken, peer-found}
use Rattle.endpoint.proofs.Laws.Promises.{add-peer_promised}
use Rattle.endpoint.proofs.config.Endpoint.add_peer.Goals as goal
use Rattle.endpoint.proofs.config.Endpoint.add_peer.Goals.{Else-not-may_list, Then-is_some, Else-is_some}

good : (c : Else-not-may_list) → bad_peer c.args.self.now c.args.address ≡ false
good c = not-true _ (sym c.may_list.ensures ∙ c.if-not-may_list.false)

listed : (c : Then-is_some) → is_some (find_peer (config_of c.args.self.now) c.args.address) ≡ true
listed c = peer-found _ _ _ _ c.find_peer.ensures c.is_some.ensures ∙ c.if-is_some.true

unlisted : (c : Else-is_some) → is_some (find_peer (config_of c.args.self.now) c.args.address) ≡ false
unlisted c = peer-found _ _ _ _ c.find_peer.ensures c.is_some.ensures ∙ c.if-is_some.false

pub returns-then-not-may_list : goal.returns-then-not-may_list
returns-then-not-may_list c =
    let (value, endpoint_after, answer_value, add_rule) = add-peer_promised _ _ _ _ (peer_out_of_range _ _ (not-false _ (sym c.may_list.ensures ∙ c.if-not-may_list.true))) in
    record { value = value; endpoint_after = endpoint_after; answer_value = answer_value; add_rule = add_rule }

pub returns-then-is_some : goal.returns-then-is_some
returns-then-is_some c =
    let at = goal.at.returns-then-is_some c in
    let (value, endpoint_after, answer_value, add_rule) = add-peer_promised _ _ _ _ (peer_listed _ _ (good at.Else-not-may_list) (listed at.Then-is_some)) in
    record { value = value; endpoint_after = endpoint_after; answer_value = answer_value; add_rule = add_rule }

pub returns-then-n-ge-PEERS : goal.returns-then-n-ge-PEERS
returns-then-n-ge-PEERS c =
    let at = goal.at.returns-then-n-ge-PEERS c in
    let (value, endpoint_after, answer_value, add_rule) = add-peer_promised _ _ _ _ (peers_full _ _ (good at.Else-not-may_list) (unlisted at.Else-is_some) c.if-n-ge-PEERS.true) in
    record { value = value; endpoint_after = endpoint_after; answer_value = answer_value; add_rule = add_rule }

pub returns : goal.returns
unfolding with_address
returns c =
    let at = goal.at.returns c in
    let (value, endpoint_after, answer_value, add_rule) = add-peer_promised _ _ _ _ (peer_taken _ _ (good at.Else-not-may_list) (unlisted at.Else-is_some) c.if-n-ge-PEERS.false) in
    record { value = value; endpoint_after = endpoint_after; answer_value = answer_value; add_rule = add_rule }
