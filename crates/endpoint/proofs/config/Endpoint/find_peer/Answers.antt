-- `endpoint::config::Endpoint::find_peer` meets its contract: the first of all eight that has the address is listed, or none that is listed has it.
use Rattle.std.proofs.Common.{◌≡◌, ◌∙◌, sym, arith, rules, length}
use Rattle.lookup.proofs.Laws.Search.{found_some, found_none}
use Rattle.endpoint.specs.Config.{find_peer, config_of}
use Rattle.endpoint.proofs.Laws.Search.{position-address, none_of_all, one_of_all, one_beyond}
use Rattle.endpoint.proofs.config.Endpoint.find_peer.Goals as goal

pub returns-in_err-p : goal.returns-in_err-p
unfolding find_peer config_of
returns-in_err-p c =
    let n : length c.args.self.now.addresses ≡ 8 = search rules in
    c.from_residual.ensures
    ∙ none_of_all _ _ _ (omega arith) (found_none _ (sym (position-address _ _) ∙ sym c.first_peer.ensures ∙ c.in_err-p.was))

pub returns-then-p-peers_listed : goal.returns-then-p-peers_listed
unfolding find_peer config_of
returns-then-p-peers_listed c =
    one_of_all _ _ _ _ (found_some _ _ (sym (position-address _ _) ∙ sym c.first_peer.ensures ∙ c.in_ok-p.was)) (omega (arith, c.peers_listed.ensures))

pub returns-else-p-peers_listed : goal.returns-else-p-peers_listed
unfolding find_peer config_of
returns-else-p-peers_listed c =
    one_beyond _ _ _ _ (found_some _ _ (sym (position-address _ _) ∙ sym c.first_peer.ensures ∙ c.in_ok-p.was)) (omega (arith, c.peers_listed.ensures))
