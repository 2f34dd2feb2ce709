-- Every set-up, and every endpoint that came from the calls, keeps the rules of a configuration (Demand1.antt, `Configured`).
use Rattle.std.specs.Prelude.{ℕ, zero, suc, ◌/◌, ◌^◌, ◌<◌, ◌≡◌, refl, ◌≢◌, true, false, ◌&&◌, ◌||◌, List, get_or, replicate, ltb, leb, eqb}
use Rattle.std.proofs.Common.{sym, ap, ap₂, subst, ◌∙◌, inl, inr, arith, ltb-true, ltb-false, leb-true, leb-false, eqb-true}
use Rattle.std.proofs.lemmas.Bool.{eqb-false}
use Rattle.wire.specs.Checks.{Passed}
use Rattle.reassembly.proofs.Laws.Base.{either, and_l, and_r, or_cases}
use Rattle.reassembly.specs.Slots.{free, no_row, most_peers, most_slots}
use Rattle.reassembly.specs.declared.slot.Peer.{Peer}
use Rattle.endpoint.specs.Config.{Config, config_of, with_rows, lent, address_at, free_row, fresh, address_checks, start_checks, is_network, Adding, set_up}
use Rattle.endpoint.proofs.Laws.Config.{Valid, set_up_valid}
use Rattle.endpoint.proofs.Laws.Wrap.{Alike}
use Rattle.endpoint.specs.Reached.{Reached}
use Rattle.endpoint.proofs.Laws.Reached.{port_of_lem, reached_kept, reached_ready}
use Rattle.endpoint.proofs.Laws.Relisted.{Again, set_up_again}
use Rattle.endpoint.specs.declared.config.Endpoint.{Endpoint}
use Rattle.endpoint.specs.Demand1.{slot_at, IsAddress, IsId, InRange, NotStarted, Configured}

-- ---- the checks in plain numbers

is_address : (address : ℕ) → Passed (address_checks address) → IsAddress address
is_address address p =
    let z : address / 2 ^ 24 ≢ 0 = eqb-false (address / 2 ^ 24) 0 p.0 in
    let h : address / 2 ^ 24 < 224 = leb-false 224 (address / 2 ^ 24) p.1.0 in
    (omega arith, omega arith)

is_id : (kind id : ℕ) → is_network kind id ≡ true → IsId kind id
unfolding is_network
is_id kind id e =
    either (or_cases (eqb kind 1 && ltb id 16777216) ((eqb kind 2 && (leb 4096 id && ltb id 16777215)) || eqb kind 3) e)
    (λ x.
    let h : id < 16777216 = ltb-true id 16777216 (and_r (eqb kind 1) (ltb id 16777216) x) in
    inl (eqb-true kind 1 (and_l (eqb kind 1) (ltb id 16777216) x), omega arith))
    (λ x. either (or_cases (eqb kind 2 && (leb 4096 id && ltb id 16777215)) (eqb kind 3) x)
    (λ y.
    let r = and_r (eqb kind 2) (leb 4096 id && ltb id 16777215) y in
    let h : id < 16777215 = ltb-true id 16777215 (and_r (leb 4096 id) (ltb id 16777215) r) in
    inr (inl (
      eqb-true kind 2 (and_l (eqb kind 2) (leb 4096 id && ltb id 16777215) y),
      (leb-true 4096 id (and_l (leb 4096 id) (ltb id 16777215) r), omega arith),
    )))
    (λ y. inr (inr (eqb-true kind 3 y))))

in_range : (e : Endpoint) → Passed (start_checks e.own e.port e.mtu) → InRange e
unfolding start_checks
in_range e p =
    let z : e.port ≢ 0 = eqb-false e.port 0 p.1.1.0 in
    record {
      own = is_address e.own (p.0, (p.1.0, tt));
      port = (omega arith, ltb-false 65535 e.port p.1.1.1.0);
      mtu = (ltb-false e.mtu 576 p.1.1.1.1.0, ltb-false 1600 e.mtu p.1.1.1.1.1.0);
    }

not_started : (e : Endpoint) → e ≡ fresh 0 0 0 → NotStarted e
unfolding fresh
not_started e q = rw q (refl, (refl, (refl, (refl, refl))))

-- ---- set-ups

valid_configured : (e : Endpoint) → Valid e → Configured e
unfolding address_at
valid_configured e v = record {
  settings = either v.settings (λ p. inl (in_range e p)) (λ q. inr (not_started e q));
  peers = v.peer_count;
  bindings = v.binding_count;
  address = λ i l. is_address (get_or e.addresses i 0) (v.address_good i l);
  not_ours = v.address_other;
  peer_once = v.address_once;
  owner = v.owner_listed;
  id = λ i l. is_id (get_or e.kinds i 0) (get_or e.networks i 0) (v.network_good i l);
  tenant = v.tenant_good;
  binding_once = v.binding_once;
}

pub set_up_configured : (own port mtu : ℕ) (adds : List Adding) → Configured (set_up own port mtu adds)
set_up_configured own port mtu adds = valid_configured (set_up own port mtu adds) (set_up_valid own port mtu adds)

-- every slot of fresh rows is free
free-slot : (n s : ℕ) → (get_or (replicate n free) s free).pending ≡ false
free-slot zero s = refl
free-slot (suc n) zero = refl
free-slot (suc n) (suc s) = free-slot n s

free-rows : (n p s : ℕ) → (get_or (get_or (replicate n free_row) p no_row).slots s free).pending ≡ false
free-rows zero p s = refl
free-rows (suc n) zero s = free-slot most_slots s
free-rows (suc n) (suc p) s = free-rows n p s

pub set_up-free : (own port mtu : ℕ) (adds : List Adding) (p s : ℕ) → (slot_at (set_up own port mtu adds) p s).pending ≡ false
set_up-free own port mtu adds p s =
    ap (λ (l : List Peer). (get_or (get_or l p no_row).slots s free).pending) (set_up_valid own port mtu adds).peers ∙ free-rows most_peers p s

-- ---- what comes from the calls: the configuration of a set-up, with other rows

of_rows : (e : Endpoint) (l : List Peer) → Configured (with_rows e l) → Configured e
of_rows e l w = record {
  settings = either w.settings (λ r. inl (record { own = r.own; port = r.port; mtu = r.mtu })) (λ r. inr r);
  peers = w.peers;
  bindings = w.bindings;
  address = w.address;
  not_ours = w.not_ours;
  peer_once = w.peer_once;
  owner = w.owner;
  id = w.id;
  tenant = w.tenant;
  binding_once = w.binding_once;
}

-- an endpoint is its configuration, its two counts and its rows
abbrev holding : Config → (peers bindings : ℕ) → List Peer → Endpoint
holding c n b l = with_rows (lent c.networks c.kinds c.owners c.tenants c.addresses c.own c.port c.mtu n b) l

alike_rows : (e s : Endpoint) → Alike e s → with_rows e s.peers ≡ s
unfolding config_of lent
alike_rows e s a =
    ap₂ (λ (c : Config) (n : ℕ). holding c n e.binding_count s.peers) a.config a.peers
    ∙ ap (λ (b : ℕ). holding (config_of s) s.peer_count b s.peers) a.bindings

pub reached_configured : (e : Endpoint) → Reached e → Configured e
reached_configured e r =
    let w = reached_ready e r in
    of_rows e w.set_up_from.peers (subst Configured (sym (alike_rows e w.set_up_from w.alike)) (valid_configured w.set_up_from w.valid))

-- ---- listed again: the same configuration, every slot free

of_reached : (e s : Endpoint) → Alike e s → s.peers ≡ replicate most_peers free_row → (s.port ≢ 0 → Again (config_of s) s) → e.port ≢ 0
    → Again (config_of e) (with_rows e (replicate most_peers free_row))
of_reached e s a rows g d =
    let y : s ≡ with_rows e (replicate most_peers free_row) = sym (alike_rows e s a) ∙ ap (with_rows e) rows in
    subst (λ (c : Config). Again c (with_rows e (replicate most_peers free_row))) (sym a.config)
    (subst (Again (config_of s)) y (g (λ q. d (port_of_lem e s a.config ∙ q))))

pub reached_again : (e : Endpoint) → Reached e → e.port ≢ 0 → Again (config_of e) (with_rows e (replicate most_peers free_row))
reached_again e r =
    let k = reached_kept e r in
    of_reached e (set_up k.own k.port k.mtu k.adds) k.alike (set_up_valid k.own k.port k.mtu k.adds).peers
    (set_up_again k.own k.port k.mtu k.adds)
