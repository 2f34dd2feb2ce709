-- What an endpoint that came from the calls holds is the configuration of a set-up: receives and ticks leave that, and adding looks at nothing else.
use Rattle.std.specs.Prelude.{ℕ, zero, suc, ◌+◌, ◌^◌, ◌<◌, min, ◌≡◌, get_or, set, replicate}
use Rattle.std.proofs.Math.Path.{refl, ap, subst}
use Rattle.std.proofs.Common.{sym, ap₂, ◌∙◌, arith, ltb-false}
use mathlib.Core.List.{List, [], ◌∷◌, ◌++◌, map}
use Rattle.wire.specs.Checks.{Check, first}
use Rattle.wire.proofs.Laws.Checks.{relates}
use Rattle.endpoint.specs.Config.{Config, config_of, find_peer, is_some, fresh, start_of, refused_add, add_peer_checks, with_address, add_peer_of}
use Rattle.endpoint.specs.Config.{add_binding_checks, AddResult}
use Rattle.endpoint.specs.Config.{with_binding, add_binding_of, tick_of, Adding, add_peer, add_binding, added, added_all, set_up, most_bindings, start_checks}
use Rattle.endpoint.proofs.Laws.Config.{start-cases, add-peer-cases, add_binding-cases, set_up_valid, config_tick}
use Rattle.endpoint.proofs.Laws.ConfigExits.{peer_added, binding_added}
use Rattle.endpoint.specs.Receive.{step_of}
use Rattle.endpoint.proofs.Laws.Calls.{config_row}
use Rattle.endpoint.proofs.Laws.Wrap.{Alike, Ready}
use Rattle.endpoint.specs.declared.answer.ConfigRefusal.{ConfigRefusal}
use Rattle.endpoint.specs.declared.config.Endpoint.{Endpoint}
use Rattle.endpoint.specs.Reached.{Call, add, got, ticked, left, left_by, Typed, AllTyped, Reached}
use Rattle.reassembly.specs.Slots.{most_peers}

-- ---- adding looks at the configuration alone

pub port_of_lem : (e s : Endpoint) → config_of e ≡ config_of s → e.port ≡ s.port
unfolding config_of
port_of_lem e s q = ap (λ (c : Config). c.port) q

own_of : (e s : Endpoint) → config_of e ≡ config_of s → e.own ≡ s.own
unfolding config_of
own_of e s q = ap (λ (c : Config). c.own) q

peer_checks : (e s : Endpoint) (address : ℕ) → Alike e s → add_peer_checks e address ≡ add_peer_checks s address
unfolding add_peer_checks
peer_checks e s address a =
    let found : is_some (find_peer (config_of e) address) ≡ is_some (find_peer (config_of s) address) =
    ap (λ (c : Config). is_some (find_peer c address)) a.config in
    cc (port_of_lem e s a.config, own_of e s a.config, a.peers)

binding_checks : (e s : Endpoint) (peer kind network tenant : ℕ) → Alike e s → add_binding_checks e peer kind network tenant
    ≡ add_binding_checks s peer kind network tenant
unfolding add_binding_checks
binding_checks e s peer kind network tenant a = rw (a.config, a.bindings)

-- the configuration with one more peer, and with one more binding
abbrev with_peer_in : Config → (n address : ℕ) → Config
with_peer_in c n address = record {
  own = c.own;
  port = c.port;
  mtu = c.mtu;
  addresses = set c.addresses n address;
  peers = min (n + 1) most_peers;
  owners = c.owners;
  kinds = c.kinds;
  networks = c.networks;
  tenants = c.tenants;
  bindings = c.bindings;
}

abbrev with_binding_in : Config → (n peer kind network tenant : ℕ) → Config
with_binding_in c n peer kind network tenant = record {
  own = c.own;
  port = c.port;
  mtu = c.mtu;
  addresses = c.addresses;
  peers = c.peers;
  owners = set c.owners n peer;
  kinds = set c.kinds n kind;
  networks = set c.networks n network;
  tenants = set c.tenants n tenant;
  bindings = min (n + 1) most_bindings;
}

config_peer : (e : Endpoint) (n address : ℕ) → config_of (with_address e n address) ≡ with_peer_in (config_of e) n address
unfolding config_of with_address
config_peer e n address = refl

config_binding : (e : Endpoint) (n peer kind network tenant : ℕ) → config_of (with_binding e n peer kind network tenant)
    ≡ with_binding_in (config_of e) n peer kind network tenant
unfolding config_of with_binding
config_binding e n peer kind network tenant = refl

peer_alike : (e s : Endpoint) (address : ℕ) → Alike e s → Alike (with_address e e.peer_count address) (with_address s s.peer_count address)
unfolding with_address
peer_alike e s address a = record {
  config =
      config_peer e e.peer_count address ∙ ap₂ (λ (c : Config) (n : ℕ). with_peer_in c n address) a.config a.peers
      ∙ sym (config_peer s s.peer_count address);
  peers = ap (λ (n : ℕ). n + 1) a.peers;
  bindings = a.bindings;
}

binding_alike : (e s : Endpoint) (peer kind network tenant : ℕ) → Alike e s
    → Alike (with_binding e e.binding_count peer kind network tenant) (with_binding s s.binding_count peer kind network tenant)
unfolding with_binding
binding_alike e s peer kind network tenant a = record {
  config =
      config_binding e e.binding_count peer kind network tenant
      ∙ ap₂ (λ (c : Config) (n : ℕ). with_binding_in c n peer kind network tenant) a.config a.bindings
      ∙ sym (config_binding s s.binding_count peer kind network tenant);
  peers = a.peers;
  bindings = ap (λ (n : ℕ). n + 1) a.bindings;
}

abbrev BothAlike : AddResult → AddResult → Type 0
BothAlike x y = Alike x.endpoint y.endpoint

added_alike : (e s : Endpoint) (a : Adding) → Alike e s → Alike (added e a) (added s a)
unfolding added add_peer_of add_binding_of
added_alike e s (add_peer address) h =
    subst (λ (cs : List (Check ConfigRefusal)). Alike (add_peer_of e address).endpoint (first (refused_add s) cs (peer_added s address)).endpoint)
    (peer_checks e s address h)
    (relates BothAlike (refused_add e) (refused_add s) (add_peer_checks e address) (peer_added e address) (peer_added s address) (λ r. h) (peer_alike e s address h))
added_alike e s (add_binding peer kind network tenant) h =
    subst (λ (cs : List (Check ConfigRefusal)). Alike (add_binding_of e peer kind network tenant).endpoint
    (first (refused_add s) cs (binding_added s peer kind network tenant)).endpoint)
    (binding_checks e s peer kind network tenant h)
    (relates BothAlike (refused_add e) (refused_add s) (add_binding_checks e peer kind network tenant) (binding_added e peer kind network tenant)
    (binding_added s peer kind network tenant) (λ r. h)
    (binding_alike e s peer kind network tenant h))

-- ---- the numbers stay of their types

record Fit (e : Endpoint) : Type 0 where
  port : e.port < 256 ^ 2
  networks : (i : ℕ) → get_or e.networks i 0 < 256 ^ 8

zeros : (n i : ℕ) → get_or (replicate n 0) i 0 < 256 ^ 8
zeros zero i = omega arith
zeros (suc n) zero = omega arith
zeros (suc n) (suc i) = zeros n i

set-fits : (l : List ℕ) (n x : ℕ) → x < 256 ^ 8 → ((i : ℕ) → get_or l i 0 < 256 ^ 8) → (i : ℕ) → get_or (set l n x) i 0 < 256 ^ 8
set-fits [] n x h f i = f i
set-fits (y ∷ l) zero x h f zero = h
set-fits (y ∷ l) zero x h f (suc i) = f (suc i)
set-fits (y ∷ l) (suc n) x h f zero = f zero
set-fits (y ∷ l) (suc n) x h f (suc i) = set-fits l n x h (λ j. f (suc j)) i

fresh_fit : (own port mtu : ℕ) → port < 256 ^ 2 → Fit (fresh own port mtu)
unfolding fresh
fresh_fit own port mtu h = record { port = h; networks = zeros most_bindings }

-- a start whose port is more than a u16 is refused
start_fit : (own port mtu : ℕ) → Fit (start_of own port mtu).endpoint
unfolding start_checks
start_fit own port mtu =
    start-cases Fit own port mtu (fresh_fit 0 0 0 (omega arith)) (λ p. fresh_fit own port mtu (omega (arith, ltb-false 65535 port p.1.1.1.0)))

peer_fit : (e : Endpoint) (n address : ℕ) → Fit e → Fit (with_address e n address)
unfolding with_address
peer_fit e n address f = record { port = f.port; networks = f.networks }

binding_fit : (e : Endpoint) (n peer kind network tenant : ℕ) → network < 256 ^ 8 → Fit e → Fit (with_binding e n peer kind network tenant)
unfolding with_binding
binding_fit e n peer kind network tenant h f = record { port = f.port; networks = set-fits e.networks n network h f.networks }

left_fit : (e : Endpoint) (c : Call) → Typed c → Fit e → Fit (left e c)
unfolding added tick_of
left_fit e (add (add_peer address)) h f = add-peer-cases Fit e address f (λ p. peer_fit e e.peer_count address f)
left_fit e (add (add_binding peer kind network tenant)) h f =
    add_binding-cases Fit e peer kind network tenant f (λ p. binding_fit e e.binding_count peer kind network tenant h f)
left_fit e (got m k) h f = record { port = f.port; networks = f.networks }
left_fit e ticked h f = record { port = f.port; networks = f.networks }

-- ---- THE THEOREM: it holds the configuration of a set-up, that of its adding calls alone

-- the set-up beside an endpoint, after a call
beside : Endpoint → Call → Endpoint
beside s (add a) = added s a
beside s (got m k) = s
beside s ticked = s

left_alike : (e s : Endpoint) (c : Call) → Alike e s → Alike (left e c) (beside s c)
unfolding beside tick_of
left_alike e s (add a) h = added_alike e s a h
left_alike e s (got m k) h =
    record { config = config_row e (step_of e m k).peer (step_of e m k).row ∙ h.config; peers = h.peers; bindings = h.bindings }
left_alike e s ticked h = record { config = config_tick e ∙ h.config; peers = h.peers; bindings = h.bindings }

-- the set-up whose configuration it holds
pub record Kept (e : Endpoint) : Type 0 where
  pub own : ℕ
  pub port : ℕ
  pub mtu : ℕ
  pub adds : List Adding
  pub alike : Alike e (set_up own port mtu adds)

module _ (own port mtu : ℕ) where
  -- a set-up that came from these settings
  record From (s : Endpoint) : Type 0 where
    adds : List Adding
    is : set_up own port mtu adds ≡ s

  added-all : (s : Endpoint) (as' : List Adding) (a : Adding) → added_all s (as' ++ (a ∷ [])) ≡ added (added_all s as') a
  unfolding added_all
  added-all s [] a = refl
  added-all s (x ∷ as') a = added-all (added s x) as' a

  beside_from : (s : Endpoint) (c : Call) → From s → From (beside s c)
  unfolding beside set_up
  beside_from s (add a) f =
      record { adds = f.adds ++ (a ∷ []); is = added-all (start_of own port mtu).endpoint f.adds a ∙ ap (λ (x : Endpoint). added x a) f.is }
  beside_from s (got m k) f = f
  beside_from s ticked f = f

  left-kept : (e s : Endpoint) (cs : List Call) → From s → Alike e s → Kept (left_by e cs)
  unfolding left_by
  left-kept e s [] f a = record { own = own; port = port; mtu = mtu; adds = f.adds; alike = subst (Alike e) (sym f.is) a }
  left-kept e s (c ∷ cs) f a = left-kept (left e c) (beside s c) cs (beside_from s c f) (left_alike e s c a)

  started : From (start_of own port mtu).endpoint
  unfolding set_up added_all
  started = record { adds = []; is = refl }

pub reached_kept : (e : Endpoint) → Reached e → Kept e
reached_kept e r =
    let s : Endpoint = (start_of r.own r.port r.mtu).endpoint in
    subst Kept r.is
    (left-kept r.own r.port r.mtu s s r.calls (started r.own r.port r.mtu) (record { config = refl; peers = refl; bindings = refl }))

left-fits : (e : Endpoint) (cs : List Call) → AllTyped cs → Fit e → Fit (left_by e cs)
unfolding left_by
left-fits e [] h fit = fit
left-fits e (c ∷ cs) h fit = left-fits (left e c) cs h.1 (left_fit e c h.0 fit)

pub reached_ready : (e : Endpoint) → Reached e → Ready e
reached_ready e r =
    let kept : Kept e = reached_kept e r in
    let s : Endpoint = (start_of r.own r.port r.mtu).endpoint in
    let fit : Fit e = subst Fit r.is (left-fits s r.calls r.typed (start_fit r.own r.port r.mtu)) in
    record {
      set_up_from = set_up kept.own kept.port kept.mtu kept.adds;
      valid = set_up_valid kept.own kept.port kept.mtu kept.adds;
      alike = kept.alike;
      port_fits = fit.port;
      networks_fit = fit.networks;
    }

-- ---- a set-up came from the calls

adds_left : (e : Endpoint) (adds : List Adding) → left_by e (map add adds) ≡ added_all e adds
unfolding left_by added_all
adds_left e [] = refl
adds_left e (a ∷ adds) = adds_left (added e a) adds

pub set_up_reached : (own port mtu : ℕ) (adds : List Adding) → AllTyped (map add adds) → Reached (set_up own port mtu adds)
unfolding set_up
set_up_reached own port mtu adds t =
    record { own = own; port = port; mtu = mtu; calls = map add adds; typed = t; is = adds_left (start_of own port mtu).endpoint adds }
