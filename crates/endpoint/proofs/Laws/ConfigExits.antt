-- The calls that make the configuration, as the proofs of the code cite them: exit by exit, lookup and range.
use Rattle.std.specs.Prelude.{◌≡◌, refl, Bool, true, false, not, List, [], ◌∷◌, ℕ, zero, suc, ◌<◌, ◌≤◌, take, drop, leb, eqb, Ok}
use Rattle.std.proofs.Common.{sym, ap, ◌∙◌, arith}
use Rattle.std.proofs.Math.Option.{Option, none, some}
use Rattle.std.specs.Prelude as std
use borrow.Author.Tests.{le-leb, lt-leb, eqb-true}
use Rattle.reassembly.proofs.Laws.Base.{case_b, clash}
use Rattle.wire.specs.Checks.{Check, ◌⇒◌, first, pick, Passed}
use Rattle.wire.proofs.Laws.Checks.{tests, choices, first_more}
use Rattle.endpoint.specs.declared.config.Endpoint.{Endpoint}
use Rattle.endpoint.specs.Search.{found_of}
use Rattle.endpoint.specs.Config.{config_of, find_peer, find_binding, is_some, fresh, start_checks, refused_start, start_of, refused_add, AddResult, any_met}
use Rattle.endpoint.specs.Config.{add_peer_checks, bad_peer, with_address, add_peer_of, is_network, add_binding_checks, bad_binding, with_binding}
use Rattle.endpoint.specs.Config.{add_binding_of}
use Rattle.endpoint.specs.Config.{most_bindings}
use Rattle.reassembly.specs.Slots.{most_peers}
use Rattle.endpoint.specs.declared.answer.ConfigRefusal.TheVariants as C

-- ---- ordered checks: the first k give the same refusal, so that one test of them all decides

abbrev pub All : {R : Type 0} → R → List (Check R) → Type 0
All r [] = Unit {0}
All r ((test ⇒ x) ∷ checks) = (x ≡ r) × All r checks

pub merged : {R A : Type 0} (refused : R → A) (r : R) (k : ℕ) (checks : List (Check R)) (accepted : A) → All r (take k checks)
    → first refused checks accepted ≡ pick (any_met (take k checks)) (refused r) (first refused (drop k checks) accepted)
merged refused r zero checks accepted h = refl
merged refused r (suc k) [] accepted h = refl
merged refused r (suc k) ((true ⇒ x) ∷ checks) accepted h = first_more refused true x checks accepted ∙ ap refused h.0
merged refused r (suc k) ((false ⇒ x) ∷ checks) accepted h = first_more refused false x checks accepted ∙ merged refused r k checks accepted h.1

none_met : {R : Type 0} (checks : List (Check R)) → any_met checks ≡ false → Passed checks
none_met [] h = tt
none_met ((true ⇒ x) ∷ checks) h = cc
none_met ((false ⇒ x) ∷ checks) h = (refl, none_met checks h)

-- a kind is 1, 2 or 3
pub network_kind : (kind network : ℕ) → not (is_network kind network) ≡ false → kind < 256
unfolding is_network
network_kind kind network h =
    case_b (eqb kind 1) (λ q. let e : kind ≡ 1 = eqb-true kind 1 q in omega arith) (λ a.
    case_b (eqb kind 2) (λ q. let e : kind ≡ 2 = eqb-true kind 2 q in omega arith) (λ b.
    case_b (eqb kind 3) (λ q. let e : kind ≡ 3 = eqb-true kind 3 q in omega arith) (λ c.
    let z : true ≡ false = rw (a, b, c) at h in clash (cc))))

-- ---- each exit of the code gives what the definition gives

module _ (own port mtu : ℕ) where
  start_is : start_of own port mtu
      ≡ pick (any_met (start_checks own port mtu)) (refused_start C.OutOfRange) (record { endpoint = fresh own port mtu; answer = Ok tt })
  unfolding start_of start_checks
  start_is = merged refused_start C.OutOfRange 6 (start_checks own port mtu) (record { endpoint = fresh own port mtu; answer = Ok tt })
      (refl, (refl, (refl, (refl, (refl, (refl, tt))))))
      ∙ simp choices

  pub start_refused : any_met (start_checks own port mtu) ≡ true → refused_start C.OutOfRange ≡ start_of own port mtu
  start_refused q = sym (start_is ∙ rw q)

  pub start_done : any_met (start_checks own port mtu) ≡ false → record { endpoint = fresh own port mtu; answer = Ok tt } ≡ start_of own port mtu
  start_done q = sym (start_is ∙ rw q)

  -- port and MTU have 16 bits
  pub settings_fit_lem : any_met (start_checks own port mtu) ≡ false → (port < 65536) × (mtu < 65536)
  unfolding start_checks
  settings_fit_lem h =
      let p : Passed (start_checks own port mtu) = none_met (start_checks own port mtu) h in
      (omega (arith, tests, p), omega (arith, tests, p))

module _ (e : Endpoint) (address : ℕ) where
  -- what is given where no check is met
  abbrev pub peer_added : AddResult
  peer_added = record { endpoint = with_address e e.peer_count address; answer = Ok e.peer_count }

  add-peer_is : add_peer_of e address
      ≡ pick (bad_peer e address) (refused_add e C.OutOfRange)
      (pick (is_some (find_peer (config_of e) address)) (refused_add e C.AlreadyListed)
      (pick (leb most_peers e.peer_count) (refused_add e C.Full) peer_added))
  unfolding add_peer_of add_peer_checks
  add-peer_is = merged (refused_add e) C.OutOfRange 4 (add_peer_checks e address) peer_added (refl, (refl, (refl, (refl, tt)))) ∙ simp choices

  pub peer_out_of_range : bad_peer e address ≡ true → refused_add e C.OutOfRange ≡ add_peer_of e address
  peer_out_of_range q = sym (add-peer_is ∙ rw q)

  module _ (good : bad_peer e address ≡ false) where
    pub peer_listed : is_some (find_peer (config_of e) address) ≡ true → refused_add e C.AlreadyListed ≡ add_peer_of e address
    peer_listed q = sym (add-peer_is ∙ rw (good, q))

    module _ (new : is_some (find_peer (config_of e) address) ≡ false) where
      pub peers_full : most_peers ≤ e.peer_count → refused_add e C.Full ≡ add_peer_of e address
      peers_full h = sym (add-peer_is ∙ rw (good, new, le-leb most_peers e.peer_count h))

      pub peer_taken : e.peer_count < most_peers → peer_added ≡ add_peer_of e address
      peer_taken h = sym (add-peer_is ∙ rw (good, new, lt-leb most_peers e.peer_count h))

module _ (e : Endpoint) (peer kind network tenant : ℕ) where
  abbrev pub binding_added : AddResult
  binding_added = record { endpoint = with_binding e e.binding_count peer kind network tenant; answer = Ok e.binding_count }

  add_binding_is : add_binding_of e peer kind network tenant
      ≡ pick (bad_binding e peer kind network tenant) (refused_add e C.OutOfRange)
      (pick (is_some (find_binding (config_of e) peer kind network)) (refused_add e C.AlreadyListed)
      (pick (leb most_bindings e.binding_count) (refused_add e C.Full) binding_added))
  unfolding add_binding_of add_binding_checks
  add_binding_is = merged (refused_add e) C.OutOfRange 3 (add_binding_checks e peer kind network tenant) binding_added (refl, (refl, (refl, tt))) ∙ simp choices

  pub binding_out_of_range : bad_binding e peer kind network tenant ≡ true → refused_add e C.OutOfRange ≡ add_binding_of e peer kind network tenant
  binding_out_of_range q = sym (add_binding_is ∙ rw q)

  module _ (good : bad_binding e peer kind network tenant ≡ false) where
    pub binding_listed : is_some (find_binding (config_of e) peer kind network) ≡ true → refused_add e C.AlreadyListed ≡ add_binding_of e peer kind network tenant
    binding_listed q = sym (add_binding_is ∙ rw (good, q))

    module _ (new : is_some (find_binding (config_of e) peer kind network) ≡ false) where
      pub bindings_full : most_bindings ≤ e.binding_count → refused_add e C.Full ≡ add_binding_of e peer kind network tenant
      bindings_full h = sym (add_binding_is ∙ rw (good, new, le-leb most_bindings e.binding_count h))

      pub binding_taken : e.binding_count < most_bindings → binding_added ≡ add_binding_of e peer kind network tenant
      binding_taken h = sym (add_binding_is ∙ rw (good, new, lt-leb most_bindings e.binding_count h))

  -- each of what is bound fits its column
  pub binding_fits : bad_binding e peer kind network tenant ≡ false → (peer < 256) × (kind < 256) × (tenant < 65536)
  unfolding add_binding_checks config_of
  binding_fits h =
      let p : Passed (take 3 (add_binding_checks e peer kind network tenant)) = none_met (take 3 (add_binding_checks e peer kind network tenant)) h in
      (omega (arith, tests, p), network_kind kind network p.1.0, omega (arith, tests, p))

-- ---- what a lookup answers, as the test of check 19

is_found : (o : Option ℕ) → std.is_some (found_of o) ≡ is_some o
is_found none = refl
is_found (some i) = refl

pub peer-found : (e : Endpoint) (address : ℕ) (f : std.Option ℕ) (b : Bool)
    → f ≡ found_of (find_peer (config_of e) address) → b ≡ std.is_some f → is_some (find_peer (config_of e) address) ≡ b
peer-found e address f b r q = sym (q ∙ ap std.is_some r ∙ is_found (find_peer (config_of e) address))

pub binding_found : (e : Endpoint) (peer kind network : ℕ) (f : std.Option ℕ) (b : Bool)
    → f ≡ found_of (find_binding (config_of e) peer kind network) → b ≡ std.is_some f → is_some (find_binding (config_of e) peer kind network) ≡ b
binding_found e peer kind network f b r q = sym (q ∙ ap std.is_some r ∙ is_found (find_binding (config_of e) peer kind network))
