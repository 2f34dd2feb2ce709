-- Listing again: what each step gives, accepted or refused.
use Prim.Native.Nat.{ℕ, zero, suc, ◌<◌, ◌≤◌}
use Rattle.std.specs.Prelude.{◌≡◌, ◌≢◌, get_or, eqb, Result, Ok, Err}
use Rattle.std.proofs.Math.Path.{refl, ap}
use Rattle.std.proofs.Common.{sym, ◌∙◌, arith}
use Rattle.std.proofs.Math.Option.{Option, none, some}
use Rattle.reassembly.proofs.Laws.Base.{case_b}
use borrow.Author.Tests.{eqb-true, eqb-false}
use Rattle.endpoint.specs.Config.{Config, start_of, fresh, add_peer_of, add_binding_of, Adding, add_peer, add_binding}
use Rattle.endpoint.proofs.Laws.Config.{start-cases}
use Rattle.endpoint.specs.Relist.{if_started, if_added, started_by, added_by, added_to, relisted, peer_of, binding_of}
use Rattle.endpoint.specs.declared.answer.ConfigRefusal.{ConfigRefusal}
use Rattle.endpoint.specs.declared.config.Endpoint.{Endpoint}

-- ---- a start

pub started_yes : (own port mtu : ℕ) → (start_of own port mtu).answer ≡ Ok tt → started_by own port mtu ≡ some (start_of own port mtu).endpoint
unfolding started_by if_started
started_yes own port mtu h = ap (λ (a : Result (Unit {0}) ConfigRefusal). if_started a (start_of own port mtu).endpoint) h

pub started_no : (own port mtu : ℕ) (r : ConfigRefusal) → (start_of own port mtu).answer ≡ Err r → started_by own port mtu ≡ none
unfolding started_by if_started
started_no own port mtu r h = ap (λ (a : Result (Unit {0}) ConfigRefusal). if_started a (start_of own port mtu).endpoint) h

-- ---- the calls, one by one

module _ (calls : ℕ → Adding) (e : Endpoint) where
  pub relisted-none : relisted calls 0 e ≡ some e
  unfolding relisted
  relisted-none = refl

  module _ (i : ℕ) (x : Endpoint) (before : relisted calls i e ≡ some x) where
    next : (a : Adding) → calls i ≡ a → relisted calls (suc i) e ≡ added_by x a
    unfolding relisted added_to
    next a h = ap (λ (o : Option Endpoint). added_to o (calls i)) before ∙ ap (added_by x) h

  -- what one call refuses stays refused
  stays : (n k : ℕ) → relisted calls n e ≡ none → n ≤ k → relisted calls k e ≡ none
  unfolding relisted added_to
  stays n zero h l = ap (λ (j : ℕ). relisted calls j e) {x = 0} {y = n} (omega arith) ∙ h
  stays n (suc k) h l =
      case_b (eqb n (suc k))
      (λ q. ap (λ (j : ℕ). relisted calls j e) (sym (eqb-true n (suc k) q)) ∙ h)
      (λ q.
      let d : n ≢ suc k = eqb-false n (suc k) q in
      ap (λ (o : Option Endpoint). added_to o (calls k)) (stays n k h (omega arith)))

  module _ (i n : ℕ) (x : Endpoint) (before : relisted calls i e ≡ some x) (below : i < n) (r : ConfigRefusal) where
    pub relisted_no_peer : (address : ℕ) → calls i ≡ add_peer address → (add_peer_of x address).answer ≡ Err r → relisted calls n e ≡ none
    unfolding added_by if_added
    relisted_no_peer address h k =
        stays (suc i) n (next i x before (add_peer address) h ∙ ap (λ (a : Result ℕ ConfigRefusal). if_added a (add_peer_of x address).endpoint) k) (omega arith)

    pub relisted_no_binding : (peer kind network tenant : ℕ) → calls i ≡ add_binding peer kind network tenant
        → (add_binding_of x peer kind network tenant).answer ≡ Err r → relisted calls n e ≡ none
    unfolding added_by if_added
    relisted_no_binding peer kind network tenant h k =
        stays (suc i) n
        (next i x before (add_binding peer kind network tenant) h ∙ ap (λ (a : Result ℕ ConfigRefusal). if_added a (add_binding_of x peer kind network tenant).endpoint) k)
        (omega arith)

-- the calls that a configuration stands for

pub peer_of_lem : (c : Config) (i : ℕ) → peer_of c i ≡ add_peer (get_or c.addresses i 0)
unfolding peer_of
peer_of_lem c i = refl

pub binding_of_lem : (c : Config) (i : ℕ)
    → binding_of c i ≡ add_binding (get_or c.owners i 0) (get_or c.kinds i 0) (get_or c.networks i 0) (get_or c.tenants i 0)
unfolding binding_of
binding_of_lem c i = refl

-- a refused start gives every number 0
pub refused_blank : (start_of 0 0 0).endpoint ≡ fresh 0 0 0
refused_blank = start-cases (λ (e : Endpoint). e ≡ fresh 0 0 0) 0 0 0 refl (λ p. refl)
