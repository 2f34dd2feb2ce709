-- What every set-up lists, listed again from its start, is accepted call by call and gives the same set-up; and what is listed is what the calls named.
use Prim.Native.Nat.{ℕ, zero, suc, ◌+◌, ◌<◌, ◌≤◌, min}
use Rattle.std.specs.Prelude.{◌≡◌, ◌≢◌, set, Result, Ok, Err}
use Rattle.std.proofs.Math.Path.{refl, sym, ap, subst}
use Rattle.std.proofs.Common.{ap₂, ◌∙◌, inl, get_or-set_same, get_or-set_other}
use mathlib.Core.List.{List, [], ◌∷◌, ◌++◌, map}
use Rattle.std.proofs.Math.Option.{Option, none, some, some-injective}
use native.Mathlib.Omega.{arith}
use Rattle.std.proofs.Math.ListN.{length, get_or, length-set}
use borrow.Author.Tests.{leb-false, lt-leb, eqb-false}
use Rattle.wire.specs.Checks.{Check, Passed}
use Rattle.wire.proofs.Laws.Checks.{cases, pass}
use Rattle.reassembly.specs.Slots.{most_peers}
use Rattle.reassembly.proofs.Laws.Base.{case_o, either, clash, below_suc}
use Rattle.endpoint.specs.Config.{Config, config_of, fresh, start_checks, refused_start, start_of, refused_add, add_peer_checks, add_binding_checks}
use Rattle.endpoint.specs.Config.{with_address, AddResult}
use Rattle.endpoint.specs.Config.{with_binding, add_peer_of}
use Rattle.endpoint.specs.Config.{add_binding_of, Adding, add_peer, add_binding, added, added_all, set_up, most_bindings, find_peer, find_binding}
use Rattle.endpoint.specs.Answer.{start_code, config_code, added_code}
use Rattle.endpoint.proofs.Laws.Config.{start-cases, add-peer-cases, add_binding-cases, refused_start-peer, refused_start_binding, Valid, fresh_valid}
use Rattle.endpoint.proofs.Laws.Config.{peer-added_valid, binding_added_valid}
use Rattle.endpoint.proofs.Laws.ConfigExits.{peer_added, binding_added}
use Rattle.endpoint.specs.Relist.{if_started, if_added, started_by, added_by, added_to, relisted, peer_of, binding_of}
use Rattle.endpoint.specs.Reached.{add, Typed, AllTyped}
use Rattle.endpoint.specs.declared.answer.ConfigRefusal.{ConfigRefusal}
use Rattle.endpoint.specs.declared.answer.ConfigRefusal.TheVariants as C
use Rattle.endpoint.specs.declared.config.StartResult.{StartResult}
use Rattle.endpoint.specs.declared.config.Endpoint.{Endpoint}

-- ---- one call

nothing : {A C : Type 0} {x : A} → ◌≡◌ {A = Option A} none (some x) → C
nothing e = clash (cc)

-- an accepted call passed its checks, and left what it adds
peer-taken : (e y : Endpoint) (address : ℕ) → added_by e (add_peer address) ≡ some y
    → Passed (add_peer_checks e address) × (y ≡ with_address e e.peer_count address)
unfolding added_by if_added add_peer_of
peer-taken e y address =
    cases (λ (x : AddResult). if_added x.answer x.endpoint ≡ some y → Passed (add_peer_checks e address) × (y ≡ with_address e e.peer_count address))
    (refused_add e) (add_peer_checks e address) (peer_added e address) (λ r q. nothing q) (λ p q. (p, sym (some-injective _ _ q)))

binding_taken : (e y : Endpoint) (peer kind network tenant : ℕ) → added_by e (add_binding peer kind network tenant) ≡ some y
    → Passed (add_binding_checks e peer kind network tenant) × (y ≡ with_binding e e.binding_count peer kind network tenant)
unfolding added_by if_added add_binding_of
binding_taken e y peer kind network tenant =
    cases (λ (x : AddResult). if_added x.answer x.endpoint ≡ some y
    → Passed (add_binding_checks e peer kind network tenant) × (y ≡ with_binding e e.binding_count peer kind network tenant))
    (refused_add e) (add_binding_checks e peer kind network tenant) (binding_added e peer kind network tenant) (λ r q. nothing q)
    (λ p q. (p, sym (some-injective _ _ q)))

take-peer : (e : Endpoint) (address : ℕ) → Passed (add_peer_checks e address)
    → added_by e (add_peer address) ≡ some (with_address e e.peer_count address)
unfolding added_by if_added add_peer_of
take-peer e address p =
    ap (λ (x : AddResult). if_added x.answer x.endpoint) (pass (refused_add e) (add_peer_checks e address) (peer_added e address) p)

take_binding : (e : Endpoint) (peer kind network tenant : ℕ) → Passed (add_binding_checks e peer kind network tenant)
    → added_by e (add_binding peer kind network tenant) ≡ some (with_binding e e.binding_count peer kind network tenant)
unfolding added_by if_added add_binding_of
take_binding e peer kind network tenant p =
    ap (λ (x : AddResult). if_added x.answer x.endpoint)
    (pass (refused_add e) (add_binding_checks e peer kind network tenant) (binding_added e peer kind network tenant) p)

-- ---- a list of calls

-- the last of them, and those before it
record Last (calls : ℕ → Adding) (n : ℕ) (e y : Endpoint) : Type 0 where
  mid : Endpoint
  before : relisted calls n e ≡ some mid
  taken : added_by mid (calls n) ≡ some y

last : (calls : ℕ → Adding) (n : ℕ) (e y : Endpoint) → relisted calls (suc n) e ≡ some y → Last calls n e y
unfolding relisted added_to
last calls n e y h =
    case_o (relisted calls n e)
    (λ q. nothing (sym (ap (λ (o : Option Endpoint). added_to o (calls n)) q) ∙ h))
    (λ x q. record { mid = x; before = q; taken = sym (ap (λ (o : Option Endpoint). added_to o (calls n)) q) ∙ h })

one_more : (calls : ℕ → Adding) (n : ℕ) (e x y : Endpoint) → relisted calls n e ≡ some x → added_by x (calls n) ≡ some y → relisted calls (suc n) e ≡ some y
unfolding relisted added_to
one_more calls n e x y h k = ap (λ (o : Option Endpoint). added_to o (calls n)) h ∙ k

-- the same calls
pub relisted_ext : (f g : ℕ → Adding) (n : ℕ) (e : Endpoint) → ((i : ℕ) → i < n → f i ≡ g i) → relisted f n e ≡ relisted g n e
unfolding relisted
relisted_ext f g zero e h = refl
relisted_ext f g (suc n) e h = ap₂ added_to (relisted_ext f g n e (λ i l. h i (omega arith))) (h n (omega arith))

-- ---- peers: what is listed is what the calls named, and nothing else moves

-- y is x with n peers, of these addresses
pub record WithPeers (address : ℕ → ℕ) (n : ℕ) (x y : Endpoint) : Type 0 where
  pub own : y.own ≡ x.own
  pub port : y.port ≡ x.port
  pub mtu : y.mtu ≡ x.mtu
  pub count : y.peer_count ≡ n
  pub most : n ≤ most_peers
  pub size : length y.addresses ≡ length x.addresses
  pub addresses : (i : ℕ) → i < n → get_or y.addresses i 0 ≡ address i
  pub bindings : y.binding_count ≡ x.binding_count
  pub networks : y.networks ≡ x.networks
  pub kinds : y.kinds ≡ x.kinds
  pub owners : y.owners ≡ x.owners
  pub tenants : y.tenants ≡ x.tenants
  pub rows : y.peers ≡ x.peers

at-end : (l : List ℕ) (n x : ℕ) → n < length l → get_or (set l n x) n 0 ≡ x
at-end l n x h = get_or-set_same l n x 0 h

before-end : (l : List ℕ) (n x i : ℕ) → i < n → get_or (set l n x) i 0 ≡ get_or l i 0
before-end l n x i h = get_or-set_other l n i x 0 (λ q. absurd (omega (arith, q)))

module _ (address : ℕ → ℕ) (x : Endpoint) (blank : x.peer_count ≡ 0) (size : length x.addresses ≡ most_peers) where
  abbrev call : ℕ → Adding
  call i = add_peer (address i)

  peer-more : (n : ℕ) (y : Endpoint) → WithPeers address n x y → Passed (add_peer_checks y (address n))
      → WithPeers address (suc n) x (with_address y y.peer_count (address n))
  unfolding with_address add_peer_checks
  peer-more n y w p =
      let room : y.peer_count < most_peers = leb-false most_peers y.peer_count p.1.1.1.1.1.0 in
      let c : y.peer_count ≡ n = w.count in
      let z : length y.addresses ≡ length x.addresses = w.size in
      record {
        own = w.own;
        port = w.port;
        mtu = w.mtu;
        count = omega arith;
        most = omega arith;
        size = length-set y.addresses y.peer_count (address n) ∙ w.size;
        addresses = λ i l.
            either (below_suc l)
            (λ k. before-end y.addresses y.peer_count (address n) i (omega arith) ∙ w.addresses i k)
            (λ k.
            ap (λ (j : ℕ). get_or (set y.addresses y.peer_count (address n)) j 0) (k ∙ sym c)
            ∙ at-end y.addresses y.peer_count (address n) (omega arith) ∙ ap address (sym k));
        bindings = w.bindings;
        networks = w.networks;
        kinds = w.kinds;
        owners = w.owners;
        tenants = w.tenants;
        rows = w.rows;
      }

  pub with_peers_lem : (n : ℕ) (y : Endpoint) → relisted call n x ≡ some y → WithPeers address n x y
  unfolding relisted
  with_peers_lem zero y h =
      subst (WithPeers address 0 x) (some-injective x y h)
      (record {
        own = refl;
        port = refl;
        mtu = refl;
        count = blank;
        most = omega arith;
        size = refl;
        addresses = λ i (l : i < 0). absurd (omega arith);
        bindings = refl;
        networks = refl;
        kinds = refl;
        owners = refl;
        tenants = refl;
        rows = refl;
      })
  with_peers_lem (suc n) y h =
      let l = last call n x y h in
      let t = peer-taken l.mid y (address n) l.taken in
      subst (WithPeers address (suc n) x) (sym t.1) (peer-more n l.mid (with_peers_lem n l.mid l.before) t.0)

-- ---- bindings

-- y is x with n bindings, these
pub record WithBindings (peer kind network tenant : ℕ → ℕ) (n : ℕ) (x y : Endpoint) : Type 0 where
  pub own : y.own ≡ x.own
  pub port : y.port ≡ x.port
  pub mtu : y.mtu ≡ x.mtu
  pub peers : y.peer_count ≡ x.peer_count
  pub addresses : y.addresses ≡ x.addresses
  pub rows : y.peers ≡ x.peers
  pub count : y.binding_count ≡ n
  pub most : n ≤ most_bindings
  pub networks_size : length y.networks ≡ most_bindings
  pub kinds_size : length y.kinds ≡ most_bindings
  pub owners_size : length y.owners ≡ most_bindings
  pub tenants_size : length y.tenants ≡ most_bindings
  pub owners : (i : ℕ) → i < n → get_or y.owners i 0 ≡ peer i
  pub kinds : (i : ℕ) → i < n → get_or y.kinds i 0 ≡ kind i
  pub networks : (i : ℕ) → i < n → get_or y.networks i 0 ≡ network i
  pub tenants : (i : ℕ) → i < n → get_or y.tenants i 0 ≡ tenant i

-- a column with one more entry
column : (l : List ℕ) (f : ℕ → ℕ) (c n : ℕ) → c ≡ n → length l ≡ most_bindings → n < most_bindings → ((i : ℕ) → i < n → get_or l i 0 ≡ f i)
    → (i : ℕ) → i < suc n → get_or (set l c (f n)) i 0 ≡ f i
column l f c n e size room h i below =
    either (below_suc below)
    (λ k. before-end l c (f n) i (omega arith) ∙ h i k)
    (λ k. ap (λ (j : ℕ). get_or (set l c (f n)) j 0) (k ∙ sym e) ∙ at-end l c (f n) (omega arith) ∙ ap f (sym k))

-- no binding, and columns of their size
pub record NoBindings (x : Endpoint) : Type 0 where
  pub count : x.binding_count ≡ 0
  pub networks_size : length x.networks ≡ most_bindings
  pub kinds_size : length x.kinds ≡ most_bindings
  pub owners_size : length x.owners ≡ most_bindings
  pub tenants_size : length x.tenants ≡ most_bindings

module _ (peer kind network tenant : ℕ → ℕ) (x : Endpoint) (none_yet : NoBindings x) where
  abbrev bind : ℕ → Adding
  bind i = add_binding (peer i) (kind i) (network i) (tenant i)

  binding_more : (n : ℕ) (y : Endpoint) → WithBindings peer kind network tenant n x y
      → Passed (add_binding_checks y (peer n) (kind n) (network n) (tenant n))
      → WithBindings peer kind network tenant (suc n) x (with_binding y y.binding_count (peer n) (kind n) (network n) (tenant n))
  unfolding with_binding add_binding_checks
  binding_more n y w p =
      let room : y.binding_count < most_bindings = leb-false most_bindings y.binding_count p.1.1.1.1.0 in
      let c : ℕ = y.binding_count in
      let e : y.binding_count ≡ n = w.count in
      let below : n < most_bindings = omega arith in
      record {
        own = w.own;
        port = w.port;
        mtu = w.mtu;
        peers = w.peers;
        addresses = w.addresses;
        rows = w.rows;
        count = omega arith;
        most = omega arith;
        networks_size = length-set y.networks c (network n) ∙ w.networks_size;
        kinds_size = length-set y.kinds c (kind n) ∙ w.kinds_size;
        owners_size = length-set y.owners c (peer n) ∙ w.owners_size;
        tenants_size = length-set y.tenants c (tenant n) ∙ w.tenants_size;
        owners = column y.owners peer c n e w.owners_size below w.owners;
        kinds = column y.kinds kind c n e w.kinds_size below w.kinds;
        networks = column y.networks network c n e w.networks_size below w.networks;
        tenants = column y.tenants tenant c n e w.tenants_size below w.tenants;
      }

  pub with_bindings_lem : (n : ℕ) (y : Endpoint) → relisted bind n x ≡ some y → WithBindings peer kind network tenant n x y
  unfolding relisted
  with_bindings_lem zero y h =
      subst (WithBindings peer kind network tenant 0 x) (some-injective x y h)
      (record {
        own = refl;
        port = refl;
        mtu = refl;
        peers = refl;
        addresses = refl;
        rows = refl;
        count = none_yet.count;
        most = omega arith;
        networks_size = none_yet.networks_size;
        kinds_size = none_yet.kinds_size;
        owners_size = none_yet.owners_size;
        tenants_size = none_yet.tenants_size;
        owners = λ i (l : i < 0). absurd (omega arith);
        kinds = λ i (l : i < 0). absurd (omega arith);
        networks = λ i (l : i < 0). absurd (omega arith);
        tenants = λ i (l : i < 0). absurd (omega arith);
      })
  with_bindings_lem (suc n) y h =
      let l = last bind n x y h in
      let t = binding_taken l.mid y (peer n) (kind n) (network n) (tenant n) l.taken in
      subst (WithBindings peer kind network tenant (suc n) x) (sym t.1) (binding_more n l.mid (with_bindings_lem n l.mid l.before) t.0)

-- ---- a peer that is listed before the bindings, not behind them: the same

-- what bindings leave alone
record KeptPeers (x y : Endpoint) : Type 0 where
  own : y.own ≡ x.own
  port : y.port ≡ x.port
  count : y.peer_count ≡ x.peer_count
  addresses : y.addresses ≡ x.addresses

same_checks : (x y : Endpoint) (address : ℕ) → KeptPeers x y → add_peer_checks y address ≡ add_peer_checks x address
unfolding add_peer_checks find_peer config_of
same_checks x y address s = rw (s.own, s.port, s.count, s.addresses)

module _ (peer kind network tenant : ℕ → ℕ) where
  abbrev bound : ℕ → Adding
  bound i = add_binding (peer i) (kind i) (network i) (tenant i)

  keeps : (n : ℕ) (x y : Endpoint) → relisted bound n x ≡ some y → KeptPeers x y
  unfolding relisted with_binding
  keeps zero x y h = subst (KeptPeers x) (some-injective x y h) (record { own = refl; port = refl; count = refl; addresses = refl })
  keeps (suc n) x y h =
      let l = last bound n x y h in
      let s = keeps n x l.mid l.before in
      let t = binding_taken l.mid y (peer n) (kind n) (network n) (tenant n) l.taken in
      subst (KeptPeers x) (sym t.1) (record { own = s.own; port = s.port; count = s.count; addresses = s.addresses })

  -- a binding is accepted of an endpoint with one peer more
  still_passes : (x : Endpoint) (k address p kd n t : ℕ) → x.peer_count ≡ k → Passed (add_binding_checks x p kd n t)
      → Passed (add_binding_checks (with_address x k address) p kd n t)
  unfolding add_binding_checks find_binding config_of with_address
  still_passes x k address p kd n t e c =
      let listed : p < min x.peer_count most_peers = leb-false (min x.peer_count most_peers) p c.0 in
      (lt-leb (min (k + 1) most_peers) p (omega arith), (c.1.0, (c.1.1.0, (c.1.1.1.0, (c.1.1.1.1.0, tt)))))

  swapped : (x : Endpoint) (k address p kd n t : ℕ) → with_binding (with_address x k address) (with_address x k address).binding_count p kd n t
      ≡ with_address (with_binding x x.binding_count p kd n t) k address
  unfolding with_binding with_address
  swapped x k address p kd n t = refl

  before-bindings : (n : ℕ) (x y : Endpoint) (k address : ℕ) → x.peer_count ≡ k → relisted bound n x ≡ some y
      → relisted bound n (with_address x k address) ≡ some (with_address y k address)
  unfolding relisted
  before-bindings zero x y k address e h = ap (λ (z : Endpoint). some (with_address z k address)) (some-injective x y h)
  before-bindings (suc n) x y k address e h =
      let l = last bound n x y h in
      let s = keeps n x l.mid l.before in
      let t = binding_taken l.mid y (peer n) (kind n) (network n) (tenant n) l.taken in
      let ih = before-bindings n x l.mid k address e l.before in
      let c = still_passes l.mid k address (peer n) (kind n) (network n) (tenant n) (s.count ∙ e) t.0 in
      one_more bound n (with_address x k address) (with_address l.mid k address) (with_address y k address) ih
      (take_binding (with_address l.mid k address) (peer n) (kind n) (network n) (tenant n) c
      ∙ ap some (swapped l.mid k address (peer n) (kind n) (network n) (tenant n) ∙ ap (λ (z : Endpoint). with_address z k address) (sym t.1)))

-- ---- every set-up of a good start, listed again

-- what a configuration lists is accepted call by call, and gives y
pub record Again (c : Config) (y : Endpoint) : Type 0 where
  pub blank : Endpoint
  pub mid : Endpoint
  pub started : started_by c.own c.port c.mtu ≡ some blank
  pub peers : relisted (peer_of c) c.peers blank ≡ some mid
  pub bindings : relisted (binding_of c) c.bindings mid ≡ some y

-- the calls for an endpoint's peers and bindings
abbrev peer_again : Endpoint → ℕ → Adding
peer_again e i = add_peer (get_or e.addresses i 0)

abbrev binding_again : Endpoint → ℕ → Adding
binding_again e i = add_binding (get_or e.owners i 0) (get_or e.kinds i 0) (get_or e.networks i 0) (get_or e.tenants i 0)

-- `Again` by an endpoint's own counts
record Relists (own port mtu : ℕ) (e : Endpoint) : Type 0 where
  own_is : e.own ≡ own
  port_is : e.port ≡ port
  mtu_is : e.mtu ≡ mtu
  valid : Valid e
  mid : Endpoint
  peers : relisted (peer_again e) e.peer_count (fresh own port mtu) ≡ some mid
  bindings : relisted (binding_again e) e.binding_count mid ≡ some e

fresh_relists : (own port mtu : ℕ) → Passed (start_checks own port mtu) → Relists own port mtu (fresh own port mtu)
unfolding fresh relisted
fresh_relists own port mtu p = record {
  own_is = refl;
  port_is = refl;
  mtu_is = refl;
  valid = fresh_valid own port mtu (inl p);
  mid = fresh own port mtu;
  peers = refl;
  bindings = refl;
}

-- one call more, of calls that agree with the others below it
extended : (f g : ℕ → Adding) (n : ℕ) (e x y : Endpoint) → relisted f n e ≡ some x → ((i : ℕ) → i < n → g i ≡ f i) → added_by x (g n) ≡ some y
    → relisted g (n + 1) e ≡ some y
extended f g n e x y h k t =
    ap (λ (j : ℕ). relisted g j e) {y = suc n} (omega arith) ∙ one_more g n e x y (relisted_ext g f n e k ∙ h) t

module _ (own port mtu : ℕ) (e : Endpoint) (r : Relists own port mtu e) where
  peer_relists : (address : ℕ) → Passed (add_peer_checks e address) → Relists own port mtu (with_address e e.peer_count address)
  unfolding with_address add_peer_checks
  peer_relists address p =
      let k : ℕ = e.peer_count in
      let room : e.peer_count < most_peers = leb-false most_peers e.peer_count p.1.1.1.1.1.0 in
      let size : length e.addresses ≡ most_peers = r.valid.addresses_length in
      let owners : (ℕ → ℕ) = λ i. get_or e.owners i 0 in
      let kinds : (ℕ → ℕ) = λ i. get_or e.kinds i 0 in
      let networks : (ℕ → ℕ) = λ i. get_or e.networks i 0 in
      let tenants : (ℕ → ℕ) = λ i. get_or e.tenants i 0 in
      let same = keeps owners kinds networks tenants e.binding_count r.mid e r.bindings in
      let count : r.mid.peer_count ≡ e.peer_count = sym same.count in
      let passes : Passed (add_peer_checks r.mid address) =
      subst (λ (cs : List (Check ConfigRefusal)). Passed cs) (same_checks r.mid e address same) p in
      record {
        own_is = r.own_is;
        port_is = r.port_is;
        mtu_is = r.mtu_is;
        valid = peer-added_valid e address r.valid p;
        mid = with_address r.mid k address;
        peers =
            extended (peer_again e) (λ i. add_peer (get_or (set e.addresses k address) i 0)) k (fresh own port mtu) r.mid (with_address r.mid k address)
            r.peers (λ i l. ap add_peer (before-end e.addresses k address i l))
            (ap (λ (a : ℕ). added_by r.mid (add_peer a)) (at-end e.addresses k address (omega arith)) ∙ take-peer r.mid address passes
            ∙ ap (λ (j : ℕ). some (with_address r.mid j address)) count);
        bindings = before-bindings owners kinds networks tenants e.binding_count r.mid e k address count r.bindings;
      }

  binding_relists : (peer kind network tenant : ℕ) → Passed (add_binding_checks e peer kind network tenant)
      → Relists own port mtu (with_binding e e.binding_count peer kind network tenant)
  unfolding with_binding add_binding_checks
  binding_relists peer kind network tenant p =
      let k : ℕ = e.binding_count in
      let room : e.binding_count < most_bindings = leb-false most_bindings e.binding_count p.1.1.1.1.0 in
      let wn : length e.networks ≡ most_bindings = r.valid.networks_length in
      let wk : length e.kinds ≡ most_bindings = r.valid.kinds_length in
      let wo : length e.owners ≡ most_bindings = r.valid.owners_length in
      let wt : length e.tenants ≡ most_bindings = r.valid.tenants_length in
      let new : Endpoint = with_binding e k peer kind network tenant in
      record {
        own_is = r.own_is;
        port_is = r.port_is;
        mtu_is = r.mtu_is;
        valid = binding_added_valid e peer kind network tenant r.valid p;
        mid = r.mid;
        peers = r.peers;
        bindings =
            extended (binding_again e) (binding_again new) k r.mid e new r.bindings
            (λ i l. four (before-end e.owners k peer i l) (before-end e.kinds k kind i l) (before-end e.networks k network i l)
            (before-end e.tenants k tenant i l))
            (ap (added_by e) (four (at-end e.owners k peer (omega arith)) (at-end e.kinds k kind (omega arith))
            (at-end e.networks k network (omega arith))
            (at-end e.tenants k tenant (omega arith)))
            ∙ take_binding e peer kind network tenant p);
      }
    where
      four : {a b c d a' b' c' d' : ℕ} → a ≡ a' → b ≡ b' → c ≡ c' → d ≡ d' → add_binding a b c d ≡ add_binding a' b' c' d'
      four p q r s = cc

added_relists : (own port mtu : ℕ) (e : Endpoint) (a : Adding) → Relists own port mtu e → Relists own port mtu (added e a)
unfolding added
added_relists own port mtu e (add_peer address) r = add-peer-cases (Relists own port mtu) e address r (peer_relists own port mtu e r address)
added_relists own port mtu e (add_binding peer kind network tenant) r =
    add_binding-cases (Relists own port mtu) e peer kind network tenant r (binding_relists own port mtu e r peer kind network tenant)

all_relists : (own port mtu : ℕ) (e : Endpoint) (adds : List Adding) → Relists own port mtu e → Relists own port mtu (added_all e adds)
unfolding added_all
all_relists own port mtu e [] r = r
all_relists own port mtu e (a ∷ adds) r = all_relists own port mtu (added e a) adds (added_relists own port mtu e a r)

started-fresh : (own port mtu : ℕ) → Passed (start_checks own port mtu) → started_by own port mtu ≡ some (fresh own port mtu)
unfolding started_by if_started start_of
started-fresh own port mtu p =
    ap (λ (x : StartResult). if_started x.answer x.endpoint)
    (pass refused_start (start_checks own port mtu) (record { endpoint = fresh own port mtu; answer = Ok tt }) p)

again : (own port mtu : ℕ) (e : Endpoint) → Passed (start_checks own port mtu) → Relists own port mtu e → Again (config_of e) e
unfolding config_of peer_of binding_of
again own port mtu e p r =
    let np : e.peer_count ≤ most_peers = r.valid.peer_count in
    let nb : e.binding_count ≤ most_bindings = r.valid.binding_count in
    record {
      blank = fresh own port mtu;
      mid = r.mid;
      started =
          ap (λ (o : ℕ). started_by o e.port e.mtu) r.own_is ∙ ap (λ (q : ℕ). started_by own q e.mtu) r.port_is
          ∙ ap (started_by own port) r.mtu_is ∙ started-fresh own port mtu p;
      peers =
          ap (λ (n : ℕ). relisted (peer_again e) n (fresh own port mtu)) {x = min e.peer_count most_peers} {y = e.peer_count} (omega arith)
          ∙ r.peers;
      bindings =
          ap (λ (n : ℕ). relisted (binding_again e) n r.mid) {x = min e.binding_count most_bindings} {y = e.binding_count} (omega arith)
          ∙ r.bindings;
    }

-- a refused start has port 0, and stays as it is
refused_port : (adds : List Adding) → (added_all (fresh 0 0 0) adds).port ≡ 0
unfolding added_all added fresh
refused_port [] = refl
refused_port (add_peer address ∷ adds) = ap (λ (x : AddResult). (added_all x.endpoint adds).port) (refused_start-peer address) ∙ refused_port adds
refused_port (add_binding peer kind network tenant ∷ adds) =
    ap (λ (x : AddResult). (added_all x.endpoint adds).port) (refused_start_binding peer kind network tenant) ∙ refused_port adds

-- THE THEOREM
pub set_up_again : (own port mtu : ℕ) (adds : List Adding) → (set_up own port mtu adds).port ≢ 0
    → Again (config_of (set_up own port mtu adds)) (set_up own port mtu adds)
unfolding set_up
set_up_again own port mtu adds =
    start-cases (λ (e : Endpoint). (added_all e adds).port ≢ 0 → Again (config_of (added_all e adds)) (added_all e adds)) own port mtu
    (λ d. absurd (d (refused_port adds)))
    (λ p d. again own port mtu (added_all (fresh own port mtu) adds) p (all_relists own port mtu (fresh own port mtu) adds (fresh_relists own port mtu p)))

-- ---- the other way: what is listed again is a set-up

-- adding calls, each network of which has 64 bits, that lead from e to y
pub record Adds (e y : Endpoint) : Type 0 where
  pub adds : List Adding
  pub typed : AllTyped (map add adds)
  pub is : added_all e adds ≡ y

if_added_lem : (a : Result ℕ ConfigRefusal) (e y : Endpoint) → if_added a e ≡ some y → e ≡ y
unfolding if_added
if_added_lem (Ok n) e y h = some-injective e y h
if_added_lem (Err r) e y h = nothing h

added_is : (e y : Endpoint) (a : Adding) → added_by e a ≡ some y → added e a ≡ y
unfolding added_by added
added_is e y (add_peer address) h = if_added_lem (add_peer_of e address).answer (add_peer_of e address).endpoint y h
added_is e y (add_binding peer kind network tenant) h =
    if_added_lem (add_binding_of e peer kind network tenant).answer (add_binding_of e peer kind network tenant).endpoint y h

added-append : (e : Endpoint) (xs ys : List Adding) → added_all e (xs ++ ys) ≡ added_all (added_all e xs) ys
unfolding added_all
added-append e [] ys = refl
added-append e (x ∷ xs) ys = added-append (added e x) xs ys

typed_append : (xs ys : List Adding) → AllTyped (map add xs) → AllTyped (map add ys) → AllTyped (map add (xs ++ ys))
typed_append [] ys p q = q
typed_append (x ∷ xs) ys p q = (p.0, typed_append xs ys p.1 q)

pub then_adds : (e x y : Endpoint) → Adds e x → Adds x y → Adds e y
then_adds e x y a b = record {
  adds = a.adds ++ b.adds;
  typed = typed_append a.adds b.adds a.typed b.typed;
  is = added-append e a.adds b.adds ∙ ap (λ (z : Endpoint). added_all z b.adds) a.is ∙ b.is;
}

no_adds : (e : Endpoint) → Adds e e
unfolding added_all
no_adds e = record { adds = []; typed = tt; is = refl }

one-add : (e y : Endpoint) (a : Adding) → Typed (add a) → added_by e a ≡ some y → Adds e y
unfolding added_all
one-add e y a t h = record { adds = a ∷ []; typed = (t, tt); is = added_is e y a h }

pub relisted_adds : (calls : ℕ → Adding) (n : ℕ) (e y : Endpoint) → ((i : ℕ) → Typed (add (calls i))) → relisted calls n e ≡ some y → Adds e y
unfolding relisted
relisted_adds calls zero e y t h = subst (Adds e) (some-injective e y h) (no_adds e)
relisted_adds calls (suc n) e y t h =
    let l = last calls n e y h in
    then_adds e l.mid y (relisted_adds calls n e l.mid t l.before) (one-add l.mid y (calls n) (t n) l.taken)

-- a start that is accepted: these settings, nothing listed
pub record Started (own port mtu : ℕ) (b : Endpoint) : Type 0 where
  pub is : start_of own port mtu ≡ record { endpoint = b; answer = Ok tt }
  pub own_is : b.own ≡ own
  pub port_is : b.port ≡ port
  pub mtu_is : b.mtu ≡ mtu
  pub no_peers : b.peer_count ≡ 0
  pub addresses_size : length b.addresses ≡ most_peers
  pub no_bindings : NoBindings b

blank-started : (own port mtu : ℕ) → start_of own port mtu ≡ record { endpoint = fresh own port mtu; answer = Ok tt }
    → Started own port mtu (fresh own port mtu)
unfolding fresh
blank-started own port mtu e = record {
  is = e;
  own_is = refl;
  port_is = refl;
  mtu_is = refl;
  no_peers = refl;
  addresses_size = refl;
  no_bindings = record { count = refl; networks_size = refl; kinds_size = refl; owners_size = refl; tenants_size = refl };
}

pub started_is : (own port mtu : ℕ) (b : Endpoint) → started_by own port mtu ≡ some b → Started own port mtu b
unfolding started_by if_started start_of
started_is own port mtu b =
    cases (λ (x : StartResult). start_of own port mtu ≡ x → if_started x.answer x.endpoint ≡ some b → Started own port mtu b)
    refused_start (start_checks own port mtu) (record { endpoint = fresh own port mtu; answer = Ok tt })
    (λ r e q. nothing q)
    (λ p e q. subst (Started own port mtu) (some-injective (fresh own port mtu) b q) (blank-started own port mtu e))
    refl

pub set_up_of : (own port mtu : ℕ) (b e : Endpoint) → Started own port mtu b → (a : Adds b e) → set_up own port mtu a.adds ≡ e
unfolding set_up
set_up_of own port mtu b e s a = ap (λ (r : StartResult). added_all r.endpoint a.adds) s.is ∙ a.is

pub started_code : (own port mtu : ℕ) (b : Endpoint) → Started own port mtu b → start_code (start_of own port mtu).answer ≡ 0
unfolding start_code
started_code own port mtu b s = ap (λ (r : StartResult). start_code r.answer) s.is

refused_number : {C : Type 0} (r : ConfigRefusal) → config_code r ≡ 0 → C
refused_number C.OutOfRange h = absurd (omega arith)
refused_number C.AlreadyListed h = absurd (omega arith)
refused_number C.Full h = absurd (omega arith)

-- the STT port of a good start is not 0, nor is it later
pub good_port : (own port mtu : ℕ) (adds : List Adding) → start_code (start_of own port mtu).answer ≡ 0 → (set_up own port mtu adds).port ≢ 0
unfolding set_up start_code start_of start_checks
good_port own port mtu adds =
    cases (λ (r : StartResult). start_code r.answer ≡ 0 → (added_all r.endpoint adds).port ≢ 0)
    refused_start (start_checks own port mtu) (record { endpoint = fresh own port mtu; answer = Ok tt })
    (λ r h. refused_number r h)
    (λ p h z.
    eqb-false port 0 p.1.1.0 (sym (all_relists own port mtu (fresh own port mtu) adds (fresh_relists own port mtu p)).port_is ∙ z))

-- ---- by the numbers that the calls answer

zero-started : (a : Result (Unit {0}) ConfigRefusal) (e : Endpoint) → start_code a ≡ 0 → if_started a e ≡ some e
unfolding start_code if_started
zero-started (Ok tt) e h = refl
zero-started (Err r) e h = refused_number r h

zero-added : (a : Result ℕ ConfigRefusal) (e : Endpoint) → added_code a ≡ 0 → if_added a e ≡ some e
unfolding added_code if_added
zero-added (Ok n) e h = refl
zero-added (Err r) e h = refused_number r h

pub start-zero : (own port mtu : ℕ) → start_code (start_of own port mtu).answer ≡ 0 → started_by own port mtu ≡ some (start_of own port mtu).endpoint
unfolding started_by
start-zero own port mtu h = zero-started (start_of own port mtu).answer (start_of own port mtu).endpoint h

module _ (calls : ℕ → Adding) (i : ℕ) (e x : Endpoint) (before : relisted calls i e ≡ some x) where
  pub peer-zero : (address : ℕ) → calls i ≡ add_peer address → added_code (add_peer_of x address).answer ≡ 0
      → relisted calls (suc i) e ≡ some (add_peer_of x address).endpoint
  unfolding added_by
  peer-zero address h k =
      one_more calls i e x (add_peer_of x address).endpoint before
      (ap (added_by x) h ∙ zero-added (add_peer_of x address).answer (add_peer_of x address).endpoint k)

  pub binding_zero : (peer kind network tenant : ℕ) → calls i ≡ add_binding peer kind network tenant
      → added_code (add_binding_of x peer kind network tenant).answer ≡ 0
      → relisted calls (suc i) e ≡ some (add_binding_of x peer kind network tenant).endpoint
  unfolding added_by
  binding_zero peer kind network tenant h k =
      one_more calls i e x (add_binding_of x peer kind network tenant).endpoint before
      (ap (added_by x) h ∙ zero-added (add_binding_of x peer kind network tenant).answer (add_binding_of x peer kind network tenant).endpoint k)
