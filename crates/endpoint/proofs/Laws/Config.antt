-- Laws of the configuration: what the calls and a tick leave of the rows, what the lookups find, and what holds of every set-up.
use Rattle.std.specs.Prelude.{◌≡◌, true, false, List, [], ◌∷◌, map, ◌⊎◌, ◌≢◌, set, replicate, Ok}
use Rattle.std.proofs.Math.Path.{refl, sym, ap, subst}
use Rattle.std.proofs.Common.{◌∙◌, inr, not-suc-le-zero, arith}
use Rattle.std.proofs.Math.Logic.{inl}
use Rattle.std.proofs.Math.Option.{Option, none, some}
use Prim.Native.Nat.{ℕ, ◌+◌, ◌<◌, ◌≤◌, min}
use Rattle.std.proofs.Math.ListN.{length, get_or, length-set}
use Rattle.std.proofs.Math.Seq.{get_or-set_same, get_or-set_other}
use Rattle.std.proofs.Math.Dec.{eqb}
use borrow.Author.Tests.{eq-eqb, ne_eqb, le-leb, ltb-false, leb-false, eqb-true, eqb-false, not-false}
use Rattle.wire.specs.Checks.{Passed}
use Rattle.wire.proofs.Laws.Checks.{cases}
use Rattle.reassembly.proofs.Laws.Base.{case_b, either, clash}
use Rattle.reassembly.specs.Slots.{older_row, most_peers}
use Rattle.endpoint.specs.declared.answer.ConfigRefusal.TheVariants as C
use Rattle.endpoint.specs.declared.config.Endpoint.{Endpoint}
use Rattle.endpoint.specs.declared.config.StartResult.{StartResult}
use Rattle.endpoint.proofs.Laws.Search.{lowest-none, lowest_is, binds_hit, binds-all}
use Rattle.endpoint.specs.Config.{address_at, free_row, tick_of, config_of, has_address, find_peer, binds, find_binding, is_some, fresh, start_checks}
use Rattle.endpoint.specs.Config.{AddResult}
use Rattle.endpoint.specs.Config.{refused_start, start_of}
use Rattle.endpoint.specs.Config.{address_checks, refused_add, add_peer_checks, with_address, add_peer_of, is_network, add_binding_checks, with_binding}
use Rattle.endpoint.specs.Config.{add_binding_of, Adding, add_peer, add_binding, added, added_all, set_up, most_bindings}
use Rattle.endpoint.proofs.Laws.ConfigExits.{peer_added, binding_added, peer_out_of_range, binding_out_of_range}

-- ---- what a call leaves: the endpoint as it came, or the one with the addition

pub start-cases : (P : Endpoint → Type 0) (own port mtu : ℕ) → P (fresh 0 0 0) → (Passed (start_checks own port mtu) → P (fresh own port mtu))
    → P (start_of own port mtu).endpoint
unfolding start_of
start-cases P own port mtu f g =
    cases (λ (x : StartResult). P x.endpoint) refused_start (start_checks own port mtu) (record { endpoint = fresh own port mtu; answer = Ok tt }) (λ r. f) g

pub add-peer-cases : (P : Endpoint → Type 0) (e : Endpoint) (address : ℕ) → P e
    → (Passed (add_peer_checks e address) → P (with_address e e.peer_count address)) → P (add_peer_of e address).endpoint
unfolding add_peer_of
add-peer-cases P e address f g = cases (λ (x : AddResult). P x.endpoint) (refused_add e) (add_peer_checks e address) (peer_added e address) (λ r. f) g

pub add_binding-cases : (P : Endpoint → Type 0) (e : Endpoint) (peer kind network tenant : ℕ) → P e
    → (Passed (add_binding_checks e peer kind network tenant) → P (with_binding e e.binding_count peer kind network tenant))
    → P (add_binding_of e peer kind network tenant).endpoint
unfolding add_binding_of
add_binding-cases P e peer kind network tenant f g =
    cases (λ (x : AddResult). P x.endpoint) (refused_add e) (add_binding_checks e peer kind network tenant) (binding_added e peer kind network tenant) (λ r. f) g

-- ---- the configuration, from the endpoint's fields

pub config_is : (e : Endpoint)
    → config_of e
    ≡ record {
      own = e.own;
      port = e.port;
      mtu = e.mtu;
      addresses = e.addresses;
      peers = min e.peer_count most_peers;
      owners = e.owners;
      kinds = e.kinds;
      networks = e.networks;
      tenants = e.tenants;
      bindings = min e.binding_count most_bindings;
    }
unfolding config_of
config_is e = refl

-- ---- a refused start (document 01, "Listing and numbers"): adding to it is 18, and leaves it as it is

pub refused_start-peer : (address : ℕ) → add_peer_of (fresh 0 0 0) address ≡ refused_add (fresh 0 0 0) C.OutOfRange
unfolding add_peer_checks fresh
refused_start-peer address = sym (peer_out_of_range (fresh 0 0 0) address refl)

pub refused_start_binding : (peer kind network tenant : ℕ) → add_binding_of (fresh 0 0 0) peer kind network tenant ≡ refused_add (fresh 0 0 0) C.OutOfRange
unfolding add_binding_checks config_of fresh
refused_start_binding peer kind network tenant =
    sym (binding_out_of_range (fresh 0 0 0) peer kind network tenant (rw (le-leb 0 peer (omega arith)) refl))

-- ---- the rows of slots

pub rows-fresh : (own port mtu : ℕ) → (fresh own port mtu).peers ≡ replicate most_peers free_row
unfolding fresh
rows-fresh own port mtu = refl

pub rows-tick : (e : Endpoint) → (tick_of e).endpoint.peers ≡ map older_row e.peers
unfolding tick_of
rows-tick e = refl

pub config_tick : (e : Endpoint) → config_of (tick_of e).endpoint ≡ config_of e
unfolding config_of tick_of
config_tick e = refl

-- ---- set-ups

-- what holds of every set-up
pub record Valid (e : Endpoint) : Type 0 where
  -- a refused start lists nothing
  pub settings : Passed (start_checks e.own e.port e.mtu) ⊎ (e ≡ fresh 0 0 0)
  pub peers : e.peers ≡ replicate most_peers free_row
  pub peer_count : e.peer_count ≤ most_peers
  pub binding_count : e.binding_count ≤ most_bindings
  pub addresses_length : length e.addresses ≡ most_peers
  pub networks_length : length e.networks ≡ most_bindings
  pub kinds_length : length e.kinds ≡ most_bindings
  pub owners_length : length e.owners ≡ most_bindings
  pub tenants_length : length e.tenants ≡ most_bindings
  -- no two listed peers share an address, and none has ours
  pub address_once : (i j : ℕ) → i < e.peer_count → j < e.peer_count → address_at e i ≡ address_at e j → i ≡ j
  pub address_other : (i : ℕ) → i < e.peer_count → address_at e i ≢ e.own
  pub address_good : (i : ℕ) → i < e.peer_count → Passed (address_checks (address_at e i))
  -- no two listed bindings agree in peer, kind and id, and each has a listed peer and an id of its kind
  pub binding_once : (i j : ℕ) → i < e.binding_count → j < e.binding_count → get_or e.owners i 0 ≡ get_or e.owners j 0
      → get_or e.kinds i 0 ≡ get_or e.kinds j 0 → get_or e.networks i 0 ≡ get_or e.networks j 0 → i ≡ j
  pub owner_listed : (i : ℕ) → i < e.binding_count → get_or e.owners i 0 < e.peer_count
  pub network_good : (i : ℕ) → i < e.binding_count → is_network (get_or e.kinds i 0) (get_or e.networks i 0) ≡ true
  pub tenant_good : (i : ℕ) → i < e.binding_count → get_or e.tenants i 0 ≤ 65535

pub fresh_valid : (own port mtu : ℕ) → Passed (start_checks own port mtu) ⊎ (fresh own port mtu ≡ fresh 0 0 0) → Valid (fresh own port mtu)
unfolding fresh
fresh_valid own port mtu s = record {
  settings = s;
  peers = rows-fresh own port mtu;
  peer_count = omega arith;
  binding_count = omega arith;
  addresses_length = refl;
  networks_length = refl;
  kinds_length = refl;
  owners_length = refl;
  tenants_length = refl;
  address_once = λ i j a b q. absurd (not-suc-le-zero a);
  address_other = λ i a. absurd (not-suc-le-zero a);
  address_good = λ i a. absurd (not-suc-le-zero a);
  binding_once = λ i j a b q r s. absurd (not-suc-le-zero a);
  owner_listed = λ i a. absurd (not-suc-le-zero a);
  network_good = λ i a. absurd (not-suc-le-zero a);
  tenant_good = λ i a. absurd (not-suc-le-zero a);
}

-- below n + 1 is n or below it
last : {C : Type 0} (i n : ℕ) → i < n + 1 → (i ≡ n → C) → (i < n → C) → C
last i n h f g = case_b (eqb i n) (λ q. f (eqb-true i n q)) (λ q. let d : i ≢ n = eqb-false i n q in g (omega arith))

differ : {C : Type 0} → true ≡ false → C
differ e = clash (cc)

none_of : (o : Option ℕ) → is_some o ≡ false → o ≡ none
none_of none e = refl
none_of (some i) e = clash (cc)

module _ (e : Endpoint) (address : ℕ) where
  new-address : e.peer_count < length e.addresses → address_at (with_address e e.peer_count address) e.peer_count ≡ address
  unfolding address_at with_address
  new-address h = get_or-set_same e.addresses e.peer_count address 0 h

  old-address : (i : ℕ) → i < e.peer_count → address_at (with_address e e.peer_count address) i ≡ address_at e i
  unfolding address_at with_address
  old-address i h =
      let d : i ≢ e.peer_count = λ q. absurd (omega (arith, q)) in
      get_or-set_other e.addresses e.peer_count i address 0 d

  -- no listed peer has it
  unlisted_address : (v : Valid e) → is_some (find_peer (config_of e) address) ≡ false → (i : ℕ) → i < e.peer_count → address_at e i ≢ address
  unfolding find_peer config_of has_address address_at
  unlisted_address v h i l =
      let c : e.peer_count ≤ most_peers = v.peer_count in
      eqb-false (get_or e.addresses i 0) address
      (lowest-none (has_address e.addresses address) (min e.peer_count most_peers) (none_of (find_peer (config_of e) address) h) i (omega arith))

  pub peer-added_valid : Valid e → Passed (add_peer_checks e address) → Valid (with_address e e.peer_count address)
  unfolding add_peer_checks with_address fresh
  peer-added_valid v p =
      let n : ℕ = e.peer_count in
      let full : e.peer_count < most_peers = leb-false most_peers e.peer_count p.1.1.1.1.1.0 in
      let size : length e.addresses ≡ most_peers = v.addresses_length in
      let here = new-address (omega arith) in
      let other = unlisted_address v p.1.1.1.1.0 in
      record {
        settings = either v.settings (λ s. inl s) (λ q. differ (sym (ap (λ (x : Endpoint). eqb x.port 0) q) ∙ p.0));
        peers = v.peers;
        peer_count = omega arith;
        binding_count = v.binding_count;
        addresses_length = length-set e.addresses n address ∙ size;
        networks_length = v.networks_length;
        kinds_length = v.kinds_length;
        owners_length = v.owners_length;
        tenants_length = v.tenants_length;
        address_once = λ i j a b q.
            last i n a
            (λ x. last j n b (λ y. x ∙ sym y) (λ y. absurd (other j y (sym (old-address j y) ∙ sym q ∙ ap (address_at _) x ∙ here))))
            (λ x. last j n b (λ y. absurd (other i x (sym (old-address i x) ∙ q ∙ ap (address_at _) y ∙ here)))
            (λ y. v.address_once i j x y (sym (old-address i x) ∙ q ∙ old-address j y)));
        address_other = λ i a q.
            last i n a
            (λ x. eqb-false address e.own p.1.1.1.0 (sym here ∙ ap (address_at _) (sym x) ∙ q))
            (λ x. v.address_other i x (sym (old-address i x) ∙ q));
        address_good = λ i a.
            last i n a
            (λ x. subst (λ (t : ℕ). Passed (address_checks t)) (sym (ap (address_at _) x ∙ here)) (p.1.0, (p.1.1.0, tt)))
            (λ x. subst (λ (t : ℕ). Passed (address_checks t)) (sym (old-address i x)) (v.address_good i x));
        binding_once = v.binding_once;
        owner_listed = λ i a. let h : get_or e.owners i 0 < e.peer_count = v.owner_listed i a in omega arith;
        network_good = v.network_good;
        tenant_good = v.tenant_good;
      }

at_last : (l : List ℕ) (n x i : ℕ) → n < length l → i ≡ n → get_or (set l n x) i 0 ≡ x
at_last l n x i h q = ap (λ (t : ℕ). get_or (set l n x) t 0) q ∙ get_or-set_same l n x 0 h

at_before : (l : List ℕ) (n x i : ℕ) → i < n → get_or (set l n x) i 0 ≡ get_or l i 0
at_before l n x i h =
    let d : i ≢ n = λ q. absurd (omega (arith, q)) in
    get_or-set_other l n i x 0 d

module _ (e : Endpoint) (peer kind network tenant : ℕ) where
  -- no listed binding agrees with it
  unlisted_binding : (v : Valid e) → is_some (find_binding (config_of e) peer kind network) ≡ false
      → (i : ℕ) → i < e.binding_count → get_or e.owners i 0 ≡ peer → get_or e.kinds i 0 ≡ kind → get_or e.networks i 0 ≢ network
  unfolding find_binding config_of
  unlisted_binding v h i l o k m =
      let c : e.binding_count ≤ most_bindings = v.binding_count in
      let miss = lowest-none (binds e.networks e.kinds e.owners peer kind network) (min e.binding_count most_bindings)
      (none_of (find_binding (config_of e) peer kind network) h) i (omega arith) in
      differ (sym (binds_hit e.networks e.kinds e.owners peer kind network i m k o) ∙ miss)

  pub binding_added_valid : Valid e → Passed (add_binding_checks e peer kind network tenant) → Valid (with_binding e e.binding_count peer kind network tenant)
  unfolding add_binding_checks with_binding fresh config_of address_at
  binding_added_valid v p =
      let n : ℕ = e.binding_count in
      let owner : peer < min e.peer_count most_peers = leb-false (min e.peer_count most_peers) peer p.0 in
      let room : e.binding_count < most_bindings = leb-false most_bindings e.binding_count p.1.1.1.1.0 in
      let wn : length e.networks ≡ most_bindings = v.networks_length in
      let wk : length e.kinds ≡ most_bindings = v.kinds_length in
      let wo : length e.owners ≡ most_bindings = v.owners_length in
      let wt : length e.tenants ≡ most_bindings = v.tenants_length in
      let other = unlisted_binding v p.1.1.1.0 in
      record {
        settings = either v.settings (λ s. inl s) (λ q. let z : e.peer_count ≡ 0 = ap (λ (x : Endpoint). x.peer_count) q in absurd (omega arith));
        peers = v.peers;
        peer_count = v.peer_count;
        binding_count = omega arith;
        addresses_length = v.addresses_length;
        networks_length = length-set e.networks n network ∙ wn;
        kinds_length = length-set e.kinds n kind ∙ wk;
        owners_length = length-set e.owners n peer ∙ wo;
        tenants_length = length-set e.tenants n tenant ∙ wt;
        address_once = v.address_once;
        address_other = v.address_other;
        address_good = v.address_good;
        binding_once = λ i j a b o k m.
            last i n a
            (λ x. last j n b (λ y. x ∙ sym y) (λ y. absurd (clashes j i y x (sym o) (sym k) (sym m) v p)))
            (λ x. last j n b (λ y. absurd (clashes i j x y o k m v p)) (λ y. v.binding_once i j x y
            (sym (at_before e.owners n peer i x) ∙ o ∙ at_before e.owners n peer j y)
            (sym (at_before e.kinds n kind i x) ∙ k ∙ at_before e.kinds n kind j y)
            (sym (at_before e.networks n network i x) ∙ m ∙ at_before e.networks n network j y)));
        owner_listed = λ i a.
            last i n a
            (λ x. let q : get_or (set e.owners n peer) i 0 ≡ peer = at_last e.owners n peer i (omega arith) x in omega arith)
            (λ x.
            let q : get_or (set e.owners n peer) i 0 ≡ get_or e.owners i 0 = at_before e.owners n peer i x in
            let h : get_or e.owners i 0 < e.peer_count = v.owner_listed i x in
            omega arith);
        network_good = λ i a.
            last i n a
            (λ x. rw (at_last e.kinds n kind i (omega arith) x, at_last e.networks n network i (omega arith) x)
            (not-false (is_network kind network) p.1.0))
            (λ x. rw (at_before e.kinds n kind i x, at_before e.networks n network i x) (v.network_good i x));
        tenant_good = λ i a.
            last i n a
            (λ x. rw (at_last e.tenants n tenant i (omega arith) x) (ltb-false 65535 tenant p.1.1.0))
            (λ x. rw (at_before e.tenants n tenant i x) (v.tenant_good i x));
      }
    where
      clashes : (i j : ℕ) → i < e.binding_count → j ≡ e.binding_count
          → get_or (set e.owners e.binding_count peer) i 0 ≡ get_or (set e.owners e.binding_count peer) j 0
          → get_or (set e.kinds e.binding_count kind) i 0 ≡ get_or (set e.kinds e.binding_count kind) j 0
          → get_or (set e.networks e.binding_count network) i 0 ≡ get_or (set e.networks e.binding_count network) j 0
          → Valid e → Passed (add_binding_checks e peer kind network tenant) → ⊥
      clashes i j x y o k m v p =
          let n : ℕ = e.binding_count in
          let room : e.binding_count < most_bindings = leb-false most_bindings e.binding_count p.1.1.1.1.0 in
          let wn : length e.networks ≡ most_bindings = v.networks_length in
          let wk : length e.kinds ≡ most_bindings = v.kinds_length in
          let wo : length e.owners ≡ most_bindings = v.owners_length in
          unlisted_binding v p.1.1.1.0 i x
          (sym (at_before e.owners n peer i x) ∙ o ∙ at_last e.owners n peer j (omega arith) y)
          (sym (at_before e.kinds n kind i x) ∙ k ∙ at_last e.kinds n kind j (omega arith) y)
          (sym (at_before e.networks n network i x) ∙ m ∙ at_last e.networks n network j (omega arith) y)

added_valid : (e : Endpoint) (call : Adding) → Valid e → Valid (added e call)
unfolding added
added_valid e (add_peer address) v = add-peer-cases Valid e address v (peer-added_valid e address v)
added_valid e (add_binding peer kind network tenant) v = add_binding-cases Valid e peer kind network tenant v (binding_added_valid e peer kind network tenant v)

added-all_valid : (e : Endpoint) (calls : List Adding) → Valid e → Valid (added_all e calls)
unfolding added_all
added-all_valid e [] v = v
added-all_valid e (call ∷ calls) v = added-all_valid (added e call) calls (added_valid e call v)

pub set_up_valid : (own port mtu : ℕ) (calls : List Adding) → Valid (set_up own port mtu calls)
unfolding set_up
set_up_valid own port mtu calls =
    added-all_valid (start_of own port mtu).endpoint calls
    (start-cases Valid own port mtu (fresh_valid 0 0 0 (inr refl)) (λ p. fresh_valid own port mtu (inl p)))

-- each listed peer, and each listed binding, is what a lookup of it finds

module _ (e : Endpoint) (v : Valid e) (i : ℕ) where
  pub listed-peer-found : i < e.peer_count → find_peer (config_of e) (address_at e i) ≡ some i
  unfolding find_peer config_of has_address address_at
  listed-peer-found h =
      let c : e.peer_count ≤ most_peers = v.peer_count in
      lowest_is (has_address e.addresses (address_at e i)) (min e.peer_count most_peers) i
      (record {
        below = omega arith;
        passes = eq-eqb (address_at e i) (address_at e i) refl;
        least = λ j l. ne_eqb (address_at e j) (address_at e i) (λ q. let same : j ≡ i = v.address_once j i (omega arith) h q in absurd (omega arith));
      })

  pub listed_binding_found : i < e.binding_count → find_binding (config_of e) (get_or e.owners i 0) (get_or e.kinds i 0) (get_or e.networks i 0) ≡ some i
  unfolding find_binding config_of
  listed_binding_found h =
      let c : e.binding_count ≤ most_bindings = v.binding_count in
      let owner : ℕ = get_or e.owners i 0 in
      let kind : ℕ = get_or e.kinds i 0 in
      let network : ℕ = get_or e.networks i 0 in
      lowest_is (binds e.networks e.kinds e.owners owner kind network) (min e.binding_count most_bindings) i
      (record {
        below = omega arith;
        passes = binds_hit e.networks e.kinds e.owners owner kind network i refl refl refl;
        least = λ j l.
            case_b (binds e.networks e.kinds e.owners owner kind network j)
            (λ t.
            let w = binds-all e.networks e.kinds e.owners owner kind network j t in
            let same : j ≡ i = v.binding_once j i (omega arith) h w.2 w.1 w.0 in
            absurd (omega arith))
            (λ t. t);
      })
