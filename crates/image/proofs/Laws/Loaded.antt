-- What was saved loads again; and what is loaded was read field by field, is a set-up, and saved again is the same bytes.
use Prim.Native.Nat.{ℕ, ◌+◌, ◌*◌, ◌/◌, ◌^◌, ◌<◌, ◌≤◌, min}
use Rattle.std.specs.Prelude.{◌≡◌, Bool, true, ◌⊎◌, ◌≢◌, List, length, replicate, Ok}
use Rattle.std.proofs.Math.Path.{refl, sym, ap, ap₂}
use Rattle.std.proofs.Common.{subst, ◌∙◌, inl, inr, arith}
use Rattle.std.proofs.Math.Option.{Option, none, some}
use Rattle.std.proofs.Math.ListN.{get_or}
use Rattle.wire.specs.Bytes.{Bytes}
use Rattle.wire.specs.Checks.{pick}
use Rattle.wire.specs.Field.{field}
use Rattle.wire.proofs.Laws.Bytes.{case_b}
use Rattle.wire.proofs.Laws.Field.{field_lt}
use Rattle.reassembly.specs.Base.{table}
use Rattle.reassembly.specs.Slots.{most_peers}
use Rattle.reassembly.proofs.Laws.Base.{case_o, clash, table_ext}
use Rattle.endpoint.specs.Config.{Config, config_of, with_rows, free_row, add_peer, add_binding, set_up, most_bindings}
use Rattle.endpoint.specs.Demand1.{IsId, InRange, NotStarted, Configured}
use Rattle.endpoint.specs.Reached.{add, Typed, Reached}
use Rattle.endpoint.specs.Relist.{started_by, relisted, peer_of, binding_of}
use Rattle.endpoint.proofs.Laws.Configured.{set_up_configured, reached_configured, reached_again}
use Rattle.endpoint.proofs.Laws.Reached.{reached_ready}
use Rattle.endpoint.proofs.Laws.Config.{config_is}
use Rattle.endpoint.proofs.Laws.Relist.{peer_of_lem, binding_of_lem}
use Rattle.endpoint.proofs.Laws.Relisted.{Again, relisted_ext, WithPeers, with_peers_lem, WithBindings, NoBindings, with_bindings_lem, Adds, then_adds}
use Rattle.endpoint.proofs.Laws.Relisted.{relisted_adds}
use Rattle.endpoint.proofs.Laws.Relisted.{Started, started_is, set_up_of, started_code, good_port}
use Rattle.endpoint.proofs.Laws.Wrap.{Ready}
use Rattle.endpoint.specs.declared.config.Endpoint.{Endpoint}
use Rattle.image.specs.Answer.{load_code}
use Rattle.image.specs.Image.{Binding, version1, image, binding_at, contents_of, image_of}
use Rattle.image.specs.Images.{SavedFrom}
use Rattle.image.specs.Load.{peers_in, bindings_in, bindings_at, framed, peer_call, binding_call, and_then, listed_in, rebuilt, bad_image, loaded_of, load_of}
use Rattle.image.proofs.Laws.Image.{binding_read, contents_read, Framed, framed_is, is_framed, Fits, written, own_read, port_read, mtu_read, peers-read}
use Rattle.image.proofs.Laws.Image.{bindings-read, place_read, written-framed, address_read, binding_at_lem, bytes_back}

-- ---- saved, then loaded

-- each number of a configuration has room in its field
abbrev AllFit : Config → Type 0
AllFit c = Fits version1 c.own c.port c.mtu c.peers c.bindings (λ i. get_or c.addresses i 0) (binding_at c)

module _ (k : Config) (y : Endpoint) (f : AllFit k) (a : Again k y) where
  abbrev address : ℕ → ℕ
  address i = get_or k.addresses i 0

  abbrev s : List ℕ
  s = written version1 k.own k.port k.mtu k.peers k.bindings address (binding_at k) f

  same-peer : (i : ℕ) → i < k.peers → peer_call s i ≡ peer_of k i
  unfolding peer_call
  same-peer i l =
      ap add_peer (address_read version1 k.own k.port k.mtu k.peers k.bindings address (binding_at k) f i l) ∙ sym (peer_of_lem k i)

  same_binding_lem : (i : ℕ) → i < k.bindings → binding_call s (14 + k.peers * 4 + 1) i ≡ binding_of k i
  unfolding binding_call binding_at binding_read version1
  same_binding_lem i l =
      ap (λ (b : Binding). add_binding b.peer b.kind b.id b.tenant)
      (binding_at_lem version1 k.own k.port k.mtu k.peers k.bindings address (binding_at k) f i l)
      ∙ sym (binding_of_lem k i)

  image_is : image_of k ≡ s
  unfolding image_of contents_of
  image_is = refl

  started-read : started_by (field s 5 4) (field s 9 2) (field s 11 2) ≡ some a.blank
  started-read =
      let o = own_read version1 k.own k.port k.mtu k.peers k.bindings address (binding_at k) f in
      let p = port_read version1 k.own k.port k.mtu k.peers k.bindings address (binding_at k) f in
      let m = mtu_read version1 k.own k.port k.mtu k.peers k.bindings address (binding_at k) f in
      rw (o, p, m) a.started

  peers-read_again : relisted (peer_call s) (peers_in version1 s) a.blank ≡ some a.mid
  peers-read_again =
      ap (λ (n : ℕ). relisted (peer_call s) n a.blank)
      (peers-read version1 k.own k.port k.mtu k.peers k.bindings address (binding_at k) f)
      ∙ relisted_ext (peer_call s) (peer_of k) k.peers a.blank same-peer ∙ a.peers

  bindings-read_again : relisted (binding_call s (bindings_at version1 s)) (bindings_in version1 s) a.mid ≡ some y
  unfolding version1
  bindings-read_again =
      ap₂ (λ (at n : ℕ). relisted (binding_call s at) n a.mid)
      (place_read version1 k.own k.port k.mtu k.peers k.bindings address (binding_at k) f)
      (bindings-read version1 k.own k.port k.mtu k.peers k.bindings address (binding_at k) f)
      ∙ relisted_ext (binding_call s (14 + k.peers * 4 + 1)) (binding_of k) k.bindings a.mid same_binding_lem ∙ a.bindings

  rebuilt_again : rebuilt version1 s ≡ some y
  unfolding rebuilt listed_in and_then
  rebuilt_again = rw (started-read, peers-read_again, bindings-read_again) refl

  loads_again : load_of (image_of k) ≡ record { endpoint = y; answer = Ok tt }
  unfolding load_of loaded_of
  loads_again =
      ap load_of image_is
      ∙ rw (is_framed version1 s (written-framed version1 k.own k.port k.mtu k.peers k.bindings address (binding_at k) f), rebuilt_again) refl

-- an endpoint that came from the calls and was started
in_range : (e : Endpoint) → e.port ≢ 0 → InRange e ⊎ NotStarted e → InRange e
in_range e d (inl r) = r
in_range e d (inr n) = absurd (d n.1.0)

kind_fits : (kind id : ℕ) → IsId kind id → kind < 256
kind_fits kind id (inl p) = omega (arith, p.0)
kind_fits kind id (inr (inl p)) = omega (arith, p.0)
kind_fits kind id (inr (inr p)) = omega (arith, p)

reached_fits : (e : Endpoint) → Reached e → e.port ≢ 0 → AllFit (config_of e)
unfolding binding_at version1
reached_fits e r d =
    let g : Configured e = reached_configured e r in
    let w : Ready e = reached_ready e r in
    let i : InRange e = in_range e d g.settings in
    let own : e.own / 2 ^ 24 ≤ 223 = i.own.1 in
    let port : e.port ≤ 65535 = i.port.1 in
    let mtu : e.mtu ≤ 1600 = i.mtu.1 in
    let np : e.peer_count ≤ 8 = g.peers in
    let nb : e.binding_count ≤ 64 = g.bindings in
    subst AllFit (sym (config_is e))
    (record {
      number = omega arith;
      own_fits = omega arith;
      port_fits = omega arith;
      mtu_fits = omega arith;
      peers_fit = omega arith;
      bindings_fit = omega arith;
      address_fits = λ j l. let h : get_or e.addresses j 0 / 2 ^ 24 ≤ 223 = (g.address j (omega arith)).1 in omega arith;
      peer_fits = λ j l. let h : get_or e.owners j 0 < e.peer_count = g.owner j (omega arith) in omega arith;
      kind_fits = λ j l. kind_fits (get_or e.kinds j 0) (get_or e.networks j 0) (g.id j (omega arith));
      id_fits = λ j l. w.networks_fit j;
      tenant_fits = λ j l. let h : get_or e.tenants j 0 ≤ 65535 = g.tenant j (omega arith) in omega arith;
    })

pub done_code : load_code (Ok tt) ≡ 0
unfolding load_code
done_code = refl

-- the endpoint with every slot free
abbrev pub freed : Endpoint → Endpoint
freed e = with_rows e (replicate most_peers free_row)

pub reached_loads : (e : Endpoint) → Reached e → e.port ≢ 0 → load_of (image_of (config_of e)) ≡ record { endpoint = freed e; answer = Ok tt }
reached_loads e r d = loads_again (config_of e) (freed e) (reached_fits e r d) (reached_again e r d)

-- ---- loaded: a set-up, and saved again the same bytes

-- what a load that is accepted read
pub record Read (s : List ℕ) (e : Endpoint) : Type 0 where
  pub frame : Framed version1 s
  pub blank : Endpoint
  pub mid : Endpoint
  pub started : Started (field s 5 4) (field s 9 2) (field s 11 2) blank
  pub peers : relisted (peer_call s) (peers_in version1 s) blank ≡ some mid
  pub bindings : relisted (binding_call s (bindings_at version1 s)) (bindings_in version1 s) mid ≡ some e

nothing : {C : Type 0} {x : Endpoint} → ◌≡◌ {A = Option Endpoint} none (some x) → C
nothing q = clash (cc)

step : (o : Option Endpoint) (next : Endpoint → Option Endpoint) (e : Endpoint) → and_then o next ≡ some e → (x : Endpoint) × ((o ≡ some x) × (next x ≡ some e))
unfolding and_then
step none next e h = nothing h
step (some x) next e h = (x, (refl, h))

pub read_of : (s : List ℕ) (e : Endpoint) → framed version1 s ≡ true → rebuilt version1 s ≡ some e → Read s e
unfolding rebuilt listed_in
read_of s e f h =
    let one = step _ _ e h in
    let two = step _ _ e one.1.1 in
    record {
      frame = framed_is version1 s f;
      blank = one.0;
      mid = two.0;
      started = started_is (field s 5 4) (field s 9 2) (field s 11 2) one.0 one.1.0;
      peers = two.1.0;
      bindings = two.1.1;
    }

bad_code : {C : Type 0} → load_code bad_image.answer ≡ 0 → C
unfolding bad_image load_code
bad_code h = absurd (omega arith)

-- accepted: it was read, and this is given
pub record Accepted (s : List ℕ) : Type 0 where
  pub e : Endpoint
  pub read : Read s e
  pub is : load_of s ≡ record { endpoint = e; answer = Ok tt }

pub accepted : (s : List ℕ) → load_code (load_of s).answer ≡ 0 → Accepted s
unfolding load_of loaded_of
accepted s h =
    case_b (framed version1 s)
    (λ f. case_o (rebuilt version1 s)
    (λ q. bad_code (sym (ap (λ (b : Bool). load_code (pick b (loaded_of (rebuilt version1 s)) bad_image).answer) f
    ∙ ap (λ (o : Option Endpoint). load_code (loaded_of o).answer) q) ∙ h))
    (λ e q. record {
      e = e;
      read = read_of s e f q;
      is = ap (λ (b : Bool). pick b (loaded_of (rebuilt version1 s)) bad_image) f ∙ ap loaded_of q;
    }))
    (λ f. bad_code (sym (ap (λ (b : Bool). load_code (pick b (loaded_of (rebuilt version1 s)) bad_image).answer) f) ∙ h))

-- peers alone list no binding
pub still_none : (address : ℕ → ℕ) (n : ℕ) (x y : Endpoint) → WithPeers address n x y → NoBindings x → NoBindings y
still_none address n x y w h = record {
  count = w.bindings ∙ h.count;
  networks_size = ap length w.networks ∙ h.networks_size;
  kinds_size = ap length w.kinds ∙ h.kinds_size;
  owners_size = ap length w.owners ∙ h.owners_size;
  tenants_size = ap length w.tenants ∙ h.tenants_size;
}

module _ (s : List ℕ) (b : Bytes s) (e : Endpoint) (r : Read s e) where
  pub with_all-peers : WithPeers (λ i. field s (14 + i * 4) 4) (peers_in version1 s) r.blank r.mid
  unfolding peer_call
  with_all-peers =
      with_peers_lem (λ i. field s (14 + i * 4) 4) r.blank r.started.no_peers r.started.addresses_size (peers_in version1 s) r.mid r.peers

  none-bound : NoBindings r.mid
  none-bound = still_none (λ i. field s (14 + i * 4) 4) (peers_in version1 s) r.blank r.mid with_all-peers r.started.no_bindings

  abbrev at : ℕ → ℕ
  at i = bindings_at version1 s + i * 12

  pub with_all-bindings : WithBindings (λ i. field s (at i) 1) (λ i. field s (at i + 1) 1) (λ i. field s (at i + 2) 8) (λ i. field s (at i + 10) 2)
      (bindings_in version1 s) r.mid e
  unfolding binding_call
  with_all-bindings =
      with_bindings_lem (λ i. field s (at i) 1) (λ i. field s (at i + 1) 1) (λ i. field s (at i + 2) 8) (λ i. field s (at i + 10) 2)
      r.mid none-bound (bindings_in version1 s) e r.bindings

  -- every network has eight bytes
  peer_typed : (i : ℕ) → Typed (add (peer_call s i))
  unfolding peer_call
  peer_typed i = tt

  binding_typed : (i : ℕ) → Typed (add (binding_call s (bindings_at version1 s) i))
  unfolding binding_call
  binding_typed i = field_lt s b (at i + 2) 8

  all_adds : Adds r.blank e
  all_adds =
      then_adds r.blank r.mid e (relisted_adds (peer_call s) (peers_in version1 s) r.blank r.mid peer_typed r.peers)
      (relisted_adds (binding_call s (bindings_at version1 s)) (bindings_in version1 s) r.mid e binding_typed r.bindings)

  peers_are : table (min e.peer_count most_peers) (λ i. get_or e.addresses i 0) ≡ table (peers_in version1 s) (λ i. field s (14 + i * 4) 4)
  peers_are =
      let p = with_all-peers in
      let q = with_all-bindings in
      let count : e.peer_count ≡ peers_in version1 s = q.peers ∙ p.count in
      let few : peers_in version1 s ≤ most_peers = p.most in
      ap (λ (n : ℕ). table n (λ i. get_or e.addresses i 0)) {x = min e.peer_count most_peers} {y = peers_in version1 s} (omega arith)
      ∙ table_ext (peers_in version1 s) (λ i. get_or e.addresses i 0) (λ i. field s (14 + i * 4) 4)
      (λ i l. ap (λ (x : List ℕ). get_or x i 0) q.addresses ∙ p.addresses i l)

  bindings_are : table (min e.binding_count most_bindings)
      (λ i. record { peer = get_or e.owners i 0; kind = get_or e.kinds i 0; id = get_or e.networks i 0; tenant = get_or e.tenants i 0 })
      ≡ table (bindings_in version1 s) (λ i. binding_read s (at i))
  unfolding binding_read
  bindings_are =
      let q = with_all-bindings in
      let count : e.binding_count ≡ bindings_in version1 s = q.count in
      let few : bindings_in version1 s ≤ most_bindings = q.most in
      let of : (ℕ → Binding) =
      λ i. record { peer = get_or e.owners i 0; kind = get_or e.kinds i 0; id = get_or e.networks i 0; tenant = get_or e.tenants i 0 } in
      ap (λ (n : ℕ). table n of) {x = min e.binding_count most_bindings} {y = bindings_in version1 s} (omega arith)
      ∙ table_ext (bindings_in version1 s) of (λ i. binding_read s (at i))
      (λ i l. rw (q.owners i l, q.kinds i l, q.networks i l, q.tenants i l) refl)

  contents_are : contents_of (config_of e) ≡ contents_read version1 s
  unfolding contents_of contents_read binding_at
  contents_are =
      let p = with_all-peers in
      let q = with_all-bindings in
      let own : e.own ≡ field s 5 4 = q.own ∙ p.own ∙ r.started.own_is in
      let port : e.port ≡ field s 9 2 = q.port ∙ p.port ∙ r.started.port_is in
      let mtu : e.mtu ≡ field s 11 2 = q.mtu ∙ p.mtu ∙ r.started.mtu_is in
      ap contents_of (config_is e) ∙ rw (own, port, mtu, peers_are, bindings_are) refl

  same_bytes : image_of (config_of e) ≡ s
  unfolding image_of
  same_bytes = ap (image version1) contents_are ∙ bytes_back version1 s b r.frame

  set_up_is : set_up (field s 5 4) (field s 9 2) (field s 11 2) all_adds.adds ≡ e
  set_up_is = set_up_of (field s 5 4) (field s 9 2) (field s 11 2) r.blank e r.started all_adds

  pub loaded_configured : Configured e
  loaded_configured = subst Configured set_up_is (set_up_configured (field s 5 4) (field s 9 2) (field s 11 2) all_adds.adds)

  pub loaded_in_range : InRange e
  loaded_in_range =
      let good = good_port (field s 5 4) (field s 9 2) (field s 11 2) all_adds.adds
      (started_code (field s 5 4) (field s 9 2) (field s 11 2) r.blank r.started) in
      in_range e (λ z. good (ap (λ (x : Endpoint). x.port) set_up_is ∙ z)) loaded_configured.settings

  pub saved_from : SavedFrom s
  saved_from =
      let a = all_adds in
      record {
        own = field s 5 4;
        port = field s 9 2;
        mtu = field s 11 2;
        adds = a.adds;
        typed = a.typed;
        started = started_code (field s 5 4) (field s 9 2) (field s 11 2) r.blank r.started;
        is = ap (λ (x : Endpoint). image_of (config_of x)) set_up_is ∙ same_bytes;
      }
