-- Demand 1 holds (Demand1.antt), of every call but a receive (Demand1Receive).
use Rattle.std.specs.Prelude.{ℕ, ◌+◌, ◌-◌, ◌≤◌, ◌≡◌, ◌≢◌, true, List, [], ◌∷◌, ◌++◌, length, get_or, set, drop, Ok}
use Rattle.std.proofs.Math.Path.{refl}
use Rattle.std.proofs.Common.{sym, ap, ◌∙◌, arith, ltb-false, length-set, get_or-set_same, get_or-set_other, get_or-append-add, get_or-drop}
use Rattle.wire.proofs.Laws.Checks.{cases, by_each}
use Rattle.wire.specs.Bytes.{wrote}
use Rattle.wire.proofs.Laws.Bytes.{wrote-length}
use Rattle.wire.proofs.Laws.WriteIs.{wrote_is}
use Rattle.reassembly.specs.Slots.{free, no_row, older}
use Rattle.reassembly.proofs.Laws.Runs.{older-at, rows-older}
use Rattle.reassembly.proofs.Laws.TakeTouch.{older-free, older_younger, older_gone}
use Rattle.reassembly.specs.declared.slot.Peer.{Peer}
use Rattle.reassembly.specs.declared.slot.Slot.{Slot}
use Rattle.endpoint.specs.Answer.{config_code, AddedValues, tick_code, wrap_refusal_code, wrap_values_of, start_code}
use Rattle.endpoint.specs.Config.{fresh, start_checks, refused_start, start_of, refused_add, add_peer_checks, with_address, add_peer_of}
use Rattle.endpoint.specs.Config.{add_binding_checks, with_binding, add_binding_of, tick_of}
use Rattle.endpoint.proofs.Laws.Config.{rows-tick}
use Rattle.endpoint.proofs.Laws.ConfigExits.{peer_added, binding_added}
use Rattle.endpoint.specs.Wrap.{Wrote, wrap_checks, refused_wrap, wrap_of, packet_at}
use Rattle.endpoint.specs.declared.answer.ConfigRefusal.{ConfigRefusal}
use Rattle.endpoint.specs.declared.answer.ConfigRefusal.TheVariants as C
use Rattle.endpoint.specs.declared.answer.WrapRefusal.{WrapRefusal}
use Rattle.endpoint.specs.declared.answer.WrapRefusal.TheVariants as X
use Rattle.endpoint.specs.declared.config.Endpoint.{Endpoint}
use Rattle.endpoint.specs.Demand1.{◌among◌, slot_at, Entered, SameConfiguration, Blank, StartRule, PeerAdded, BindingAdded, AddRule}
use Rattle.endpoint.specs.Demand1.{TickRule, WrapRule}
use Rattle.endpoint.proofs.Laws.Answer.{tick_code_lem}

-- ---- start. Each of its checks refuses by 18

pub blank : (own port mtu : ℕ) → Blank own port mtu (fresh own port mtu)
unfolding fresh
blank own port mtu = record {
  own_is = refl;
  port_is = refl;
  mtu_is = refl;
  no_peer = refl;
  no_binding = refl;
  addresses = refl;
  owners = refl;
  kinds = refl;
  networks = refl;
  tenants = refl;
  slots = refl;
}

pub start_rule : (own port mtu : ℕ) → StartRule own port mtu (start_of own port mtu)
unfolding start_of start_checks start_code
start_rule own port mtu =
    let out : StartRule own port mtu (refused_start C.OutOfRange) = record { number = refl; done = λ e. absurd (omega arith); refused = λ e. blank 0 0 0 } in
    by_each (StartRule own port mtu) refused_start (start_checks own port mtu) (record { endpoint = fresh own port mtu; answer = Ok tt })
    (out, (out, (out, (out, (out, (out, tt))))))
    (record { number = refl; done = λ e. blank own port mtu; refused = λ d. absurd (d refl) })

-- ---- adding

entered : (n x : ℕ) (l : List ℕ) → Entered n x l (set l n x)
entered n x l = record { size = length-set l n x; new = λ h. get_or-set_same l n x 0 h; others = λ i d. get_or-set_other l n i x 0 d }

config_among : (r : ConfigRefusal) → config_code r among (0 ∷ 18 ∷ 19 ∷ 20 ∷ []) ≡ true
config_among C.OutOfRange = refl
config_among C.AlreadyListed = refl
config_among C.Full = refl

config_some : (r : ConfigRefusal) → config_code r ≢ 0
config_some C.OutOfRange e = omega arith
config_some C.AlreadyListed e = omega arith
config_some C.Full e = omega arith

add_refused : (e : Endpoint) (Added : AddedValues → Endpoint → Type 0) (r : ConfigRefusal) → AddRule e Added (refused_add e r)
add_refused e Added r = record { number = config_among r; done = λ z. absurd (config_some r z); refused = λ d. (refl, refl) }

peer-added : (e : Endpoint) (address : ℕ) → AddRule e (PeerAdded e address) (peer_added e address)
unfolding with_address
peer-added e address = record {
  number = refl;
  done = λ z. record {
    entry = refl;
    count = refl;
    addresses = entered e.peer_count address e.addresses;
    settings = record { own = refl; port = refl; mtu = refl };
    bindings = record { count = refl; owners = refl; kinds = refl; networks = refl; tenants = refl };
    slots = refl;
  };
  refused = λ d. absurd (d refl);
}

pub add-peer_rule : (e : Endpoint) (address : ℕ) → AddRule e (PeerAdded e address) (add_peer_of e address)
unfolding add_peer_of
add-peer_rule e address =
    cases (AddRule e (PeerAdded e address)) (refused_add e) (add_peer_checks e address) (peer_added e address)
    (add_refused e (PeerAdded e address)) (λ p. peer-added e address)

module _ (e : Endpoint) (peer kind network tenant : ℕ) where
  binding_added_lem : AddRule e (BindingAdded e peer kind network tenant) (binding_added e peer kind network tenant)
  unfolding with_binding
  binding_added_lem = record {
    number = refl;
    done = λ z. record {
      entry = refl;
      count = refl;
      owners = entered e.binding_count peer e.owners;
      kinds = entered e.binding_count kind e.kinds;
      networks = entered e.binding_count network e.networks;
      tenants = entered e.binding_count tenant e.tenants;
      settings = record { own = refl; port = refl; mtu = refl };
      peers = record { count = refl; addresses = refl };
      slots = refl;
    };
    refused = λ d. absurd (d refl);
  }

  pub add_binding_rule : AddRule e (BindingAdded e peer kind network tenant) (add_binding_of e peer kind network tenant)
  unfolding add_binding_of
  add_binding_rule =
      cases (AddRule e (BindingAdded e peer kind network tenant)) (refused_add e) (add_binding_checks e peer kind network tenant)
      (binding_added e peer kind network tenant)
      (add_refused e (BindingAdded e peer kind network tenant)) (λ p. binding_added_lem)

-- ---- a tick

slot-older : (e : Endpoint) (p s : ℕ) → slot_at (tick_of e).endpoint p s ≡ older (slot_at e p s)
slot-older e p s =
    ap (λ (l : List Peer). get_or (get_or l p no_row).slots s free) (rows-tick e)
    ∙ ap (λ (l : List Slot). get_or l s free) (rows-older e.peers p)
    ∙ older-at (get_or e.peers p no_row).slots s

tick-same : (e : Endpoint) → SameConfiguration e (tick_of e).endpoint
unfolding tick_of
tick-same e = record {
  settings = record { own = refl; port = refl; mtu = refl };
  peers = record { count = refl; addresses = refl };
  bindings = record { count = refl; owners = refl; kinds = refl; networks = refl; tenants = refl };
}

pub tick_rule : (e : Endpoint) → TickRule e (tick_code (tick_of e).answer) (tick_of e).endpoint
tick_rule e = record {
  is = tick_code_lem (tick_of e).answer;
  younger = λ p s a l. slot-older e p s ∙ older_younger (slot_at e p s) a l;
  given_up = λ p s a l. ap (λ (v : Slot). v.pending) (slot-older e p s ∙ older_gone (slot_at e p s) a l);
  idle = λ p s a. slot-older e p s ∙ older-free (slot_at e p s) a;
  configuration = tick-same e;
}

-- ---- wrap

wrap_among : (r : WrapRefusal) → wrap_refusal_code r among (0 ∷ 13 ∷ 21 ∷ 22 ∷ 23 ∷ []) ≡ true
wrap_among X.NoBinding = refl
wrap_among X.BadFrame = refl
wrap_among X.ExceedsMtu = refl
wrap_among X.NoSegment = refl
wrap_among X.OutputTooShort = refl

pub wrote_beyond : (output a : List ℕ) (i : ℕ) → length a ≤ i → get_or (wrote output a) i 0 ≡ get_or output i 0
wrote_beyond output a i l =
    let n : length a + (i - length a) ≡ i = omega arith in
    ap (λ (x : List ℕ). get_or x i 0) (wrote_is output a)
    ∙ ap (λ (j : ℕ). get_or (a ++ drop (length a) output) j 0) (sym n)
    ∙ get_or-append-add a (drop (length a) output) (i - length a) 0
    ∙ get_or-drop (length a) output (i - length a) 0
    ∙ ap (λ (j : ℕ). get_or output j 0) n

module _ (e : Endpoint) (b : ℕ) (frame : List ℕ) (segment identifier : ℕ) (output : List ℕ) where
  abbrev Ruled : Wrote → Type 0
  Ruled w = WrapRule output (wrap_values_of w.answer) w.output

  wrap_refused : (r : WrapRefusal) → Ruled (refused_wrap output r)
  unfolding wrap_values_of
  wrap_refused r = record { number = wrap_among r; refused = λ d. (refl, (refl, refl)); size = refl; beyond = λ i l. refl }

  pub wrap_rule : WrapRule output (wrap_values_of (wrap_of e b frame segment identifier output).answer) (wrap_of e b frame segment identifier output).output
  unfolding wrap_of wrap_checks wrap_values_of
  wrap_rule =
      cases Ruled (refused_wrap output) (wrap_checks e b frame segment identifier output) _ wrap_refused
      (λ p. record {
        number = refl;
        refused = λ d. absurd (d refl);
        size =
            wrote-length output (packet_at e b frame segment identifier)
            (ltb-false (length output) (length (packet_at e b frame segment identifier)) p.1.1.1.1.1.0);
        beyond = wrote_beyond output (packet_at e b frame segment identifier);
      })
