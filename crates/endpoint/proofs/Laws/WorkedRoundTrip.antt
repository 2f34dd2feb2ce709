-- The round trip is not empty: every good frame that the MTU lets through is wrapped, its segments have an order, and two set-ups match on a binding of
-- each kind, so between them every such frame makes the trip. At an MTU of 576 a frame of 1,514 bytes on the STT network makes it in three segments, the
-- last first and the second last: the answers are 1, 1 and 0.
use Rattle.std.specs.Prelude.{ℕ, zero, suc, ◌+◌, ◌-◌, ◌^◌, ◌<◌, ◌≤◌, ◌≡◌, refl, ◌⊎◌, false, cond, List, [], ◌∷◌, map, length, get_or, take, replicate, ltb, eqb}
use Rattle.std.specs.Prelude.{Ok}
use Rattle.std.proofs.Common.{sym, ap, subst, ◌∙◌, inl, inr, arith, le_refl, ne_eqb, ltb-true, ltb-false, eqb-true, lt-ltb, le-ltb}
use Rattle.std.proofs.lemmas.Bool.{eqb-false}
use Rattle.std.proofs.lemmas.List.{length-replicate}
use Rattle.wire.specs.Checks.{first}
use Rattle.wire.specs.Bytes.{Bytes, be_at}
use Rattle.wire.proofs.Laws.Bytes.{be-two}
use Rattle.wire.specs.Frame.{IsFrame}
use Rattle.wire.proofs.Laws.WriteIs.{wrote_front}
use Rattle.reassembly.proofs.Laws.Base.{case_b}
use Rattle.endpoint.specs.Search.{from, lowest}
use Rattle.endpoint.specs.Config.{config_of, has_address, find_peer, binds, find_binding, fresh, start_checks, start_of, add_peer_checks, with_address}
use Rattle.endpoint.specs.Config.{add_peer_of}
use Rattle.endpoint.specs.Config.{is_network, add_binding_checks, with_binding, add_binding_of, Adding, add_peer, add_binding, added, added_all, set_up}
use Rattle.endpoint.specs.Config.{address_at}
use Rattle.endpoint.specs.Wrap.{segments_of, exceeds, kind_at, network_at, owner_at, peer_at, packet_at, wrap_of}
use Rattle.endpoint.proofs.Laws.Wrap.{written_facts, written_when, ready-listed}
use Rattle.endpoint.specs.Reached.{add, left_by, Reached}
use Rattle.endpoint.proofs.Laws.Reached.{reached_ready}
use Rattle.endpoint.specs.RoundTrip.{segments_for, Wraps, Matches, times_in, Order, arrivals, RoundTrip}
use Rattle.endpoint.proofs.Laws.RoundTrip.{round_trip}
use Rattle.endpoint.specs.Receive.{step_of}
use Rattle.endpoint.specs.Run.{Left, left}
use Rattle.endpoint.specs.Demand2.{Delivers}
use Rattle.endpoint.specs.declared.answer.Received.TheVariants as R
use Rattle.endpoint.specs.declared.answer.Packet.{Packet}
use Rattle.endpoint.specs.declared.config.Endpoint.{Endpoint}

-- ---- a good frame is wrapped

module _ (e : Endpoint) (b : ℕ) (frame : List ℕ) (identifier : ℕ) (reached : Reached e) (listed : b < (config_of e).bindings) (good : IsFrame frame)
    (short : exceeds (kind_at e b) (length frame) e.mtu ≡ false) where
  abbrev packets : ℕ → List ℕ
  packets k = packet_at e b frame k identifier

  abbrev answer : ℕ → Packet
  answer k = record { length = length (packets k); segments = segments_for e b frame }

  written : (k : ℕ) → k < segments_for e b frame → (wrap_of e b frame k identifier (packets k)).answer ≡ Ok (answer k)
  written k h =
      written_when e b frame k identifier (packets k) listed (ready-listed e b (reached_ready e reached) listed).owner_below good short h
      (le_refl (length (packets k)))

  -- into outputs that are just large enough
  pub wrapped : Wraps e b frame identifier packets
  wrapped = record {
    output = packets;
    answer = answer;
    written = written;
    is = λ k h.
        sym (ap (take (length (packets k))) (written_facts e b frame k identifier (packets k) (answer k) (written k h)).output_is
        ∙ wrote_front (packets k) (packets k));
  }

-- ---- segments have an order: the last first

unfoldable pub down_from : ℕ → List ℕ
down_from zero = []
down_from (suc n) = n ∷ down_from n

pub ordered : (count : ℕ) → Order count (down_from count)
unfolding times_in down_from
ordered count = record { once = once count }
  where
    once : (n k : ℕ) → times_in k (down_from n) ≡ cond (ltb k n) 1 0
    once zero k = rw (le-ltb k 0 (omega arith))
    once (suc n) k =
        case_b (eqb n k)
        (λ q. rw (q, lt-ltb k (suc n) (omega (arith, eqb-true n k q))) (ap (λ (x : ℕ). 1 + x) (once n k) ∙ rw (le-ltb k n (omega (arith, eqb-true n k q)))))
        (λ q.
        case_b (ltb k n)
        (λ r. rw (q, lt-ltb k (suc n) (omega (arith, ltb-true k n r))) (ap (λ (x : ℕ). 0 + x) (once n k) ∙ rw r))
        (λ r. rw (q, le-ltb k (suc n) (omega (arith, ltb-false k n r, eqb-false n k q))) (ap (λ (x : ℕ). 0 + x) (once n k) ∙ rw r)))

-- ---- two set-ups: 10.0.0.1 and 10.0.0.2, STT port 7471, with VXLAN network 22, NVGRE network 4,096 and an STT network, listed in different orders

abbrev pub sender_adds : List Adding
sender_adds = add_peer 167772162 ∷ add_binding 0 1 22 7 ∷ add_binding 0 2 4096 7 ∷ add_binding 0 3 72623859790382856 8 ∷ []

abbrev pub sender : Endpoint
sender = set_up 167772161 7471 576 sender_adds

abbrev pub receiver_adds : List Adding
receiver_adds = add_peer 167772163 ∷ add_peer 167772161 ∷ add_binding 1 3 72623859790382856 4 ∷ add_binding 1 2 4096 5 ∷ add_binding 1 1 22 6 ∷ []

abbrev pub receiver : Endpoint
receiver = set_up 167772162 7471 576 receiver_adds

reached : Reached sender
unfolding left_by added_all set_up
reached = record {
  own = 167772161;
  port = 7471;
  mtu = 576;
  calls = map add sender_adds;
  typed = (tt, (omega arith, (omega arith, (omega arith, tt))));
  is = refl;
}

-- what an endpoint holds of binding b and of peer p
abbrev held : Endpoint → (b p : ℕ) → List ℕ
held e b p = e.own ∷ e.port ∷ e.mtu ∷ e.peer_count ∷ e.binding_count ∷ address_at e p ∷ owner_at e b ∷ kind_at e b ∷ network_at e b ∷ []

sends-vxlan : held sender 0 0 ≡ 167772161 ∷ 7471 ∷ 576 ∷ 1 ∷ 3 ∷ 167772162 ∷ 0 ∷ 1 ∷ 22 ∷ []
unfolding first address_at config_of from lowest has_address find_peer binds find_binding fresh start_checks start_of add_peer_checks with_address add_peer_of is_network
    add_binding_checks with_binding add_binding_of added added_all set_up
sends-vxlan = refl

takes-vxlan : held receiver 2 1 ≡ 167772162 ∷ 7471 ∷ 576 ∷ 2 ∷ 3 ∷ 167772161 ∷ 1 ∷ 1 ∷ 22 ∷ []
unfolding first address_at config_of from lowest has_address find_peer binds find_binding fresh start_checks start_of add_peer_checks with_address add_peer_of is_network
    add_binding_checks with_binding add_binding_of added added_all set_up
takes-vxlan = refl

sends-nvgre : held sender 1 0 ≡ 167772161 ∷ 7471 ∷ 576 ∷ 1 ∷ 3 ∷ 167772162 ∷ 0 ∷ 2 ∷ 4096 ∷ []
unfolding first address_at config_of from lowest has_address find_peer binds find_binding fresh start_checks start_of add_peer_checks with_address add_peer_of is_network
    add_binding_checks with_binding add_binding_of added added_all set_up
sends-nvgre = refl

takes-nvgre : held receiver 1 1 ≡ 167772162 ∷ 7471 ∷ 576 ∷ 2 ∷ 3 ∷ 167772161 ∷ 1 ∷ 2 ∷ 4096 ∷ []
unfolding first address_at config_of from lowest has_address find_peer binds find_binding fresh start_checks start_of add_peer_checks with_address add_peer_of is_network
    add_binding_checks with_binding add_binding_of added added_all set_up
takes-nvgre = refl

sends-stt : held sender 2 0 ≡ 167772161 ∷ 7471 ∷ 576 ∷ 1 ∷ 3 ∷ 167772162 ∷ 0 ∷ 3 ∷ 72623859790382856 ∷ []
unfolding first address_at config_of from lowest has_address find_peer binds find_binding fresh start_checks start_of add_peer_checks with_address add_peer_of is_network
    add_binding_checks with_binding add_binding_of added added_all set_up
sends-stt = refl

takes-stt : held receiver 0 1 ≡ 167772162 ∷ 7471 ∷ 576 ∷ 2 ∷ 3 ∷ 167772161 ∷ 1 ∷ 3 ∷ 72623859790382856 ∷ []
unfolding first address_at config_of from lowest has_address find_peer binds find_binding fresh start_checks start_of add_peer_checks with_address add_peer_of is_network
    add_binding_checks with_binding add_binding_of added added_all set_up
takes-stt = refl

owner_address : (e : Endpoint) (b : ℕ) → peer_at e b ≡ address_at e (owner_at e b)
unfolding address_at config_of
owner_address e b = refl

bindings_of_lem : (e : Endpoint) (b : ℕ) → e.binding_count ≡ 3 → b < 3 → b < (config_of e).bindings
unfolding config_of
bindings_of_lem e b q h = omega arith

-- what an MTU of 576 lets through: 540 bytes by VXLAN and NVGRE; by STT any good frame
let_through : (kind size : ℕ) → (kind ≡ 3) ⊎ (size ≤ 540) → exceeds kind size 576 ≡ false
unfolding exceeds
let_through kind size (inl q) = rw q
let_through kind size (inr h) =
    case_b (eqb kind 1)
    (λ q. rw (q, le-ltb 576 (36 + size) (omega arith)))
    (λ q. case_b (eqb kind 2) (λ r. rw (q, r, le-ltb 576 (28 + size) (omega arith))) (λ r. rw (q, r)))

matched : (b b' kind network : ℕ) → b' < 3
    → held sender b 0 ≡ 167772161 ∷ 7471 ∷ 576 ∷ 1 ∷ 3 ∷ 167772162 ∷ 0 ∷ kind ∷ network ∷ []
    → held receiver b' 1 ≡ 167772162 ∷ 7471 ∷ 576 ∷ 2 ∷ 3 ∷ 167772161 ∷ 1 ∷ kind ∷ network ∷ [] → Matches sender b receiver b'
matched b b' kind network h s r =
    let owner : owner_at sender b ≡ 0 = cc (s) in
    let zeroth : address_at sender 0 ≡ 167772162 = cc (s) in
    let address : peer_at sender b ≡ 167772162 = owner_address sender b ∙ ap (address_at sender) owner ∙ zeroth in
    let peers : receiver.peer_count ≡ 2 = cc (r) in
    let bindings : receiver.binding_count ≡ 3 = cc (r) in
    record {
      own = 167772162;
      stt_port = 7471;
      mtu = 576;
      adds = receiver_adds;
      set_up_from = refl;
      own_is = cc;
      port_is = cc;
      peer = 1;
      peer_listed = omega arith;
      peer_is = cc;
      binding_listed = omega arith;
      owner_is = cc;
      kind_is = cc;
      network_is = cc;
    }

-- ---- THE THEOREM

trip : (b b' kind network : ℕ) → b < 3 → b' < 3
    → held sender b 0 ≡ 167772161 ∷ 7471 ∷ 576 ∷ 1 ∷ 3 ∷ 167772162 ∷ 0 ∷ kind ∷ network ∷ []
    → held receiver b' 1 ≡ 167772162 ∷ 7471 ∷ 576 ∷ 2 ∷ 3 ∷ 167772161 ∷ 1 ∷ kind ∷ network ∷ []
    → (frame : List ℕ) → IsFrame frame → Bytes frame → (kind ≡ 3) ⊎ (length frame ≤ 540) → (identifier : ℕ) → identifier < 256 ^ 4
    → RoundTrip frame (segments_for sender b frame) (λ k. packet_at sender b frame k identifier) receiver b'
trip b b' kind network h h' s r frame good bytes size identifier fits =
    let bindings : sender.binding_count ≡ 3 = cc (s) in
    let mtu : sender.mtu ≡ 576 = cc (s) in
    let its-kind : kind_at sender b ≡ kind = cc (s) in
    let listed : b < (config_of sender).bindings = bindings_of_lem sender b bindings h in
    let short : exceeds (kind_at sender b) (length frame) sender.mtu ≡ false = ap (exceeds (kind_at sender b) (length frame)) mtu
    ∙ ap (λ (x : ℕ). exceeds x (length frame) 576) its-kind ∙ let_through kind (length frame) size in
    round_trip sender b frame identifier (λ k. packet_at sender b frame k identifier) receiver b' reached listed bytes fits
    (wrapped sender b frame identifier reached listed good short) (matched b b' kind network h' s r)

pub possible : (b : ℕ) → b < 3 → (frame : List ℕ) → IsFrame frame → Bytes frame → (b < 2 → length frame ≤ 540) → (identifier : ℕ) → identifier < 256 ^ 4
    → RoundTrip frame (segments_for sender b frame) (λ k. packet_at sender b frame k identifier) receiver (2 - b)
possible zero h frame good bytes size = trip 0 2 1 22 (omega arith) (omega arith) sends-vxlan takes-vxlan frame good bytes (inr (size (omega arith)))
possible (suc zero) h frame good bytes size = trip 1 1 2 4096 (omega arith) (omega arith) sends-nvgre takes-nvgre frame good bytes (inr (size (omega arith)))
possible (suc (suc zero)) h frame good bytes size = trip 2 0 3 72623859790382856 (omega arith) (omega arith) sends-stt takes-stt frame good bytes (inl refl)
possible (suc (suc (suc b))) h frame good bytes size = absurd (omega arith)

-- ---- three segments, out of order

three : (frame : List ℕ) → length frame ≡ 1514 → segments_for sender 2 frame ≡ 3
unfolding segments_of
three frame n =
    let kind : kind_at sender 2 ≡ 3 = cc (sends-stt) in
    let mtu : sender.mtu ≡ 576 = cc (sends-stt) in
    rw (kind, mtu, n)

out_of_order : Order 3 (2 ∷ 0 ∷ 1 ∷ [])
unfolding times_in
out_of_order = record { once = once }
  where
    once : (k : ℕ) → times_in k (2 ∷ 0 ∷ 1 ∷ []) ≡ cond (ltb k 3) 1 0
    once zero = refl
    once (suc zero) = refl
    once (suc (suc zero)) = refl
    once (suc (suc (suc k))) =
        rw (
          ne_eqb 2 (suc (suc (suc k))) (λ q. absurd (omega arith)),
          ne_eqb 0 (suc (suc (suc k))) (λ q. absurd (omega arith)),
          ne_eqb 1 (suc (suc (suc k))) (λ q. absurd (omega arith)),
          le-ltb (suc (suc (suc k))) 3 (omega arith),
        )

-- a frame of 1,514 bytes
abbrev pub longest : List ℕ
longest = replicate 1514 0

zero-at : (n i : ℕ) → ◌≡◌ {A = ℕ} (get_or (replicate n 0) i 0) 0
zero-at zero i = refl
zero-at (suc n) zero = refl
zero-at (suc n) (suc i) = zero-at n i

longest-size : length longest ≡ 1514
longest-size = length-replicate {A = ℕ} 1514 0

longest-good : IsFrame longest
longest-good =
    let tag : be_at longest 12 2 ≡ 0 = be-two longest 12 ∙ omega (arith, zero-at 1514 12, zero-at 1514 13) in
    record {
      least = omega (arith, longest-size);
      most = omega (arith, longest-size);
      no_tag = λ q. absurd (omega arith);
      no_service_tag = λ q. absurd (omega arith);
    }

-- the tenant that the receiver has for it
tenant_is : get_or receiver.tenants 0 0 ≡ 4
unfolding first config_of from lowest has_address find_peer binds find_binding fresh start_checks start_of add_peer_checks with_address add_peer_of is_network
    add_binding_checks with_binding add_binding_of added added_all set_up
tenant_is = refl

module _ (m : List ℕ) (enough : 55296 ≤ length m) (identifier : ℕ) (fits : identifier < 256 ^ 4) where
  abbrev pub segment : ℕ → List ℕ
  segment k = packet_at sender 2 longest k identifier

  -- what the receiver has after these segments
  abbrev pub after : List ℕ → Left
  after order = left receiver m (arrivals segment order)

  -- the third segment, then the first, then the second: 1, 1, and the frame is delivered
  pub record InThree : Type 0 where
    pub count : segments_for sender 2 longest ≡ 3
    pub third : (step_of receiver m (segment 2)).answer ≡ Ok R.Pending
    pub first : (step_of (after (2 ∷ [])).endpoint (after (2 ∷ [])).mem (segment 0)).answer ≡ Ok R.Pending
    pub second : Delivers (after (2 ∷ 0 ∷ [])).endpoint (after (2 ∷ 0 ∷ [])).mem (segment 1) (record { tenant = 4; binding = 0 }) longest

  pub in_three : InThree
  in_three =
      let n : segments_for sender 2 longest ≡ 3 = three longest longest-size in
      let zeros : Bytes longest = λ i. omega (arith, zero-at 1514 i) in
      let round : RoundTrip longest 3 segment receiver 0 =
      subst (λ (c : ℕ). RoundTrip longest c segment receiver 0) n
      (possible 2 (omega arith) longest longest-good zeros (λ h. absurd (omega arith)) identifier fits) in
      let answer = round.answered m enough (2 ∷ 0 ∷ 1 ∷ []) out_of_order in
      record {
        count = n;
        third = (answer [] 2 (0 ∷ 1 ∷ []) refl).waits (omega arith);
        first = (answer (2 ∷ []) 0 (1 ∷ []) refl).waits (omega arith);
        second =
            subst (λ (x : ℕ). Delivers (after (2 ∷ 0 ∷ [])).endpoint (after (2 ∷ 0 ∷ [])).mem (segment 1) (record { tenant = x; binding = 0 }) longest)
            tenant_is
            ((answer (2 ∷ 0 ∷ []) 1 [] refl).delivers refl);
      }
