-- Wrapping, as the proofs of the code cite it: exit by exit, the segments' bounds, and what a writer leaves.
use Prim.Native.Nat.{ℕ, suc, ◌+◌, ◌-◌, ◌*◌, ◌/◌, ◌<◌, ◌≤◌, min}
use Rattle.std.specs.Prelude.{◌≡◌, refl, Bool, true, false, cond, ◌||◌, Option, Some, None, length, leb, eqb, Result, Ok, Err}
use Rattle.std.proofs.Common.{ap, sym, ◌∙◌, subst, arith, suc-mul, le-div_iff_mul-le}
use mathlib.Core.List.{List}
use borrow.Author.Tests.{eq-eqb, ne_eqb, lt-ltb, le-ltb, le-leb, lt-leb, leb-true, leb-false}
use Rattle.wire.specs.Bytes.{wrote}
use Rattle.wire.proofs.Laws.Checks.{At, given, decided, choices, tests}
use Rattle.wire.specs.Frame.{frame_of}
use Rattle.wire.specs.Write.{fits, segment_fits, vxlan_packet, nvgre_packet, segment_packet, Written}
use Rattle.wire.proofs.Laws.Write.{fits_met, fits_facts, segment-fits_met, segment-fits_facts, vxlan-length_is, nvgre-length_is, segment-length_is}
use Rattle.wire.specs.declared.refusal.Refusal.{Refusal}
use Rattle.reassembly.proofs.Laws.Base.{case_b, same_test}
use Rattle.endpoint.specs.declared.answer.WrapRefusal.TheVariants as X
use Rattle.endpoint.specs.declared.config.Endpoint.{Endpoint}
use Rattle.endpoint.specs.declared.wrap.Route.{Route}
use Rattle.endpoint.specs.Config.{config_of}
use Rattle.endpoint.specs.Wrap.{packet_on, send_checks, sent, send_of, Put, piece_of}
use Rattle.endpoint.specs.Wrap.{segments_of, low32, packet_of, exceeds, is_bad, kind_at, network_at, owner_at, peer_at, wrap_checks, Wrote, refused_wrap}
use Rattle.endpoint.specs.Wrap.{wrap_of, route_of}
use Rattle.wire.specs.Checks.{pick}
use Rattle.reassembly.specs.Slots.{most_peers}
use Rattle.endpoint.specs.declared.answer.Packet.{Packet}
use Rattle.endpoint.specs.declared.answer.WrapRefusal.{WrapRefusal}

-- ---- checks 13, 22, 23 (segment), 21: what the call comes to once the binding is found

module _ (t : Route) (frame : List ℕ) (segment identifier : ℕ) (output : List ℕ) where
  pub send_exit : (n : ℕ) → At (send_checks t frame segment identifier output) n
      → send_of t frame segment identifier output
      ≡ given (refused_wrap output) (send_checks t frame segment identifier output) (sent t frame segment identifier output) n
  unfolding send_of
  send_exit n p = decided (refused_wrap output) (send_checks t frame segment identifier output) (sent t frame segment identifier output) n p

-- ---- how many segments, and their bounds

module _ (kind size mtu : ℕ) where
  pub segments-vxlan : kind ≡ 1 → 1 ≡ segments_of kind size mtu
  unfolding segments_of
  segments-vxlan k = rw k

  pub segments-nvgre : kind ≡ 2 → 1 ≡ segments_of kind size mtu
  unfolding segments_of
  segments-nvgre k = rw k

  pub segments-none : (kind ≡ 1 → ⊥) → (kind ≡ 2 → ⊥) → mtu ≤ 40 → 0 ≡ segments_of kind size mtu
  unfolding segments_of
  segments-none a b h = rw (ne_eqb kind 1 a, ne_eqb kind 2 b, eq-eqb (mtu - 40) 0 (omega arith))

  pub segments-stt : (kind ≡ 1 → ⊥) → (kind ≡ 2 → ⊥) → 40 < mtu → (18 + size + (mtu - 40) - 1) / (mtu - 40) ≡ segments_of kind size mtu
  unfolding segments_of
  segments-stt a b h = rw (ne_eqb kind 1 a, ne_eqb kind 2 b, ne_eqb (mtu - 40) 0 (λ e. omega arith))

-- a segment below the count begins within the STT frame: each carries a byte at least, and k * C is no large number
begins : (size c k : ℕ) → 0 < c → k < (18 + size + c - 1) / c → k * c < 18 + size
begins size c k pos h =
    let d : suc k * c ≤ 18 + size + c - 1 = (le-div_iff_mul-le pos).0 h in
    let e : suc k * c ≡ k * c + c = suc-mul k c in
    omega arith

module _ (kind size mtu k : ℕ) where
  pub stt_room : (kind ≡ 1 → ⊥) → (kind ≡ 2 → ⊥) → k < segments_of kind size mtu → 40 < mtu
  stt_room a b h =
      case_b (leb mtu 40)
      (λ q.
      let l : mtu ≤ 40 = leb-true mtu 40 q in
      let z : 0 ≡ segments_of kind size mtu = segments-none kind size mtu a b l in
      absurd (omega arith))
      (λ q. leb-false mtu 40 q)

  pub stt-begins : (kind ≡ 1 → ⊥) → (kind ≡ 2 → ⊥) → k < segments_of kind size mtu → k * (mtu - 40) < 18 + size
  stt-begins a b h =
      let r : 40 < mtu = stt_room a b h in
      let s : (18 + size + (mtu - 40) - 1) / (mtu - 40) ≡ segments_of kind size mtu = segments-stt kind size mtu a b r in
      begins size (mtu - 40) k (omega arith) (rw s h)

-- ---- what is put at the front of an output

may_fit : (headers n room : ℕ) (packet : List ℕ) → length packet ≡ headers + n → 14 ≤ n → headers + n ≤ 65535 → fits headers n room ≡ leb (length packet) room
may_fit headers n room packet l h k =
    same_test (fits headers n room) (leb (length packet) room)
    (λ e. le-leb (length packet) room (omega (arith, (fits_facts (fits headers n room) headers n room refl e).room_is)))
    (λ e. fits_met headers n room h k (omega (arith, tests)))

may_segment : (n offset count room : ℕ) (packet : List ℕ) → length packet ≡ 40 + count → 14 ≤ n → 18 + n ≤ 65535 → offset + count ≤ 18 + n → 40 + count ≤ 65535
    → segment_fits n offset count room ≡ leb (length packet) room
may_segment n offset count room packet l h k w s =
    same_test (segment_fits n offset count room) (leb (length packet) room)
    (λ e. le-leb (length packet) room (omega (arith, (segment-fits_facts (segment_fits n offset count room) n offset count room refl e).room_is)))
    (λ e. segment-fits_met n offset count room h k w s (omega (arith, tests)))

piece-length : (own peer port context identifier c k : ℕ) (last : Bool) (frame : List ℕ) → k * c < 18 + length frame
    → length (piece_of own peer port context identifier c k last frame) ≡ 40 + (min (18 + length frame) (k * c + c) - k * c)
piece-length own peer port context identifier c k last frame h =
    segment-length_is own peer port context identifier (k * c) (min (18 + length frame) (k * c + c) - k * c) last frame (omega arith)

pub put-piece : (own peer port context identifier c k count : ℕ) (last : Bool) (frame old new : List ℕ) (r : Option ℕ)
    → 14 ≤ length frame → length frame ≤ 1514 → k * c < 18 + length frame → count ≡ min (18 + length frame) (k * c + c) - k * c
    → Written (segment_fits (length frame) (k * c) count (length old)) (segment_packet own peer port context identifier (k * c) count last frame) old new r
    → Put (piece_of own peer port context identifier c k last frame) old new r
put-piece own peer port context identifier c k count last frame old new r h1 h2 h3 e w =
    let n : ℕ = min (18 + length frame) (k * c + c) - k * c in
    let packet : List ℕ = piece_of own peer port context identifier c k last frame in
    let may : segment_fits (length frame) (k * c) n (length old) ≡ leb (length packet) (length old) =
    may_segment (length frame) (k * c) n (length old) packet (piece-length own peer port context identifier c k last frame h3) h1 (omega arith) (omega arith)
    (omega arith) in
    subst (λ (m : Bool). Written m packet old new r) may
    (subst (λ (j : ℕ). Written (segment_fits (length frame) (k * c) j (length old))
    (segment_packet own peer port context identifier (k * c) j last frame) old new r) e w)

module _ (t : Route) (frame : List ℕ) (k identifier : ℕ) (old new : List ℕ) (r : Option ℕ) where
  pub put-vxlan : t.kind ≡ 1 → 14 ≤ length frame → length frame ≤ 1514
      → Written (fits 36 (length frame) (length old)) (vxlan_packet t.own t.peer (low32 t.network) frame) old new r
      → Put (packet_on t frame k identifier) old new r
  unfolding packet_of
  put-vxlan q h1 h2 w =
      let packet : List ℕ = vxlan_packet t.own t.peer (low32 t.network) frame in
      rw q (subst (λ (m : Bool). Written m packet old new r)
      (may_fit 36 (length frame) (length old) packet (vxlan-length_is t.own t.peer (low32 t.network) frame) h1 (omega arith)) w)

  pub put-nvgre : t.kind ≡ 2 → 14 ≤ length frame → length frame ≤ 1514
      → Written (fits 28 (length frame) (length old)) (nvgre_packet t.own t.peer (low32 t.network) frame) old new r
      → Put (packet_on t frame k identifier) old new r
  unfolding packet_of
  put-nvgre q h1 h2 w =
      let packet : List ℕ = nvgre_packet t.own t.peer (low32 t.network) frame in
      rw q (subst (λ (m : Bool). Written m packet old new r)
      (may_fit 28 (length frame) (length old) packet (nvgre-length_is t.own t.peer (low32 t.network) frame) h1 (omega arith)) w)

  pub put-stt : (t.kind ≡ 1 → ⊥) → (t.kind ≡ 2 → ⊥) → (segments : ℕ) → segments ≡ segments_of t.kind (length frame) t.mtu
      → Put (piece_of t.own t.peer t.port t.network identifier (t.mtu - 40) k (eqb (k + 1) segments) frame) old new r
      → Put (packet_on t frame k identifier) old new r
  unfolding packet_of
  put-stt a b segments e w =
      rw (ne_eqb t.kind 1 a, ne_eqb t.kind 2 b)
      (subst (λ (j : ℕ). Put (piece_of t.own t.peer t.port t.network identifier (t.mtu - 40) k (eqb (k + 1) j) frame) old new r) e w)

not_put : (may : Bool) (packet old new : List ℕ) (r : Option ℕ) → Written may packet old new r → r ≡ None → (may ≡ false) × (new ≡ old)
not_put true packet old new r w e = let z : Some (length packet) ≡ None = sym w.length_is ∙ e in cc
not_put false packet old new r w e = (refl, w.output_is)

was-put : (may : Bool) (packet old new : List ℕ) (r : Option ℕ) (n : ℕ) → Written may packet old new r → r ≡ Some n → (may ≡ true)
    × ((n ≡ length packet) × (new ≡ wrote old packet))
was-put true packet old new r n w e = (refl, (let z : Some n ≡ Some (length packet) = sym e ∙ w.length_is in cc, w.output_is))
was-put false packet old new r n w e = let z : Some n ≡ None = sym e ∙ w.length_is in cc

-- ---- the exits behind the binding

-- the code leaves this answer and this output, and they are what w says
abbrev pub Leaves : (w : Wrote) (answer : Result Packet WrapRefusal) (output : List ℕ) → Type 0
Leaves w answer output = (answer ≡ w.answer) × (output ≡ w.output)

leaves : (w v : Wrote) → w ≡ v → Leaves w v.answer v.output
leaves w v e = rw e (refl, refl)

module _ (t : Route) (frame : List ℕ) (k identifier : ℕ) (old : List ℕ) where
  -- what is to be written, and all that the call is to leave
  abbrev packet : List ℕ
  packet = packet_on t frame k identifier

  abbrev whole : Wrote
  whole = send_of t frame k identifier old

  pub send_frame : (x : Refusal) → frame_of frame ≡ Err x → Leaves (send_of t frame k identifier old) (Err X.BadFrame) old
  unfolding send_checks
  send_frame x e = leaves whole (refused_wrap old X.BadFrame) (send_exit t frame k identifier old 0 (ap is_bad e))

  module _ (good : frame_of frame ≡ Ok tt) where
    pub send_mtu : exceeds t.kind (length frame) t.mtu ≡ true → Leaves (send_of t frame k identifier old) (Err X.ExceedsMtu) old
    unfolding send_checks
    send_mtu e = leaves whole (refused_wrap old X.ExceedsMtu) (send_exit t frame k identifier old 1 (ap is_bad good, e))

    module _ (within : exceeds t.kind (length frame) t.mtu ≡ false) where
      pub send_segment : segments_of t.kind (length frame) t.mtu ≤ k → Leaves (send_of t frame k identifier old) (Err X.NoSegment) old
      unfolding send_checks
      send_segment h =
          leaves whole (refused_wrap old X.NoSegment)
          (send_exit t frame k identifier old 2 (ap is_bad good, (within, le-leb (segments_of t.kind (length frame) t.mtu) k h)))

      module _ (below : k < segments_of t.kind (length frame) t.mtu) (new : List ℕ) (r : Option ℕ) (put : Put (packet_on t frame k identifier) old new r) where
        pub send_output : r ≡ None → Leaves (send_of t frame k identifier old) (Err X.OutputTooShort) new
        unfolding send_checks
        send_output e =
            let n = not_put (leb (length packet) (length old)) packet old new r put e in
            rw n.1 (leaves whole (refused_wrap old X.OutputTooShort)
            (send_exit t frame k identifier old 3
            (ap is_bad good, (within, (lt-leb (segments_of t.kind (length frame) t.mtu) k below, lt-ltb (length old) (length packet) (leb-false (length packet) (length old) n.0))))))

        pub send_written : (n segments : ℕ) → r ≡ Some n → segments ≡ segments_of t.kind (length frame) t.mtu
            → Leaves (send_of t frame k identifier old) (Ok (record { length = n; segments = segments })) new
        unfolding send_checks
        send_written n segments d e =
            let w = was-put (leb (length packet) (length old)) packet old new r n put d in
            rw (w.1.0, w.1.1, e) (leaves whole (sent t frame k identifier old)
            (send_exit t frame k identifier old 4
            (ap is_bad good, (within, (lt-leb (segments_of t.kind (length frame) t.mtu) k below, (le-ltb (length old) (length packet) (leb-true (length packet) (length old) w.0), tt))))))

-- ---- the call: the binding, then all the rest

no_route : (nowhere : Bool) (r : Route) → cond nowhere None (Some r) ≡ None → nowhere ≡ true
no_route true r h = refl
no_route false r h = cc

a_route : (nowhere : Bool) (r t : Route) → cond nowhere None (Some r) ≡ Some t → (nowhere ≡ false) × (r ≡ t)
a_route true r t h = (cc, cc)
a_route false r t h = (refl, cc)

module _ (e : Endpoint) (b : ℕ) (frame : List ℕ) (k identifier : ℕ) (old : List ℕ) where
  abbrev nowhere : Bool
  nowhere = leb (config_of e).bindings b || leb most_peers (owner_at e b)

  abbrev way : Route
  way = record { network = network_at e b; own = e.own; peer = peer_at e b; port = e.port; mtu = e.mtu; kind = kind_at e b }

  wrap_is : wrap_of e b frame k identifier old ≡ pick nowhere (refused_wrap old X.NoBinding) (send_of way frame k identifier old)
  unfolding wrap_of wrap_checks send_of send_checks
  wrap_is = simp choices (two (leb (config_of e).bindings b) (leb most_peers (owner_at e b)) _ _)
    where
      two : (p q : Bool) (x y : Wrote) → pick p x (pick q x y) ≡ pick (p || q) x y
      two true q x y = refl
      two false q x y = refl

  pub wrap_nowhere : route_of e b ≡ None → refused_wrap old X.NoBinding ≡ wrap_of e b frame k identifier old
  wrap_nowhere h = let q = no_route nowhere way h in sym (wrap_is ∙ rw q)

  pub wrap_on : (t : Route) → route_of e b ≡ Some t → send_of t frame k identifier old ≡ wrap_of e b frame k identifier old
  wrap_on t h =
      let q = a_route nowhere way t h in
      ap (λ (r : Route). send_of r frame k identifier old) (sym q.1) ∙ sym (wrap_is ∙ rw q.0)
