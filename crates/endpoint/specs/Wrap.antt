-- Wrapping (document 01, "Wrapping"): which packet carries a frame out on a binding, its segments, and one call, whole. Packets are those of crate wire
-- (specs/Write.antt).
use Rattle.std.specs.Prelude.{ℕ, ◌+◌, ◌-◌, ◌*◌, ◌/◌, ◌%◌, min, Bool, true, false, cond, ◌||◌, List, [], ◌∷◌, length, get_or, ltb, leb, eqb, Option, None, Some}
use Rattle.std.specs.Prelude.{Result, Ok, Err}
use Rattle.wire.specs.Bytes.{wrote}
use Rattle.wire.specs.Checks.{Check, ◌⇒◌, first, pick}
use Rattle.wire.specs.Frame.{frame_of}
use Rattle.wire.specs.Write.{vxlan_packet, nvgre_packet, segment_packet, Written}
use Rattle.endpoint.specs.Config.{config_of}
use Rattle.endpoint.specs.declared.answer.WrapRefusal.{WrapRefusal}
use Rattle.endpoint.specs.declared.answer.WrapRefusal.TheVariants as X
use Rattle.endpoint.specs.declared.config.Endpoint.{Endpoint}
use Rattle.endpoint.specs.declared.wrap.Route.{Route}
use Rattle.reassembly.specs.Slots.{most_peers}
use Rattle.endpoint.specs.declared.answer.Packet.{Packet}
use Rattle.wire.specs.declared.refusal.Refusal.{Refusal}

-- ---- the segments of an STT frame: with F = 18 plus the frame's length and C = MTU − 40, (F + C − 1) div C of them; segment k carries bytes kC up to the
-- smaller of F and kC + C

abbrev pub capacity : (mtu : ℕ) → ℕ
capacity mtu = mtu - 40

-- VXLAN (1) and NVGRE (2) have segment 0 only. Where the MTU has no room for a byte, which no good start leaves, there is no segment
unfoldable pub segments_of : (kind size mtu : ℕ) → ℕ
segments_of kind size mtu =
    pick (eqb kind 1) 1 (pick (eqb kind 2) 1
    (pick (eqb (capacity mtu) 0) 0 ((18 + size + capacity mtu - 1) / capacity mtu)))

-- ---- need not be believed: where segment k begins, and how many bytes it carries

abbrev pub segment_start : (mtu k : ℕ) → ℕ
segment_start mtu k = k * capacity mtu

abbrev pub segment_size : (size mtu k : ℕ) → ℕ
segment_size size mtu k = min (18 + size) (segment_start mtu k + capacity mtu) - segment_start mtu k

-- ---- need not be believed: the packet. A listed VNI or VSID has 24 bits; of any other number the lowest 32 are taken

abbrev pub low32 : ℕ → ℕ
low32 x = x % 4294967296

unfoldable pub packet_of : (kind own peer port network mtu : ℕ) (frame : List ℕ) (segment identifier : ℕ) → List ℕ
packet_of kind own peer port network mtu frame segment identifier =
    pick (eqb kind 1) (vxlan_packet own peer (low32 network) frame)
    (pick (eqb kind 2) (nvgre_packet own peer (low32 network) frame)
    (segment_packet own peer port network identifier (segment_start mtu segment) (segment_size (length frame) mtu segment)
    (eqb (segment + 1) (segments_of kind (length frame) mtu)) frame))

-- would a VXLAN or NVGRE packet exceed the MTU
unfoldable pub exceeds : (kind size mtu : ℕ) → Bool
exceeds kind size mtu = pick (eqb kind 1) (ltb mtu (36 + size)) (pick (eqb kind 2) (ltb mtu (28 + size)) false)

abbrev pub is_bad : Result (Unit {0}) Refusal → Bool
is_bad (Ok tt) = false
is_bad (Err r) = true

-- ---- a binding of the endpoint

-- binding b of the endpoint: its kind, its network, its peer's number and address
-- Open: an entry of a list
abbrev pub kind_at : Endpoint → ℕ → ℕ
kind_at e b = get_or e.kinds b 0

abbrev pub network_at : Endpoint → ℕ → ℕ
network_at e b = get_or e.networks b 0

abbrev pub owner_at : Endpoint → ℕ → ℕ
owner_at e b = get_or e.owners b 0

abbrev pub peer_at : Endpoint → ℕ → ℕ
peer_at e b = get_or (config_of e).addresses (owner_at e b) 0

-- ---- need not be believed: the checks of the call: 23 (binding), 13, 22, 23 (segment), 21 in this order

abbrev pub packet_at : Endpoint → (b : ℕ) (frame : List ℕ) (segment identifier : ℕ) → List ℕ
packet_at e b frame segment identifier = packet_of (kind_at e b) e.own (peer_at e b) e.port (network_at e b) e.mtu frame segment identifier

-- a binding's owner is one of the eight peers in every set-up (`Demand1.Configured`)
unfoldable pub wrap_checks : Endpoint → (b : ℕ) (frame : List ℕ) (segment identifier : ℕ) (output : List ℕ) → List (Check WrapRefusal)
wrap_checks e b frame segment identifier output =
    (leb (config_of e).bindings b ⇒ X.NoBinding)
    ∷ (leb most_peers (owner_at e b) ⇒ X.NoBinding)
    ∷ (is_bad (frame_of frame) ⇒ X.BadFrame)
    ∷ (exceeds (kind_at e b) (length frame) e.mtu ⇒ X.ExceedsMtu)
    ∷ (leb (segments_of (kind_at e b) (length frame) e.mtu) segment ⇒ X.NoSegment)
    ∷ (ltb (length output) (length (packet_at e b frame segment identifier)) ⇒ X.OutputTooShort)
    ∷ []

-- ---- what the call leaves

-- the answer, and the output that it leaves: the packet at its front, and nothing else changed; or the output as it came
pub record Wrote : Type 0 where
  pub answer : Result Packet WrapRefusal
  pub output : List ℕ

-- ---- need not be believed: the call

abbrev pub refused_wrap : List ℕ → WrapRefusal → Wrote
refused_wrap output r = record { answer = Err r; output = output }

unfoldable pub wrap_of : Endpoint → (b : ℕ) (frame : List ℕ) (segment identifier : ℕ) (output : List ℕ) → Wrote
wrap_of e b frame segment identifier output =
    first (refused_wrap output) (wrap_checks e b frame segment identifier output)
    (record {
      answer = Ok (record { length = length (packet_at e b frame segment identifier); segments = segments_of (kind_at e b) (length frame) e.mtu });
      output = wrote output (packet_at e b frame segment identifier);
    })

-- ---- need not be believed: the call once the binding is found, as the code makes it: 13, 22, 23 (segment), 21

-- the way out on binding b: none where no such binding is listed, or its owner is none of the eight peers
abbrev pub route_of : Endpoint → (b : ℕ) → Option Route
route_of e b =
    cond (leb (config_of e).bindings b || leb most_peers (owner_at e b)) None
    (Some (record { network = network_at e b; own = e.own; peer = peer_at e b; port = e.port; mtu = e.mtu; kind = kind_at e b }))

-- the packet on a route
abbrev pub packet_on : Route → (frame : List ℕ) (segment identifier : ℕ) → List ℕ
packet_on t frame segment identifier = packet_of t.kind t.own t.peer t.port t.network t.mtu frame segment identifier

module _ (t : Route) (frame : List ℕ) (segment identifier : ℕ) (output : List ℕ) where
  unfoldable pub send_checks : List (Check WrapRefusal)
  send_checks =
      (is_bad (frame_of frame) ⇒ X.BadFrame)
      ∷ (exceeds t.kind (length frame) t.mtu ⇒ X.ExceedsMtu)
      ∷ (leb (segments_of t.kind (length frame) t.mtu) segment ⇒ X.NoSegment)
      ∷ (ltb (length output) (length (packet_on t frame segment identifier)) ⇒ X.OutputTooShort)
      ∷ []

  -- what is given where no check is met
  abbrev pub sent : Wrote
  sent = record {
    answer = Ok (record { length = length (packet_on t frame segment identifier); segments = segments_of t.kind (length frame) t.mtu });
    output = wrote output (packet_on t frame segment identifier);
  }

  unfoldable pub send_of : Wrote
  send_of = first (refused_wrap output) send_checks sent

-- ---- need not be believed: what is put at the front of an output: the packet if there is room for it, or else nothing

abbrev pub Put : (packet old new : List ℕ) (r : Option ℕ) → Type 0
Put packet old new r = Written (leb (length packet) (length old)) packet old new r

-- segment number k of an STT frame that is cut at every c bytes
abbrev pub piece_of : (own peer port context identifier c k : ℕ) (last : Bool) (frame : List ℕ) → List ℕ
piece_of own peer port context identifier c k last frame =
    segment_packet own peer port context identifier (k * c) (min (18 + length frame) (k * c + c) - k * c) last frame
