-- What is written is, by the formats, what it is meant to be: an IPv4 packet from source to destination that carries the frame, or a segment of the STT frame
-- that carries it.
use Rattle.std.specs.Prelude.{◌≡◌, ℕ, ◌+◌, ◌-◌, ◌%◌, ◌^◌, ◌<◌, ◌≤◌, Bool, true, false, List, [], ◌++◌, length, take, drop, nat_le, Some, None, refl}
use Rattle.std.proofs.Common.{sym, ap, ap₂, ◌∙◌, inl, inr, append_assoc, arith, length-append, length-drop, length-take-le, take_at, drop_at, drop-drop}
use Rattle.std.proofs.Common.{leb-true, leb-false}
use Rattle.wire.specs.Bytes.{be, be_at, part, laid, wrote, ◌then◌}
use Rattle.wire.proofs.Laws.Bytes.{case_b, be-take, wrote-first, wrote-more, wrote-length, wrote-all, laid_more, part_length, part-append}
use Rattle.wire.specs.Sum.{total, ones, pseudo, complement}
use Rattle.wire.proofs.Laws.Sum.{complement-fits, sealed, total_first, total-two, total-none, pseudo-total}
use Rattle.wire.proofs.Laws.Checks.{pass, passed, tests, passing}
use Rattle.wire.specs.Ipv4 as I
use Rattle.wire.proofs.Laws.Ipv4 as IL
use Rattle.wire.specs.Udp.{udp}
use Rattle.wire.proofs.Laws.Udp.{udp-length}
use Rattle.wire.specs.Vxlan.{vxlan}
use Rattle.wire.proofs.Laws.Vxlan.{vxlan-length}
use Rattle.wire.specs.Nvgre.{gre, IsNvgre}
use Rattle.wire.specs.Inner.{hints_of}
use Rattle.wire.proofs.Laws.Inner.{hints_fit}
use Rattle.wire.specs.declared.inner.Hints.{Hints}
use Rattle.wire.specs.Stt.{stt, IsStt}
use Rattle.wire.specs.Segment as S
use Rattle.wire.specs.Carriage.{IsVxlanUdp, Tunnels}
use Rattle.wire.specs.Write.{ipv4_with, outer, ipv4_head, packet, source_port_of, vxlan_body, nvgre_body, stt_frame, flags_of, tcp_with, segment_header}
use Rattle.wire.specs.Write.{segment_bytes}
use Rattle.wire.specs.Write.{segment_body, vxlan_packet, nvgre_packet, segment_packet, fit_checks, fits, segment_fit_checks, segment_fits, Written}

-- ---- the outer header

pub ipv4_length : (protocol size source destination : ℕ) → length (ipv4_head protocol size source destination) ≡ 20
unfolding ipv4_head outer I.header be
ipv4_length protocol size source destination = refl

-- the checksum is right: the field stands behind ten bytes
outer_sealed : (protocol size source destination : ℕ) → ones (total (I.header (outer protocol size source destination))) ≡ 65535
unfolding I.header outer ipv4_with be
outer_sealed protocol size source destination =
    sealed
    (be 1 69 then be 1 0 then be 2 size then be 2 0 then be 2 16384 then be 1 64 then be 1 protocol)
    (be 4 source then be 4 destination then [])
    refl
    (omega (arith, total_first 69 0 (be 2 size then be 2 0 then be 2 16384 then be 1 64 then be 1 protocol then be 2 0 then be 4 source then be 4 destination then [])))

outer-fits : (protocol size source destination : ℕ) → protocol < 256 → size < 256 ^ 2 → source < 256 ^ 4 → destination < 256 ^ 4
    → I.Fits (outer protocol size source destination)
unfolding outer
outer-fits protocol size source destination h1 h2 h3 h4 = record {
  option_words = omega arith;
  tos = omega arith;
  size = h2;
  id = omega arith;
  flags = omega arith;
  offset = omega arith;
  ttl = omega arith;
  protocol = h1;
  checksum = complement-fits (ipv4_with protocol size source destination 0);
  source = h3;
  destination = h4;
  options = refl;
}

-- whatever stands behind it, what is written is a packet that carries the payload
pub packet_is : (protocol source destination : ℕ) (payload trailing : List ℕ)
    → protocol < 256 → 20 + length payload < 256 ^ 2 → source < 256 ^ 4 → destination < 256 ^ 4
    → I.IsIpv4 source destination protocol payload (packet protocol source destination payload ++ trailing)
unfolding packet ipv4_head outer
packet_is protocol source destination payload trailing h1 h2 h3 h4 =
    let size = 20 + length payload in
    let f : I.Header = outer protocol size source destination in
    record {
      f = f;
      fits = outer-fits protocol size source destination h1 h2 h3 h4;
      trailing = trailing;
      whole = append_assoc (I.header f) payload trailing;
      size = omega (arith, IL.header-length f);
      checksum = outer_sealed protocol size source destination;
      last = refl;
      offset = refl;
      source_is = refl;
      destination_is = refl;
      protocol_is = refl;
    }

pub packet-length : (protocol source destination : ℕ) (payload : List ℕ) → length (packet protocol source destination payload) ≡ 20 + length payload
unfolding packet
packet-length protocol source destination payload =
    length-append (ipv4_head protocol (20 + length payload) source destination) payload
    ∙ ap (λ (k : ℕ). k + length payload) (ipv4_length protocol (20 + length payload) source destination)

-- ---- VXLAN

pub vxlan_body-length : (vni : ℕ) (frame : List ℕ) → length (vxlan_body vni frame) ≡ 16 + length frame
unfolding vxlan_body
vxlan_body-length vni frame =
    omega (arith, udp-length (source_port_of frame) 4789 (8 + length (vxlan 8 0 vni 0 frame)) 0 (vxlan 8 0 vni 0 frame), vxlan-length 8 0 vni 0 frame)

pub vxlan-length_is : (source destination vni : ℕ) (frame : List ℕ) → length (vxlan_packet source destination vni frame) ≡ 36 + length frame
unfolding vxlan_packet
vxlan-length_is source destination vni frame = omega (arith, packet-length 17 source destination (vxlan_body vni frame), vxlan_body-length vni frame)

port_fits : (frame : List ℕ) → source_port_of frame < 256 ^ 2
unfolding source_port_of
port_fits frame = omega arith

pub vxlan_body_is : (source destination vni : ℕ) (frame : List ℕ) → vni < 256 ^ 3 → 16 + length frame < 256 ^ 2
    → IsVxlanUdp source destination vni frame (vxlan_body vni frame)
unfolding vxlan_body
vxlan_body_is source destination vni frame h k =
    let inner : List ℕ = vxlan 8 0 vni 0 frame in
    let n : length inner ≡ 8 + length frame = vxlan-length 8 0 vni 0 frame in
    record {
      inner = inner;
      udp = record {
        from = source_port_of frame;
        checksum = 0;
        whole = refl;
        right = inl refl;
        from_fits = port_fits frame;
        port_fits = omega arith;
        size_fits = omega arith;
        checksum_fits = omega arith;
      };
      vxlan = record { flags = 8; reserved = 0; last = 0; whole = refl; flag = refl; flags_fit = omega arith; vni_fits = h };
    }

-- THE THEOREM: what is written, whatever stands behind it, is a VXLAN packet that carries the frame.
pub vxlan_is : (source destination vni : ℕ) (frame trailing : List ℕ)
    → source < 256 ^ 4 → destination < 256 ^ 4 → vni < 256 ^ 3 → 36 + length frame < 256 ^ 2
    → I.IsIpv4 source destination 17 (vxlan_body vni frame) (vxlan_packet source destination vni frame ++ trailing)
    × Tunnels 1 17 source destination vni frame (vxlan_body vni frame)
unfolding vxlan_packet
vxlan_is source destination vni frame trailing h1 h2 h3 h4 = (
  packet_is 17 source destination (vxlan_body vni frame) trailing (omega arith) (omega (arith, vxlan_body-length vni frame)) h1 h2,
  inl (refl, refl, vxlan_body_is source destination vni frame h3 (omega arith)),
)

-- ---- NVGRE

pub nvgre_body-length : (vsid : ℕ) (frame : List ℕ) → length (nvgre_body vsid frame) ≡ 8 + length frame
unfolding nvgre_body gre be
nvgre_body-length vsid frame = omega arith

pub nvgre-length_is : (source destination vsid : ℕ) (frame : List ℕ) → length (nvgre_packet source destination vsid frame) ≡ 28 + length frame
unfolding nvgre_packet
nvgre-length_is source destination vsid frame = omega (arith, packet-length 47 source destination (nvgre_body vsid frame), nvgre_body-length vsid frame)

pub nvgre_body_is : (vsid : ℕ) (frame : List ℕ) → vsid < 256 ^ 3 → IsNvgre vsid frame (nvgre_body vsid frame)
unfolding nvgre_body
nvgre_body_is vsid frame h =
    record { high = 0; low = 0; flow = 0; whole = refl; high_fits = omega arith; low_fits = omega arith; vsid_fits = h }

-- THE THEOREM for NVGRE.
pub nvgre_is : (source destination vsid : ℕ) (frame trailing : List ℕ)
    → source < 256 ^ 4 → destination < 256 ^ 4 → vsid < 256 ^ 3 → 28 + length frame < 256 ^ 2
    → I.IsIpv4 source destination 47 (nvgre_body vsid frame) (nvgre_packet source destination vsid frame ++ trailing)
    × Tunnels 2 47 source destination vsid frame (nvgre_body vsid frame)
unfolding nvgre_packet
nvgre_is source destination vsid frame trailing h1 h2 h3 h4 = (
  packet_is 47 source destination (nvgre_body vsid frame) trailing (omega arith) (omega (arith, nvgre_body-length vsid frame)) h1 h2,
  inr (refl, refl, nvgre_body_is vsid frame h3),
)

-- ---- STT

pub stt_is : (context : ℕ) (frame : List ℕ) → context < 256 ^ 8 → IsStt context frame (stt_frame context frame)
unfolding stt_frame
stt_is context frame h = record {
  flags = (hints_of frame).flags;
  l4 = (hints_of frame).l4;
  reserved = 0;
  mss = 0;
  tag = 0;
  padding = 0;
  is = refl;
  flags_fit = omega (arith, (hints_fit frame).flags_fit);
  not_both = λ w e. omega (arith, (hints_fit frame).low_zero);
  context_fits = h;
}

pub stt-length : (context : ℕ) (frame : List ℕ) → length (stt_frame context frame) ≡ 18 + length frame
unfolding stt_frame stt be
stt-length context frame = omega arith

pub segment-bytes_is : (context offset count : ℕ) (frame : List ℕ) → segment_bytes context offset count frame
    ≡ part (stt_frame context frame) offset (offset + count)
unfolding segment_bytes
segment-bytes_is context offset count frame = refl

pub segment-bytes-length : (context offset count : ℕ) (frame : List ℕ) → offset + count ≤ 18 + length frame
    → length (segment_bytes context offset count frame) ≡ count
unfolding segment_bytes
segment-bytes-length context offset count frame h =
    part_length (stt_frame context frame) offset (offset + count) (omega (arith, stt-length context frame)) ∙ omega arith

-- a header with the complement in its field, and its bytes, are a segment
sealed_is : (source destination from port frame_length_at offset identifier flags : ℕ) (bytes : List ℕ)
    → source < 256 ^ 4 → destination < 256 ^ 4 → port < 256 ^ 2 → frame_length_at < 256 ^ 2 → offset < 256 ^ 2 → identifier < 256 ^ 4 → 20 + length bytes < 256 ^ 2
    → S.IsSegment source destination port frame_length_at offset identifier bytes
    (S.header (segment_header source destination from port frame_length_at offset identifier flags bytes) ++ bytes)
unfolding segment_header tcp_with S.header pseudo be
sealed_is source destination from port frame_length_at offset identifier flags bytes h1 h2 h3 h4 h5 h6 h7 =
    let size : ℕ = 20 + length bytes in
    let f : S.Header = segment_header source destination from port frame_length_at offset identifier flags bytes in
    let n : length (S.header f ++ bytes) ≡ size = omega arith in
    let pos : 0 < total (pseudo source destination 6 size ++ (tcp_with from port frame_length_at offset identifier flags 0 ++ bytes)) =
    omega (arith, pseudo-total source destination 6 size (tcp_with from port frame_length_at offset identifier flags 0 ++ bytes) h1 h2 (omega arith) h7) in
    record {
      f = f;
      fits = record { destination_port = h3; frame_length = h4; offset = h5; identifier = h6; option_words = omega arith; reserved = omega arith; options = refl };
      whole = refl;
      short = rw n h7;
      checksum =
          rw n (sealed
          (pseudo source destination 6 size ++ (be 2 from then be 2 port then be 2 frame_length_at then be 2 offset then be 4 identifier then be 1 80 then be 1
          flags then be 2 0))
          (be 2 0 then bytes)
          refl
          pos);
      port_is = refl;
      frame_length_is = refl;
      offset_is = refl;
      identifier_is = refl;
    }

pub segment_body-length : (source destination port context identifier offset count : ℕ) (last : Bool) (frame : List ℕ) → offset + count ≤ 18 + length frame
    → length (segment_body source destination port context identifier offset count last frame) ≡ 20 + count
unfolding segment_body segment_header S.header be
segment_body-length source destination port context identifier offset count last frame h =
    omega (arith, segment-bytes-length context offset count frame h)

pub segment-length_is : (source destination port context identifier offset count : ℕ) (last : Bool) (frame : List ℕ) → offset + count ≤ 18 + length frame
    → length (segment_packet source destination port context identifier offset count last frame) ≡ 40 + count
unfolding segment_packet
segment-length_is source destination port context identifier offset count last frame h =
    omega (
      arith,
      packet-length 6 source destination (segment_body source destination port context identifier offset count last frame),
      segment_body-length source destination port context identifier offset count last frame h,
    )

-- THE THEOREM for STT: what is written, whatever stands behind it, is a segment that carries those bytes of the STT frame, and states its length, its own
-- offset and the identifier.
pub segment_is : (source destination port context identifier offset count : ℕ) (last : Bool) (frame trailing : List ℕ)
    → source < 256 ^ 4 → destination < 256 ^ 4 → port < 256 ^ 2 → identifier < 256 ^ 4
    → 18 + length frame < 256 ^ 2 → offset + count ≤ 18 + length frame → 40 + count < 256 ^ 2
    → I.IsIpv4 source destination 6 (segment_body source destination port context identifier offset count last frame)
    (segment_packet source destination port context identifier offset count last frame ++ trailing)
    × S.IsSegment source destination port (18 + length frame) offset identifier (segment_bytes context offset count frame)
    (segment_body source destination port context identifier offset count last frame)
unfolding segment_packet segment_body
segment_is source destination port context identifier offset count last frame trailing h1 h2 h3 h4 h5 h6 h7 = (
  packet_is 6 source destination (segment_body source destination port context identifier offset count last frame) trailing (omega arith)
      (omega (arith, segment_body-length source destination port context identifier offset count last frame h6)) h1 h2,
  sealed_is source destination (source_port_of frame) port (18 + length frame) offset identifier (flags_of last)
      (segment_bytes context offset count frame) h1 h2 h3 h5
      (omega arith) h4 (omega (arith, segment-bytes-length context offset count frame h6)),
)

-- ---- when it is written

pub fits_met : (headers n room : ℕ) → 14 ≤ n → headers + n ≤ 65535 → headers + n ≤ room → fits headers n room ≡ true
unfolding fits fit_checks
fits_met headers n room h1 h2 h3 = pass (λ _. false) (fit_checks headers n room) true (omega (arith, passing))

pub segment-fits_met : (n offset count room : ℕ) → 14 ≤ n → 18 + n ≤ 65535 → offset + count ≤ 18 + n → 40 + count ≤ 65535 → 40 + count ≤ room
    → segment_fits n offset count room ≡ true
unfolding segment_fits segment_fit_checks
segment-fits_met n offset count room h1 h2 h3 h4 h5 = pass (λ _. false) (segment_fit_checks n offset count room) true (omega (arith, passing))

-- ---- what the code cites

pub record Fitting (headers n room : ℕ) : Type 0 where
  pub least : 14 ≤ n
  pub short : headers + n ≤ 65535
  pub room_is : headers + n ≤ room

pub fits_facts : (answer : Bool) (headers n room : ℕ) → answer ≡ fits headers n room → answer ≡ true → Fitting headers n room
unfolding fits fit_checks
fits_facts answer headers n room a e =
    let p = passed (λ _. false) (fit_checks headers n room) true true (λ r q. let z : ◌≡◌ {A = ℕ} 0 1 = cc in omega arith) (sym a ∙ e) in
    record { least = omega (arith, tests); short = omega (arith, tests); room_is = omega (arith, tests) }

pub record SegmentFitting (n offset count room : ℕ) : Type 0 where
  pub least : 14 ≤ n
  pub frame_short : 18 + n ≤ 65535
  pub within : offset + count ≤ 18 + n
  pub short : 40 + count ≤ 65535
  pub room_is : 40 + count ≤ room

pub segment-fits_facts : (answer : Bool) (n offset count room : ℕ) → answer ≡ segment_fits n offset count room → answer ≡ true
    → SegmentFitting n offset count room
unfolding segment_fits segment_fit_checks
segment-fits_facts answer n offset count room a e =
    let p = passed (λ _. false) (segment_fit_checks n offset count room) true true (λ r q. let z : ◌≡◌ {A = ℕ} 0 1 = cc in omega arith) (sym a ∙ e) in
    record {
      least = omega (arith, tests);
      frame_short = omega (arith, tests);
      within = omega (arith, tests);
      short = omega (arith, tests);
      room_is = omega (arith, tests);
    }

-- what fits is told by its facts
pub fits_not : (headers n room : ℕ) → (Fitting headers n room → 1 ≤ 0) → false ≡ fits headers n room
fits_not headers n room k =
    case_b (fits headers n room)
    (λ e. absurd (omega (arith, k (fits_facts (fits headers n room) headers n room refl e))))
    (λ e. sym e)

pub fits_room : (headers n room : ℕ) → 14 ≤ n → headers + n ≤ 65535 → nat_le (headers + n) room ≡ fits headers n room
fits_room headers n room h k =
    case_b (nat_le (headers + n) room)
    (λ e. e ∙ sym (fits_met headers n room h k (leb-true (headers + n) room e)))
    (λ e. let l : room < headers + n = leb-false (headers + n) room e in e ∙ fits_not headers n room (λ g. omega arith))

pub segment-fits_not : (n offset count room : ℕ) → (SegmentFitting n offset count room → 1 ≤ 0) → false ≡ segment_fits n offset count room
segment-fits_not n offset count room k =
    case_b (segment_fits n offset count room)
    (λ e. absurd (omega (arith, k (segment-fits_facts (segment_fits n offset count room) n offset count room refl e))))
    (λ e. sym e)

pub segment-fits_room : (n offset count room : ℕ) → 14 ≤ n → 18 + n ≤ 65535 → offset + count ≤ 18 + n → 40 + count ≤ 65535
    → nat_le (40 + count) room ≡ segment_fits n offset count room
segment-fits_room n offset count room h1 h2 h3 h4 =
    case_b (nat_le (40 + count) room)
    (λ e. e ∙ sym (segment-fits_met n offset count room h1 h2 h3 h4 (leb-true (40 + count) room e)))
    (λ e. let l : room < 40 + count = leb-false (40 + count) room e in e ∙ segment-fits_not n offset count room (λ g. omega arith))

pub ipv4_head-from : (protocol size source destination k : ℕ) → k ≡ ones (total (ipv4_with protocol size source destination 0))
    → ipv4_with protocol size source destination (65535 - k) ≡ ipv4_head protocol size source destination
unfolding ipv4_head outer complement ipv4_with
ipv4_head-from protocol size source destination k e = rw e

pub port_is : (s : List ℕ) → 14 ≤ length s
    → source_port_of s ≡ 49152 + (be_at s 0 2 + be_at s 2 2 + be_at s 4 2 + be_at s 6 2 + be_at s 8 2 + be_at s 10 2 + be_at s 12 2) % 16384
unfolding source_port_of
port_is s h =
    let t : List ℕ = take 14 s in
    let n : length t ≡ 14 = length-take-le 14 s h in
    let e : total t ≡ be_at s 0 2 + be_at s 2 2 + be_at s 4 2 + be_at s 6 2 + be_at s 8 2 + be_at s 10 2 + be_at s 12 2 =
    omega (
      arith,
      total-two t 0 (omega arith),
      total-two t 2 (omega arith),
      total-two t 4 (omega arith),
      total-two t 6 (omega arith),
      total-two t 8 (omega arith),
      total-two t 10 (omega arith),
      total-two t 12 (omega arith),
      total-none t 14 (sym n),
      be-take s 14 0 2 (omega arith),
      be-take s 14 2 2 (omega arith),
      be-take s 14 4 2 (omega arith),
      be-take s 14 6 2 (omega arith),
      be-take s 14 8 2 (omega arith),
      be-take s 14 10 2 (omega arith),
      be-take s 14 12 2 (omega arith),
    ) in
    rw e

pub port_from : (s : List ℕ) (x : ℕ) → 14 ≤ length s
    → x ≡ be_at s 0 2 + be_at s 2 2 + be_at s 4 2 + be_at s 6 2 + be_at s 8 2 + be_at s 10 2 + be_at s 12 2 → 49152 + x % 16384 ≡ source_port_of s
port_from s x h e = rw e (sym (port_is s h))

-- the pieces of a packet were laid one behind the other: `ip`, the m bytes `mid`, and the frame
pub packet-written : (protocol source destination m : ℕ) (frame ip mid out o1 o2 o3 : List ℕ)
    → length mid ≡ m → ip ≡ ipv4_head protocol (20 + m + length frame) source destination
    → o1 ≡ laid out 0 ip → o2 ≡ laid o1 20 mid → o3 ≡ laid o2 (20 + m) frame
    → o3 ≡ wrote out (packet protocol source destination (mid ++ frame))
unfolding packet
packet-written protocol source destination m frame ip mid out o1 o2 o3 k e p1 p2 p3 =
    let n : length ip ≡ 20 = ap length e ∙ ipv4_length protocol (20 + m + length frame) source destination in
    let l : length (ip ++ mid) ≡ 20 + m = length-append ip mid ∙ omega arith in
    let size : 20 + m + length frame ≡ 20 + length (mid ++ frame) = omega (arith, length-append mid frame) in
    let w1 : o1 ≡ wrote out ip = p1 ∙ wrote-first out ip in
    let w2 : o2 ≡ wrote out (ip ++ mid) = p2 ∙ ap (λ (x : List ℕ). laid x 20 mid) w1 ∙ wrote-more out ip mid 20 n in
    let w3 : o3 ≡ wrote out ((ip ++ mid) ++ frame) = p3 ∙ ap (λ (x : List ℕ). laid x (20 + m) frame) w2 ∙ wrote-more out (ip ++ mid) frame (20 + m) l in
    w3 ∙ ap (wrote out) (append_assoc ip mid frame ∙ ap (λ (x : List ℕ). x ++ (mid ++ frame)) (e ∙ ap (λ (j : ℕ). ipv4_head protocol j source destination) size))

vxlan-carried : (vni port : ℕ) (frame mid : List ℕ) → port ≡ source_port_of frame → mid ≡ udp port 4789 (16 + length frame) 0 (vxlan 8 0 vni 0 [])
    → mid ++ frame ≡ vxlan_body vni frame
unfolding vxlan_body udp vxlan be
vxlan-carried vni port frame mid q f = let n : 8 + length (vxlan 8 0 vni 0 frame) ≡ 16 + length frame = omega arith in rw (f, q, n)

nvgre-carried : (vsid : ℕ) (frame mid : List ℕ) → mid ≡ gre 0 0 vsid 0 [] → mid ++ frame ≡ nvgre_body vsid frame
unfolding nvgre_body gre be
nvgre-carried vsid frame mid f = ap (λ (x : List ℕ). x ++ frame) f

-- the two pieces of a segment's bytes: of the STT frame's header, and of the inner frame
pub segment-pieces : (context offset count a e b f : ℕ) (hints : Hints) (frame header s s1 s2 : List ℕ)
    → hints ≡ hints_of frame → header ≡ stt 0 hints.flags hints.l4 0 0 0 context 0 [] → 20 ≤ length s
    → a ≡ offset - (offset - 18) → e ≡ offset + count - (offset + count - 18) → b ≡ offset - 18 → f ≡ offset + count - 18
    → s1 ≡ laid s 20 (part header a e) → s2 ≡ laid s1 (20 + (e - a)) (part frame b f)
    → s2 ≡ laid s 20 (segment_bytes context offset count frame)
unfolding segment_bytes stt_frame stt be
segment-pieces context offset count a e b f hints frame header s s1 s2 ei eh room ea ee eb ef p1 p2 =
    let n : length header ≡ 18 = ap length eh in
    let w : stt_frame context frame ≡ header ++ frame =
    ap (λ (h : Hints). stt 0 h.flags h.l4 0 0 0 context 0 frame) (sym ei) ∙ ap (λ (l : List ℕ). l ++ frame) (sym eh) in
    let l : length (part header a e) ≡ e - a = part_length header a e (omega arith) in
    let q : part header a e ++ part frame b f ≡ part (stt_frame context frame) offset (offset + count) =
    rw (w, ea, ee, eb, ef) (sym (part-append header frame 18 offset (offset + count) n (omega arith))) in
    p2 ∙ ap₂ (λ (x : List ℕ) (k : ℕ). laid x (20 + k) (part frame b f)) p1 (sym l) ∙ laid_more s 20 (part header a e) (part frame b f) room ∙ ap (laid s 20) q

-- the segment with a field of 0, and then the checksum in its field
pub segment_sealed : (source destination port context identifier offset count from flags : ℕ) (last : Bool) (frame header s s1 s2 s3 : List ℕ)
    → length s ≡ 20 + count → offset + count ≤ 18 + length frame → from ≡ source_port_of frame → flags ≡ flags_of last
    → header ≡ tcp_with from port (18 + length frame) offset identifier flags 0
    → s1 ≡ laid s 0 header → s2 ≡ laid s1 20 (segment_bytes context offset count frame)
    → s3 ≡ laid s2 16 (be 2 (complement (pseudo source destination 6 (length s2) ++ s2)))
    → s3 ≡ segment_body source destination port context identifier offset count last frame
unfolding segment_body segment_header tcp_with S.header laid be
segment_sealed source destination port context identifier offset count from flags last frame header s s1 s2 s3 size within ep ef eh p1 p2 p3 =
    let bytes : List ℕ = segment_bytes context offset count frame in
    let n : length bytes ≡ count = segment-bytes-length context offset count frame within in
    let nh : length header ≡ 20 = ap length eh in
    let w : s2 ≡ header ++ bytes =
    p2 ∙ ap (λ (l : List ℕ). laid l 20 bytes) (p1 ∙ wrote-first s header) ∙ wrote-more s header bytes 20 nh
    ∙ wrote-all s (header ++ bytes) (omega (arith, length-append header bytes)) in
    let v : s2 ≡ tcp_with (source_port_of frame) port (18 + length frame) offset identifier (flags_of last) 0 ++ bytes =
    w ∙ ap (λ (l : List ℕ). l ++ bytes) (eh ∙ ap₂ (λ (x y : ℕ). tcp_with x port (18 + length frame) offset identifier y 0) ep ef) in
    let m : length s2 ≡ 20 + length bytes = ap length w ∙ length-append header bytes ∙ ap (λ (k : ℕ). k + length bytes) nh in
    p3 ∙ rw (m, v)

-- the segment's part of the output was lent behind the IPv4 header, and came back filled
pub segment_landed : (source destination port context identifier offset count end : ℕ) (last : Bool) (frame ip out out1 ys : List ℕ)
    → end ≡ 40 + count → end ≤ length out → offset + count ≤ 18 + length frame
    → ip ≡ ipv4_head 6 end source destination → out1 ≡ laid out 0 ip
    → ys ≡ segment_body source destination port context identifier offset count last frame
    → take 20 out1 ++ (ys ++ drop (end - 20) (drop 20 out1)) ≡ wrote out (segment_packet source destination port context identifier offset count last frame)
unfolding segment_packet packet wrote
segment_landed source destination port context identifier offset count end last frame ip out out1 ys ee room within ei eo ey =
    let body : List ℕ = segment_body source destination port context identifier offset count last frame in
    let nb : length body ≡ 20 + count = segment_body-length source destination port context identifier offset count last frame within in
    let ni : length ip ≡ 20 = ap length ei ∙ ipv4_length 6 end source destination in
    let o1 : out1 ≡ ip ++ drop (length ip) out = eo ∙ wrote-first out ip in
    let no : length out1 ≡ length out = ap length o1 ∙ wrote-length out ip (omega arith) in
    let nd : length (drop 20 out1) ≡ length out1 - 20 = length-drop 20 out1 in
    let front : take 20 out1 ≡ ip = ap (take 20) o1 ∙ take_at ip (drop (length ip) out) 20 ni in
    let rest : drop 20 out1 ≡ drop 20 out = ap (drop 20) o1 ∙ drop_at ip (drop (length ip) out) 20 ni ∙ ap (λ (k : ℕ). drop k out) ni in
    let size : end ≡ 20 + length body = omega arith in
    let all : 20 + (end - 20) ≡ length (ip ++ body) = omega (arith, length-append ip body) in
    let back : drop (end - 20) (drop 20 out1) ≡ drop (length (ip ++ body)) out =
    ap (drop (end - 20)) rest ∙ drop-drop (end - 20) 20 out ∙ ap (λ (k : ℕ). drop k out) all in
    let head : ip ≡ ipv4_head 6 (20 + length body) source destination = ei ∙ ap (λ (k : ℕ). ipv4_head 6 k source destination) size in
    ap₂ (λ (x y : List ℕ). x ++ y) front (ap₂ (λ (x y : List ℕ). x ++ y) ey back)
    ∙ sym (append_assoc ip body (drop (length (ip ++ body)) out))
    ∙ ap (λ (l : List ℕ). (l ++ body) ++ drop (length (l ++ body)) out) head

-- the two ways out of a writer; that the frame fits is what its test answered
pub refused : (may answer : Bool) (packet old : List ℕ) → answer ≡ may → answer ≡ false → Written may packet old old None
refused may answer packet old q e = rw (sym q ∙ e) (record { length_is = refl; output_is = refl })

written : (may answer : Bool) (packet old new : List ℕ) (r : ℕ) → answer ≡ may → answer ≡ true → length packet ≡ r → new ≡ wrote old packet
    → Written may packet old new (Some r)
written may answer packet old new r q e l w = rw (sym q ∙ e) (record { length_is = ap Some (sym l); output_is = w })

pub vxlan-done : (answer : Bool) (source destination vni port r : ℕ) (frame mid old new : List ℕ)
    → answer ≡ fits 36 (length frame) (length old) → answer ≡ true → port ≡ source_port_of frame → mid ≡ udp port 4789 (16 + length frame) 0 (vxlan 8 0 vni 0 [])
    → r ≡ 36 + length frame → new ≡ wrote old (packet 17 source destination (mid ++ frame))
    → Written (fits 36 (length frame) (length old)) (vxlan_packet source destination vni frame) old new (Some r)
unfolding vxlan_packet
vxlan-done answer source destination vni port r frame mid old new q e p f l w =
    written (fits 36 (length frame) (length old)) answer (vxlan_packet source destination vni frame) old new r q e
    (vxlan-length_is source destination vni frame ∙ sym l)
    (w ∙ ap (λ (x : List ℕ). wrote old (packet 17 source destination x)) (vxlan-carried vni port frame mid p f))

pub nvgre-done : (answer : Bool) (source destination vsid r : ℕ) (frame mid old new : List ℕ)
    → answer ≡ fits 28 (length frame) (length old) → answer ≡ true → mid ≡ gre 0 0 vsid 0 []
    → r ≡ 28 + length frame → new ≡ wrote old (packet 47 source destination (mid ++ frame))
    → Written (fits 28 (length frame) (length old)) (nvgre_packet source destination vsid frame) old new (Some r)
unfolding nvgre_packet
nvgre-done answer source destination vsid r frame mid old new q e f l w =
    written (fits 28 (length frame) (length old)) answer (nvgre_packet source destination vsid frame) old new r q e
    (nvgre-length_is source destination vsid frame ∙ sym l)
    (w ∙ ap (λ (x : List ℕ). wrote old (packet 47 source destination x)) (nvgre-carried vsid frame mid f))

pub segment-done : (answer : Bool) (source destination port context identifier offset count : ℕ) (last : Bool) (frame old new : List ℕ)
    → answer ≡ segment_fits (length frame) offset count (length old) → answer ≡ true
    → new ≡ wrote old (segment_packet source destination port context identifier offset count last frame)
    → Written (segment_fits (length frame) offset count (length old)) (segment_packet source destination port context identifier offset count last frame) old new
    (Some (40 + count))
segment-done answer source destination port context identifier offset count last frame old new q e w =
    let g : SegmentFitting (length frame) offset count (length old) = segment-fits_facts answer (length frame) offset count (length old) q e in
    written (segment_fits (length frame) offset count (length old)) answer
    (segment_packet source destination port context identifier offset count last frame) old new (40 + count) q e
    (segment-length_is source destination port context identifier offset count last frame g.within) w
