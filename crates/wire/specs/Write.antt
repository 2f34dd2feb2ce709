-- What we write (document 01, "Wrapping"), by the same functions of fields to bytes that the readers are proved against.
use Rattle.std.specs.Prelude.{◌≡◌, ℕ, ◌+◌, ◌%◌, Bool, true, false, List, [], ◌∷◌, ◌++◌, length, take, nat_lt, Option, Some, None}
use Rattle.wire.specs.Bytes.{part, wrote}
use Rattle.wire.specs.Sum.{total, pseudo, complement}
use Rattle.wire.specs.Checks.{Check, ◌⇒◌, first, pick}
use Rattle.wire.specs.Ipv4 as I
use Rattle.wire.specs.Udp.{udp}
use Rattle.wire.specs.Vxlan.{vxlan}
use Rattle.wire.specs.Nvgre.{gre}
use Rattle.wire.specs.Inner.{hints_of}
use Rattle.wire.specs.Stt.{stt}
use Rattle.wire.specs.Segment as S

-- ---- need not be believed: the outer IPv4 header (RFC 791, 3.1)

-- no options, service and identification 0, don't fragment (flags word 0x4000), time to live 64
abbrev pub plain : (protocol size source destination checksum : ℕ) → I.Header
plain protocol size source destination checksum = record {
  option_words = 0;
  tos = 0;
  size = size;
  id = 0;
  flags = 2;
  offset = 0;
  ttl = 64;
  protocol = protocol;
  checksum = checksum;
  source = source;
  destination = destination;
  options = [];
}

unfoldable pub ipv4_with : (protocol size source destination checksum : ℕ) → List ℕ
ipv4_with protocol size source destination checksum = I.header (plain protocol size source destination checksum)

-- with its checksum: the complement of the sum over the header with a field of 0. Where that comes out 0, it is written as 0.
unfoldable pub outer : (protocol size source destination : ℕ) → I.Header
outer protocol size source destination = plain protocol size source destination (complement (ipv4_with protocol size source destination 0))

unfoldable pub ipv4_head : (protocol size source destination : ℕ) → List ℕ
ipv4_head protocol size source destination = I.header (outer protocol size source destination)

-- a whole packet of ours
unfoldable pub packet : (protocol source destination : ℕ) → List ℕ → List ℕ
packet protocol source destination payload = ipv4_head protocol (20 + length payload) source destination ++ payload

-- ---- need not be believed: what it carries

-- the source port of VXLAN and STT: 49,152 and the plain sum of the seven words of the first 14 inner bytes modulo 16,384
unfoldable pub source_port_of : List ℕ → ℕ
source_port_of frame = 49152 + total (take 14 frame) % 16384

-- UDP (RFC 768) with no checksum, and VXLAN (RFC 7348, 5) with the flag I alone
unfoldable pub vxlan_body : (vni : ℕ) → List ℕ → List ℕ
vxlan_body vni frame = udp (source_port_of frame) 4789 (8 + length (vxlan 8 0 vni 0 frame)) 0 (vxlan 8 0 vni 0 frame)

-- GRE with a key (RFC 2890), the FlowID 0 (RFC 7637, 3.2)
unfoldable pub nvgre_body : (vsid : ℕ) → List ℕ → List ℕ
nvgre_body vsid frame = gre 0 0 vsid 0 frame

-- an STT frame (draft-davie-stt-06, 3.1): every field but the hints (document 02, §5) and the Context ID is 0
unfoldable pub stt_frame : (context : ℕ) → List ℕ → List ℕ
stt_frame context frame = stt 0 (hints_of frame).flags (hints_of frame).l4 0 0 0 context 0 frame

-- ---- need not be believed: a segment of an STT frame (draft-davie-stt-06, 3.2)

-- ACK, and PSH besides on a frame's last segment
unfoldable pub flags_of : Bool → ℕ
flags_of true = 0x18
flags_of false = 0x10

-- no options, window and urgent pointer 0
abbrev pub tcp : (from to frame_length_at offset identifier flags sum : ℕ) → S.Header
tcp from to frame_length_at offset identifier flags sum = record {
  source_port = from;
  destination_port = to;
  frame_length = frame_length_at;
  offset = offset;
  identifier = identifier;
  option_words = 0;
  reserved = 0;
  flags = flags;
  window = 0;
  checksum = sum;
  urgent = 0;
  options = [];
}

unfoldable pub tcp_with : (from to frame_length_at offset identifier flags checksum : ℕ) → List ℕ
tcp_with from to frame_length_at offset identifier flags checksum = S.header (tcp from to frame_length_at offset identifier flags checksum)

-- the checksum is over the pseudo header, this header with a field of 0, and the segment's bytes (RFC 793, 3.1)
unfoldable pub segment_header : (source destination from to frame_length_at offset identifier flags : ℕ) → List ℕ → S.Header
segment_header source destination from to frame_length_at offset identifier flags bytes =
    tcp from to frame_length_at offset identifier flags
    (complement (pseudo source destination 6 (20 + length bytes) ++ (tcp_with from to frame_length_at offset identifier flags 0 ++ bytes)))

-- the segment of `count` bytes of the STT frame from `offset` on
unfoldable pub segment_bytes : (context offset count : ℕ) → List ℕ → List ℕ
segment_bytes context offset count frame = part (stt_frame context frame) offset (offset + count)

unfoldable pub segment_body : (source destination port context identifier offset count : ℕ) → Bool → List ℕ → List ℕ
segment_body source destination port context identifier offset count last frame =
    S.header (segment_header source destination (source_port_of frame) port (18 + length frame) offset identifier (flags_of last)
    (segment_bytes context offset count frame))
    ++ segment_bytes context offset count frame

-- ---- need not be believed: whole packets

unfoldable pub vxlan_packet : (source destination vni : ℕ) → List ℕ → List ℕ
vxlan_packet source destination vni frame = packet 17 source destination (vxlan_body vni frame)

unfoldable pub nvgre_packet : (source destination vsid : ℕ) → List ℕ → List ℕ
nvgre_packet source destination vsid frame = packet 47 source destination (nvgre_body vsid frame)

unfoldable pub segment_packet : (source destination port context identifier offset count : ℕ) → Bool → List ℕ → List ℕ
segment_packet source destination port context identifier offset count last frame =
    packet 6 source destination (segment_body source destination port context identifier offset count last frame)

-- ---- need not be believed: when a packet is written: the frame has its Ethernet header, the numbers fit 16 bits, and the output has room

-- `headers` bytes in front of a frame of n bytes
unfoldable pub fit_checks : (headers n room : ℕ) → List (Check (Unit {0}))
fit_checks headers n room =
    (nat_lt n 14 ⇒ tt)
    ∷ (nat_lt 65535 (headers + n) ⇒ tt)
    ∷ (nat_lt room (headers + n) ⇒ tt)
    ∷ []

unfoldable pub fits : (headers n room : ℕ) → Bool
fits headers n room = first (λ _. false) (fit_checks headers n room) true

-- a segment that lies within the STT frame of an inner frame of n bytes
unfoldable pub segment_fit_checks : (n offset count room : ℕ) → List (Check (Unit {0}))
segment_fit_checks n offset count room =
    (nat_lt n 14 ⇒ tt)
    ∷ (nat_lt 65535 (18 + n) ⇒ tt)
    ∷ (nat_lt (18 + n) (offset + count) ⇒ tt)
    ∷ (nat_lt 65535 (40 + count) ⇒ tt)
    ∷ (nat_lt room (40 + count) ⇒ tt)
    ∷ []

unfoldable pub segment_fits : (n offset count room : ℕ) → Bool
segment_fits n offset count room = first (λ _. false) (segment_fit_checks n offset count room) true

-- What a writer leaves: the packet at the front of the output, and its length; or else the output as it came, and none.
pub record Written (may : Bool) (packet old new : List ℕ) (r : Option ℕ) : Type 0 where
  pub length_is : r ≡ pick may (Some (length packet)) None
  pub output_is : new ≡ pick may (wrote old packet) old
