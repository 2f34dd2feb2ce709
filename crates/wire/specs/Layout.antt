-- The layout of every packet that we write (document 01, "Wrapping" and "Carriage and tunnel headers"; document 02, §5 for the hints of an STT frame): each
-- field of its headers in the order of the RFCs' pictures, by its place, its width in bytes and its value, and then what is carried. It is held against the
-- bytes, whatever built them.
use Rattle.std.specs.Prelude.{◌≡◌, ℕ, ◌+◌, ◌%◌, ◌^◌, ◌<◌, ◌≤◌, Bool, cond, List, [], ◌∷◌, ◌++◌, length, drop}
use Rattle.wire.specs.Bytes.{be_at, part}
use Rattle.wire.specs.Sum.{complement, pseudo}
use Rattle.wire.specs.Inner.{WrittenHints}
use Rattle.wire.specs.Write.{vxlan_packet, nvgre_packet, stt_frame, segment_packet}

-- a field: the place of its first byte, its width in bytes, its value
pub data Field : Type 0 where
  field : (place width value : ℕ) → Field

-- From a place on, the bytes hold these fields, one behind the other with no byte left out, and then what is carried, up to the end.
abbrev pub LaidOut : (at : ℕ) (fields : List Field) (carried bytes : List ℕ) → Type 0
LaidOut at [] carried bytes = (length bytes ≡ at + length carried) × (drop at bytes ≡ carried)
LaidOut at (field place width value ∷ fields) carried bytes =
    (place ≡ at) × (be_at bytes place width ≡ value) × LaidOut (at + width) fields carried bytes

-- ---- the pictures

-- IPv4 (RFC 791, 3.1)
abbrev pub ipv4_fields : (protocol size source destination : ℕ) (packet : List ℕ) → List Field
ipv4_fields protocol size source destination packet =
    field 0 1 0x45  -- version 4, header length 5 words: no options
    ∷ field 1 1 0  -- type of service
    ∷ field 2 2 size  -- total length
    ∷ field 4 2 0  -- identification
    ∷ field 6 2 0x4000  -- flags and fragment offset: don't fragment
    ∷ field 8 1 64  -- time to live
    ∷ field 9 1 protocol
    ∷ field 10 2 (complement (part packet 0 10 ++ part packet 12 20))  -- header checksum, over the header's other bytes
    ∷ field 12 4 source
    ∷ field 16 4 destination
    ∷ []

-- the source port of VXLAN and STT: 49,152 and the sum of the seven 16-bit words of the first 14 inner bytes modulo 16,384
abbrev pub port_of : (frame : List ℕ) → ℕ
port_of frame =
    49152 + (be_at frame 0 2 + be_at frame 2 2 + be_at frame 4 2 + be_at frame 6 2 + be_at frame 8 2 + be_at frame 10 2 + be_at frame 12 2) % 16384

-- VXLAN (RFC 7348, 5) over UDP (RFC 768); it carries the frame
abbrev pub vxlan_fields : (source destination vni : ℕ) (frame packet : List ℕ) → List Field
vxlan_fields source destination vni frame packet =
    ipv4_fields 17 (36 + length frame) source destination packet
    ++ (field 20 2 (port_of frame)  -- source port
    ∷ field 22 2 4789  -- destination port
    ∷ field 24 2 (16 + length frame)  -- UDP length
    ∷ field 26 2 0  -- UDP checksum: none
    ∷ field 28 1 0x08  -- flags: I alone
    ∷ field 29 3 0  -- reserved
    ∷ field 32 3 vni
    ∷ field 35 1 0  -- reserved
    ∷ [])

-- NVGRE (RFC 7637, 3.2): GRE with a key (RFC 2784, RFC 2890); it carries the frame
abbrev pub nvgre_fields : (source destination vsid : ℕ) (frame packet : List ℕ) → List Field
nvgre_fields source destination vsid frame packet =
    ipv4_fields 47 (28 + length frame) source destination packet
    ++ (field 20 2 0x2000  -- key present; no checksum, no sequence number, reserved 0, version 0
    ∷ field 22 2 0x6558  -- protocol type
    ∷ field 24 3 vsid
    ∷ field 27 1 0  -- FlowID
    ∷ [])

-- A segment of an STT frame (draft-davie-stt-06, 3.2), behind a TCP-shaped header; it carries `bytes`, from `offset` on, of the frame.
abbrev pub segment_fields : (source destination from port frame_length_at offset identifier : ℕ) (last : Bool) (bytes packet : List ℕ) → List Field
segment_fields source destination from port frame_length_at offset identifier last bytes packet =
    ipv4_fields 6 (40 + length bytes) source destination packet
    ++ (field 20 2 from  -- source port
    ∷ field 22 2 port  -- destination port
    ∷ field 24 2 frame_length_at  -- sequence number, upper half
    ∷ field 26 2 offset  -- sequence number, lower half
    ∷ field 28 4 identifier  -- acknowledgement number
    ∷ field 32 1 0x50  -- data offset 5 words: no options; reserved 0
    ∷ field 33 1 (cond last 0x18 0x10)  -- ACK, and PSH besides on the frame's last segment
    ∷ field 34 2 0  -- window
    ∷ field 36 2 (complement (pseudo source destination 6 (20 + length bytes) ++ (part packet 20 36 ++ drop 38 packet)))  -- checksum, over all else
    ∷ field 38 2 0  -- urgent pointer
    ∷ [])

-- An STT frame (draft-davie-stt-06, 3.1); it carries the inner frame. Neither 0x01 nor 0x02 is among the flags that are written (`WrittenHints`).
abbrev pub stt_fields : (flags l4 context : ℕ) → List Field
stt_fields flags l4 context =
    field 0 1 0  -- version
    ∷ field 1 1 flags
    ∷ field 2 1 l4  -- L4 offset
    ∷ field 3 1 0  -- reserved
    ∷ field 4 2 0  -- maximum segment size
    ∷ field 6 2 0  -- PCP, V, VLAN
    ∷ field 8 8 context
    ∷ field 16 2 0  -- padding
    ∷ []

-- ---- the packets, laid out so

abbrev pub VxlanLaidOut : (source destination vni : ℕ) (frame packet : List ℕ) → Type 0
VxlanLaidOut source destination vni frame packet = LaidOut 0 (vxlan_fields source destination vni frame packet) frame packet

abbrev pub NvgreLaidOut : (source destination vsid : ℕ) (frame packet : List ℕ) → Type 0
NvgreLaidOut source destination vsid frame packet = LaidOut 0 (nvgre_fields source destination vsid frame packet) frame packet

-- with the hints of the frame (document 02, §5)
pub record SttLaidOut (context : ℕ) (frame whole : List ℕ) : Type 0 where
  pub flags : ℕ
  pub l4 : ℕ
  pub hints : WrittenHints flags l4 frame
  pub laid_out : LaidOut 0 (stt_fields flags l4 context) frame whole

-- of the STT frame `whole`, which carries the frame, the bytes from `offset` up to `end`
abbrev pub SegmentLaidOut : (source destination port offset end identifier : ℕ) (last : Bool) (frame whole packet : List ℕ) → Type 0
SegmentLaidOut source destination port offset end identifier last frame whole packet =
    LaidOut 0 (segment_fields source destination (port_of frame) port (length whole) offset identifier last (part whole offset end) packet)
    (part whole offset end) packet

-- ---- need not be believed: THE STATEMENT of the builders. What they build is laid out so, for all numbers that fit their fields

pub record Layouts : Type 0 where
  pub vxlan : (source destination vni : ℕ) (frame : List ℕ)
      → source < 256 ^ 4 → destination < 256 ^ 4 → vni < 256 ^ 3 → 14 ≤ length frame → 36 + length frame < 256 ^ 2
      → VxlanLaidOut source destination vni frame (vxlan_packet source destination vni frame)
  pub nvgre : (source destination vsid : ℕ) (frame : List ℕ)
      → source < 256 ^ 4 → destination < 256 ^ 4 → vsid < 256 ^ 3 → 28 + length frame < 256 ^ 2
      → NvgreLaidOut source destination vsid frame (nvgre_packet source destination vsid frame)
  pub stt : (context : ℕ) (frame : List ℕ) → context < 256 ^ 8 → SttLaidOut context frame (stt_frame context frame)
  pub segment : (source destination port context identifier offset count : ℕ) (last : Bool) (frame : List ℕ)
      → source < 256 ^ 4 → destination < 256 ^ 4 → port < 256 ^ 2 → identifier < 256 ^ 4
      → 14 ≤ length frame → 18 + length frame < 256 ^ 2 → offset + count ≤ 18 + length frame → 40 + count < 256 ^ 2
      → SegmentLaidOut source destination port offset (offset + count) identifier last frame (stt_frame context frame)
      (segment_packet source destination port context identifier offset count last frame)
