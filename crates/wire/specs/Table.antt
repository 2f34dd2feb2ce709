-- DOCUMENT 01's TABLE ("The numbered answers"), the rows that the bytes of a packet decide: a condition and the number that it gives, in the paper's order;
-- the rows 25 to 29 (document 02, §4; 29 as §5 narrows it) also name the byte that breaks its rule.
-- The endpoint's page (crate endpoint, specs/Table.antt) joins them with its own; compare them with the paper line by line.
-- No reader stands here but in `Table`, THE STATEMENT: what a reader answers is told by the first row that applies, number and offset, and where none does,
-- the fields that it read are those named there. Laws/Table.antt proves it (`wire_table`).
use Rattle.std.specs.Prelude.{◌≡◌, ℕ, ◌+◌, ◌*◌, ◌/◌, ◌%◌, ◌^◌, ◌≤◌, Bool, cond, not, ◌&&◌, ◌||◌, List, [], ◌∷◌, ◌++◌, length, take, drop, Result, Ok, Err}
use Rattle.wire.specs.Bytes.{be_at, part}
use Rattle.wire.specs.Sum.{total, ones, pseudo}
use Rattle.wire.specs.Checks.{Check, first}
pub use Rattle.wire.specs.Checks.{◌is◌, ◌isnt◌, ◌below◌, ◌above◌, ◌at_least◌}
use Rattle.wire.specs.Checks as K
use Rattle.wire.specs.Refusal.{Finding, ◌at_byte◌, only, finding_of}
use Rattle.wire.specs.Ipv4.{ipv4_of}
use Rattle.wire.specs.Carriage.{carriage_of}
use Rattle.wire.specs.Inner.{carries_transport}
use Rattle.wire.specs.Stt.{stt_of}
use Rattle.wire.specs.Frame.{frame_of}
use Rattle.wire.specs.declared.ipv4.Ipv4.{Ipv4}
use Rattle.wire.specs.declared.segment.Segment.{Segment}
use Rattle.wire.specs.declared.carriage.Tunnel.{Tunnel}
use Rattle.wire.specs.declared.carriage.Carried.TheVariants as C
use Rattle.wire.specs.declared.carriage.Carried.{Carried}
use Rattle.wire.specs.declared.refusal.Refusal.{Refusal}

-- ---- words

abbrev pub Rows : Type 0
Rows = List (Check Finding)

-- a row: a condition, and the number that it gives; or the number and the byte that it names
infix 20 ◌⇒◌ ◌⇒◌at_byte◌
abbrev pub ◌⇒◌ : Bool → ℕ → Check Finding
test ⇒ n = K.◌⇒◌ test (only n)

abbrev pub ◌⇒◌at_byte◌ : Bool → ℕ → ℕ → Check Finding
test ⇒ n at_byte i = K.◌⇒◌ test (n at_byte i)

-- rows and then further ones, grouped to the right: how a page is written down
infixr 18 ◌and_then◌
abbrev pub ◌and_then◌ : Rows → Rows → Rows
a and_then b = a ++ b

-- what the first row that applies tells, and where none does, this
infix 15 ◌otherwise◌
abbrev pub ◌otherwise◌ : Rows → Finding → Finding
rows otherwise x = first (λ y. y) rows x

-- where none does, 0 and no byte
-- Open: a word of the pages above
abbrev pub told : Rows → Finding
told rows = rows otherwise only 0

-- its number alone
-- Open: likewise
abbrev pub numbered : Rows → ℕ
numbered rows = first (λ (x : Finding). x.number) rows 0

-- the ones' complement sum (RFC 1071): a checksum is right where it is 0xFFFF
abbrev pub sum : List ℕ → ℕ
sum bytes = ones (total bytes)

-- ---- the outer header (RFC 791): its fields; 3, 4, 5

unfoldable pub header_length_of : (packet : List ℕ) → ℕ
header_length_of packet = 4 * (be_at packet 0 1 % 16)

unfoldable pub total_length_of : (packet : List ℕ) → ℕ
total_length_of packet = be_at packet 2 2

unfoldable pub protocol_of : (packet : List ℕ) → ℕ
protocol_of packet = be_at packet 9 1

unfoldable pub source_of : (packet : List ℕ) → ℕ
source_of packet = be_at packet 12 4

unfoldable pub destination_of : (packet : List ℕ) → ℕ
destination_of packet = be_at packet 16 4

unfoldable pub payload_of : (packet : List ℕ) → List ℕ
payload_of packet = part packet (header_length_of packet) (total_length_of packet)

unfoldable pub ipv4_rows : (packet : List ℕ) → Rows
ipv4_rows packet =
    let words : ℕ = be_at packet 0 1 % 16 in
    let size : ℕ = total_length_of packet in
    (length packet below 20 || be_at packet 0 1 / 16 isnt 4 || words below 5 || size below 4 * words || size above length packet ⇒ 3)
    ∷ (sum (take (4 * words) packet) isnt 0xFFFF ⇒ 4)
    ∷ (be_at packet 6 2 % 2 ^ 14 isnt 0 ⇒ 5)  -- the more-fragments bit and the fragment offset
    ∷ []

-- ---- what the IP payload carries: 9, 8, 9, 10

-- the fields of an STT segment's header, and the bytes behind it
unfoldable pub data_words_of : (payload : List ℕ) → ℕ
data_words_of payload = be_at payload 12 1 / 16

unfoldable pub frame_length_of : (payload : List ℕ) → ℕ
frame_length_of payload = be_at payload 4 2

unfoldable pub offset_of : (payload : List ℕ) → ℕ
offset_of payload = be_at payload 6 2

unfoldable pub identifier_of : (payload : List ℕ) → ℕ
identifier_of payload = be_at payload 8 4

unfoldable pub segment_bytes_of : (payload : List ℕ) → List ℕ
segment_bytes_of payload = drop (4 * data_words_of payload) payload

unfoldable pub payload_rows : (protocol source destination stt_port : ℕ) (payload : List ℕ) → Rows
payload_rows protocol source destination stt_port payload =
    let udp : Bool = protocol is 17 in
    let tcp : Bool = protocol is 6 in
    let gre : Bool = protocol is 47 in
    let size : ℕ = length payload in
    let port : ℕ = be_at payload 2 2 in
    let words : ℕ = data_words_of payload in
    let wrong : Bool = sum (pseudo source destination protocol size ++ payload) isnt 0xFFFF in
    (udp && size below 8 || tcp && size below 20 ⇒ 9)
    ∷ (not (udp || tcp || gre) || udp && port isnt 4789 || tcp && port isnt stt_port ⇒ 8)
    ∷ (udp && (be_at payload 4 2 isnt size || size below 16) || gre && size below 8 || tcp && (words below 5 || 4 * words above size) ⇒ 9)
    ∷ (udp && (be_at payload 6 2 isnt 0 && wrong) || tcp && wrong ⇒ 10)
    ∷ []

-- ---- tunnel headers: 25 to 29, each with the byte that breaks its rule. In the packet, the payload begins at `start`

-- VXLAN over UDP: flag 0x08 of the first byte
unfoldable pub vni_of : (payload : List ℕ) → ℕ
vni_of payload = be_at payload 12 3

unfoldable pub vxlan_rows : (start : ℕ) (payload : List ℕ) → Rows
vxlan_rows start payload = (be_at payload 8 1 / 8 % 2 isnt 1 ⇒ 25 at_byte start + 8) ∷ []

-- NVGRE: first byte 0x20 to 0x23, low three bits of the second 0, protocol type 0x6558
unfoldable pub vsid_of : (payload : List ℕ) → ℕ
vsid_of payload = be_at payload 4 3

unfoldable pub nvgre_rows : (start : ℕ) (payload : List ℕ) → Rows
nvgre_rows start payload =
    (be_at payload 0 1 below 0x20 || be_at payload 0 1 above 0x23 ⇒ 26 at_byte start)
    ∷ (be_at payload 1 1 % 8 isnt 0 ⇒ 26 at_byte start + 1)
    ∷ (be_at payload 2 1 isnt 0x65 ⇒ 27 at_byte start + 2)
    ∷ (be_at payload 3 1 isnt 0x58 ⇒ 27 at_byte start + 3)
    ∷ []

-- a complete STT frame: version 0; flags 0x01 and 0x02 not both set, where the inner frame carries TCP or UDP over IP (document 02, §5; Inner.antt). The bytes
-- are the STT frame's own
unfoldable pub context_of : (frame : List ℕ) → ℕ
context_of frame = be_at frame 8 8

unfoldable pub stt_rows : (frame : List ℕ) → Rows
stt_rows frame = (be_at frame 0 1 isnt 0 ⇒ 28 at_byte 0) ∷ (be_at frame 1 1 % 4 is 3 && carries_transport (drop 18 frame) ⇒ 29 at_byte 1) ∷ []

-- ---- the inner frame: 13. Under 14 or over 1,514 bytes; bytes 12 and 13 are 0x8100 or 0x88A8

unfoldable pub bad_frame : (frame : List ℕ) → Bool
bad_frame frame = length frame below 14 || length frame above 1514 || be_at frame 12 2 is 0x8100 || be_at frame 12 2 is 0x88A8

-- ---- need not be believed: THE STATEMENT of the readers, and its words

-- what a reader's answer tells: a refusal's finding, and what is made of what was read
-- Open: a match on a reader's answer
abbrev pub tells : {A : Type 0} → (start : ℕ) → (A → Finding) → Result A Refusal → Finding
tells start f (Ok x) = f x
tells start f (Err r) = finding_of start r

-- what is made of what an IP payload carries
-- Open: a match on `Carried`
abbrev pub carried_tells : (Tunnel → Finding) → (Segment → Finding) → Carried → Finding
carried_tells f g (C.Tunnel t) = f t
carried_tells f g (C.Segment s) = g s

-- wherever the IP payload begins in the packet
pub record Table : Type 0 where
  pub ipv4 : (start : ℕ) (f : Ipv4 → Finding) (packet : List ℕ)
      → tells start f (ipv4_of packet)
      ≡ (ipv4_rows packet otherwise f (record {
        start = header_length_of packet;
        end = total_length_of packet;
        source = source_of packet;
        destination = destination_of packet;
        protocol = protocol_of packet;
      }))
  -- a payload has at most 65,535 bytes
  pub payload : (f : Tunnel → Finding) (g : Segment → Finding) (start protocol source destination stt_port : ℕ) (payload : List ℕ) → length payload ≤ 65535
      → tells start (carried_tells f g) (carriage_of protocol source destination stt_port payload)
      ≡ (payload_rows protocol source destination stt_port payload otherwise
      cond (protocol is 17) (vxlan_rows start payload otherwise f (record { kind = 1; network = vni_of payload; start = 16 }))
      (cond (protocol is 47) (nvgre_rows start payload otherwise f (record { kind = 2; network = vsid_of payload; start = 8 }))
      (g (record { frame_length = frame_length_of payload; offset = offset_of payload; identifier = identifier_of payload; start = 4 * data_words_of payload }))))
  pub stt_frame_lem : (start : ℕ) (f : ℕ → Finding) (frame : List ℕ) → 18 ≤ length frame
      → tells start f (stt_of frame) ≡ (stt_rows frame otherwise f (context_of frame))
  pub inner_frame : (start : ℕ) (x : Finding) (frame : List ℕ) → tells start (λ u. x) (frame_of frame) ≡ ((bad_frame frame ⇒ 13) ∷ [] otherwise x)
