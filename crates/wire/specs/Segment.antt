-- A segment of STT (draft-davie-stt-06, 3.2): what it is, and what the reader answers.
use Rattle.std.specs.Prelude.{◌≡◌, ℕ, ◌+◌, ◌*◌, ◌/◌, ◌^◌, ◌<◌, not, List, [], ◌∷◌, ◌++◌, length, ◌==◌, nat_lt, Result, Ok, Err}
use Rattle.wire.specs.Bytes.{be, be_at, ◌then◌}
use Rattle.wire.specs.Sum.{total, ones, pseudo}
use Rattle.wire.specs.Checks.{Check, ◌⇒◌, first}
use Rattle.wire.specs.declared.refusal.Refusal.{Refusal}
use Rattle.wire.specs.declared.refusal.Refusal.TheVariants as R
use Rattle.wire.specs.declared.segment.Segment.{Segment}

-- The header's fields.
pub record Header : Type 0 where
  pub source_port : ℕ
  pub destination_port : ℕ
  pub frame_length : ℕ  -- upper half of the sequence number: the STT frame's length
  pub offset : ℕ  -- lower half: the place of this segment in that frame
  pub identifier : ℕ  -- the acknowledgement number
  pub option_words : ℕ  -- 32-bit words of options
  pub reserved : ℕ
  pub flags : ℕ
  pub window : ℕ
  pub checksum : ℕ
  pub urgent : ℕ
  pub options : List ℕ

unfoldable pub header : Header → List ℕ
header f =
    be 2 f.source_port
    then be 2 f.destination_port
    then be 2 f.frame_length
    then be 2 f.offset
    then be 4 f.identifier
    then be 1 ((5 + f.option_words) * 16 + f.reserved)
    then be 1 f.flags
    then be 2 f.window
    then be 2 f.checksum
    then be 2 f.urgent
    then f.options

-- Each field that is read fits its bits.
pub record Fits (f : Header) : Type 0 where
  pub destination_port : f.destination_port < 256 ^ 2
  pub frame_length : f.frame_length < 256 ^ 2
  pub offset : f.offset < 256 ^ 2
  pub identifier : f.identifier < 256 ^ 4
  pub option_words : 5 + f.option_words < 2 ^ 4
  pub reserved : f.reserved < 2 ^ 4
  pub options : length f.options ≡ 4 * f.option_words

-- `payload`, of an IPv4 packet from source to destination, is a segment for the port that carries `bytes` of a frame.
pub record IsSegment (source destination port frame_length_at offset identifier : ℕ) (bytes payload : List ℕ) : Type 0 where
  pub f : Header
  pub fits : Fits f
  pub whole : payload ≡ header f ++ bytes
  pub short : length payload < 256 ^ 2  -- the pseudo header can tell its length
  pub checksum : ones (total (pseudo source destination 6 (length payload) ++ payload)) ≡ 0xFFFF
  pub port_is : f.destination_port ≡ port
  pub frame_length_is : f.frame_length ≡ frame_length_at
  pub offset_is : f.offset ≡ offset
  pub identifier_is : f.identifier ≡ identifier

-- ---- need not be believed: what the reader answers

abbrev pub data_offset_at : List ℕ → ℕ
data_offset_at s = be_at s 12 1 / 16

-- The checks of document 01 in their order: 9 (short), 8 (port), 9 (too long, which no IPv4 payload is; data offset) and 10.
unfoldable pub segment_checks : (source destination port : ℕ) → List ℕ → List (Check Refusal)
segment_checks source destination port s =
    (nat_lt (length s) 20 ⇒ R.Short)
    ∷ (not (be_at s 2 2 == port) ⇒ R.Port)
    ∷ (nat_lt 65535 (length s) ⇒ R.TcpLength)
    ∷ (nat_lt (data_offset_at s) 5 ⇒ R.DataOffset)
    ∷ (nat_lt (length s) (4 * data_offset_at s) ⇒ R.DataOffset)
    ∷ (not (ones (total (pseudo source destination 6 (length s) ++ s)) == 0xFFFF) ⇒ R.TcpChecksum)
    ∷ []

unfoldable pub segment_at : List ℕ → Segment
segment_at s = record { start = 4 * data_offset_at s; identifier = be_at s 8 4; frame_length = be_at s 4 2; offset = be_at s 6 2 }

unfoldable pub segment_of : (source destination port : ℕ) → List ℕ → Result Segment Refusal
segment_of source destination port s = first Err (segment_checks source destination port s) (Ok (segment_at s))
