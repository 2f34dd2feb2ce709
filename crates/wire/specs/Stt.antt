-- An STT frame (draft-davie-stt-06, 3.1): what it is, and what the reader of a complete one answers.
use Rattle.std.specs.Prelude.{◌≡◌, ℕ, ◌%◌, ◌^◌, ◌<◌, ◌≤◌, Bool, false, not, ◌&&◌, ◌≢◌, List, [], ◌∷◌, length, drop, ◌==◌, nat_lt, Result, Ok, Err}
use Rattle.wire.specs.Bytes.{Bytes, be, be_at, ◌then◌}
use Rattle.wire.specs.Checks.{Check, ◌⇒◌, first}
use Rattle.wire.specs.Inner.{CarriesTransport, carries_transport}
use Rattle.wire.specs.declared.refusal.Refusal.{Refusal}
use Rattle.wire.specs.declared.refusal.Refusal.TheVariants as R

unfoldable pub stt : (version flags l4 reserved mss tag context padding : ℕ) → List ℕ → List ℕ
stt version flags l4 reserved mss tag context padding frame =
    be 1 version
    then be 1 flags
    then be 1 l4
    then be 1 reserved
    then be 2 mss
    then be 2 tag  -- PCP 3, V 1, VLAN 12
    then be 8 context
    then be 2 padding
    then frame

-- `whole` is an STT frame of version 0 that carries the inner frame on the network of a Context ID. Flag number 0 is the lowest bit: 0x01 and 0x02 are not
-- both set where the inner frame carries TCP or UDP over IP (document 02, §5). The other flags, the hints, the tag and the padding are free.
pub record IsStt (context : ℕ) (frame whole : List ℕ) : Type 0 where
  pub flags : ℕ
  pub l4 : ℕ
  pub reserved : ℕ
  pub mss : ℕ
  pub tag : ℕ
  pub padding : ℕ
  pub is : whole ≡ stt 0 flags l4 reserved mss tag context padding frame
  pub flags_fit : flags < 256
  pub not_both : CarriesTransport frame → flags % 4 ≢ 3
  pub context_fits : context < 256 ^ 8

-- ---- need not be believed: what the reader answers, and its statement

-- flags 0x01 and 0x02 are both set, of an inner frame that carries TCP or UDP over IP (document 02, §5)
unfoldable pub contradicts : List ℕ → Bool
contradicts s = be_at s 1 1 % 4 == 3 && carries_transport (drop 18 s)

-- 28 and 29 (document 02, §4). A complete frame has at least 32 bytes.
unfoldable pub stt_checks : List ℕ → List (Check Refusal)
stt_checks s =
    (nat_lt (length s) 18 ⇒ R.Short)
    ∷ (not (be_at s 0 1 == 0) ⇒ R.SttVersion)
    ∷ (contradicts s ⇒ R.SttFlags)
    ∷ []

unfoldable pub stt_of : List ℕ → Result ℕ Refusal
stt_of s = first Err (stt_checks s) (Ok (be_at s 8 8))

-- THE STATEMENT: every STT frame is read, as its Context ID; what is read is one; the other flags, the hints, the tag and the padding do not count, and flags
-- 0x01 and 0x02 not either where the inner frame carries no TCP or UDP over IP.
pub record ReadsStt : Type 0 where
  pub complete : (context : ℕ) (frame s : List ℕ) → IsStt context frame s → (stt_of s ≡ Ok context) × (drop 18 s ≡ frame)
  pub sound : (s : List ℕ) → Bytes s → (context : ℕ) → stt_of s ≡ Ok context → IsStt context (drop 18 s) s × (18 ≤ length s)
  pub ignores : (s t : List ℕ) → length s ≡ length t → be_at s 0 1 ≡ be_at t 0 1 → be_at s 8 8 ≡ be_at t 8 8 → contradicts s ≡ contradicts t → stt_of s ≡ stt_of t
  pub agrees : (s : List ℕ) → (CarriesTransport (drop 18 s) → be_at s 1 1 % 4 ≢ 3) → contradicts s ≡ false
