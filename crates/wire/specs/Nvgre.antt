-- NVGRE (RFC 7637, 3.2; GRE with a key, RFC 2890): what carries a frame, and what the reader answers.
use Rattle.std.specs.Prelude.{◌≡◌, ℕ, ◌+◌, ◌*◌, ◌%◌, ◌^◌, ◌<◌, not, List, [], ◌∷◌, length, ◌==◌, nat_lt, Result, Ok, Err}
use Rattle.wire.specs.Bytes.{be, be_at, ◌then◌}
use Rattle.wire.specs.Checks.{Check, ◌⇒◌, first}
use Rattle.wire.specs.declared.refusal.Refusal.{Refusal}
use Rattle.wire.specs.declared.refusal.Refusal.TheVariants as R
use Rattle.wire.specs.declared.carriage.Tunnel.{Tunnel}

-- Checksum and sequence bits 0, key bit 1, version 0, protocol type 0x6558. Of the reserved bits those that a receiver ignores (6 to 12, RFC 2784, 2.3) stand
-- on both sides of a byte's end: `high` and `low`. The key is the VSID and the FlowID (RFC 7637, 3.2).
unfoldable pub gre : (high low vsid flow : ℕ) → List ℕ → List ℕ
gre high low vsid flow frame = be 1 (2 * 16 + high) then be 1 (low * 8) then be 2 0x6558 then be 3 vsid then be 1 flow then frame

-- `payload` is a GRE header with the network's key, and the frame. Reserved bits 6 to 12 and the FlowID are free.
pub record IsNvgre (vsid : ℕ) (frame payload : List ℕ) : Type 0 where
  pub high : ℕ
  pub low : ℕ
  pub flow : ℕ
  pub whole : payload ≡ gre high low vsid flow frame
  pub high_fits : high < 4
  pub low_fits : low < 32
  pub vsid_fits : vsid < 256 ^ 3

-- ---- need not be believed: what the reader answers

-- 9 of document 01, then 26 and 27 (document 02, §4), byte by byte.
unfoldable pub nvgre_checks : List ℕ → List (Check Refusal)
nvgre_checks s =
    (nat_lt (length s) 8 ⇒ R.Short)
    ∷ (nat_lt (be_at s 0 1) 0x20 ⇒ R.GreFlags)
    ∷ (nat_lt 0x23 (be_at s 0 1) ⇒ R.GreFlags)
    ∷ (not (be_at s 1 1 % 8 == 0) ⇒ R.GreVersion)
    ∷ (not (be_at s 2 1 == 0x65) ⇒ R.GreTypeHigh)
    ∷ (not (be_at s 3 1 == 0x58) ⇒ R.GreTypeLow)
    ∷ []

-- What is accepted: the network, and the frame behind the header's 8 bytes.
unfoldable pub nvgre_at : List ℕ → Tunnel
nvgre_at s = record { start = 8; network = be_at s 4 3; kind = 2 }

unfoldable pub nvgre_of : List ℕ → Result Tunnel Refusal
nvgre_of s = first Err (nvgre_checks s) (Ok (nvgre_at s))
