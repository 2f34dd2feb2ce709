-- The inner frame: Ethernet (IEEE 802.3) with no check sequence and no VLAN tag.
use Rattle.std.specs.Prelude.{◌≡◌, ℕ, ◌≤◌, ◌≢◌, List, [], ◌∷◌, length, nat_eq, nat_lt, Result, Ok, Err}
use Rattle.wire.specs.Bytes.{be_at}
use Rattle.wire.specs.Checks.{Check, ◌⇒◌, first}
use Rattle.wire.specs.declared.refusal.Refusal.{Refusal}
use Rattle.wire.specs.declared.refusal.Refusal.TheVariants as R

pub record IsFrame (frame : List ℕ) : Type 0 where
  pub least : 14 ≤ length frame
  pub most : length frame ≤ 1514
  pub no_tag : be_at frame 12 2 ≢ 0x8100
  pub no_service_tag : be_at frame 12 2 ≢ 0x88A8

-- ---- need not be believed: what the reader answers, and its statement

-- The check 13 of document 01.
unfoldable pub frame_checks : List ℕ → List (Check Refusal)
frame_checks s =
    (nat_lt (length s) 14 ⇒ R.FrameLength)
    ∷ (nat_lt 1514 (length s) ⇒ R.FrameLength)
    ∷ (nat_eq (be_at s 12 2) 0x8100 ⇒ R.FrameTag)
    ∷ (nat_eq (be_at s 12 2) 0x88A8 ⇒ R.FrameTag)
    ∷ []

unfoldable pub frame_of : List ℕ → Result (Unit {0}) Refusal
frame_of s = first Err (frame_checks s) (Ok tt)

-- THE STATEMENT: exactly the good frames are read as such.
pub record ReadsFrame : Type 0 where
  pub complete : (s : List ℕ) → IsFrame s → frame_of s ≡ Ok tt
  pub sound : (s : List ℕ) → frame_of s ≡ Ok tt → IsFrame s
