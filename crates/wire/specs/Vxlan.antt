-- VXLAN (RFC 7348, 5): what the header in front of a frame is, and what the reader answers.
use Rattle.std.specs.Prelude.{◌≡◌, ℕ, ◌/◌, ◌%◌, ◌^◌, ◌<◌, not, List, [], ◌∷◌, length, ◌==◌, nat_lt, Result, Ok, Err}
use Rattle.wire.specs.Bytes.{be, be_at, ◌then◌}
use Rattle.wire.specs.Checks.{Check, ◌⇒◌, first}
use Rattle.wire.specs.declared.refusal.Refusal.{Refusal}
use Rattle.wire.specs.declared.refusal.Refusal.TheVariants as R
use Rattle.wire.specs.declared.carriage.Tunnel.{Tunnel}

-- Flags, 24 reserved bits, the VNI, 8 reserved bits, and the inner frame.
unfoldable pub vxlan : (flags reserved vni last : ℕ) → List ℕ → List ℕ
vxlan flags reserved vni last frame = be 1 flags then be 3 reserved then be 3 vni then be 1 last then frame

-- `payload` is a VXLAN header for the network and the frame. The flag I (0x08) is set; other flags and the reserved bits are free.
pub record IsVxlan (vni : ℕ) (frame payload : List ℕ) : Type 0 where
  pub flags : ℕ
  pub reserved : ℕ
  pub last : ℕ
  pub whole : payload ≡ vxlan flags reserved vni last frame
  pub flag : flags / 8 % 2 ≡ 1
  pub flags_fit : flags < 256
  pub vni_fits : vni < 256 ^ 3

-- ---- need not be believed: what the reader answers

abbrev pub vni_at : List ℕ → ℕ
vni_at s = be_at s 4 3

-- 25 (document 02, §4). What UDP carries has at least 8 bytes.
unfoldable pub vxlan_checks : List ℕ → List (Check Refusal)
vxlan_checks s =
    (nat_lt (length s) 8 ⇒ R.Short)
    ∷ (not (be_at s 0 1 / 8 % 2 == 1) ⇒ R.VxlanFlag)
    ∷ []

-- What is accepted: the network, and the frame behind 8 bytes of UDP and 8 of VXLAN.
unfoldable pub vxlan_at : List ℕ → Tunnel
vxlan_at s = record { start = 16; network = vni_at s; kind = 1 }

unfoldable pub vxlan_of : List ℕ → Result Tunnel Refusal
vxlan_of s = first Err (vxlan_checks s) (Ok (vxlan_at s))
