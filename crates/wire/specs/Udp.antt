-- UDP (RFC 768): what a datagram is, and what the reader answers.
use Rattle.std.specs.Prelude.{◌≡◌, ℕ, ◌+◌, ◌^◌, ◌<◌, not, ◌⊎◌, List, [], ◌∷◌, ◌++◌, length, drop, ◌==◌, nat_lt, Result, Err}
use Rattle.wire.specs.Bytes.{be, be_at, ◌then◌}
use Rattle.wire.specs.Sum.{total, ones, pseudo}
use Rattle.wire.specs.Checks.{pick, Check, ◌⇒◌, first}
use Rattle.wire.specs.declared.refusal.Refusal.{Refusal}
use Rattle.wire.specs.declared.refusal.Refusal.TheVariants as R
use Rattle.wire.specs.declared.carriage.Tunnel.{Tunnel}
use Rattle.wire.specs.Vxlan.{vxlan_of}

unfoldable pub udp : (from to size checksum : ℕ) → List ℕ → List ℕ
udp from to size checksum payload = be 2 from then be 2 to then be 2 size then be 2 checksum then payload

-- `datagram` is a datagram from source to a port of destination, carries `payload`, and its checksum is none or right.
pub record IsUdp (source destination port : ℕ) (payload datagram : List ℕ) : Type 0 where
  pub from : ℕ
  pub checksum : ℕ
  pub whole : datagram ≡ udp from port (8 + length payload) checksum payload
  pub right : (checksum ≡ 0) ⊎ (ones (total (pseudo source destination 17 (length datagram) ++ datagram)) ≡ 0xFFFF)
  pub from_fits : from < 256 ^ 2
  pub port_fits : port < 256 ^ 2
  pub size_fits : 8 + length payload < 256 ^ 2
  pub checksum_fits : checksum < 256 ^ 2

-- ---- need not be believed: what the reader answers

-- The sum by which a datagram is judged: all ones where there is no checksum.
unfoldable pub udp_sum : (source destination : ℕ) → List ℕ → ℕ
udp_sum source destination s =
    pick (be_at s 6 2 == 0) 0xFFFF (ones (total (pseudo source destination 17 (length s) ++ s)))

-- The checks of document 01 in their order: 9 (short), 8 (port), 9 (length; no room for a tunnel header), 10.
unfoldable pub udp_checks : (source destination : ℕ) → List ℕ → List (Check Refusal)
udp_checks source destination s =
    (nat_lt (length s) 8 ⇒ R.Short)
    ∷ (not (be_at s 2 2 == 4789) ⇒ R.Port)
    ∷ (not (be_at s 4 2 == length s) ⇒ R.UdpLength)
    ∷ (nat_lt (length s) 16 ⇒ R.UdpLength)
    ∷ (not (udp_sum source destination s == 0xFFFF) ⇒ R.UdpChecksum)
    ∷ []

-- What is accepted is what VXLAN's reader answers to the payload.
unfoldable pub udp_of : (source destination : ℕ) → List ℕ → Result Tunnel Refusal
udp_of source destination s = first Err (udp_checks source destination s) (vxlan_of (drop 8 s))
