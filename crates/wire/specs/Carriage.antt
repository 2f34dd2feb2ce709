-- What an IP payload carries (document 01, "Carriage and tunnel headers"): a frame on a VXLAN or NVGRE network, or a segment of an STT frame.
use Rattle.std.specs.Prelude.{◌≡◌, ℕ, ◌+◌, ◌/◌, ◌%◌, ◌≤◌, ◌⊎◌, List, ◌++◌, length, drop, ◌==◌, Result, Ok, Err}
use Rattle.wire.specs.Bytes.{Bytes, be_at}
use Rattle.wire.specs.Sum.{total, ones, pseudo}
use Rattle.wire.specs.Checks.{pick}
use Rattle.wire.specs.Udp.{IsUdp, udp_of}
use Rattle.wire.specs.Vxlan.{IsVxlan, vxlan_of}
use Rattle.wire.specs.Nvgre.{IsNvgre, nvgre_of}
use Rattle.wire.specs.Segment.{header, IsSegment, segment_of}
use Rattle.wire.specs.declared.refusal.Refusal.TheVariants as R
use Rattle.wire.specs.declared.segment.Segment.{Segment}
use Rattle.wire.specs.declared.carriage.Tunnel.{Tunnel}
use Rattle.wire.specs.declared.carriage.Carried.TheVariants as C
use Rattle.wire.specs.declared.carriage.Carried.{Carried}
use Rattle.wire.specs.declared.refusal.Refusal.{Refusal}

-- ---- the format

-- `payload`, of an IPv4 packet from source to destination, is a UDP datagram to port 4789 that carries the frame on the VXLAN network.
pub record IsVxlanUdp (source destination vni : ℕ) (frame payload : List ℕ) : Type 0 where
  pub inner : List ℕ
  pub udp : IsUdp source destination 4789 inner payload
  pub vxlan : IsVxlan vni frame inner

-- `payload`, of an IPv4 packet of that protocol from source to destination, carries the frame on a network of a kind: 1 VXLAN over UDP (17), 2 NVGRE (47).
abbrev pub Tunnels : (kind protocol source destination id : ℕ) (frame payload : List ℕ) → Type 0
Tunnels kind protocol source destination id frame payload =
    ((kind ≡ 1) × (protocol ≡ 17) × IsVxlanUdp source destination id frame payload)
    ⊎ ((kind ≡ 2) × (protocol ≡ 47) × IsNvgre id frame payload)

-- ---- need not be believed: what the reader answers

-- the answer of one of the readers below
abbrev pub carried : {A : Type 0} → (A → Carried) → Result A Refusal → Result Carried Refusal
carried kind (Ok x) = Ok (kind x)
carried kind (Err r) = Err r

unfoldable pub carriage_of : (protocol source destination port : ℕ) → List ℕ → Result Carried Refusal
carriage_of protocol source destination port s =
    pick (protocol == 17) (carried C.Tunnel (udp_of source destination s))
    (pick (protocol == 47) (carried C.Tunnel (nvgre_of s))
    (pick (protocol == 6) (carried C.Segment (segment_of source destination port s))
    (Err R.Protocol)))

-- ---- need not be believed: THE STATEMENT of this reader. Every payload that carries a frame or a segment is read, as what it says and where it lies; what is
-- read is one; what document 01 ignores does not count

-- the reader answers the network, and where the frame lies
pub record TunnelRead (read : Result Carried Refusal) (kind id : ℕ) (frame payload : List ℕ) : Type 0 where
  pub start : ℕ
  pub is : read ≡ Ok (C.Tunnel (record { start = start; network = id; kind = kind }))
  pub frame_is : drop start payload ≡ frame
  pub long : length payload ≡ start + length frame

pub record ReadsCarriage : Type 0 where
  pub tunnel_complete : (kind protocol source destination port id : ℕ) (frame payload : List ℕ) → Tunnels kind protocol source destination id frame payload
      → TunnelRead (carriage_of protocol source destination port payload) kind id frame payload
  pub tunnel_sound : (protocol source destination port : ℕ) (s : List ℕ) → Bytes s → (t : Tunnel) → carriage_of protocol source destination port s ≡ Ok (C.Tunnel t)
      → Tunnels t.kind protocol source destination t.network (drop t.start s) s × (t.start ≤ length s)
  pub segment_complete : (source destination port frame_length_at offset identifier : ℕ) (bytes payload : List ℕ)
      (w : IsSegment source destination port frame_length_at offset identifier bytes payload)
      → let n = length (header w.f) in
      (carriage_of 6 source destination port payload ≡ Ok (C.Segment (record { start = n; identifier = identifier; frame_length = frame_length_at; offset = offset })))
      × (drop n payload ≡ bytes)
  pub segment_sound : (protocol source destination port : ℕ) (s : List ℕ) → Bytes s → (g : Segment) → carriage_of protocol source destination port s
      ≡ Ok (C.Segment g)
      → (protocol ≡ 6) × IsSegment source destination port g.frame_length g.offset g.identifier (drop g.start s) s × (g.start ≤ length s)
  -- VXLAN: the answer depends on the length, the flag I and the VNI alone
  pub vxlan_ignores : (s t : List ℕ) → length s ≡ length t → be_at s 0 1 / 8 % 2 ≡ be_at t 0 1 / 8 % 2 → be_at s 4 3 ≡ be_at t 4 3 → vxlan_of s ≡ vxlan_of t
  -- NVGRE: on the length, bits 0 to 5 and 13 to 15, the protocol type and the VSID alone
  pub nvgre_ignores : (s t : List ℕ) → length s ≡ length t → be_at s 0 1 / 4 ≡ be_at t 0 1 / 4 → be_at s 1 1 % 8 ≡ be_at t 1 1 % 8
      → be_at s 2 1 ≡ be_at t 2 1 → be_at s 3 1 ≡ be_at t 3 1 → be_at s 4 3 ≡ be_at t 4 3 → nvgre_of s ≡ nvgre_of t
  -- STT: on the length, the port, the data offset, the checksum being right, and the segment's three numbers alone
  pub segment_ignores : (source destination port : ℕ) (s t : List ℕ) → length s ≡ length t → be_at s 2 2 ≡ be_at t 2 2 → be_at s 12 1 / 16 ≡ be_at t 12 1 / 16
      → ones (total (pseudo source destination 6 (length s) ++ s)) ≡ ones (total (pseudo source destination 6 (length t) ++ t))
      → be_at s 4 2 ≡ be_at t 4 2 → be_at s 6 2 ≡ be_at t 6 2 → be_at s 8 4 ≡ be_at t 8 4 → segment_of source destination port s ≡ segment_of source destination port t
