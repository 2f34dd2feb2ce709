-- DEMAND 2, writing (document 01, "Wrapping"): what is written for a binding is, by the same formats that the receiver is proved against, a packet from us to
-- the binding's peer that carries the frame: whole by VXLAN or NVGRE on the binding's network, or by STT the segment asked for of an STT frame that carries it.
-- Each field of its headers has the value that document 01 gives it, and the hints of an STT frame those that document 02, §5 does. Count and bounds are the
-- paper's formula.
-- How to read it: `Demand2Writing e b frame` is the statement for one binding and one frame; `whole` is the STT frame, the same for every segment. The theorem
-- (`demand_two_writing` of Laws) asks that the endpoint came from the calls (`Reached`) and that the binding is listed; every other call of wrapping is
-- refused, as `wrap_of` says.
use Rattle.std.specs.Prelude.{ℕ, zero, suc, ◌+◌, ◌-◌, ◌*◌, ◌/◌, ◌^◌, ◌<◌, ◌≤◌, min, ◌≡◌, ◌⊎◌, List, [], ◌++◌, length, get_or, drop, eqb, Ok}
use Rattle.wire.specs.Bytes.{part}
use Rattle.wire.specs.Ipv4.{IsIpv4}
use Rattle.wire.specs.Carriage.{Tunnels}
use Rattle.wire.specs.Segment.{IsSegment}
use Rattle.wire.specs.Stt.{IsStt}
use Rattle.wire.specs.Frame.{IsFrame}
use Rattle.wire.specs.Layout.{VxlanLaidOut, NvgreLaidOut, SttLaidOut, SegmentLaidOut}
use Rattle.endpoint.specs.Wrap.{segments_of, kind_at, network_at, peer_at, wrap_of}
use Rattle.endpoint.specs.declared.answer.Packet.{Packet}
use Rattle.endpoint.specs.declared.config.Endpoint.{Endpoint}

-- ---- the statement's words

-- the packet is an IPv4 packet from us to the peer that carries the frame by VXLAN (1) or NVGRE (2) on the network
pub record CarriesWhole (own peer kind network : ℕ) (frame packet : List ℕ) : Type 0 where
  pub protocol : ℕ
  pub payload : List ℕ
  pub ipv4 : IsIpv4 own peer protocol payload packet
  pub tunnel : Tunnels kind protocol own peer network frame payload

-- the bytes of segment k of an STT frame, of F bytes: those from kC up to the smaller of F and kC + C, where C is the MTU − 40
abbrev pub portion : (mtu : ℕ) (whole : List ℕ) (k : ℕ) → List ℕ
portion mtu whole k = part whole (k * (mtu - 40)) (min (length whole) (k * (mtu - 40) + (mtu - 40)))

-- the first n segments' bytes, joined in order
unfoldable pub joined_to : (mtu : ℕ) (whole : List ℕ) (n : ℕ) → List ℕ
joined_to mtu whole zero = []
joined_to mtu whole (suc n) = joined_to mtu whole n ++ portion mtu whole n

-- the packet is an IPv4 packet from us to the peer that carries segment k to the STT port: it states the frame's length, its own offset and the identifier
pub record CarriesPart (own peer port mtu : ℕ) (whole : List ℕ) (k identifier : ℕ) (packet : List ℕ) : Type 0 where
  pub payload : List ℕ
  pub ipv4 : IsIpv4 own peer 6 payload packet
  pub segment : IsSegment own peer port (length whole) (k * (mtu - 40)) identifier (portion mtu whole k) payload

-- each field of the packet by its place, its width and its value, and the packet's length, by the kind (crate wire, specs/Layout.antt)
abbrev pub LaidOutBy : (kind own peer port network mtu : ℕ) (frame whole : List ℕ) (k segments identifier : ℕ) (packet : List ℕ) → Type 0
LaidOutBy kind own peer port network mtu frame whole k segments identifier packet =
    ((kind ≡ 1) × VxlanLaidOut own peer network frame packet)
    ⊎ (((kind ≡ 2) × NvgreLaidOut own peer network frame packet)
    ⊎ ((kind ≡ 3)
    × SegmentLaidOut own peer port (k * (mtu - 40)) (min (length whole) (k * (mtu - 40) + (mtu - 40))) identifier (eqb (k + 1) segments) frame whole packet))

-- a packet's length by its kind: the headers' 36, 28 or 40 bytes, and what they carry
abbrev pub IsPacketLength : (kind size mtu k : ℕ) → ℕ → Type 0
IsPacketLength kind size mtu k n =
    ((kind ≡ 1) × (n ≡ 36 + size))
    ⊎ (((kind ≡ 2) × (n ≡ 28 + size))
    ⊎ ((kind ≡ 3) × (n ≡ 40 + (min (18 + size) (k * (mtu - 40) + (mtu - 40)) - k * (mtu - 40)))))

-- what one call that answers 0 was asked for, and leaves: a segment of a good frame; the packet at the output's front, and nothing else changed; its length,
-- and the number of segments
pub record Sent (e : Endpoint) (b : ℕ) (frame whole : List ℕ) (k identifier : ℕ) (output : List ℕ) (p : Packet) : Type 0 where
  pub good : IsFrame frame
  pub within : k < p.segments
  pub packet : List ℕ
  pub output_is : (wrap_of e b frame k identifier output).output ≡ packet ++ drop (length packet) output
  pub length_is : p.length ≡ length packet
  pub in_mtu : length packet ≤ e.mtu
  pub in_output : length packet ≤ length output
  pub segments_is : p.segments ≡ segments_of (kind_at e b) (length frame) e.mtu
  pub layout : LaidOutBy (kind_at e b) e.own (peer_at e b) e.port (network_at e b) e.mtu frame whole k p.segments identifier packet
  pub carries : CarriesWhole e.own (peer_at e b) (kind_at e b) (network_at e b) frame packet
      ⊎ ((kind_at e b ≡ 3) × CarriesPart e.own (peer_at e b) e.port e.mtu whole k identifier packet)

-- ---- THE STATEMENT, of a binding and a frame

pub record Demand2Writing (e : Endpoint) (b : ℕ) (frame : List ℕ) : Type 0 where
  -- binding b's kind, its network, and the address of its peer are those that the configuration lists
  pub kind_is : kind_at e b ≡ get_or e.kinds b 0
  pub network_is : network_at e b ≡ get_or e.networks b 0
  pub peer_is : peer_at e b ≡ get_or e.addresses (get_or e.owners b 0) 0
  -- one segment by VXLAN and NVGRE; by STT, with F = 18 plus the frame's length and C = MTU − 40, (F + C − 1) div C
  pub one : (kind_at e b ≡ 1) ⊎ (kind_at e b ≡ 2) → segments_of (kind_at e b) (length frame) e.mtu ≡ 1
  pub count : kind_at e b ≡ 3 → segments_of (kind_at e b) (length frame) e.mtu ≡ (18 + length frame + (e.mtu - 40) - 1) / (e.mtu - 40)
  -- the STT frame, of F bytes, carries the frame on the binding's network, and is its segments' bytes joined in order
  pub whole : List ℕ
  pub whole_layout : SttLaidOut (network_at e b) frame whole
  pub whole_is : kind_at e b ≡ 3 → IsStt (network_at e b) frame whole
  pub joined : kind_at e b ≡ 3 → joined_to e.mtu whole (segments_of (kind_at e b) (length frame) e.mtu) ≡ whole
  -- a call that answers 0 wrote the segment that it was asked for
  pub sent : (k identifier : ℕ) → identifier < 256 ^ 4 → (output : List ℕ) (p : Packet) → (wrap_of e b frame k identifier output).answer ≡ Ok p
      → Sent e b frame whole k identifier output p
  -- and each segment of a good frame is written, where its packet is within the MTU, as an STT segment's always is, and the output has room for it
  pub writes : (k identifier : ℕ) (output : List ℕ) (n : ℕ) → IsFrame frame → k < segments_of (kind_at e b) (length frame) e.mtu
      → IsPacketLength (kind_at e b) (length frame) e.mtu k n → (kind_at e b ≡ 3) ⊎ (n ≤ e.mtu) → n ≤ length output
      → (wrap_of e b frame k identifier output).answer ≡ Ok (record { length = n; segments = segments_of (kind_at e b) (length frame) e.mtu })
