-- What the published formats, read as documents 01 and 02 read them, and our configuration say of a packet and of a complete STT frame. Definitions only:
-- demand 2 and demand 3 are stated with them. Nothing here speaks of the receiver.
use Rattle.std.specs.Prelude.{ℕ, ◌<◌, ◌≡◌, ◌≢◌, List, get_or}
use Rattle.wire.specs.Ipv4.{IsIpv4}
use Rattle.wire.specs.Carriage.{Tunnels}
use Rattle.wire.specs.Segment.{IsSegment}
use Rattle.wire.specs.Stt.{IsStt}
use Rattle.wire.specs.Frame.{IsFrame}
use Rattle.reassembly.specs.Slots.{no_mark}
use Rattle.reassembly.specs.Take.{Seg}
use Rattle.endpoint.specs.Config.{Config}
use Rattle.endpoint.specs.declared.answer.Target.{Target}

-- ---- the listing. For a lookup, the lowest-numbered one that matches is the answer

-- peer p is listed with this address, and no lower one is
pub record ListedPeer (c : Config) (address p : ℕ) : Type 0 where
  pub below : p < c.peers
  pub has : get_or c.addresses p 0 ≡ address
  pub lowest : (i : ℕ) → i < p → get_or c.addresses i 0 ≢ address

-- entry i of the bindings is of this peer, kind and network
pub record IsBinding (c : Config) (peer kind network i : ℕ) : Type 0 where
  pub of_peer : get_or c.owners i 0 ≡ peer
  pub of_kind : get_or c.kinds i 0 ≡ kind
  pub of_network : get_or c.networks i 0 ≡ network

-- the target is the lowest-numbered binding of this peer, kind and network, and its tenant
pub record Bound (c : Config) (peer kind network : ℕ) (t : Target) : Type 0 where
  pub below : t.binding < c.bindings
  pub is : IsBinding c peer kind network t.binding
  pub lowest : (i : ℕ) → i < t.binding → IsBinding c peer kind network i → ⊥
  pub tenant : t.tenant ≡ get_or c.tenants t.binding 0

-- ---- packets and frames

-- `packet` is an IPv4 packet to us from a listed peer that carries the frame by VXLAN or NVGRE (document 01, "Carriage and tunnel headers") on a network
-- that is bound to the target, and the frame keeps the inner frame's rule
pub record CarriesFrame (c : Config) (packet : List ℕ) (t : Target) (frame : List ℕ) : Type 0 where
  pub source : ℕ
  pub protocol : ℕ
  pub payload : List ℕ
  pub ipv4 : IsIpv4 source c.own protocol payload packet
  pub peer : ℕ
  pub listed : ListedPeer c source peer
  pub kind : ℕ
  pub network : ℕ
  pub tunnel : Tunnels kind protocol source c.own network frame payload
  pub bound : Bound c peer kind network t
  pub good : IsFrame frame

-- `packet` is peer p's, and passes 3 to 10 as an STT packet: an IPv4 packet to us from that peer that carries this segment to the STT port
pub record CarriesSegment (c : Config) (packet : List ℕ) (p : ℕ) (g : Seg) : Type 0 where
  pub source : ℕ
  pub payload : List ℕ
  pub ipv4 : IsIpv4 source c.own 6 payload packet
  pub listed : ListedPeer c source p
  pub segment : IsSegment source c.own c.port g.frame_length g.offset g.identifier g.bytes payload
  pub no_mark_is : g.mark ≡ no_mark

-- a complete STT frame from peer p passes 28, 29, 12 and 13: it carries this inner frame on the network of its Context ID, which is bound to the target, and
-- the frame keeps its rule
pub record GoodFrame (c : Config) (p : ℕ) (whole : List ℕ) (t : Target) (inner : List ℕ) : Type 0 where
  pub context : ℕ
  pub stt : IsStt context inner whole
  pub bound : Bound c p 3 context t
  pub good : IsFrame inner
