-- DEMAND 3's words (document 00; document 01, "Whose packet it is"): whose packet it is, a sound packet, and a good frame with the Context ID, its binding and
-- its tenant are the published formats'.
-- Only definitions; `Demand3` (Demands.antt) is the statement, proved in Laws/Demand3.
use Rattle.std.specs.Prelude.{ℕ, ◌≡◌, List, drop}
use Rattle.std.proofs.Math.Option.{some}
use Rattle.wire.specs.Bytes.{Bytes}
use Rattle.wire.specs.Ipv4.{IsIpv4}
use Rattle.reassembly.specs.Slots.{Note}
use Rattle.reassembly.specs.Take.{Seg}
use Rattle.reassembly.specs.Receive.{segment, good}
use Rattle.endpoint.specs.Config.{Config}
use Rattle.endpoint.specs.Receive.{header_of, source_of, judge_of}
use Rattle.endpoint.specs.Formats.{ListedPeer, CarriesSegment, GoodFrame}
use Rattle.endpoint.specs.declared.answer.Target.{Target}

-- `packet` is an IPv4 packet to us from peer p: it passes checks 3 to 6, and its source is that peer
pub record From (c : Config) (packet : List ℕ) (p : ℕ) : Type 0 where
  pub source : ℕ
  pub protocol : ℕ
  pub payload : List ℕ
  pub ipv4 : IsIpv4 source c.own protocol payload packet
  pub listed : ListedPeer c source p

-- what the words of `Claim` and `EveryRun` mean for this configuration and this peer
pub record WordsMean (c : Config) (p : ℕ) : Type 0 where
  -- a packet is the peer's
  pub whose : (k : List ℕ) → Bytes k → source_of c k ≡ some p → From c k p
  pub whose_all : (k : List ℕ) → From c k p → source_of c k ≡ some p
  -- a sound packet of the peer's, with what it states and carries
  pub sound : (k : List ℕ) (g : Seg) → Bytes k → header_of c k ≡ segment p g → CarriesSegment c k p g
  pub sound_all : (k : List ℕ) (g : Seg) → CarriesSegment c k p g → header_of c k ≡ segment p g
  -- a good frame: its Context ID, the binding and the tenant of that, and its bytes from 18 on
  pub good_frame : (note : Note) (frame : List ℕ) (t : Target) → Bytes frame → judge_of c p note frame ≡ good t → GoodFrame c p frame t (drop 18 frame)
  pub good_all : (note : Note) (frame : List ℕ) (t : Target) (inner : List ℕ) → GoodFrame c p frame t inner
      → (judge_of c p note frame ≡ good t) × (drop 18 frame ≡ inner)
