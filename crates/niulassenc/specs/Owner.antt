-- Whose a binding is: with it a caller learns which peer sent a delivered frame. `Owners` is THE STATEMENT, proved in Laws/Owner (`owners`).
use Rattle.std.specs.Prelude.{ℕ, ◌<◌, ◌≤◌, ◌≡◌, cond, List, get_or, ltb}
use Rattle.std.proofs.Math.Option.{Option, none, some}
use Rattle.wire.specs.Bytes.{Bytes}
use Rattle.wire.specs.Ipv4.{IsIpv4}
use Rattle.endpoint.specs.Answer.{values_of}
use Rattle.endpoint.specs.Config.{Config, config_of}
use Rattle.endpoint.specs.Formats.{ListedPeer}
use Rattle.endpoint.specs.Receive.{step_of, receipt_of}
use Rattle.endpoint.specs.declared.config.Endpoint.{Endpoint}
use Rattle.niulassenc.specs.Answer.{or_none, flat_of}

-- ---- need not be believed: the peer of binding number i of a configuration; none where no such binding is listed

unfoldable pub owner_of : Config → ℕ → Option ℕ
owner_of c i = cond (ltb i c.bindings) (some (get_or c.owners i 0)) none

-- ---- the peer of a delivered frame

-- the packet is an IPv4 packet to us whose source is the address that this peer is listed with
pub record SentBy (c : Config) (packet : List ℕ) (peer : ℕ) : Type 0 where
  pub source : ℕ
  pub protocol : ℕ
  pub payload : List ℕ
  pub ipv4 : IsIpv4 source c.own protocol payload packet
  pub listed : ListedPeer c source peer

pub record Owners : Type 0 where
  -- the binding that a frame is delivered on, asked of the endpoint as the receive left it: the packet's source is its peer's address
  pub delivered : (e : Endpoint) (memory packet : List ℕ) → Bytes memory → Bytes packet → (flat_of (values_of (step_of e memory packet).answer)).code ≡ 0
      → SentBy (config_of e) packet
      (or_none (owner_of (config_of (receipt_of e (step_of e memory packet)).endpoint) (flat_of (values_of (step_of e memory packet).answer)).binding))
  -- any listed binding, and any other
  pub listed : (c : Config) (i : ℕ) → i < c.bindings → or_none (owner_of c i) ≡ get_or c.owners i 0
  pub unlisted : (c : Config) (i : ℕ) → c.bindings ≤ i → or_none (owner_of c i) ≡ 0xFFFF
