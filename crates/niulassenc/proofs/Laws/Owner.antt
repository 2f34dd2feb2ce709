-- Laws of a binding's owner: listed or not; and what is read from the endpoint's column is the configuration's.
use Rattle.std.specs.Prelude.{ℕ, ◌≤◌, ◌<◌, ◌≡◌, List, get_or}
use Rattle.std.proofs.Common.{◌∙◌, lt-ltb, le-ltb}
use Rattle.std.proofs.Math.Path.{subst⁻¹}
use Rattle.std.proofs.Math.Option.{some}
use Rattle.wire.specs.Bytes.{Bytes}
use Rattle.lookup.proofs.Laws.Cases.{either}
use Rattle.endpoint.specs.Answer.{Values, values_of}
use Rattle.endpoint.specs.Config.{Config, config_of}
use Rattle.endpoint.specs.Demand1.{SameConfiguration, FromPacket, FromMemory}
use Rattle.endpoint.specs.Formats.{Bound}
use Rattle.endpoint.specs.Receive.{step_of, receipt_of}
use Rattle.endpoint.proofs.Laws.Demands.{demand_one}
use Rattle.endpoint.proofs.Laws.Config.{config_is}
use Rattle.endpoint.specs.declared.answer.Target.{Target}
use Rattle.endpoint.specs.declared.config.Endpoint.{Endpoint}
use Rattle.niulassenc.specs.Answer.{or_none}
use Rattle.niulassenc.specs.Owner.{owner_of, SentBy, Owners}

module _ (c : Config) (i : ℕ) where
  owner_listed : i < c.bindings → or_none (owner_of c i) ≡ get_or c.owners i 0
  unfolding owner_of
  owner_listed l = rw (lt-ltb i c.bindings l)

  owner_unlisted : c.bindings ≤ i → or_none (owner_of c i) ≡ 0xFFFF
  unfolding owner_of
  owner_unlisted l = rw (le-ltb i c.bindings l)

-- ---- a delivered frame: its binding's peer is the sender

-- a receive leaves the configuration's bindings as they are
same_owner : (e e' : Endpoint) (i : ℕ) → SameConfiguration e e' → owner_of (config_of e') i ≡ owner_of (config_of e) i
unfolding owner_of
same_owner e e' i w =
    rw (config_is e, config_is e', w.bindings.owners, w.bindings.count)

bound-peer : (c : Config) (peer kind network : ℕ) (t : Target) → Bound c peer kind network t → or_none (owner_of c t.binding) ≡ peer
bound-peer c peer kind network t b = owner_listed c t.binding b.below ∙ b.is.of_peer

module _ (e : Endpoint) (m k : List ℕ) (bytes-m : Bytes m) (bytes-k : Bytes k) where
  abbrev v : Values
  v = values_of (step_of e m k).answer

  abbrev e' : Endpoint
  e' = (receipt_of e (step_of e m k)).endpoint

  -- from the owner before the call to the one behind it
  behind : (t : Target) (peer : ℕ) → v.binding ≡ some t.binding → SameConfiguration e e' → or_none (owner_of (config_of e) t.binding) ≡ peer
      → or_none (owner_of (config_of e') (or_none v.binding)) ≡ peer
  behind t peer is w o = rw (is, same_owner e e' t.binding w) o

  owner_sent : v.number ≡ 0 → SentBy (config_of e) k (or_none (owner_of (config_of e') (or_none v.binding)))
  owner_sent zero_is =
      let rule = demand_one.receive e m k in
      let d = rule.delivered zero_is in
      either d.from
      (λ (w : FromPacket e m k d.t v.place e' (step_of e m k).mem).
      let c = w.carried bytes-k in
      let o = bound-peer (config_of e) c.peer c.kind c.network d.t c.bound in
      subst⁻¹ (SentBy (config_of e) k) (behind d.t c.peer d.binding rule.configuration o)
      (record { source = c.source; protocol = c.protocol; payload = c.payload; ipv4 = c.ipv4; listed = c.listed }))
      (λ (w : FromMemory e m k d.t v.place e' (step_of e m k).mem).
      let g = w.good bytes-m bytes-k in
      let c = w.completed.stored.carried bytes-k in
      let o = bound-peer (config_of e) w.p 3 g.context d.t g.bound in
      subst⁻¹ (SentBy (config_of e) k) (behind d.t w.p d.binding rule.configuration o)
      (record { source = c.source; protocol = 6; payload = c.payload; ipv4 = c.ipv4; listed = c.listed }))

pub owners : Owners
owners = record { delivered = owner_sent; listed = owner_listed; unlisted = owner_unlisted }
