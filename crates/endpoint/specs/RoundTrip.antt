-- DEMAND 2, the round trip (document 01, "Wrapping"), its statement: one for all kinds. A matching endpoint, freshly set up, is given each segment of a
-- wrapped frame once, under one identifier, in any order, with no tick between: at the last it delivers exactly the frame, to the binding and the tenant that
-- it has for it, and at the others it answers 1.
-- How to read it: `round_trip` (Laws/RoundTrip) says that `Wraps` and `Matches` give `RoundTrip`. Only definitions.
use Rattle.std.specs.Prelude.{ℕ, ◌+◌, ◌<◌, ◌≤◌, ◌≡◌, cond, List, [], ◌∷◌, ◌++◌, map, length, get_or, take, ltb, eqb, Ok}
use Rattle.reassembly.specs.Receive.{Event, receive}
use Rattle.endpoint.specs.Config.{address_at, Adding, set_up}
use Rattle.endpoint.specs.Receive.{step_of}
use Rattle.endpoint.specs.Run.{Left, calls}
use Rattle.endpoint.specs.Wrap.{segments_of, kind_at, network_at, owner_at, peer_at, wrap_of}
use Rattle.endpoint.specs.Demand2.{Delivers}
use Rattle.endpoint.specs.declared.answer.Packet.{Packet}
use Rattle.endpoint.specs.declared.answer.Target.{Target}
use Rattle.endpoint.specs.declared.answer.Received.TheVariants as R
use Rattle.endpoint.specs.declared.config.Endpoint.{Endpoint}

-- the number of segments of the frame on binding b
abbrev pub segments_for : Endpoint → ℕ → List ℕ → ℕ
segments_for e b frame = segments_of (kind_at e b) (length frame) e.mtu

-- each segment's packet is what a call of wrapping wrote at the front of its output, all under one identifier
pub record Wraps (e : Endpoint) (b : ℕ) (frame : List ℕ) (identifier : ℕ) (packets : ℕ → List ℕ) : Type 0 where
  pub output : ℕ → List ℕ
  pub answer : ℕ → Packet
  pub written : (k : ℕ) → k < segments_for e b frame → (wrap_of e b frame k identifier (output k)).answer ≡ Ok (answer k)
  pub is : (k : ℕ) → k < segments_for e b frame → packets k ≡ take (answer k).length (wrap_of e b frame k identifier (output k)).output

-- e' is freshly set up; its own address is that of the peer of e's binding b, it lists e's address as its peer number `peer`, its STT port is e's, and its
-- binding b' binds that peer to the same kind and network
pub record Matches (e : Endpoint) (b : ℕ) (e' : Endpoint) (b' : ℕ) : Type 0 where
  pub own : ℕ
  pub stt_port : ℕ
  pub mtu : ℕ
  pub adds : List Adding
  pub set_up_from : e' ≡ set_up own stt_port mtu adds
  pub own_is : e'.own ≡ peer_at e b
  pub port_is : e'.port ≡ e.port
  pub peer : ℕ
  pub peer_listed : peer < e'.peer_count
  pub peer_is : address_at e' peer ≡ e.own
  pub binding_listed : b' < e'.binding_count
  pub owner_is : owner_at e' b' ≡ peer
  pub kind_is : kind_at e' b' ≡ kind_at e b
  pub network_is : network_at e' b' ≡ network_at e b

-- an order of the segments: each number below the count stands in it once, and no other
unfoldable pub times_in : ℕ → List ℕ → ℕ
times_in k [] = 0
times_in k (x ∷ xs) = cond (eqb x k) 1 0 + times_in k xs

pub record Order (count : ℕ) (order : List ℕ) : Type 0 where
  pub once : (k : ℕ) → times_in k order ≡ cond (ltb k count) 1 0

-- the segments arrive, one after another
abbrev pub arrivals : (ℕ → List ℕ) → List ℕ → List Event
arrivals packets order = map (λ (k : ℕ). receive (packets k)) order

-- what is answered to a packet, where `later` segments are still to come: 1 before the last, and at the last the frame is delivered, and handed back
pub record Answered (w : Left) (packet : List ℕ) (t : Target) (frame : List ℕ) (later : ℕ) : Type 0 where
  pub waits : 0 < later → (step_of w.endpoint w.mem packet).answer ≡ Ok R.Pending
  pub delivers : later ≡ 0 → Delivers w.endpoint w.mem packet t frame

-- ---- THE STATEMENT, of a matching endpoint and packets that carry the frame

pub record RoundTrip (frame : List ℕ) (count : ℕ) (packets : ℕ → List ℕ) (e' : Endpoint) (b' : ℕ) : Type 0 where
  -- there is a last packet
  pub some_segment : 0 < count
  -- any memory that is large enough, any order of the segments: the answer to each, after those before it
  pub answered : (m : List ℕ) → 55296 ≤ length m → (order : List ℕ) → Order count order → (before : List ℕ) (k : ℕ) (after : List ℕ) → order ≡ before
      ++ (k ∷ after)
      → Answered (calls (record { endpoint = e'; mem = m }) (arrivals packets before)) (packets k)
      (record { tenant = get_or e'.tenants b' 0; binding = b' }) frame (length after)
