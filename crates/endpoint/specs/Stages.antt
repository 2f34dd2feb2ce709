-- A receive in three stages, as the code makes it: a packet is opened, a segment is taken, a frame is delivered. `Laws/Receive.stages_step` says that they add
-- up to `Receive.step_of`.
use Rattle.std.specs.Prelude.{ℕ, ◌+◌, ◌-◌, ◌*◌, ◌<◌, ◌≤◌, min, Bool, true, false, cond, List, length, ltb, eqb, Result, Ok, Err, Some, None}
use Rattle.std.specs.Prelude as Std
use Rattle.std.proofs.Math.Option.{Option, none, some}
use Rattle.wire.specs.Bytes.{part}
use Rattle.wire.specs.Ipv4.{ipv4_of}
use Rattle.wire.specs.Carriage.{carriage_of}
use Rattle.wire.specs.Stt.{stt_of}
use Rattle.wire.specs.declared.ipv4.Ipv4.{Ipv4}
use Rattle.reassembly.specs.Take.{seg_of, Effect}
use Rattle.reassembly.specs.Store.{bytes_of, take_in}
use Rattle.reassembly.specs.Receive.{part_of_slice, view_of}
use Rattle.reassembly.specs.declared.slot.Peer.{Peer}
use Rattle.reassembly.specs.declared.take.Outcome.{Outcome}
use Rattle.reassembly.specs.declared.take.Outcome.TheVariants as O
use Rattle.endpoint.specs.Answer.{place_of}
use Rattle.endpoint.specs.Search.{lowest}
use Rattle.endpoint.specs.Config.{has_address, most_bindings}
use Rattle.endpoint.specs.Receive.{broken_at, answer_at, inner_from, row_at}
use Rattle.endpoint.specs.declared.answer.Drop.{Drop}
use Rattle.endpoint.specs.declared.answer.Drop.TheVariants as D
use Rattle.endpoint.specs.declared.answer.Received.{Received}
use Rattle.endpoint.specs.declared.answer.Received.TheVariants as R
use Rattle.endpoint.specs.declared.config.Endpoint.{Endpoint}
use Rattle.endpoint.specs.declared.receive.Due.{Due}
use Rattle.endpoint.specs.declared.receive.Content.{Content}
use Rattle.endpoint.specs.declared.receive.Content.TheVariants as A
use Rattle.endpoint.specs.declared.receive.Arrival.{Arrival}
use Rattle.endpoint.specs.declared.receive.InnerFrame.{InnerFrame}
use Rattle.reassembly.specs.Slots.{most_peers, most_slots}
use Rattle.wire.specs.declared.carriage.Carried.TheVariants as C
use Rattle.wire.specs.declared.carriage.Carried.{Carried}
use Rattle.wire.specs.declared.refusal.Refusal.{Refusal}

-- ---- need not be believed: a packet is opened: check 2, then 3 to 10, and 25 to 27. `room` is the memory's length, and `peers` of the
-- addresses are listed

-- what a listed peer's packet brings, by what it carries
abbrev pub carried_from : (start end : ℕ) → Result Carried Refusal → Result Content Drop
carried_from start end (Err r) = Err (broken_at start r)
carried_from start end (Ok (C.Tunnel t)) =
    Ok (A.Frame (record { network = t.network; place = record { start = start + t.start; length = end - (start + t.start); in_memory = false }; kind = t.kind }))
carried_from start end (Ok (C.Segment g)) = Ok (A.Segment (record { header = g; start = start + g.start; length = end - (start + g.start) }))

unfoldable pub content_from : (port : ℕ) → Ipv4 → List ℕ → Result Content Drop
content_from port h k = carried_from h.start h.end (carriage_of h.protocol h.source h.destination port (part k h.start h.end))

-- a packet of no listed peer
abbrev pub from_other : Drop → Arrival
from_other d = record { peer = 0; content = Err d }

abbrev pub open_peer : Option ℕ → Result Content Drop → Arrival
open_peer none content = from_other D.UnknownPeer
open_peer (some p) content = record { peer = p; content = content }

abbrev pub open_header : (addresses : List ℕ) (own port peers : ℕ) → List ℕ → Ipv4 → Arrival
open_header addresses own port peers k h =
    cond (eqb h.destination own) (open_peer (lowest (has_address addresses h.source) peers) (content_from port h k)) (from_other D.NotForUs)

abbrev pub open_ip : Result Ipv4 Refusal → (Ipv4 → Arrival) → Arrival
open_ip (Err r) next = from_other (D.Format r 0)
open_ip (Ok h) next = next h

unfoldable pub open_of : (addresses : List ℕ) (own port peers : ℕ) → (packet : List ℕ) → (room : ℕ) → Arrival
open_of addresses own port peers k room = cond (ltb room 55296) (from_other D.MemoryTooSmall) (open_ip (ipv4_of k) (open_header addresses own port peers k))

-- ---- need not be believed: a segment is taken: 14 to 17, then 28 and 29 where the frame is complete

-- what there is to deliver: nothing yet, or a frame
-- Open: a type
abbrev pub Offer : Type 0
Offer = Result (Std.Option InnerFrame) Drop

-- a complete STT frame that lies in the memory from `at` on
abbrev pub stt_offer : (at size : ℕ) → Result ℕ Refusal → Offer
stt_offer at size (Err r) = Err (broken_at 0 r)
stt_offer at size (Ok context) = Ok (Some (record { network = context; place = record { start = at + 18; length = size - 18; in_memory = true }; kind = 3 }))

unfoldable pub offer_at : (at : ℕ) → List ℕ → Offer
offer_at at frame = stt_offer at (length frame) (stt_of frame)

-- what there is to deliver, by what taking gave
unfoldable pub offer_of : (peer : ℕ) → Outcome → (size : ℕ) → (memory : List ℕ) → Offer
offer_of peer (O.Rejected r) size m = Err (D.Segment r)
offer_of peer O.Pending size m = Ok None
offer_of peer O.NoMemory size m = Err D.MemoryTooSmall
offer_of peer (O.Complete s) size m =
    let at : ℕ = (most_slots * peer + s) * 1728 in
    offer_at at (part m at (at + size))

-- a complete frame lies in the memory
unfoldable pub Lies : (peer : ℕ) → Outcome → (size : ℕ) → List ℕ → Type 0
Lies peer (O.Rejected r) size m = Unit {0}
Lies peer O.Pending size m = Unit {0}
Lies peer O.NoMemory size m = Unit {0}
Lies peer (O.Complete s) size m = (peer < most_peers) × ((s < most_slots) × ((size ≤ 1532) × (55296 ≤ length m)))

-- is there a segment to take
-- Open: which case of an enum
abbrev pub brings_segment : Result Content Drop → Bool
brings_segment (Err d) = false
brings_segment (Ok (A.Frame f)) = false
brings_segment (Ok (A.Segment d)) = true

-- what there is to deliver while nothing is taken
-- Open: a case of an enum turned into another
abbrev pub untaken_of : Result Content Drop → Offer
untaken_of (Err d) = Err d
untaken_of (Ok (A.Frame f)) = Ok (Some f)
untaken_of (Ok (A.Segment d)) = Ok None

-- the row and the memory that taking leaves, and what there is to deliver
pub record Change : Type 0 where
  pub row : Peer
  pub offer : Offer
  pub mem : List ℕ

abbrev pub taken_from : (peer : ℕ) → Peer → (packet memory : List ℕ) → Due → Change
taken_from peer row k m d =
    let o : Effect bytes_of = take_in peer row m (seg_of d.header (part_of_slice k d.start d.length)) in
    record { row = o.row; offer = offer_of peer o.outcome d.header.frame_length o.mem; mem = o.mem }

abbrev pub take_content : (peer : ℕ) → Peer → (packet memory : List ℕ) → Result Content Drop → Change
take_content peer row k m (Err d) = record { row = row; offer = Err d; mem = m }
take_content peer row k m (Ok (A.Frame f)) = record { row = row; offer = Ok (Some f); mem = m }
take_content peer row k m (Ok (A.Segment d)) = taken_from peer row k m d

unfoldable pub take_of : Peer → Arrival → (packet memory : List ℕ) → Change
take_of row a k m = take_content a.peer row k m a.content

-- ---- need not be believed: a frame is delivered: 12, then 13. `networks`, `kinds`, `owners` and `tenants` are the bindings' columns, of which n are listed

unfoldable pub deliver_of : (networks kinds owners tenants : List ℕ) (n peer : ℕ) → Offer → (packet memory : List ℕ) → Result Received Drop
deliver_of networks kinds owners tenants n peer (Err d) k m = Err d
deliver_of networks kinds owners tenants n peer (Ok None) k m = Ok R.Pending
deliver_of networks kinds owners tenants n peer (Ok (Some f)) k m =
    answer_at (inner_from networks kinds owners tenants n peer f.kind f.network (view_of k m (place_of f.place))) f.place

-- ---- need not be believed: with an endpoint's own columns

-- Open: a short name: a stage with an endpoint's own columns
abbrev pub opened_by : Endpoint → (packet : List ℕ) → (room : ℕ) → Arrival
opened_by e k room = open_of e.addresses e.own e.port (min e.peer_count most_peers) k room

-- the row of the peer that sent it is taken with
abbrev pub taken_by : Endpoint → Arrival → (packet memory : List ℕ) → Change
taken_by e x k m = take_of (row_at e x.peer) x k m

-- Open: a short name, likewise
abbrev pub delivered_by : Endpoint → (peer : ℕ) → Offer → (packet memory : List ℕ) → Result Received Drop
delivered_by e peer offer k m = deliver_of e.networks e.kinds e.owners e.tenants (min e.binding_count most_bindings) peer offer k m
