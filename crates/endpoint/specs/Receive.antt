-- Receiving (document 01, "The numbered answers"): what the layers below make of a packet, what a complete STT frame is worth, and one receive, whole.
use Rattle.std.specs.Prelude.{ℕ, ◌+◌, refl, Bool, true, false, cond, List, length, get_or, set, drop, ltb, eqb, Result, Ok, Err}
use Rattle.std.proofs.Math.Option.{Option, none, some}
use Rattle.wire.specs.Bytes.{part}
use Rattle.wire.specs.Refusal.{finding_of}
use Rattle.wire.specs.declared.refusal.Refusal.{Refusal}
use Rattle.wire.specs.Ipv4.{ipv4_of}
use Rattle.wire.specs.Carriage.{carriage_of}
use Rattle.wire.specs.Stt.{stt_of}
use Rattle.wire.specs.Frame.{frame_of}
use Rattle.wire.specs.declared.ipv4.Ipv4.{Ipv4}
use Rattle.reassembly.specs.Slots.{Note, no_row}
use Rattle.reassembly.specs.Take.{seg_of, Effect}
use Rattle.reassembly.specs.Store.{bytes_of, take_in}
use Rattle.reassembly.specs.Receive.{Answers, Reading, other_sender, direct, segment, Verdict, bad, good, take_answer}
use Rattle.reassembly.specs.SetUp.{Layers, World}
use Rattle.reassembly.specs.declared.slot.Peer.{Peer}
use Rattle.endpoint.specs.Answer.{values_of}
use Rattle.endpoint.specs.Search.{lowest}
use Rattle.endpoint.specs.Config.{Config, config_of, with_rows, find_peer, binds}
use Rattle.endpoint.specs.declared.answer.Place.{Place}
use Rattle.endpoint.specs.declared.answer.Target.{Target}
use Rattle.endpoint.specs.declared.answer.Drop.{Drop}
use Rattle.endpoint.specs.declared.answer.Drop.TheVariants as D
use Rattle.endpoint.specs.declared.answer.Received.{Received}
use Rattle.endpoint.specs.declared.answer.Received.TheVariants as R
use Rattle.endpoint.specs.declared.config.Endpoint.{Endpoint}
use Rattle.wire.specs.declared.carriage.Carried.TheVariants as C
use Rattle.wire.specs.declared.carriage.Carried.{Carried}

-- ---- what an answer is to the theory of runs

abbrev pub is_delivered : Result Received Drop → Bool
is_delivered (Ok (R.Delivered t p)) = true
is_delivered (Ok R.Pending) = false
is_delivered (Err d) = false

abbrev pub in_lent_memory : Target → ℕ → ℕ → Result Received Drop
in_lent_memory t start n = Ok (R.Delivered t (record { start = start; length = n; in_memory = true }))

-- Open: a record of names, with which the statements about runs are read
abbrev pub answers : Answers
answers = record {
  A = Result Received Drop;
  Bad = Drop;
  Good = Target;
  place = λ a. (values_of a).place;
  delivered = is_delivered;
  too_small = Err D.MemoryTooSmall;
  pending = Ok R.Pending;
  rejected = λ r. Err (D.Segment r);
  refused = λ d. Err d;
  gives = in_lent_memory;
  too_small_place = refl;
  pending_place = refl;
  rejected_place = λ r. refl;
  refused_place = λ d. refl;
  gives_place = λ t start n. refl;
  too_small_not = refl;
  pending_not = refl;
  rejected_not = λ r. refl;
  refused_not = λ d. refl;
  gives_is = λ t start n. refl;
}

-- ---- need not be believed: the inner frame: 12, then 13. `networks`, `kinds`, `owners` and `tenants` are the bindings' columns, of which n are listed

abbrev pub by_frame : Result (Unit {0}) Refusal → Target → Verdict answers
by_frame (Ok tt) t = good t
by_frame (Err r) t = bad (D.Format r 0)

abbrev pub by_binding : (tenants : List ℕ) → Option ℕ → Result (Unit {0}) Refusal → Verdict answers
by_binding tenants none frame = bad D.NoBinding
by_binding tenants (some b) frame = by_frame frame (record { tenant = get_or tenants b 0; binding = b })

-- a frame from this peer on this network
unfoldable pub inner_from : (networks kinds owners tenants : List ℕ) (n peer kind network : ℕ) → List ℕ → Verdict answers
inner_from networks kinds owners tenants n peer kind network frame =
    by_binding tenants (lowest (binds networks kinds owners peer kind network) n) (frame_of frame)

-- ---- need not be believed: what is made of a packet: checks 3 to 10, and for VXLAN and NVGRE 25 to 27, 12 and 13

-- a format is broken: the cause, and the byte that it names. In the packet, the IP payload begins at `start`; in an STT frame, `start` is 0
abbrev pub broken_at : (start : ℕ) → Refusal → Drop
broken_at start r = D.Format r (finding_of start r).offset

-- the answer on a frame that lies at a place
-- Open: two cases, two answers
abbrev pub answer_at : Verdict answers → Place → Result Received Drop
answer_at (bad d) place = Err d
answer_at (good t) place = Ok (R.Delivered t place)

unfoldable pub tunnel_from : (networks kinds owners tenants : List ℕ) (n peer kind network at : ℕ) → List ℕ → Result Received Drop
tunnel_from networks kinds owners tenants n peer kind network at frame =
    answer_at (inner_from networks kinds owners tenants n peer kind network frame) (record { start = at; length = length frame; in_memory = false })

abbrev pub tunnel_of : Config → (peer kind network at : ℕ) → List ℕ → Result Received Drop
tunnel_of c peer kind network at frame = tunnel_from c.networks c.kinds c.owners c.tenants c.bindings peer kind network at frame

abbrev pub by_payload : Config → (peer start end : ℕ) → List ℕ → Result Carried Refusal → Reading answers
by_payload c p start end k (Err r) = direct p (Err (broken_at start r))
by_payload c p start end k (Ok (C.Tunnel t)) = direct p (tunnel_of c p t.kind t.network (start + t.start) (part k (start + t.start) end))
by_payload c p start end k (Ok (C.Segment g)) = segment p (seg_of g (part k (start + g.start) end))

abbrev pub by_peer : Config → Ipv4 → List ℕ → Option ℕ → Reading answers
by_peer c h k none = other_sender (Err D.UnknownPeer)
by_peer c h k (some p) = by_payload c p h.start h.end k (carriage_of h.protocol h.source h.destination c.port (part k h.start h.end))

abbrev pub by_destination : Config → Ipv4 → List ℕ → Bool → Reading answers
by_destination c h k true = by_peer c h k (find_peer c h.source)
by_destination c h k false = other_sender (Err D.NotForUs)

abbrev pub by_ipv4 : Config → List ℕ → Result Ipv4 Refusal → Reading answers
by_ipv4 c k (Err r) = other_sender (Err (D.Format r 0))
by_ipv4 c k (Ok h) = by_destination c h k (eqb h.destination c.own)

unfoldable pub header_of : Config → List ℕ → Reading answers
header_of c k = by_ipv4 c k (ipv4_of k)

-- whose packet it is: it passes 3 to 6, and its source is that peer
abbrev pub by_sender : Config → Result Ipv4 Refusal → Option ℕ
by_sender c (Err r) = none
by_sender c (Ok h) = cond (eqb h.destination c.own) (find_peer c h.source) none

unfoldable pub source_of : Config → List ℕ → Option ℕ
source_of c k = by_sender c (ipv4_of k)

-- ---- need not be believed: what a complete STT frame from peer p is worth: 28, 29, then 12, 13

abbrev pub by_stt : Result ℕ Refusal → (ℕ → Verdict answers) → Verdict answers
by_stt (Err r) next = bad (broken_at 0 r)
by_stt (Ok context) next = next context

unfoldable pub stt_from : (networks kinds owners tenants : List ℕ) (n peer : ℕ) → List ℕ → Verdict answers
stt_from networks kinds owners tenants n peer frame =
    by_stt (stt_of frame) (λ context. inner_from networks kinds owners tenants n peer 3 context (drop 18 frame))

unfoldable pub judge_of : Config → (peer : ℕ) → Note → List ℕ → Verdict answers
judge_of c p note frame = stt_from c.networks c.kinds c.owners c.tenants c.bindings p frame

-- ---- the three layers of the theory of runs

-- Open: likewise
abbrev pub layers : Layers answers Config
layers = record { header = header_of; judge = judge_of; source = source_of }

-- ---- one receive, whole

-- the row of one peer that it leaves, its answer, and the memory that it leaves
pub record Step : Type 0 where
  pub peer : ℕ
  pub row : Peer
  pub answer : Result Received Drop
  pub mem : List ℕ

abbrev pub row_at : Endpoint → ℕ → Peer
row_at e p = get_or e.peers p no_row

-- ---- need not be believed: how a receive comes to it. Check 2, then what the layers make of the packet

-- nothing changes: peer p keeps its row
abbrev pub unchanged : Endpoint → ℕ → List ℕ → Result Received Drop → Step
unchanged e p m a = record { peer = p; row = row_at e p; answer = a; mem = m }

abbrev pub stepped : Endpoint → List ℕ → Reading answers → Step
stepped e m (other_sender a) = unchanged e 0 m a
stepped e m (direct p a) = unchanged e p m a
stepped e m (segment p g) =
    let o : Effect bytes_of = take_in p (row_at e p) m g in
    record { peer = p; row = o.row; answer = (take_answer answers (judge_of (config_of e)) bytes_of p g o o.outcome).reply; mem = o.mem }

unfoldable pub step_of : Endpoint → (memory packet : List ℕ) → Step
step_of e m k = cond (ltb (length m) 55296) (unchanged e 0 m (Err D.MemoryTooSmall)) (stepped e m (header_of (config_of e) k))

-- ---- what the call gives back

-- peer p's row is this one
abbrev pub with_row : Endpoint → ℕ → Peer → Endpoint
with_row e p row = with_rows e (set e.peers p row)

-- what the call leaves and answers
pub record ReceiveResult : Type 0 where
  pub endpoint : Endpoint
  pub answer : Result Received Drop

-- the memory is the step's
unfoldable pub receipt_of : Endpoint → Step → ReceiveResult
receipt_of e s = record { endpoint = with_row e s.peer s.row; answer = s.answer }

-- an endpoint and its memory, as the theory of runs has them
abbrev pub world_of : Endpoint → List ℕ → World Config
world_of e m = record { ends = record { config = config_of e; peers = e.peers }; mem = m }
