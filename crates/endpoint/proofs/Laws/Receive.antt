-- What the functions of `receive` give, over plain values, and the laws by which they add up to `step_of`.
use Prim.Native.Nat.{ℕ, ◌+◌, ◌-◌, ◌*◌, ◌<◌, ◌≤◌, min}
use Rattle.std.specs.Prelude.{◌≡◌, Bool, cond, get_or, drop, ltb, eqb, Result, Some, Ok, Err}
use Rattle.std.proofs.Math.Path.{refl, sym, ap}
use Rattle.std.proofs.Common.{◌∙◌}
use Rattle.std.proofs.Math.Bool.{true, false}
use mathlib.Core.List.{List, []}
use Rattle.std.proofs.Math.Option.{Option, none, some}
use native.Mathlib.Omega.{arith}
use Rattle.std.proofs.Math.ListN.{length, take}
use Rattle.wire.specs.Bytes.{part}
use Rattle.wire.proofs.Laws.Bytes.{part_is, part_length}
use Rattle.wire.proofs.Laws.Ipv4.{ipv4_bounds}
use Rattle.wire.proofs.Laws.Carriage.{tunnel_within, segment_within}
use Rattle.wire.specs.Ipv4.{ipv4_of}
use Rattle.wire.specs.Carriage.{carriage_of}
use Rattle.wire.specs.Stt.{stt_of}
use Rattle.wire.specs.declared.refusal.Refusal.{Refusal}
use Rattle.wire.specs.declared.ipv4.Ipv4.{Ipv4}
use Rattle.wire.specs.declared.segment.Segment.{Segment}
use Rattle.reassembly.specs.Slots.{Note, no_row, most_peers, most_slots}
use Rattle.reassembly.proofs.Laws.TakeFacts.{length-frame}
use Rattle.reassembly.proofs.Laws.Answers.{part-fits, view_packet, view_memory, slot_no_lem, bad_reply, good_reply, rejected_reply, pending_reply}
use Rattle.reassembly.proofs.Laws.Answers.{no_memory_reply}
use Rattle.reassembly.proofs.Laws.Answers.{complete_reply}
use Rattle.reassembly.proofs.Laws.Store.{handed, slot-inside}
use Rattle.reassembly.specs.Take.{Seg, seg_of, frame_in}
use Rattle.reassembly.specs.Store.{bytes_of, take_in, slot_start}
use Rattle.reassembly.specs.Receive.{Answer, Reading as Made, other_sender, direct, segment, Verdict, bad, good, frame_answer, take_answer, part_of_slice}
use Rattle.reassembly.specs.Receive.{view_of}
use Rattle.reassembly.proofs.Laws.Base.{case_b}
use Rattle.reassembly.specs.SetUp.{Kept, peer_of}
use Rattle.reassembly.proofs.Laws.SetUp.{peer-other, peer-direct, peer-segment}
use Rattle.reassembly.proofs.Laws.TakeIn.{take-length, take_whole, slot-start, frame-part}
use Rattle.reassembly.specs.declared.slot.Peer.{Peer}
use Rattle.reassembly.specs.declared.take.Outcome.{Outcome}
use Rattle.reassembly.specs.declared.take.Outcome.TheVariants as O
use Rattle.endpoint.specs.Answer.{drop_of, values_of}
use Rattle.endpoint.specs.Search.{lowest}
use Rattle.endpoint.proofs.Laws.Search.{lowest-some}
use Rattle.endpoint.specs.Config.{Config, config_of, has_address, find_peer, most_bindings}
use Rattle.endpoint.specs.Receive.{broken_at, answers, is_delivered, inner_from, answer_at, tunnel_from, tunnel_of, by_payload, by_peer, header_of}
use Rattle.endpoint.specs.Receive.{by_destination}
use Rattle.endpoint.specs.Receive.{by_ipv4}
use Rattle.endpoint.specs.Receive.{by_sender}
use Rattle.endpoint.specs.Receive.{source_of, by_stt, stt_from, judge_of, Step, row_at, unchanged, stepped, step_of, with_row}
use Rattle.endpoint.specs.declared.answer.Drop.{Drop}
use Rattle.endpoint.specs.declared.answer.Drop.TheVariants as D
use Rattle.endpoint.specs.declared.answer.Received.{Received}
use Rattle.endpoint.specs.declared.answer.Received.TheVariants as R
use Rattle.endpoint.specs.declared.receive.Arrival.{Arrival}
use Rattle.endpoint.specs.declared.config.Endpoint.{Endpoint}
use Rattle.endpoint.specs.Stages.{carried_from, content_from, from_other, open_peer, open_header, open_ip, open_of, stt_offer, offer_at, offer_of, Lies}
use Rattle.endpoint.specs.Stages.{Change, take_of, deliver_of, opened_by, taken_by, delivered_by}
use Rattle.wire.specs.declared.carriage.Carried.TheVariants as C
use Rattle.wire.specs.declared.carriage.Carried.{Carried}
use Rattle.endpoint.specs.declared.receive.Content.{Content}
use Rattle.endpoint.specs.declared.receive.Content.TheVariants as A
use Rattle.endpoint.specs.Stages.{take_content, brings_segment, untaken_of}

-- ---- a search, as the code makes it

-- ---- a complete frame lies in the memory

-- what the outcome of taking a segment tells of the memory
lies_by : (peer : ℕ) (row : Peer) (m : List ℕ) (g : Seg) (o : Outcome) → (take_in peer row m g).outcome ≡ o
    → Lies peer o g.frame_length (take_in peer row m g).mem
unfolding Lies
lies_by peer row m g (O.Rejected r) e = tt
lies_by peer row m g O.Pending e = tt
lies_by peer row m g O.NoMemory e = tt
lies_by peer row m g (O.Complete s) e =
    let w = take_whole peer s row m g e in
    (w.is_peer_lem, (w.is_slot, (w.fits.most, omega (arith, w.memory, take-length peer row m g))))

pub lies : (peer : ℕ) (row : Peer) (m : List ℕ) (g : Seg) → Lies peer (take_in peer row m g).outcome g.frame_length (take_in peer row m g).mem
lies peer row m g = lies_by peer row m g (take_in peer row m g).outcome refl

-- where there is no segment, nothing is taken
untaken_content : (peer : ℕ) (row : Peer) (k m : List ℕ) (x : Result Content Drop) → brings_segment x ≡ false
    → take_content peer row k m x ≡ record { row = row; offer = untaken_of x; mem = m }
untaken_content peer row k m (Err d) e = refl
untaken_content peer row k m (Ok (A.Frame f)) e = refl
untaken_content peer row k m (Ok (A.Segment d)) e = cc

pub nothing-taken : (row : Peer) (a : Arrival) (k m : List ℕ) → brings_segment a.content ≡ false
    → take_of row a k m ≡ record { row = row; offer = untaken_of a.content; mem = m }
unfolding take_of
nothing-taken row a k m e = untaken_content a.peer row k m a.content e

-- ---- views

pub part_view : (k : List ℕ) (at end : ℕ) → at ≤ end → end ≤ length k → part_of_slice k at (end - at) ≡ part k at end
part_view k at end l b =
    part-fits k at (end - at) (omega arith) ∙ sym (part_is k at end)

pub slot_view : (k m : List ℕ) (i n : ℕ) → 18 ≤ n → slot_start i + n ≤ length m
    → view_of k m (record { in_lent_memory = true; start = slot_start i + 18; len = n - 18 }) ≡ drop 18 (frame_in bytes_of m i n)
slot_view k m i n l f =
    view_memory k m (record { in_lent_memory = true; start = slot_start i + 18; len = n - 18 }) refl
    ∙ part-fits m (slot_start i + 18) (n - 18) (omega arith)
    ∙ sym (handed m i n l f)

-- ---- a frame delivered, as the theory of runs has it

-- VXLAN and NVGRE: it lies in the packet
pub tunnel_out : (networks kinds owners tenants : List ℕ) (n peer kind network at end : ℕ) (k m : List ℕ) → at ≤ end → end ≤ length k
    → deliver_of networks kinds owners tenants n peer (Ok (Some (record { network = network; place = record { start = at; length = end - at; in_memory = false }; kind = kind }))) k m
    ≡ tunnel_from networks kinds owners tenants n peer kind network at (part k at end)
unfolding deliver_of tunnel_from
tunnel_out networks kinds owners tenants n peer kind network at end k m l b =
    rw (view_packet k m (record { in_lent_memory = false; start = at; len = end - at }) refl, part_view k at end l b, part_length k at end b)

-- STT: it lies in slot i
verdict_out : (x : Verdict answers) (i n : ℕ) (frame : List ℕ) → answer_at x (record { start = slot_start i + 18; length = n - 18; in_memory = true })
    ≡ (frame_answer answers x i n frame).reply
verdict_out (bad d) i n frame = sym (bad_reply answers d i n frame)
verdict_out (good t) i n frame = sym (good_reply answers t i n frame)

module _ (c : Config) (p : ℕ) (k after : List ℕ) (i n : ℕ) (long : 18 ≤ n) (inside : slot_start i + n ≤ length after) where
  abbrev whole : List ℕ
  whole = frame_in bytes_of after i n

  header_out : (x : Result ℕ Refusal) → deliver_of c.networks c.kinds c.owners c.tenants c.bindings p (stt_offer (slot_start i) n x) k after
      ≡ (frame_answer answers (by_stt x (λ context. inner_from c.networks c.kinds c.owners c.tenants c.bindings p 3 context (drop 18 whole))) i n
      whole).reply
  unfolding deliver_of
  header_out (Err r) = sym (bad_reply answers (broken_at 0 r) i n whole)
  header_out (Ok context) =
      rw (slot_view k after i n long inside) (verdict_out (inner_from c.networks c.kinds c.owners c.tenants c.bindings p 3 context
      (drop 18 whole)) i n whole)

  judged_out : (note : Note) → deliver_of c.networks c.kinds c.owners c.tenants c.bindings p
      (offer_at (i * 1728) (part after (i * 1728) (i * 1728 + n))) k after
      ≡ (frame_answer answers (judge_of c p note whole) i n whole).reply
  unfolding judge_of stt_from offer_at
  judged_out note =
      let at : slot_start i ≡ i * 1728 = slot-start i in
      let size : i * 1728 + n - i * 1728 ≡ n = omega arith in
      let same : part after (i * 1728) (i * 1728 + n) ≡ whole =
      part_is after (i * 1728) (i * 1728 + n) ∙ ap (λ (x : ℕ). take x (drop (i * 1728) after)) size ∙ ap (λ (x : ℕ). take n (drop x after)) (sym at)
      ∙ sym (frame-part after i n inside) in
      ap (λ (f : List ℕ). deliver_of c.networks c.kinds c.owners c.tenants c.bindings p (stt_offer (i * 1728) (length f) (stt_of f)) k after) same
      ∙ ap (λ (s : ℕ). deliver_of c.networks c.kinds c.owners c.tenants c.bindings p (stt_offer (i * 1728) s (stt_of whole)) k after)
      (length-frame bytes_of after i n)
      ∙ ap (λ (a : ℕ). deliver_of c.networks c.kinds c.owners c.tenants c.bindings p (stt_offer a n (stt_of whole)) k after) (sym at)
      ∙ header_out (stt_of whole)

module _ (c : Config) (p : ℕ) (row : Peer) (k m : List ℕ) (g : Seg) where
  pub offer_out : (o : Outcome) → (take_in p row m g).outcome ≡ o
      → deliver_of c.networks c.kinds c.owners c.tenants c.bindings p (offer_of p o g.frame_length (take_in p row m g).mem) k
      (take_in p row m g).mem
      ≡ (take_answer answers (judge_of c) bytes_of p g (take_in p row m g) o).reply
  unfolding deliver_of offer_of
  offer_out (O.Rejected r) e = sym (rejected_reply answers (judge_of c) bytes_of p g (take_in p row m g) r)
  offer_out O.Pending e = sym (pending_reply answers (judge_of c) bytes_of p g (take_in p row m g))
  offer_out O.NoMemory e = sym (no_memory_reply answers (judge_of c) bytes_of p g (take_in p row m g))
  offer_out (O.Complete s) e =
      let w = take_whole p s row m g e in
      let n : ℕ = g.frame_length in
      let after : List ℕ = (take_in p row m g).mem in
      let note : Note = (take_in p row m g).note in
      let inside : slot_start (most_slots * p + s) + n ≤ length after =
      rw (slot_no_lem p s) at
      (slot-inside after p s n (omega (arith, w.memory, take-length p row m g)) w.is_peer_lem w.is_slot (omega (arith, w.fits.most))) in
      judged_out c p k after (most_slots * p + s) n (omega (arith, w.fits.least)) inside note
      ∙ ap (λ (i : ℕ). (frame_answer answers (judge_of c p note (frame_in bytes_of after i n)) i n (frame_in bytes_of after i n)).reply) (sym (slot_no_lem p s))
      ∙ sym (ap (λ (a : Answer answers). a.reply) (complete_reply answers (judge_of c) bytes_of p g (take_in p row m g) s))

-- ---- what the stages make of a packet, and what the theory of runs does

-- the last two in turn, with the sender's row
unfoldable pub settle_of : (networks kinds owners tenants : List ℕ) (n : ℕ) → Arrival → Peer → (packet memory : List ℕ) → Step
settle_of networks kinds owners tenants n x row k m =
    let c : Change = take_of row x k m in
    record { peer = x.peer; row = c.row; answer = deliver_of networks kinds owners tenants n x.peer c.offer k c.mem; mem = c.mem }

abbrev pub settled_by : Endpoint → Arrival → Peer → (packet memory : List ℕ) → Step
settled_by e x row k m = settle_of e.networks e.kinds e.owners e.tenants (min e.binding_count most_bindings) x row k m

module _ (e : Endpoint) (m k : List ℕ) where
  -- a packet that was opened, settled with its sender's row
  abbrev staged : Arrival → Step
  staged x = settled_by e x (row_at e x.peer) k m

  carried-adds : (h : Ipv4) → (h.start ≤ h.end) × (h.end ≤ length k) → (p : ℕ) (x : Result Carried Refusal)
      → carriage_of h.protocol h.source h.destination e.port (part k h.start h.end) ≡ x
      → staged (record { peer = p; content = carried_from h.start h.end x }) ≡ stepped e m (by_payload (config_of e) p h.start h.end k x)
  unfolding settle_of take_of deliver_of config_of
  carried-adds h b p (Err r) q = refl
  carried-adds h b p (Ok (C.Tunnel t)) q =
      let in-payload : t.start ≤ length (part k h.start h.end) =
      tunnel_within h.protocol h.source h.destination e.port (part k h.start h.end) t q in
      ap (unchanged e p m)
      (tunnel_out e.networks e.kinds e.owners e.tenants (min e.binding_count most_bindings)
      p t.kind t.network (h.start + t.start) h.end k m
      (omega (arith, part_length k h.start h.end b.1)) b.1)
  carried-adds h b p (Ok (C.Segment g)) q =
      let in-payload : g.start ≤ length (part k h.start h.end) =
      segment_within h.protocol h.source h.destination e.port (part k h.start h.end) g q in
      let bytes : List ℕ = part k (h.start + g.start) h.end in
      rw (
        part_view k (h.start + g.start) h.end (omega (arith, part_length k h.start h.end b.1)) b.1,
        offer_out (config_of e) p (row_at e p) k m (seg_of g bytes) (take_in p (row_at e p) m (seg_of g bytes)).outcome refl,
      )

  peer-adds : (h : Ipv4) → (h.start ≤ h.end) × (h.end ≤ length k) → (o : Option ℕ) → staged (open_peer o (content_from e.port h k))
      ≡ stepped e m (by_peer (config_of e) h k o)
  unfolding settle_of take_of deliver_of content_from config_of
  peer-adds h b none = refl
  peer-adds h b (some p) = carried-adds h b p (carriage_of h.protocol h.source h.destination e.port (part k h.start h.end)) refl

  ours-adds : (h : Ipv4) → (h.start ≤ h.end) × (h.end ≤ length k) → (b : Bool)
      → staged (cond b (open_peer (lowest (has_address e.addresses h.source) (min e.peer_count most_peers)) (content_from e.port h k))
      (from_other D.NotForUs)) ≡ stepped e m (by_destination (config_of e) h k b)
  unfolding settle_of take_of deliver_of find_peer config_of
  ours-adds h b true = peer-adds h b (find_peer (config_of e) h.source)
  ours-adds h b false = refl

  ip-adds : (x : Result Ipv4 Refusal) → ipv4_of k ≡ x → staged (open_ip x (open_header e.addresses e.own e.port (min e.peer_count most_peers) k))
      ≡ stepped e m (by_ipv4 (config_of e) k x)
  unfolding settle_of take_of deliver_of config_of
  ip-adds (Err r) q = refl
  ip-adds (Ok h) q = ours-adds h (ipv4_bounds k h q) (eqb h.destination e.own)

  header-adds : staged (open_ip (ipv4_of k) (open_header e.addresses e.own e.port (min e.peer_count most_peers) k)) ≡ stepped e m
      (header_of (config_of e) k)
  unfolding header_of
  header-adds = ip-adds (ipv4_of k) refl

-- ---- what the layers promise to the theory of runs, for a configuration of at most eight peers

place_in-packet : (networks kinds owners tenants : List ℕ) (n peer kind network at : ℕ) (frame : List ℕ)
    → (values_of (tunnel_from networks kinds owners tenants n peer kind network at frame)).place.in_lent_memory ≡ false
unfolding tunnel_from
place_in-packet networks kinds owners tenants n peer kind network at frame = by_worth (inner_from networks kinds owners tenants n peer kind network frame)
  where
    by_worth : (x : Verdict answers) → (values_of (answer_at x (record { start = at; length = length frame; in_memory = false }))).place.in_lent_memory ≡ false
    by_worth (bad d) = refl
    by_worth (good t) = refl

-- WHAT HOLDS of everything that the header layer makes of a packet: another sender's is refused, and no byte named; a listed peer's breaks a format, or brings
-- a tunnel's frame or a segment, a part of the packet
module _ (c : Config) (k : List ℕ) (P : Made answers → Type 0)
    (other : (d : Drop) → (drop_of d).offset ≡ 0 → P (other_sender (Err d)))
    (refused : (a p : ℕ) → find_peer c a ≡ some p → (start : ℕ) (r : Refusal) → P (direct p (Err (broken_at start r))))
    (tunnel : (a p : ℕ) → find_peer c a ≡ some p → (kind network at : ℕ) (frame : List ℕ) → P (direct p (tunnel_of c p kind network at frame)))
    (brings : (a p : ℕ) → find_peer c a ≡ some p → (g : Segment) (start end : ℕ) → P (segment p (seg_of g (part k start end)))) where
  all-carried : (a p : ℕ) → find_peer c a ≡ some p → (start end : ℕ) (x : Result Carried Refusal) → P (by_payload c p start end k x)
  all-carried a p q start end (Err r) = refused a p q start r
  all-carried a p q start end (Ok (C.Tunnel t)) = tunnel a p q t.kind t.network (start + t.start) (part k (start + t.start) end)
  all-carried a p q start end (Ok (C.Segment g)) = brings a p q g (start + g.start) end

  all-peer : (h : Ipv4) (o : Option ℕ) → find_peer c h.source ≡ o → P (by_peer c h k o)
  all-peer h none q = other D.UnknownPeer refl
  all-peer h (some p) q = all-carried h.source p q h.start h.end
      (carriage_of h.protocol h.source h.destination c.port (part k h.start h.end))

  all-ours : (h : Ipv4) (b : Bool) → P (by_destination c h k b)
  all-ours h true = all-peer h (find_peer c h.source) refl
  all-ours h false = other D.NotForUs refl

  all_ip : (x : Result Ipv4 Refusal) → P (by_ipv4 c k x)
  all_ip (Err r) = other (D.Format r 0) refl
  all_ip (Ok h) = all-ours h (eqb h.destination c.own)

  pub header-all : P (header_of c k)
  unfolding header_of
  header-all = all_ip (ipv4_of k)

module _ (c : Config) (few : c.peers ≤ most_peers) (k : List ℕ) where
  found_few : (a p : ℕ) → find_peer c a ≡ some p → p < most_peers
  unfolding find_peer
  found_few a p q = omega (arith, (lowest-some (has_address c.addresses a) c.peers p q).below)

  pub header-kept : Kept answers (header_of c k)
  header-kept =
      header-all c k (Kept answers)
      (λ d none. refl)
      (λ a p q start r. (found_few a p q, refl))
      (λ a p q kind network at frame. (
        found_few a p q,
        place_in-packet c.networks c.kinds c.owners c.tenants c.bindings p kind network at frame,
      ))
      (λ a p q g start end. found_few a p q)

  carried_whose : (p start end : ℕ) (x : Result Carried Refusal) → peer_of answers (by_payload c p start end k x) ≡ some p
  carried_whose p start end (Err r) = peer-direct answers p _
  carried_whose p start end (Ok (C.Tunnel t)) = peer-direct answers p _
  carried_whose p start end (Ok (C.Segment g)) = peer-segment answers p _

  peer_whose : (h : Ipv4) (o : Option ℕ) → peer_of answers (by_peer c h k o) ≡ o
  peer_whose h none = peer-other answers _
  peer_whose h (some p) = carried_whose p h.start h.end (carriage_of h.protocol h.source h.destination c.port (part k h.start h.end))

  ours_whose : (h : Ipv4) (b : Bool) → peer_of answers (by_destination c h k b) ≡ cond b (find_peer c h.source) none
  ours_whose h true = peer_whose h (find_peer c h.source)
  ours_whose h false = peer-other answers _

  ip_whose : (x : Result Ipv4 Refusal) → peer_of answers (by_ipv4 c k x) ≡ by_sender c x
  ip_whose (Err r) = peer-other answers _
  ip_whose (Ok h) = ours_whose h (eqb h.destination c.own)

  pub header_whose : peer_of answers (header_of c k) ≡ source_of c k
  unfolding header_of source_of
  header_whose = ip_whose (ipv4_of k)

-- what the layers answer before reassembly: never 1, and to another sender never 0

abbrev pub is_pending : Result Received Drop → Bool
is_pending (Ok (R.Delivered t p)) = false
is_pending (Ok R.Pending) = true
is_pending (Err d) = false

abbrev pub Conclusive : Made answers → Type 0
Conclusive (other_sender a) = (is_delivered a ≡ false) × (is_pending a ≡ false)
Conclusive (direct p a) = is_pending a ≡ false
Conclusive (segment p g) = Unit {0}

tunnel_conclusive : (networks kinds owners tenants : List ℕ) (n peer kind network at : ℕ) (frame : List ℕ)
    → is_pending (tunnel_from networks kinds owners tenants n peer kind network at frame) ≡ false
unfolding tunnel_from
tunnel_conclusive networks kinds owners tenants n peer kind network at frame = by_worth (inner_from networks kinds owners tenants n peer kind network frame)
  where
    by_worth : (x : Verdict answers) → is_pending (answer_at x (record { start = at; length = length frame; in_memory = false })) ≡ false
    by_worth (bad d) = refl
    by_worth (good t) = refl

pub header_conclusive : (c : Config) (k : List ℕ) → Conclusive (header_of c k)
header_conclusive c k =
    header-all c k Conclusive
    (λ d none. (refl, refl))
    (λ a p q start r. refl)
    (λ a p q kind network at frame. tunnel_conclusive c.networks c.kinds c.owners c.tenants c.bindings p kind network at frame)
    (λ a p q g start end. tt)

pub config_few : (e : Endpoint) → (config_of e).peers ≤ most_peers
unfolding config_of
config_few e = omega arith

-- ---- the stages in turn are the step

stepped-below : (e : Endpoint) (m : List ℕ) (x : Made answers) → Kept answers x → (stepped e m x).peer < most_peers
stepped-below e m (other_sender a) l = omega arith
stepped-below e m (direct p a) l = l.0
stepped-below e m (segment p g) l = l

module _ (e : Endpoint) (k : List ℕ) where
  peer-settled : (m : List ℕ) (x : Arrival) → (staged e m k x).peer ≡ x.peer
  unfolding settle_of
  peer-settled m x = refl

  pub open_below : (room : ℕ) → (opened_by e k room).peer < most_peers
  unfolding open_of
  open_below room =
      case_b (ltb room 55296)
      (λ b. rw b (omega arith))
      (λ b. rw (b, ← peer-settled [] (open_ip (ipv4_of k) (open_header e.addresses e.own e.port (min e.peer_count most_peers) k)), header-adds e [] k)
      (stepped-below e [] (header_of (config_of e) k) (header-kept (config_of e) (config_few e) k)))

  module _ (m : List ℕ) where
    pub stages_step : staged e m k (opened_by e k (length m)) ≡ step_of e m k
    unfolding open_of step_of settle_of take_of deliver_of
    stages_step = case_b (ltb (length m) 55296) (λ b. rw b) (λ b. rw b (header-adds e m k))

    -- with the row as the code reads it
    pub settled_is : (x : Arrival) → x ≡ opened_by e k (length m) → settled_by e x (get_or e.peers x.peer no_row) k m ≡ step_of e m k
    settled_is x q = rw q stages_step

-- the same over an endpoint that has its new row already, as the code makes it
pub turn_is : (e : Endpoint) (k m : List ℕ) (x : Arrival) → x ≡ opened_by e k (length m)
    → record {
      peer = x.peer;
      row = (taken_by e x k m).row;
      answer = delivered_by (with_row e x.peer (taken_by e x k m).row) x.peer (taken_by e x k m).offer k (taken_by e x k m).mem;
      mem = (taken_by e x k m).mem;
    } ≡ step_of e m k
unfolding settle_of
turn_is e k m x q = settled_is e k m x q
