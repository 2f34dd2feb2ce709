-- Each call answers by document 01's table (Table.antt): the rows of crates wire and reassembly, as those prove them, joined with the endpoint's own.
use Rattle.std.specs.Prelude.{ℕ, zero, suc, ◌+◌, ◌-◌, ◌*◌, ◌/◌, ◌^◌, ◌<◌, ◌≤◌, min, ◌≡◌, ◌≢◌, Bool, not, cond, ◌&&◌, ◌||◌, get_or, drop, ltb, leb, eqb, Result}
use Rattle.std.specs.Prelude.{Ok, Err}
use Rattle.std.proofs.Math.Path.{refl, sym, ap}
use Rattle.std.proofs.Common.{◌∙◌, arith}
use Rattle.std.proofs.Math.Bool.{true, false}
use mathlib.Core.List.{List, [], ◌∷◌}
use Rattle.std.proofs.Math.Option.{Option, none, some}
use Rattle.std.proofs.Math.ListN.{length}
use borrow.Author.Tests.{ltb-true, ltb-false, leb-false, lt-ltb, le-ltb, le-leb, lt-leb, ne_eqb}
use Rattle.wire.specs.Checks.{pick}
use Rattle.wire.specs.Refusal.{Finding, ◌at_byte◌, only, code_of, finding_of}
use Rattle.wire.proofs.Laws.Refusal.{refusal-number, ipv4_plain, frame-plain}
use Rattle.wire.specs.declared.refusal.Refusal.{Refusal}
use Rattle.wire.specs.Bytes.{Bytes, part}
use Rattle.wire.proofs.Laws.Bytes.{part-short, part-drop}
use Rattle.wire.proofs.Laws.Write.{vxlan-length_is, nvgre-length_is, segment-length_is}
use Rattle.wire.specs.Ipv4.{ipv4_of}
use Rattle.wire.specs.Carriage.{carriage_of}
use Rattle.wire.specs.Stt.{stt_of}
use Rattle.wire.specs.Frame.{frame_of}
use Rattle.wire.specs.Table as T
use Rattle.wire.specs.Table.{◌⇒◌, ◌and_then◌, ◌otherwise◌}
use Rattle.wire.proofs.Laws.Checks.{choices, unless}
use Rattle.wire.proofs.Laws.Table.{pull, behind, row3, row6, payload_is, segment-bytes_are, total_most, wire_table}
use Rattle.wire.specs.declared.ipv4.Ipv4.{Ipv4}
use Rattle.wire.specs.declared.segment.Segment.{Segment}
use Rattle.wire.specs.declared.carriage.Tunnel.{Tunnel}
use Rattle.reassembly.proofs.Laws.Base.{case_b, case_o}
use Rattle.reassembly.specs.Base.{some_below}
use Rattle.lookup.specs.Search.{lowest, found}
use Rattle.lookup.proofs.Laws.Search.{lowest-some, found_is}
use Rattle.reassembly.proofs.Laws.Base.{found_some, found_none}
use Rattle.reassembly.specs.Slots.{Note, no_note, most_peers}
use Rattle.reassembly.specs.Take.{Seg, seg_of, Effect, slot_no, frame_in}
use Rattle.reassembly.specs.declared.take.Outcome.{Outcome}
use Rattle.reassembly.specs.declared.take.Outcome.TheVariants as O
use Rattle.reassembly.specs.Store.{bytes_of, take_in}
use Rattle.reassembly.specs.Table.{segment_rows, complete_frame, taken_tells}
use Rattle.reassembly.proofs.Laws.Table.{reassembly_table, under_segment}
use Rattle.reassembly.proofs.Laws.Answers.{bad_reply, good_reply, rejected_reply, pending_reply, complete_reply, no_memory_reply}
use Rattle.reassembly.proofs.Laws.Answers.{rejected-told, pending-told, complete-told, no_memory_told}
use Rattle.reassembly.specs.Receive.{nowhere, Answer, Reading, segment, frame_answer, take_answer, Verdict, bad, good}
use Rattle.endpoint.specs.Answer.{drop_of, added_code, start_code, values_of, told_by, wrap_values_of}
use Rattle.endpoint.specs.Config.{is_some, config_of, has_address, find_peer, binds, find_binding, fresh, start_checks, refused_start, start_of, refused_add}
use Rattle.endpoint.specs.Config.{AddResult}
use Rattle.endpoint.specs.Config.{add_peer_checks, with_address, add_peer_of, is_network, add_binding_checks, with_binding, add_binding_of, most_bindings}
use Rattle.endpoint.specs.Receive.{by_binding, by_frame, inner_from, answer_at, tunnel_from, tunnel_of, answers, by_payload, by_peer, by_destination, by_ipv4}
use Rattle.endpoint.specs.Receive.{header_of, by_stt, stt_from, judge_of, row_at, stepped, step_of}
use Rattle.endpoint.specs.Wrap.{capacity, segments_of, segment_start, segment_size, low32, packet_of, exceeds, is_bad, kind_at, network_at, owner_at, peer_at}
use Rattle.endpoint.specs.Wrap.{packet_at, wrap_checks, Wrote, refused_wrap, wrap_of}
use Rattle.endpoint.proofs.Laws.Wrap.{Listed, ready-listed, ByKind, vxlan, nvgre, stt, by_kind, many-stt, starts_within}
use Rattle.endpoint.specs.Reached.{Reached}
use Rattle.endpoint.proofs.Laws.Reached.{reached_ready}
use Rattle.endpoint.specs.declared.answer.Place.{Place}
use Rattle.endpoint.specs.declared.answer.Target.{Target}
use Rattle.endpoint.specs.declared.answer.Received.{Received}
use Rattle.endpoint.specs.declared.answer.Received.TheVariants as R
use Rattle.endpoint.specs.declared.config.Endpoint.{Endpoint}
use Rattle.endpoint.specs.declared.config.StartResult.{StartResult}
use Rattle.endpoint.specs.Table as P
use Rattle.endpoint.specs.declared.answer.Packet.{Packet}
use Rattle.endpoint.specs.declared.answer.WrapRefusal.{WrapRefusal}
use Rattle.wire.specs.declared.carriage.Carried.TheVariants as C
use Rattle.wire.specs.declared.carriage.Carried.{Carried}
use Rattle.endpoint.specs.declared.answer.Drop.{Drop}

-- a lookup finds something exactly where something passes
some-lowest : (n : ℕ) (f : ℕ → Bool) → some_below n f ≡ is_some (lowest f n)
some-lowest n f =
    case_o (lowest f n)
    (λ q. found_none f n q ∙ sym (ap is_some q))
    (λ i q. found_some f n i q ∙ sym (ap is_some q))

-- ---- start and adding

pub start-number : (own port mtu : ℕ) → start_code (start_of own port mtu).answer ≡ T.numbered (P.start_rows own port mtu)
unfolding start_of start_checks P.start_rows start_code
start-number own port mtu =
    pull (λ (s : StartResult). start_code s.answer) refused_start (start_checks own port mtu) (record { endpoint = fresh own port mtu; answer = Ok tt })
    ∙ simp choices (row6 18 (eqb (own / 2 ^ 24) 0) (leb 224 (own / 2 ^ 24)) (eqb port 0) (ltb 65535 port) (ltb mtu 576) (ltb 1600 mtu) 0)

peer-rows : (p a b o : Bool) (x : ℕ) → pick p 18 (pick a 18 (pick b 18 (pick o 18 x))) ≡ pick (p || (a || b) || o) 18 x
peer-rows true a b o x = refl
peer-rows false a b o x = row3 18 a b o x

pub add-peer-number : (e : Endpoint) (address : ℕ) → added_code (add_peer_of e address).answer ≡ T.numbered (P.add_peer_rows e address)
unfolding add_peer_of add_peer_checks find_peer config_of has_address P.add_peer_rows added_code
add-peer-number e address =
    rw (some-lowest (min e.peer_count most_peers) (λ i. eqb (get_or e.addresses i 0) address))
    (pull (λ (s : AddResult). added_code s.answer) (refused_add e) (add_peer_checks e address)
    (record { endpoint = with_address e e.peer_count address; answer = Ok e.peer_count })
    ∙ simp choices (peer-rows (eqb e.port 0) (eqb (address / 2 ^ 24) 0) (leb 224 (address / 2 ^ 24)) (eqb address e.own) _))

-- numbers up to b are those not above it
up_to : (n b : ℕ) → ltb n (suc b) ≡ not (ltb b n)
up_to n b = case_b (ltb b n) (λ q. rw q (le-ltb n (suc b) (omega (arith, ltb-true b n q)))) (λ q. rw q (lt-ltb n (suc b) (omega (arith, ltb-false b n q))))

from_on : (n b : ℕ) → leb b n ≡ not (ltb n b)
from_on n b = case_b (ltb n b) (λ q. rw q (lt-leb b n (ltb-true n b q))) (λ q. rw q (le-leb b n (ltb-false n b q)))

network_bad : (kind id : ℕ) → not (is_network kind id) ≡ P.bad_id kind id
unfolding is_network
network_bad zero id = refl
network_bad (suc zero) id = rw (up_to id 16777215) (not_or (ltb 16777215 id))
  where
    not_or : (a : Bool) → not (not a || false) ≡ (a || false)
    not_or true = refl
    not_or false = refl
network_bad (suc (suc zero)) id = rw (up_to id 16777214, from_on id 4096) (not_both (ltb id 4096) (ltb 16777214 id))
  where
    not_both : (a b : Bool) → not (not a && not b || false) ≡ (a || b)
    not_both true b = refl
    not_both false true = refl
    not_both false false = refl
network_bad (suc (suc (suc zero))) id = refl
network_bad (suc (suc (suc (suc kind)))) id =
    rw (
      le-ltb (suc (suc (suc (suc kind)))) 1 (omega arith),
      lt-ltb 3 (suc (suc (suc (suc kind)))) (omega arith),
      ne_eqb (suc (suc (suc (suc kind)))) 1 (λ z. omega arith),
      ne_eqb (suc (suc (suc (suc kind)))) 2 (λ z. omega arith),
      ne_eqb (suc (suc (suc (suc kind)))) 3 (λ z. omega arith),
    )

pub add_binding-number : (e : Endpoint) (peer kind network tenant : ℕ)
    → added_code (add_binding_of e peer kind network tenant).answer ≡ T.numbered (P.add_binding_rows e peer kind network tenant)
unfolding add_binding_of add_binding_checks find_binding config_of binds P.add_binding_rows added_code
add_binding-number e peer kind network tenant =
    rw (some-lowest (min e.binding_count most_bindings) (P.is_binding e peer kind network), sym (network_bad kind network))
    (pull (λ (s : AddResult). added_code s.answer) (refused_add e) (add_binding_checks e peer kind network tenant)
    (record { endpoint = with_binding e e.binding_count peer kind network tenant; answer = Ok e.binding_count })
    ∙ simp choices (row3 18 (leb (min e.peer_count most_peers) peer) (not (is_network kind network)) (ltb 65535 tenant) _))

-- where no row applies: 0

pub start-done : (own port mtu : ℕ) → P.bad_address own ≡ false → port ≢ 0 → port ≤ 65535 → 576 ≤ mtu → mtu ≤ 1600
    → start_code (start_of own port mtu).answer ≡ 0
unfolding P.start_rows
start-done own port mtu a p q m n =
    start-number own port mtu
    ∙ simp choices (rw (a, ne_eqb port 0 p, le-ltb 65535 port q, le-ltb mtu 576 m, le-ltb 1600 mtu n) refl)

pub peer-done : (e : Endpoint) (address : ℕ) → e.port ≢ 0 → P.bad_address address ≡ false → address ≢ e.own
    → some_below (P.peers e) (P.is_peer e address) ≡ false → e.peer_count < 8 → added_code (add_peer_of e address).answer ≡ 0
unfolding P.add_peer_rows
peer-done e address p a o once room =
    add-peer-number e address
    ∙ simp choices (rw (ne_eqb e.port 0 p, a, ne_eqb address e.own o, once, lt-leb 8 e.peer_count room) refl)

pub binding_done : (e : Endpoint) (peer kind network tenant : ℕ) → peer < P.peers e → P.bad_id kind network ≡ false → tenant ≤ 65535
    → some_below (P.bindings e) (P.is_binding e peer kind network) ≡ false → e.binding_count < 64
    → added_code (add_binding_of e peer kind network tenant).answer ≡ 0
unfolding P.add_binding_rows
binding_done e peer kind network tenant p i t once room =
    add_binding-number e peer kind network tenant
    ∙ simp choices (rw (lt-leb (P.peers e) peer p, i, le-ltb 65535 tenant t, once, lt-leb 64 e.binding_count room) refl)

-- ---- the inner frame: 12, 13

-- the two fields that a broken format is told by are one finding
broken-told : (start : ℕ) (r : Refusal) → code_of r at_byte (finding_of start r).offset ≡ finding_of start r
broken-told start r = ap (λ (n : ℕ). n at_byte (finding_of start r).offset) (sym (refusal-number start r))

frame_row : (x : Finding) (frame : List ℕ) → T.tells 0 (λ u. x) (frame_of frame) ≡ pick (T.bad_frame frame) (only 13) x
frame_row x frame = simp choices at (wire_table.inner_frame 0 x frame)

-- what a verdict tells
verdict_tells : Verdict answers → Finding
verdict_tells (bad d) = drop_of d
verdict_tells (good t) = only 0

module _ (e : Endpoint) (peer kind network : ℕ) (frame : List ℕ) where
  abbrev verdict : Verdict answers
  verdict = inner_from e.networks e.kinds e.owners e.tenants (P.bindings e) peer kind network frame

  inner_told : verdict_tells verdict ≡ T.told (P.inner_rows e peer kind network frame)
  unfolding inner_from binds verdict_tells P.inner_rows
  inner_told =
      rw (some-lowest (P.bindings e) (P.is_binding e peer kind network))
      (simp choices (by_binding_lem (lowest (P.is_binding e peer kind network) (P.bindings e))))
    where
      by_frame_lem : (r : Result (Unit {0}) Refusal) → frame_of frame ≡ r → (t : Target) → verdict_tells (by_frame r t) ≡ T.tells 0 (λ u. only 0) r
      by_frame_lem (Ok tt) q t = refl
      by_frame_lem (Err r) q t = ap (λ (x : Finding). x.number at_byte 0) (frame-plain frame r 0 q) ∙ sym (frame-plain frame r 0 q)

      by_binding_lem : (o : Option ℕ) → verdict_tells (by_binding e.tenants o (frame_of frame))
          ≡ pick (not (is_some o)) (only 12) (pick (T.bad_frame frame) (only 13) (only 0))
      by_binding_lem none = refl
      by_binding_lem (some b) = by_frame_lem (frame_of frame) refl (record { tenant = get_or e.tenants b 0; binding = b }) ∙ frame_row (only 0) frame

-- ---- a complete STT frame: 28, 29, 12, 13

module _ (e : Endpoint) (peer : ℕ) where
  abbrev judge_rows : List ℕ → T.Rows
  judge_rows frame = T.stt_rows frame and_then P.inner_rows e peer 3 (T.context_of frame) (drop 18 frame)

  judge-told : (note : Note) (frame : List ℕ) → 18 ≤ length frame → verdict_tells (judge_of (config_of e) peer note frame) ≡ T.told (judge_rows frame)
  unfolding judge_of stt_from config_of verdict_tells
  judge-told note frame l =
      by_header (stt_of frame)
      ∙ wire_table.stt_frame_lem 0 (λ context. verdict_tells (verdict e peer 3 context (drop 18 frame))) frame l
      ∙ ap (λ (x : Finding). T.stt_rows frame otherwise x) (inner_told e peer 3 (T.context_of frame) (drop 18 frame))
      ∙ sym (behind (T.stt_rows frame) (P.inner_rows e peer 3 (T.context_of frame) (drop 18 frame)) (only 0))
    where
      by_header : (x : Result ℕ Refusal) → verdict_tells (by_stt x (λ context. verdict e peer 3 context (drop 18 frame)))
          ≡ T.tells 0 (λ context. verdict_tells (verdict e peer 3 context (drop 18 frame))) x
      by_header (Ok context) = refl
      by_header (Err r) = broken-told 0 r

-- ---- an STT segment: 14, 15, 16, 17, 1, and then those of the complete frame

-- what the answer to what is made of a packet tells
seen_tells : Endpoint → List ℕ → Reading answers → Finding
seen_tells e m x = told_by (values_of (stepped e m x).answer)

verdict_reply_told : (v : Verdict answers) (i n : ℕ) (frame : List ℕ) → told_by (values_of (frame_answer answers v i n frame).reply) ≡ verdict_tells v
unfolding verdict_tells
verdict_reply_told (bad d) i n frame = ap (λ (a : Result Received Drop). told_by (values_of a)) (bad_reply answers d i n frame)
verdict_reply_told (good t) i n frame = ap (λ (a : Result Received Drop). told_by (values_of a)) (good_reply answers t i n frame)

module _ (e : Endpoint) (m : List ℕ) (p : ℕ) (g : Seg) where
  -- what is made of a complete frame; its note says nothing in the base
  judged : List ℕ → Finding
  judged frame = verdict_tells (judge_of (config_of e) p no_note frame)

  outcome-told : (o : Effect bytes_of) (x : Outcome) → told_by (values_of (take_answer answers (judge_of (config_of e)) bytes_of p g o x).reply)
      ≡ taken_tells judged p g o x
  unfolding judged judge_of
  outcome-told o (O.Rejected r) =
      ap (λ (a : Result Received Drop). told_by (values_of a)) (rejected_reply answers (judge_of (config_of e)) bytes_of p g o r) ∙ sym (rejected-told judged p g o r)
  outcome-told o O.Pending =
      ap (λ (a : Result Received Drop). told_by (values_of a)) (pending_reply answers (judge_of (config_of e)) bytes_of p g o) ∙ sym (pending-told judged p g o)
  outcome-told o (O.Complete s) =
      ap (λ (a : Answer answers). told_by (values_of a.reply)) (complete_reply answers (judge_of (config_of e)) bytes_of p g o s)
      ∙ verdict_reply_told (judge_of (config_of e) p o.note (frame_in bytes_of o.mem (slot_no p s) g.frame_length)) _ _ _
      ∙ sym (complete-told judged p g o s)
  outcome-told o O.NoMemory =
      ap (λ (a : Result Received Drop). told_by (values_of a)) (no_memory_reply answers (judge_of (config_of e)) bytes_of p g o) ∙ sym (no_memory_told judged p g o)

  segment-told : p < most_peers → 55296 ≤ length m
      → seen_tells e m (segment p g) ≡ T.told (segment_rows p (row_at e p) m g and_then judge_rows e p (complete_frame p (row_at e p) m g))
  unfolding seen_tells judged
  segment-told small enough =
      outcome-told (take_in p (row_at e p) m g) (take_in p (row_at e p) m g).outcome
      ∙ reassembly_table.segment judged p (row_at e p) m g small enough
      ∙ under_segment p (row_at e p) m g _ _ (λ l. judge-told e p no_note (complete_frame p (row_at e p) m g) (omega arith))
      ∙ sym (behind (segment_rows p (row_at e p) m g) (judge_rows e p (complete_frame p (row_at e p) m g)) (only 0))

-- ---- the payload, the sender and the outer header

module _ (e : Endpoint) (m k : List ℕ) where
  -- the words of the page, of this packet: does peer i send it; the sender's number; the payload; the segment in it
  abbrev sends : ℕ → Bool
  sends = P.is_peer e (T.source_of k)

  abbrev peer : ℕ
  peer = found (lowest sends (P.peers e))

  abbrev start : ℕ
  start = T.header_length_of k

  abbrev end : ℕ
  end = T.total_length_of k

  abbrev protocol : ℕ
  protocol = T.protocol_of k

  abbrev payload : List ℕ
  payload = part k start end

  abbrev carried : Segment
  carried = record {
    frame_length = T.frame_length_of payload;
    offset = T.offset_of payload;
    identifier = T.identifier_of payload;
    start = 4 * T.data_words_of payload;
  }

  -- 9, 8, 9, 10, and what follows them
  abbrev carriage : T.Rows
  carriage = T.payload_rows protocol (T.source_of k) (T.destination_of k) e.port payload

  abbrev next : T.Rows
  next = cond (eqb protocol 17) (P.vxlan_next e peer start payload) (cond (eqb protocol 47) (P.nvgre_next e peer start payload) (P.stt_next e m peer payload))

  -- what is made of a tunnel and of a segment
  tunnel_tells : Tunnel → Finding
  tunnel_tells t = told_by (values_of (tunnel_of (config_of e) peer t.kind t.network (start + t.start) (part k (start + t.start) end)))

  segment_tells : Segment → Finding
  segment_tells g = seen_tells e m (segment peer (seg_of g (part k (start + g.start) end)))

  carried_is : (x : Result Carried Refusal) → seen_tells e m (by_payload (config_of e) peer start end k x) ≡ T.tells start (T.carried_tells tunnel_tells segment_tells) x
  unfolding seen_tells tunnel_tells segment_tells
  carried_is (Err r) = broken-told start r
  carried_is (Ok (C.Tunnel t)) = refl
  carried_is (Ok (C.Segment g)) = refl

  tunnel_rows : (rows : T.Rows) (kind network at : ℕ)
      → (rows otherwise tunnel_tells (record { kind = kind; network = network; start = at }))
      ≡ T.told (rows and_then P.inner_rows e peer kind network (drop at payload))
  unfolding tunnel_tells tunnel_from config_of verdict_tells
  tunnel_rows rows kind network at =
      ap (λ (x : Finding). rows otherwise x) (
      by_verdict (verdict e peer kind network (part k (start + at) end)) _
      ∙ inner_told e peer kind network (part k (start + at) end)
      ∙ ap (λ (frame : List ℕ). T.told (P.inner_rows e peer kind network frame)) (sym (part-drop k start end at)))
      ∙ sym (behind rows (P.inner_rows e peer kind network (drop at payload)) (only 0))
    where
      by_verdict : (v : Verdict answers) (place : Place) → told_by (values_of (answer_at v place)) ≡ verdict_tells v
      by_verdict (bad d) place = refl
      by_verdict (good t) place = refl

  segment_is : peer < most_peers → 55296 ≤ length m → segment_tells carried ≡ T.told (P.stt_next e m peer payload)
  unfolding segment_tells P.stt_next
  segment_is small enough =
      ap (λ (bs : List ℕ). seen_tells e m (segment peer (seg_of carried bs)))
      (sym (part-drop k start end (4 * T.data_words_of payload)) ∙ sym (segment-bytes_are payload))
      ∙ segment-told e m peer (P.segment_of payload) small enough

  payload-told : Bytes k → peer < most_peers → 55296 ≤ length m
      → seen_tells e m (by_payload (config_of e) peer start end k (carriage_of protocol (T.source_of k) (T.destination_of k) e.port payload))
      ≡ T.told (carriage and_then next)
  unfolding P.vxlan_next P.nvgre_next
  payload-told bytes small enough =
      carried_is (carriage_of protocol (T.source_of k) (T.destination_of k) e.port payload)
      ∙ wire_table.payload tunnel_tells segment_tells start protocol (T.source_of k) (T.destination_of k) e.port payload short
      ∙ ap (λ (x : Finding). carriage otherwise x) by_protocol
      ∙ sym (behind carriage next (only 0))
    where
      short : length payload ≤ 65535
      short = omega (arith, total_most k bytes, part-short k start end)

      by_protocol : cond (eqb protocol 17) (T.vxlan_rows start payload otherwise tunnel_tells (record { kind = 1; network = T.vni_of payload; start = 16 }))
          (cond (eqb protocol 47) (T.nvgre_rows start payload otherwise tunnel_tells (record { kind = 2; network = T.vsid_of payload; start = 8 }))
          (segment_tells carried)) ≡ T.told next
      by_protocol =
          case_b (eqb protocol 17)
          (λ a. rw a (tunnel_rows (T.vxlan_rows start payload) 1 (T.vni_of payload) 16))
          (λ a. case_b (eqb protocol 47)
          (λ b. rw (a, b) (tunnel_rows (T.nvgre_rows start payload) 2 (T.vsid_of payload) 8))
          (λ b. rw (a, b) (segment_is small enough)))

  -- what follows 6, and what follows 5
  abbrev seventh : Finding
  seventh = pick (not (some_below (P.peers e) sends)) (only 7) (T.told (carriage and_then next))

  abbrev header : Ipv4
  header = record { start = start; end = end; source = T.source_of k; destination = T.destination_of k; protocol = protocol }

  -- what is made of a packet whose header is good
  good-header : Ipv4 → Finding
  good-header h = seen_tells e m (by_destination (config_of e) h k (eqb h.destination e.own))

  module _ (bytes : Bytes k) (enough : 55296 ≤ length m) where
    peer-told : seen_tells e m (by_peer (config_of e) header k (find_peer (config_of e) (T.source_of k))) ≡ seventh
    unfolding find_peer config_of has_address seen_tells
    peer-told =
        rw (some-lowest (P.peers e) sends)
        (case_o (lowest sends (P.peers e)) (λ q. rw q) (λ p q.
        let r : lowest sends (P.peers e) ≡ some peer = found_is (lowest sends (P.peers e)) p q in
        let small : peer < most_peers = omega (arith, (lowest-some sends (P.peers e) peer r).below) in
        ap (λ (o : Option ℕ). seen_tells e m (by_peer (config_of e) header k o)) r
        ∙ payload-told bytes small enough
        ∙ sym (ap (λ (b : Bool). pick (not b) (only 7) (T.told (carriage and_then next))) (ap is_some r))))

    ours-told : (b : Bool) → seen_tells e m (by_destination (config_of e) header k b) ≡ pick (not b) (only 6) seventh
    unfolding seen_tells
    ours-told false = refl
    ours-told true = peer-told

    header-told : seen_tells e m (header_of (config_of e) k) ≡ (T.ipv4_rows k otherwise pick (not (eqb (T.destination_of k) e.own)) (only 6) seventh)
    unfolding header_of config_of seen_tells good-header
    header-told =
        by_header (ipv4_of k) refl
        ∙ wire_table.ipv4 0 good-header k
        ∙ ap (λ (x : Finding). T.ipv4_rows k otherwise x) (ours-told (eqb (T.destination_of k) e.own))
      where
        by_header : (x : Result Ipv4 Refusal) → ipv4_of k ≡ x → seen_tells e m (by_ipv4 (config_of e) k x) ≡ T.tells 0 good-header x
        by_header (Ok h) q = refl
        by_header (Err r) q = sym (ipv4_plain k r 0 q)

  -- behind 5: 6, 7, and the rest
  abbrev ours : T.Rows
  ours = (not (eqb (T.destination_of k) e.own) ⇒ 6) ∷ (not (some_below (P.peers e) sends) ⇒ 7) ∷ (carriage and_then next)

  behind-header : (T.ipv4_rows k otherwise pick (not (eqb (T.destination_of k) e.own)) (only 6) seventh) ≡ T.told (T.ipv4_rows k and_then ours)
  behind-header = sym (simp choices at (behind (T.ipv4_rows k) ours (only 0)))

  pub receive-told : Bytes k → told_by (values_of (step_of e m k).answer) ≡ T.told (P.receive_rows e m k)
  unfolding step_of seen_tells P.receive_rows
  receive-told bytes =
      case_b (ltb (length m) 55296)
      (λ q. simp (choices, q))
      (λ q. simp (choices, q, payload_is k) (header-told bytes (ltb-false (length m) 55296 q) ∙ behind-header))

-- a refusal and answer 1 carry no tenant, no binding and the empty place
pub receive_empties : (a : Result Received Drop) → (values_of a).number ≢ 0
    → values_of a ≡ record { number = (values_of a).number; offset = (values_of a).offset; tenant = none; binding = none; place = nowhere }
receive_empties (Ok (R.Delivered t p)) d = absurd (d refl)
receive_empties (Ok R.Pending) d = refl
receive_empties (Err r) d = refl

-- ---- writing

-- a frame is refused exactly where it is bad
frame-bad : (frame : List ℕ) → is_bad (frame_of frame) ≡ T.bad_frame frame
frame-bad frame = by (frame_of frame) (T.bad_frame frame) (λ n. ap (λ (x : Finding). x.number) (frame_row (only n) frame))
  where
    by : (r : Result (Unit {0}) Refusal) (b : Bool) → ((n : ℕ) → (T.tells 0 (λ u. only n) r).number ≡ (pick b (only 13) (only n)).number) → is_bad r ≡ b
    by (Ok tt) true h = absurd (omega (arith, h 0))
    by (Ok tt) false h = refl
    by (Err r) true h = refl
    by (Err r) false h = absurd (omega (arith, h 0, h 1))

module _ (e : Endpoint) (b : ℕ) (frame : List ℕ) (k identifier : ℕ) (output : List ℕ) where
  -- the number of segments and the packet's length, as the page has them
  abbrev segments : ℕ
  segments = cond (eqb (kind_at e b) 3) ((18 + length frame + (e.mtu - 40) - 1) / (e.mtu - 40)) 1

  abbrev packet_length : ℕ
  packet_length =
      cond (eqb (kind_at e b) 1) (36 + length frame)
      (cond (eqb (kind_at e b) 2) (28 + length frame) (40 + (min (18 + length frame) (k * (e.mtu - 40) + (e.mtu - 40)) - k * (e.mtu - 40))))

  -- 22, 23, 21, by kind
  abbrev last_number : ℕ
  last_number =
      pick (exceeds (kind_at e b) (length frame) e.mtu) 22
      (pick (leb (segments_of (kind_at e b) (length frame) e.mtu) k) 23
      (pick (ltb (length output) (length (packet_at e b frame k identifier))) 21 0))

  abbrev last_wrap_rows : T.Rows
  last_wrap_rows =
      ((eqb (kind_at e b) 1 || eqb (kind_at e b) 2) && ltb e.mtu packet_length ⇒ 22)
      ∷ (leb segments k ⇒ 23)
      ∷ (ltb (length output) packet_length ⇒ 21)
      ∷ []

  last-vxlan : kind_at e b ≡ 1 → last_number ≡ T.numbered last_wrap_rows
  unfolding exceeds segments_of packet_of
  last-vxlan q = rw (q, vxlan-length_is e.own (peer_at e b) (low32 (network_at e b)) frame) (simp choices)

  last-nvgre : kind_at e b ≡ 2 → last_number ≡ T.numbered last_wrap_rows
  unfolding exceeds segments_of packet_of
  last-nvgre q = rw (q, nvgre-length_is e.own (peer_at e b) (low32 (network_at e b)) frame) (simp choices)

  last-stt : kind_at e b ≡ 3 → 576 ≤ e.mtu → last_number ≡ T.numbered last_wrap_rows
  unfolding exceeds packet_of
  last-stt q l =
      rw (q, many-stt (length frame) e.mtu l)
      (simp choices (unless (leb ((18 + length frame + capacity e.mtu - 1) / capacity e.mtu) k) 23 _ _ (λ p.
      let many : k < (18 + length frame + capacity e.mtu - 1) / capacity e.mtu =
      leb-false ((18 + length frame + capacity e.mtu - 1) / capacity e.mtu) k p in
      let begins : k * capacity e.mtu < 18 + length frame = starts_within (18 + length frame) (capacity e.mtu) k (omega arith) many in
      rw (segment-length_is e.own (peer_at e b) e.port (network_at e b) identifier (segment_start e.mtu k) (segment_size (length frame) e.mtu k)
      (eqb (k + 1) ((18 + length frame + capacity e.mtu - 1) / capacity e.mtu)) frame (omega arith)))))

  last-number : Listed e b → last_number ≡ T.numbered last_wrap_rows
  last-number l = by (by_kind (kind_at e b) (network_at e b) l.network_good)
    where
      by : ByKind (kind_at e b) (network_at e b) → last_number ≡ T.numbered last_wrap_rows
      by (vxlan q h) = last-vxlan q
      by (nvgre q h) = last-nvgre q
      by (stt q) = last-stt q l.mtu_least

  pub wrap_number : Reached e → (wrap_values_of (wrap_of e b frame k identifier output).answer).number ≡ T.numbered (P.wrap_rows e b frame k output)
  unfolding wrap_of wrap_checks config_of P.wrap_rows wrap_values_of
  wrap_number reached =
      pull (λ (w : Wrote). (wrap_values_of w.answer).number) (refused_wrap output) (wrap_checks e b frame k identifier output) _
      ∙ simp choices (unless (leb (P.bindings e) b) 23 _ _ (λ p.
      let l = ready-listed e b (reached_ready e reached) (leb-false (P.bindings e) b p) in
      rw (lt-leb most_peers (owner_at e b) l.owner_below, frame-bad frame)
      (ap (pick (T.bad_frame frame) 13) (simp choices at (last-number l)))))

-- a refusal carries the length 0 and no segment
pub wrap_empties : (a : Result Packet WrapRefusal) → (wrap_values_of a).number ≢ 0 → wrap_values_of a ≡ record { number = (wrap_values_of a).number; length_is = 0; segments = 0 }
unfolding wrap_values_of
wrap_empties (Ok p) d = absurd (d refl)
wrap_empties (Err r) d = refl

-- ---- the table

pub document_table : P.Table
document_table = record {
  start = start-number;
  add_peer_lem = add-peer-number;
  add_binding_lem = add_binding-number;
  receive = receive-told;
  wrap = λ e reached b frame k identifier output. wrap_number e b frame k identifier output reached;
  empty = receive_empties;
  wrap_empty = wrap_empties;
}
