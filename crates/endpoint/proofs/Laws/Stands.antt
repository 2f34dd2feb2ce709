-- What an opened packet stands for, whatever the memory holds; and frames that lie at any place of the memory: for a crate that reassembles a second time.
use Prim.Native.Nat.{◌^◌, ℕ, ◌+◌, ◌-◌, ◌<◌, ◌≤◌, min}
use Rattle.std.specs.Prelude.{◌≡◌, Bool, cond, take, drop, leb, eqb, Result, Ok, Err}
use Rattle.std.proofs.Math.Path.{refl, sym, ap}
use Rattle.std.proofs.Common.{◌∙◌, arith, length-take, length-drop, drop-drop}
use Rattle.std.proofs.Math.Bool.{true, false}
use mathlib.Core.List.{List}
use Rattle.std.proofs.Math.Option.{Option, none, some}
use Rattle.std.proofs.Math.ListN.{length}
use borrow.Author.Tests.{le-ltb, leb-true, leb-false}
use Rattle.wire.specs.Bytes.{part}
use Rattle.wire.proofs.Laws.Bytes.{part_length, drop-take}
use Rattle.wire.proofs.Laws.Ipv4.{ipv4_bounds}
use Rattle.wire.proofs.Laws.Stt.{stt_room}
use Rattle.wire.proofs.Laws.Carriage.{tunnel_within, segment_within}
use Rattle.wire.specs.Ipv4.{ipv4_of}
use Rattle.wire.specs.Carriage.{carriage_of}
use Rattle.wire.specs.Stt.{stt_of}
use Rattle.wire.specs.declared.ipv4.Ipv4.{Ipv4}
use Rattle.reassembly.specs.Slots.{Note, most_peers}
use Rattle.reassembly.proofs.Laws.Answers.{part-fits, part_past, view_memory}
use Rattle.reassembly.specs.Take.{Seg, seg_of}
use Rattle.reassembly.specs.Receive.{Reading as Made, other_sender, direct, segment, part_of_slice, view_of}
use Rattle.reassembly.proofs.Laws.Base.{case_b, clash}
use Rattle.endpoint.specs.Search.{lowest}
use Rattle.endpoint.specs.Config.{Config, config_of, has_address, find_peer, most_bindings}
use Rattle.endpoint.specs.Receive.{broken_at, answers, inner_from, answer_at, by_payload, by_peer, header_of, by_destination}
use Rattle.endpoint.specs.Receive.{by_ipv4}
use Rattle.endpoint.specs.Receive.{by_stt, stt_from, judge_of}
use Rattle.endpoint.specs.declared.answer.Drop.{Drop}
use Rattle.endpoint.specs.declared.answer.Drop.TheVariants as D
use Rattle.endpoint.specs.declared.answer.Received.{Received}
use Rattle.endpoint.specs.declared.receive.Due.{Due}
use Rattle.endpoint.specs.declared.receive.Content.TheVariants as A
use Rattle.endpoint.specs.declared.receive.Arrival.{Arrival}
use Rattle.endpoint.specs.declared.config.Endpoint.{Endpoint}
use Rattle.endpoint.specs.Stages.{carried_from, content_from, from_other, open_peer, open_header, open_ip, open_of, stt_offer, offer_at}
use Rattle.endpoint.specs.Stages.{brings_segment, untaken_of, deliver_of, opened_by, delivered_by}
use Rattle.endpoint.proofs.Laws.Receive.{part_view, tunnel_out}
use Rattle.wire.specs.declared.carriage.Carried.TheVariants as C
use Rattle.wire.specs.declared.carriage.Carried.{Carried}
use Rattle.wire.specs.declared.refusal.Refusal.{Refusal}

-- ---- parts of the memory

part-size : (s : List ℕ) (start len : ℕ) → start + len ≤ length s → length (part_of_slice s start len) ≡ len
part-size s start len f =
    ap (λ (x : List ℕ). length x) (part-fits s start len f) ∙ omega (arith, length-take len (drop start s), length-drop start s)

-- a part of some bytes lies in the slice
pub part-inside : (s : List ℕ) (start len : ℕ) → 0 < length (part_of_slice s start len) → start + length (part_of_slice s start len) ≤ length s
part-inside s start len has =
    case_b (leb (start + len) (length s))
    (λ b. let fits : start + len ≤ length s = leb-true (start + len) (length s) b in omega (arith, part-size s start len fits))
    (λ b. let empty : length (part_of_slice s start len) ≡ 0 = ap (λ (x : List ℕ). length x) (part_past s start len (leb-false (start + len) (length s) b)) in
    absurd (omega arith))

-- where it begins and how long it is: both together are a number of 64 bits
pub part_room : (s : List ℕ) (start len : ℕ) (frame : List ℕ) → frame ≡ part_of_slice s start len → start < 2 ^ 64 → length s < 2 ^ 64
    → start + length frame < 2 ^ 64
part_room s start len frame is fits most =
    let same : length frame ≡ length (part_of_slice s start len) = ap (λ (x : List ℕ). length x) is in
    case_b (leb (start + len) (length s))
    (λ b. let inside : start + len ≤ length s = leb-true (start + len) (length s) b in omega (arith, part-size s start len inside))
    (λ b. let empty : length (part_of_slice s start len) ≡ 0 = ap (λ (x : List ℕ). length x) (part_past s start len (leb-false (start + len) (length s) b)) in
    omega arith)

-- so an STT frame that is read lies in the memory, with its header
pub header-inside : (m : List ℕ) (at n : ℕ) (frame : List ℕ) (context : ℕ) → frame ≡ part_of_slice m at n → stt_of frame ≡ Ok context
    → (18 ≤ length frame) × (at + 18 ≤ length m)
header-inside m at n frame context is read =
    let long : 18 ≤ length frame = stt_room frame context read in
    let same : length frame ≡ length (part_of_slice m at n) = ap (λ (x : List ℕ). length x) is in
    (long, omega (arith, part-inside m at n (omega arith)))

-- the inner frame of an STT frame that lies in the memory
pub inner_view : (k m : List ℕ) (at n : ℕ) → 18 ≤ n → at + n ≤ length m
    → view_of k m (record { in_lent_memory = true; start = at + 18; len = n - 18 }) ≡ drop 18 (part_of_slice m at n)
inner_view k m at n l f =
    view_memory k m (record { in_lent_memory = true; start = at + 18; len = n - 18 }) refl
    ∙ part-fits m (at + 18) (n - 18) (omega arith)
    ∙ sym (ap (λ (x : List ℕ). drop 18 x) (part-fits m at n f) ∙ drop-take 18 n (drop at m) ∙ ap (λ (x : List ℕ). take (n - 18) x) (drop-drop 18 at m))

-- STT: it lies in the memory
module _ (c : Config) (p : ℕ) (k m : List ℕ) (at n : ℕ) (long : 18 ≤ n) (inside : at + n ≤ length m) where
  header_out : (x : Result ℕ Refusal) → deliver_of c.networks c.kinds c.owners c.tenants c.bindings p (stt_offer at n x) k m
      ≡ answer_at (by_stt x (λ context. inner_from c.networks c.kinds c.owners c.tenants c.bindings p 3 context (drop 18 (part_of_slice m at n))))
      (record { start = at + 18; length = n - 18; in_memory = true })
  unfolding deliver_of
  header_out (Err r) = refl
  header_out (Ok context) = rw (inner_view k m at n long inside)

  judged_out : (note : Note) → deliver_of c.networks c.kinds c.owners c.tenants c.bindings p (offer_at at (part_of_slice m at n)) k m
      ≡ answer_at (judge_of c p note (part_of_slice m at n)) (record { start = at + 18; length = n - 18; in_memory = true })
  unfolding judge_of stt_from offer_at
  judged_out note = rw (part-size m at n inside) (header_out (stt_of (part_of_slice m at n)))

-- the same with an endpoint's own columns
pub judged_by : (e : Endpoint) (p : ℕ) (k m : List ℕ) (at n : ℕ) → 18 ≤ n → at + n ≤ length m → (note : Note)
    → delivered_by e p (offer_at at (part_of_slice m at n)) k m
    ≡ answer_at (judge_of (config_of e) p note (part_of_slice m at n)) (record { start = at + 18; length = n - 18; in_memory = true })
unfolding config_of
judged_by e p k m at n long inside note = judged_out (config_of e) p k m at n long inside note

-- ---- what a packet stands for

-- WHAT AN OPENED PACKET STANDS FOR, by what the header layer makes of it: an answer, whatever the memory holds; or a segment of its peer's, a part of the
-- packet
pub record Direct (e : Endpoint) (k : List ℕ) (x : Arrival) (a : Result Received Drop) : Type 0 where
  pub untaken : brings_segment x.content ≡ false
  pub answer : (m : List ℕ) → delivered_by e x.peer (untaken_of x.content) k m ≡ a

pub record Brings (k : List ℕ) (x : Arrival) (p : ℕ) (g : Seg) : Type 0 where
  pub peer : x.peer ≡ p
  pub due : Due
  pub content : x.content ≡ Ok (A.Segment due)
  pub bytes : seg_of due.header (part_of_slice k due.start due.length) ≡ g

abbrev pub StandsFor : Endpoint → (packet : List ℕ) → Arrival → Made answers → Type 0
StandsFor e k x (other_sender a) = (x.peer ≡ 0) × Direct e k x a
StandsFor e k x (direct p a) = (x.peer ≡ p) × Direct e k x a
StandsFor e k x (segment p g) = Brings k x p g

module _ (e : Endpoint) (k : List ℕ) where
  refused_stands : (p : ℕ) (d : Drop) → Direct e k (record { peer = p; content = Err d }) (Err d)
  unfolding deliver_of
  refused_stands p d = record { untaken = refl; answer = λ m. refl }

  carried-stands : (h : Ipv4) → (h.start ≤ h.end) × (h.end ≤ length k) → (p : ℕ) (x : Result Carried Refusal)
      → carriage_of h.protocol h.source h.destination e.port (part k h.start h.end) ≡ x
      → StandsFor e k (record { peer = p; content = carried_from h.start h.end x }) (by_payload (config_of e) p h.start h.end k x)
  unfolding config_of
  carried-stands h b p (Err r) q = (refl, refused_stands p (broken_at h.start r))
  carried-stands h b p (Ok (C.Tunnel t)) q =
      let in-payload : t.start ≤ length (part k h.start h.end) =
      tunnel_within h.protocol h.source h.destination e.port (part k h.start h.end) t q in (
        refl,
        record {
          untaken = refl;
          answer = λ m.
              tunnel_out e.networks e.kinds e.owners e.tenants (min e.binding_count most_bindings)
              p t.kind t.network (h.start + t.start) h.end k m
              (omega (arith, part_length k h.start h.end b.1)) b.1;
        },
      )
  carried-stands h b p (Ok (C.Segment g)) q =
      let in-payload : g.start ≤ length (part k h.start h.end) =
      segment_within h.protocol h.source h.destination e.port (part k h.start h.end) g q in
      record {
        peer = refl;
        due = record { header = g; start = h.start + g.start; length = h.end - (h.start + g.start) };
        content = refl;
        bytes = ap (seg_of g) (part_view k (h.start + g.start) h.end (omega (arith, part_length k h.start h.end b.1)) b.1);
      }

  peer-stands : (h : Ipv4) → (h.start ≤ h.end) × (h.end ≤ length k) → (o : Option ℕ)
      → StandsFor e k (open_peer o (content_from e.port h k)) (by_peer (config_of e) h k o)
  unfolding content_from config_of
  peer-stands h b none = (refl, refused_stands 0 D.UnknownPeer)
  peer-stands h b (some p) = carried-stands h b p (carriage_of h.protocol h.source h.destination e.port (part k h.start h.end)) refl

  ours-stands : (h : Ipv4) → (h.start ≤ h.end) × (h.end ≤ length k) → (b : Bool)
      → StandsFor e k
      (cond b (open_peer (lowest (has_address e.addresses h.source) (min e.peer_count most_peers)) (content_from e.port h k)) (from_other D.NotForUs))
      (by_destination (config_of e) h k b)
  unfolding find_peer config_of
  ours-stands h b true = peer-stands h b (find_peer (config_of e) h.source)
  ours-stands h b false = (refl, refused_stands 0 D.NotForUs)

  ip_stands : (x : Result Ipv4 Refusal) → ipv4_of k ≡ x
      → StandsFor e k (open_ip x (open_header e.addresses e.own e.port (min e.peer_count most_peers) k)) (by_ipv4 (config_of e) k x)
  unfolding config_of
  ip_stands (Err r) q = (refl, refused_stands 0 (D.Format r 0))
  ip_stands (Ok h) q = ours-stands h (ipv4_bounds k h q) (eqb h.destination e.own)

  pub opened-stands : (room : ℕ) → 55296 ≤ room → StandsFor e k (opened_by e k room) (header_of (config_of e) k)
  unfolding open_of header_of
  opened-stands room enough = rw (le-ltb room 55296 enough) (ip_stands (ipv4_of k) refl)

-- so what it brings tells what the header layer made of it
pub stands-segment : (e : Endpoint) (k : List ℕ) (x : Arrival) (y : Made answers) (d : Due) → StandsFor e k x y → x.content ≡ Ok (A.Segment d)
    → y ≡ segment x.peer (seg_of d.header (part_of_slice k d.start d.length))
stands-segment e k x (other_sender a) d s q = clash (cc (s.1.untaken, q))
stands-segment e k x (direct p a) d s q = clash (cc (s.1.untaken, q))
stands-segment e k x (segment p g) d s q =
    let same : s.due ≡ d = cc (s.content, q) in
    rw (← same, s.bytes, s.peer)
