-- Demand 1 holds of a receive (Demand1.antt, `ReceiveRule`): its numbers, what a refusal leaves, and what 0 and 1 do.
use Rattle.std.specs.Prelude.{ℕ, zero, suc, ◌+◌, ◌-◌, ◌<◌, ◌≤◌, ◌⊎◌, ◌≢◌, cond, List, [], ◌∷◌, length, get_or, set, take, drop, eqb, Result, Ok, Err}
use Rattle.std.proofs.Math.Path.{◌≡◌, refl}
use Rattle.std.proofs.Common.{sym, ap, subst, ◌∙◌, inl, inr, arith, eqb-true, ne_eqb, get_or-set_same, get_or-set_other}
use Rattle.std.proofs.Math.Bool.{Bool, true, false}
use Rattle.std.proofs.Math.Option.{Option, none, some}
use Rattle.std.proofs.lemmas.Bool.{eqb-false}
use Rattle.std.proofs.lemmas.List.{set-get_or}
use Rattle.std.proofs.Math.Dec.{ltb}
use Rattle.wire.specs.Bytes.{Bytes}
use Rattle.wire.specs.Refusal.{Finding, code_of, finding_of}
use Rattle.wire.proofs.Laws.Refusal.{Told, refusal-told, stt_code, frame-plain}
use Rattle.wire.specs.Stt.{stt_of}
use Rattle.wire.specs.Frame.{frame_of}
use Rattle.reassembly.proofs.Laws.Base.{case_b, either, clash}
use Rattle.reassembly.specs.Slots.{Note, free, no_row, bears}
use Rattle.reassembly.specs.Take.{Seg, Old, Fresh, Effect, rejection_code, slot_no, frame_in}
use Rattle.reassembly.proofs.Laws.TakeFacts.{rejection_codes, length-frame, bears_is}
use Rattle.reassembly.specs.Store.{bytes_of, take_in, slot_start}
use Rattle.reassembly.proofs.Laws.TakeIn.{take_refused, take_no_memory, take_whole, frame-part}
use Rattle.reassembly.proofs.Laws.EveryRun.{frame-at}
use Rattle.reassembly.proofs.Laws.TakeTouch.{Stores, take-completes, take-waits}
use Rattle.reassembly.proofs.Laws.StoreBytes.{take-bytes}
use Rattle.reassembly.specs.EveryRun.{frame_at}
use Rattle.reassembly.specs.SetUp.{Kept}
use Rattle.reassembly.specs.Receive as P
use Rattle.reassembly.proofs.Laws.Answers.{bad_reply, good_reply, rejected_reply, pending_reply, no_memory_reply, complete_reply}
use Rattle.reassembly.specs.Receive.{view_of, Answer, Reading, other_sender, direct, segment, Verdict, bad, good, frame_answer, take_answer}
use Rattle.reassembly.specs.declared.slot.Peer.{Peer}
use Rattle.reassembly.specs.declared.slot.Slot.{Slot}
use Rattle.reassembly.specs.declared.take.Rejection.{Rejection}
use Rattle.reassembly.specs.declared.take.Outcome.{Outcome}
use Rattle.reassembly.specs.declared.take.Outcome.TheVariants as O
use Rattle.endpoint.specs.Answer.{drop_code, place_of, values_of}
use Rattle.endpoint.specs.Search.{lowest}
use Rattle.endpoint.specs.Config.{Config, config_of, binds}
use Rattle.endpoint.specs.Receive.{broken_at, answers, by_binding, inner_from, by_stt, stt_from, header_of, judge_of, Step, row_at, unchanged, stepped, step_of}
use Rattle.endpoint.specs.Receive.{with_row}
use Rattle.endpoint.proofs.Laws.Receive.{header-kept, config_few, Conclusive, header_conclusive}
use Rattle.endpoint.proofs.Laws.Silent.{step_silent}
use Rattle.endpoint.specs.Formats.{CarriesFrame, GoodFrame}
use Rattle.endpoint.proofs.Laws.Formats.{segment_sound, segment_complete, frame_sound}
use Rattle.endpoint.proofs.Laws.Demand2.{SegBytes, header-bytes, lies_view, verdict-good, after-inside, judged-good}
use Rattle.endpoint.specs.declared.answer.Place.{Place}
use Rattle.endpoint.specs.declared.answer.Target.{Target}
use Rattle.endpoint.specs.declared.answer.Drop.{Drop}
use Rattle.endpoint.specs.declared.answer.Drop.TheVariants as D
use Rattle.endpoint.specs.declared.answer.Received.{Received}
use Rattle.endpoint.specs.declared.answer.Received.TheVariants as R
use Rattle.endpoint.specs.declared.config.Endpoint.{Endpoint}
use Rattle.endpoint.specs.Demand1.{◌among◌, slot_at, SameConfiguration, Empties, Unchanged, OpensIn, FurtherIn, Stored, NotYet, Completed, FoundBad}
use Rattle.endpoint.specs.Demand1.{FromPacket, FromMemory, Delivered, ReceiveRule}
use Rattle.wire.specs.declared.refusal.Refusal.{Refusal}

-- ---- its numbers

abbrev Number : ℕ → Type 0
Number n = ((n ≤ 17) × (n ≢ 11)) ⊎ ((25 ≤ n) × (n ≤ 29))

-- a refusal's number is one of 2 to 10, 12 to 17, 25 to 29
drop-codes : (d : Drop) → (2 ≤ drop_code d) × Number (drop_code d)
drop-codes D.MemoryTooSmall = (omega arith, inl (omega arith, λ z. omega arith))
drop-codes (D.Format r o) = by (refusal-told 0 r)
  where
    by : Told 0 (finding_of 0 r) → (2 ≤ code_of r) × Number (code_of r)
    by (inl x) = (omega (arith, x.0), inl (omega (arith, x.1.0), λ z. omega (arith, x.1.0)))
    by (inr (inl x)) = (omega (arith, x.0), inl (omega (arith, x.0), λ z. omega (arith, x.0)))
    by (inr (inr x)) = (omega (arith, x.0), inr (x.0, x.1.0))
drop-codes D.NotForUs = (omega arith, inl (omega arith, λ z. omega arith))
drop-codes D.UnknownPeer = (omega arith, inl (omega arith, λ z. omega arith))
drop-codes D.NoBinding = (omega arith, inl (omega arith, λ z. omega arith))
drop-codes (D.Segment r) = let c = rejection_codes r in (omega (arith, c.0), inl (c.1, λ z. omega (arith, c.0)))

number_one : (a : Result Received Drop) → Number (values_of a).number
number_one (Ok (R.Delivered t p)) = inl (omega arith, λ z. omega arith)
number_one (Ok R.Pending) = inl (omega arith, λ z. omega arith)
number_one (Err d) = (drop-codes d).1

empties : (a : Result Received Drop) → (values_of a).number ≢ 0 → Empties (values_of a)
empties (Ok (R.Delivered t p)) d = absurd (d refl)
empties (Ok R.Pending) d = record { no_tenant = refl; no_binding = refl; start = refl; size = refl; in_packet = refl }
empties (Err x) d = record { no_tenant = refl; no_binding = refl; start = refl; size = refl; in_packet = refl }

-- ---- a frame is found bad by 28, 29, 12 or 13

bound-bad : (tenants : List ℕ) (o : Option ℕ) (frame : List ℕ) (r : Result (Unit {0}) Refusal) → frame_of frame ≡ r → (d : Drop) → by_binding tenants o r ≡ bad d
    → drop_code d among (28 ∷ 29 ∷ 12 ∷ 13 ∷ []) ≡ true
bound-bad tenants none frame r q d e = let z : D.NoBinding ≡ d = cc (e) in rw (← z)
bound-bad tenants (some b) frame (Ok tt) q d e = clash (cc (e))
bound-bad tenants (some b) frame (Err r) q d e =
    let z : D.Format r 0 ≡ d = cc (e) in
    let is : code_of r ≡ 13 = ap (λ (x : Finding). x.number) (frame-plain frame r 0 q) in
    rw (← z, is)

inner_bad : (networks kinds owners tenants : List ℕ) (n peer kind network : ℕ) (frame : List ℕ) (d : Drop)
    → inner_from networks kinds owners tenants n peer kind network frame ≡ bad d
    → drop_code d among (28 ∷ 29 ∷ 12 ∷ 13 ∷ []) ≡ true
unfolding inner_from
inner_bad networks kinds owners tenants n peer kind network frame d e =
    bound-bad tenants (lowest (binds networks kinds owners peer kind network) n) frame (frame_of frame) refl d e

pub judge-bad : (c : Config) (p : ℕ) (note : Note) (frame : List ℕ) (d : Drop) → 18 ≤ length frame → judge_of c p note frame ≡ bad d
    → drop_code d among (28 ∷ 29 ∷ 12 ∷ 13 ∷ []) ≡ true
unfolding judge_of stt_from
judge-bad c p note frame d l e = by (stt_of frame) refl e
  where
    by : (r : Result ℕ Refusal) → stt_of frame ≡ r
        → by_stt r (λ context. inner_from c.networks c.kinds c.owners c.tenants c.bindings p 3 context (drop 18 frame)) ≡ bad d
        → drop_code d among (28 ∷ 29 ∷ 12 ∷ 13 ∷ []) ≡ true
    by (Err r) q e =
        let z : broken_at 0 r ≡ d = cc (e) in
        either (stt_code frame r l q) (λ v. rw (← z, v)) (λ v. rw (← z, v))
    by (Ok context) q e = inner_bad c.networks c.kinds c.owners c.tenants c.bindings p 3 context (drop 18 frame) d e

verdict-bad : (x : Verdict answers) (i n : ℕ) (frame : List ℕ) (d : Drop) → (frame_answer answers x i n frame).reply ≡ Err d → x ≡ bad d
verdict-bad (bad b) i n frame d e = let z : Err b ≡ Err d = sym (bad_reply answers b i n frame) ∙ e in cc
verdict-bad (good t) i n frame d e =
    let z : Ok (R.Delivered t (record { start = slot_start i + 18; length = n - 18; in_memory = true })) ≡ Err d = sym (good_reply answers t i n frame) ∙ e in
    clash (cc (z))

-- ---- what it leaves

pub same_row : (e : Endpoint) (p : ℕ) → with_row e p (row_at e p) ≡ e
same_row e p = rw (set-get_or e.peers p no_row)

same_configuration : (e : Endpoint) (p : ℕ) (row : Peer) → SameConfiguration e (with_row e p row)
same_configuration e p row = record {
  settings = record { own = refl; port = refl; mtu = refl };
  peers = record { count = refl; addresses = refl };
  bindings = record { count = refl; owners = refl; kinds = refl; networks = refl; tenants = refl };
}

-- slot s of peer p is written, and no other slot changes
slot-other : (rows : List Peer) (p s : ℕ) (row : Peer) (v : Slot) → row.slots ≡ set (get_or rows p no_row).slots s v → (t : ℕ) → t ≢ s
    → get_or (get_or (set rows p row) p no_row).slots t free ≡ get_or (get_or rows p no_row).slots t free
slot-other [] p s row v q t d = refl
slot-other (x ∷ rows) zero s row v q t d = rw q (get_or-set_other x.slots s t v free d)
slot-other (x ∷ rows) (suc p) s row v q t d = slot-other rows p s row v q t d

other_slots : (rows : List Peer) (p s : ℕ) (row : Peer) (v : Slot) → row.slots ≡ set (get_or rows p no_row).slots s v → (q t : ℕ) → (q ≢ p) ⊎ (t ≢ s)
    → get_or (get_or (set rows p row) q no_row).slots t free ≡ get_or (get_or rows q no_row).slots t free
other_slots rows p s row v f q t x =
    case_b (eqb q p)
    (λ a. let same : q ≡ p = eqb-true q p a in rw same (slot-other rows p s row v f t (either x (λ d. absurd (d same)) (λ d. d))))
    (λ a. ap (λ (y : Peer). get_or y.slots t free) (get_or-set_other rows p q row no_row (eqb-false q p a)))

slot-written : (rows : List Peer) (p s : ℕ) (row : Peer) (v : Slot) → row.slots ≡ set (get_or rows p no_row).slots s v → p < length rows
    → s < length (get_or rows p no_row).slots → get_or (get_or (set rows p row) p no_row).slots s free ≡ v
slot-written rows p s row v q lp ls =
    ap (λ (y : Peer). get_or y.slots s free) (get_or-set_same rows p row no_row lp)
    ∙ ap (λ (l : List Slot). get_or l s free) q
    ∙ get_or-set_same (get_or rows p no_row).slots s v free ls

-- a slot past the end of its list is free
free-at : (l : List Slot) (s : ℕ) → (get_or (set l s free) s free).pending ≡ false
free-at [] s = refl
free-at (x ∷ l) zero = refl
free-at (x ∷ l) (suc s) = free-at l s

slot-freed : (rows : List Peer) (p s : ℕ) (row : Peer) → row.slots ≡ set (get_or rows p no_row).slots s free
    → (get_or (get_or (set rows p row) p no_row).slots s free).pending ≡ false
slot-freed [] p s row q = refl
slot-freed (x ∷ rows) zero s row q = rw q (free-at x.slots s)
slot-freed (x ∷ rows) (suc p) s row q = slot-freed rows p s row q

-- ---- a segment that is taken

opens_in : (e : Endpoint) (p s : ℕ) (g : Seg) → Fresh (row_at e p).slots g s → ((t : ℕ) → t < s → (slot_at e p t).pending ≡ true) → OpensIn e p s g
opens_in e p s g w lowest = record {
  none_pending = λ t l x. clash (cc (w.no_bearer t l, bears_is g.identifier (slot_at e p t) x.pending x.is));
  idle = w.is_free;
  below = lowest;
}

further_in_lem : (e : Endpoint) (p s : ℕ) (g : Seg) → Old (row_at e p).slots g s
    → ((t : ℕ) → t < s → bears g.identifier (slot_at e p t) ≡ false) → FurtherIn e p s g
further_in_lem e p s g w lowest = record {
  pending = record { pending = w.pending; is = w.identifier };
  below = λ t l x. clash (cc (lowest t l, bears_is g.identifier (slot_at e p t) x.pending x.is));
  size = w.size;
}

-- its slot's age: 0 of a new frame, else as it was
age_is : (e : Endpoint) (p s : ℕ) (g : Seg) (new : Bool) (m n : List ℕ) → Stores p s new g (row_at e p).slots m n
    → cond new 0 (slot_at e p s).age ≡ cond (slot_at e p s).pending (slot_at e p s).age 0
age_is e p s g true m n w = rw (w.opens refl).is_free
age_is e p s g false m n w = rw (w.further refl).pending

module _ (e : Endpoint) (m k : List ℕ) (p : ℕ) (g : Seg) (h : header_of (config_of e) k ≡ segment p g) where
  abbrev after : Effect bytes_of
  after = take_in p (row_at e p) m g

  stored : (s : ℕ) (new : Bool) (v : Slot) → Stores p s new g (row_at e p).slots m after.mem → after.row.slots ≡ set (row_at e p).slots s v
      → Stored e m k p s g (with_row e p after.row) after.mem
  stored s new v w q = record {
    is_peer_lem = w.is_peer_lem;
    is_slot = w.is_slot;
    carried = λ b. segment_sound (config_of e) k p g b h;
    fits = w.fits;
    new = new;
    opens = λ z. opens_in e p s g (w.opens z) (w.lowest_free z);
    further = λ z. further_in_lem e p s g (w.further z) (w.lowest_pending z);
    touches = w.touches;
    other_slots = other_slots e.peers p s after.row v q;
    configuration = same_configuration e p after.row;
  }

  not_yet : after.outcome ≡ O.Pending → NotYet e m k (with_row e p after.row) after.mem
  not_yet q =
      let w = take-waits p (row_at e p) m g q in
      record {
        p = p;
        s = w.s;
        g = g;
        stored = stored w.s w.new _ w.stores w.pending;
        missing = w.missing;
        slot = λ lp ls. slot-written e.peers p w.s after.row _ w.pending lp ls ∙ rw (age_is e p w.s g w.new m after.mem w.stores);
      }

  module _ (s : ℕ) (q : after.outcome ≡ O.Complete s) where
    completed : Completed e m k p s g (with_row e p after.row) after.mem
    completed =
        let c = take-completes p (row_at e p) m g s q in
        record {
          stored = stored s c.new free c.stores c.freed;
          complete = c.whole;
          freed = slot-freed e.peers p s after.row c.freed;
        }

    found_bad : (d : Drop) → judge_of (config_of e) p after.note (frame_in bytes_of after.mem (slot_no p s) g.frame_length) ≡ bad d
        → FoundBad e m k (drop_code d) (with_row e p after.row) after.mem
    found_bad d j =
        let w = take_whole p s (row_at e p) m g q in
        let frame : List ℕ = frame_in bytes_of after.mem (slot_no p s) g.frame_length in
        let long : 18 ≤ length frame = omega (arith, length-frame bytes_of after.mem (slot_no p s) g.frame_length, w.fits.least) in
        record { is = judge-bad (config_of e) p after.note frame d long j; p = p; s = s; g = g; completed = completed }

    -- the frame where it lies, with the paper's numbers
    frame_lies : frame_in bytes_of after.mem (slot_no p s) g.frame_length ≡ take g.frame_length (drop (frame_at p s) after.mem)
    frame_lies =
        frame-part after.mem (slot_no p s) g.frame_length (after-inside e m k p g s q)
        ∙ ap (λ (x : ℕ). take g.frame_length (drop x after.mem)) (frame-at p s)

    abbrev placed : P.Place
    placed = record { in_lent_memory = true; start = slot_start (slot_no p s) + 18; len = g.frame_length - 18 }

    from_memory : (t : Target) → judge_of (config_of e) p after.note (frame_in bytes_of after.mem (slot_no p s) g.frame_length) ≡ good t
        → FromMemory e m k t placed (with_row e p after.row) after.mem
    from_memory t j = record {
      p = p;
      s = s;
      g = g;
      completed = completed;
      lies = ap (λ (x : ℕ). record { in_lent_memory = true; start = x + 18; len = g.frame_length - 18 }) (frame-at p s);
      good = λ bm bk.
          let bytes : Bytes after.mem = take-bytes p (row_at e p) m g bm (subst SegBytes h (header-bytes (config_of e) k bk)) in
          subst (λ (x : List ℕ). GoodFrame (config_of e) p x t (view_of k after.mem placed)) frame_lies (judged-good e m k p g s q bytes t j);
    }

-- ---- a refusal

-- too little memory, or what the layers make of the packet
step-cases : (e : Endpoint) (m k : List ℕ) {a : Result Received Drop} (P : Step → Type 0) →
    (Err D.MemoryTooSmall ≡ a → P (unchanged e 0 m (Err D.MemoryTooSmall)))
    → ((x : Reading answers) → header_of (config_of e) k ≡ x → (stepped e m x).answer ≡ a → P (stepped e m x)) → (step_of e m k).answer ≡ a → P (step_of e m k)
unfolding step_of
step-cases e m k P f g q = case_b (ltb (length m) 55296) (λ b. rw b (f (rw b at q))) (λ b. rw b (g (header_of (config_of e) k) refl (rw b at q)))

module _ (e : Endpoint) (m k : List ℕ) (d : Drop) where
  abbrev Refused : Step → Type 0
  Refused s = Unchanged e m (with_row e s.peer s.row) s.mem ⊎ FoundBad e m k (drop_code d) (with_row e s.peer s.row) s.mem

  same : (p : ℕ) (row : Peer) (n : List ℕ) (a : Result Received Drop) → row ≡ row_at e p → n ≡ m → Refused (record { peer = p; row = row; answer = a; mem = n })
  same p row n a q r = inl (record { endpoint = rw q (same_row e p); memory = r })

  taken : (p : ℕ) (g : Seg) → header_of (config_of e) k ≡ segment p g → (o : Outcome) → (take_in p (row_at e p) m g).outcome ≡ o
      → (take_answer answers (judge_of (config_of e)) bytes_of p g (take_in p (row_at e p) m g) o).reply ≡ Err d → Refused (stepped e m (segment p g))
  taken p g h (O.Rejected r) q t = let x = take_refused p (row_at e p) m g r q in same p _ _ (Err d) x.0 x.1
  taken p g h O.NoMemory q t = let x = take_no_memory p (row_at e p) m g q in same p _ _ (Err d) x.0 x.1
  taken p g h O.Pending q t = let z : (Ok R.Pending) ≡ Err d = sym (pending_reply answers (judge_of (config_of e)) bytes_of p g (take_in p (row_at e p) m g))
      ∙ t in clash (cc (z))
  taken p g h (O.Complete s) q t = inr (found_bad e m k p g h s q d (verdict-bad _ _ _ _ d
      (sym (ap (λ (a : Answer answers). a.reply) (complete_reply answers (judge_of (config_of e)) bytes_of p g (take_in p (row_at e p) m g) s)) ∙ t)))

  seen : (x : Reading answers) → header_of (config_of e) k ≡ x → (stepped e m x).answer ≡ Err d → Refused (stepped e m x)
  seen (other_sender a) h t = same 0 (row_at e 0) m a refl refl
  seen (direct p a) h t = same p (row_at e p) m a refl refl
  seen (segment p g) h t = taken p g h (take_in p (row_at e p) m g).outcome refl t

  refused : (step_of e m k).answer ≡ Err d → Refused (step_of e m k)
  refused t = step-cases e m k Refused (λ z. same 0 (row_at e 0) m (Err D.MemoryTooSmall) refl refl) seen t

rejection_not : (r : Rejection) → rejection_code r among (25 ∷ 26 ∷ 27 ∷ 28 ∷ 29 ∷ 12 ∷ 13 ∷ []) ≡ false
rejection_not r =
    let n : ℕ = rejection_code r in
    let least : 14 ≤ n = (rejection_codes r).0 in
    let most : n ≤ 17 = (rejection_codes r).1 in
    rw (
      ne_eqb n 25 (λ z. omega arith),
      ne_eqb n 26 (λ z. omega arith),
      ne_eqb n 27 (λ z. omega arith),
      ne_eqb n 28 (λ z. omega arith),
      ne_eqb n 29 (λ z. omega arith),
      ne_eqb n 12 (λ z. omega arith),
      ne_eqb n 13 (λ z. omega arith),
    )

-- 25 to 29, 12 or 13 on a segment is given only where a complete frame is found bad
module _ (e : Endpoint) (m k : List ℕ) (p : ℕ) (g : Seg) (h : header_of (config_of e) k ≡ segment p g) where
  abbrev Bad : Result Received Drop → Type 0
  Bad a = (values_of a).number among (25 ∷ 26 ∷ 27 ∷ 28 ∷ 29 ∷ 12 ∷ 13 ∷ []) ≡ true
      → FoundBad e m k (values_of a).number (with_row e p (take_in p (row_at e p) m g).row) (take_in p (row_at e p) m g).mem

  judged-bad : (s : ℕ) → (take_in p (row_at e p) m g).outcome ≡ O.Complete s → (frame : List ℕ) (x : Verdict answers)
      → judge_of (config_of e) p (take_in p (row_at e p) m g).note (frame_in bytes_of (take_in p (row_at e p) m g).mem (slot_no p s) g.frame_length) ≡ x
      → Bad (frame_answer answers x (slot_no p s) g.frame_length frame).reply
  judged-bad s q frame (bad d) j = rw (bad_reply answers d (slot_no p s) g.frame_length frame) (λ n. found_bad e m k p g h s q d j)
  judged-bad s q frame (good t) j = rw (good_reply answers t (slot_no p s) g.frame_length frame) (λ n. clash (cc (n)))

  outcome-bad : (o : Outcome) → (take_in p (row_at e p) m g).outcome ≡ o
      → Bad (take_answer answers (judge_of (config_of e)) bytes_of p g (take_in p (row_at e p) m g) o).reply
  outcome-bad (O.Rejected r) q =
      rw (rejected_reply answers (judge_of (config_of e)) bytes_of p g (take_in p (row_at e p) m g) r) (λ n. clash (cc (rejection_not r, n)))
  outcome-bad O.NoMemory q = rw (no_memory_reply answers (judge_of (config_of e)) bytes_of p g (take_in p (row_at e p) m g)) (λ n. clash (cc (n)))
  outcome-bad O.Pending q = rw (pending_reply answers (judge_of (config_of e)) bytes_of p g (take_in p (row_at e p) m g)) (λ n. clash (cc (n)))
  outcome-bad (O.Complete s) q =
      rw (complete_reply answers (judge_of (config_of e)) bytes_of p g (take_in p (row_at e p) m g) s) (judged-bad s q _ _ refl)

  step-bad : (values_of (step_of e m k).answer).number among (25 ∷ 26 ∷ 27 ∷ 28 ∷ 29 ∷ 12 ∷ 13 ∷ []) ≡ true
      → FoundBad e m k (values_of (step_of e m k).answer).number (with_row e (step_of e m k).peer (step_of e m k).row) (step_of e m k).mem
  unfolding step_of
  step-bad n =
      let few : Bool = ltb (length m) 55296 in
      case_b few
      (λ b. let z : ◌≡◌ {A = Bool} false true = rw b at n in clash (cc (z)))
      (λ b. rw (b, h) (outcome-bad (take_in p (row_at e p) m g).outcome refl (rw (b, h) at n)))

-- ---- 0 and 1

module _ (e : Endpoint) (m k : List ℕ) where
  abbrev Deliveries : Target → Place → Step → Type 0
  Deliveries t place s =
      FromPacket e m k t (place_of place) (with_row e s.peer s.row) s.mem
      ⊎ FromMemory e m k t (place_of place) (with_row e s.peer s.row) s.mem

  module _ (t : Target) (place : Place) where
    from-packet : (p : ℕ) → header_of (config_of e) k ≡ direct p (Ok (R.Delivered t place))
        → FromPacket e m k t (place_of place) (with_row e p (row_at e p)) m
    from-packet p h = record {
      in_packet = (subst (Kept answers) h (header-kept (config_of e) (config_few e) k)).1;
      carried = λ b.
          let x = frame_sound (config_of e) k p t place b h in
          subst (λ (y : List ℕ). CarriesFrame (config_of e) k t y) (sym (lies_view k m place x.0 x.1.1)) x.1.0;
      unchanged = record { endpoint = same_row e p; memory = refl };
    }

    taken-whole : (p : ℕ) (g : Seg) → header_of (config_of e) k ≡ segment p g → (o : Outcome) → (take_in p (row_at e p) m g).outcome ≡ o
        → (take_answer answers (judge_of (config_of e)) bytes_of p g (take_in p (row_at e p) m g) o).reply ≡ Ok (R.Delivered t place)
        → Deliveries t place (stepped e m (segment p g))
    taken-whole p g h (O.Rejected r) q a =
        let z : Err (D.Segment r) ≡ Ok (R.Delivered t place) = sym (rejected_reply answers (judge_of (config_of e)) bytes_of p g (take_in p (row_at e p) m g) r)
        ∙ a in clash (cc (z))
    taken-whole p g h O.NoMemory q a = let z : Err D.MemoryTooSmall ≡ Ok (R.Delivered t place) = sym
        (no_memory_reply answers (judge_of (config_of e)) bytes_of p g (take_in p (row_at e p) m g)) ∙ a in clash (cc (z))
    taken-whole p g h O.Pending q a = let z : (Ok R.Pending) ≡ Ok (R.Delivered t place) = sym
        (pending_reply answers (judge_of (config_of e)) bytes_of p g (take_in p (row_at e p) m g)) ∙ a in clash (cc (z))
    taken-whole p g h (O.Complete s) q a =
        let frame : List ℕ = frame_in bytes_of (take_in p (row_at e p) m g).mem (slot_no p s) g.frame_length in
        let x = verdict-good (judge_of (config_of e) p (take_in p (row_at e p) m g).note frame) (slot_no p s) g.frame_length frame t place
        (sym (ap (λ (y : Answer answers). y.reply) (complete_reply answers (judge_of (config_of e)) bytes_of p g (take_in p (row_at e p) m g) s)) ∙ a) in
        inr (subst (λ (y : Place). FromMemory e m k t (place_of y) (with_row e p (take_in p (row_at e p) m g).row) (take_in p (row_at e p) m g).mem) x.1
        (from_memory e m k p g h s q t x.0))

    seen_whole : (x : Reading answers) → header_of (config_of e) k ≡ x → (stepped e m x).answer ≡ Ok (R.Delivered t place) → Deliveries t place (stepped e m x)
    seen_whole (other_sender a) h q = clash (cc ((subst Conclusive h (header_conclusive (config_of e) k)).0, q))
    seen_whole (direct p a) h q = inl (from-packet p (h ∙ ap (direct p) q))
    seen_whole (segment p g) h q = taken-whole p g h (take_in p (row_at e p) m g).outcome refl q

    delivered : (step_of e m k).answer ≡ Ok (R.Delivered t place) → Deliveries t place (step_of e m k)
    delivered q = step-cases e m k (Deliveries t place) (λ z. clash (cc (z))) seen_whole q

  abbrev Waiting : Step → Type 0
  Waiting s = NotYet e m k (with_row e s.peer s.row) s.mem

  judged-some : {C : Type 0} (x : Verdict answers) (i n : ℕ) (frame : List ℕ) → (frame_answer answers x i n frame).reply ≡ Ok R.Pending → C
  judged-some (bad d) i n frame q = let z : Err d ≡ (Ok R.Pending) = sym (bad_reply answers d i n frame) ∙ q in clash (cc (z))
  judged-some (good t) i n frame q =
      let z : Ok (R.Delivered t (record { start = slot_start i + 18; length = n - 18; in_memory = true })) ≡ (Ok R.Pending) = sym (good_reply answers t i n frame) ∙ q in
      clash (cc (z))

  taken-part : (p : ℕ) (g : Seg) → header_of (config_of e) k ≡ segment p g → (o : Outcome) → (take_in p (row_at e p) m g).outcome ≡ o
      → (take_answer answers (judge_of (config_of e)) bytes_of p g (take_in p (row_at e p) m g) o).reply ≡ Ok R.Pending → Waiting (stepped e m (segment p g))
  taken-part p g h (O.Rejected r) q a = let z : Err (D.Segment r) ≡ (Ok R.Pending) = sym
      (rejected_reply answers (judge_of (config_of e)) bytes_of p g (take_in p (row_at e p) m g) r) ∙ a in clash (cc (z))
  taken-part p g h O.NoMemory q a = let z : Err D.MemoryTooSmall ≡ (Ok R.Pending) = sym
      (no_memory_reply answers (judge_of (config_of e)) bytes_of p g (take_in p (row_at e p) m g)) ∙ a in clash (cc (z))
  taken-part p g h O.Pending q a = not_yet e m k p g h q
  taken-part p g h (O.Complete s) q a =
      let frame : List ℕ = frame_in bytes_of (take_in p (row_at e p) m g).mem (slot_no p s) g.frame_length in
      judged-some (judge_of (config_of e) p (take_in p (row_at e p) m g).note frame) (slot_no p s) g.frame_length frame
      (sym (ap (λ (y : Answer answers). y.reply) (complete_reply answers (judge_of (config_of e)) bytes_of p g (take_in p (row_at e p) m g) s)) ∙ a)

  seen_part : (x : Reading answers) → header_of (config_of e) k ≡ x → (stepped e m x).answer ≡ Ok R.Pending → Waiting (stepped e m x)
  seen_part (other_sender a) h q = clash (cc ((subst Conclusive h (header_conclusive (config_of e) k)).1, q))
  seen_part (direct p a) h q = clash (cc (subst Conclusive h (header_conclusive (config_of e) k), q))
  seen_part (segment p g) h q = taken-part p g h (take_in p (row_at e p) m g).outcome refl q

  waiting : (step_of e m k).answer ≡ Ok R.Pending → Waiting (step_of e m k)
  waiting q = step-cases e m k Waiting (λ z. clash (cc (z))) seen_part q

-- ---- THE RULE

module _ (e : Endpoint) (m k : List ℕ) where
  abbrev left : Endpoint
  left = with_row e (step_of e m k).peer (step_of e m k).row

  by_zero : (a : Result Received Drop) → (step_of e m k).answer ≡ a → (values_of a).number ≡ 0 → Delivered e m k (values_of a) left (step_of e m k).mem
  by_zero (Ok (R.Delivered t p)) q z = record { t = t; tenant = refl; binding = refl; from = delivered e m k t p q }
  by_zero (Ok R.Pending) q z = absurd (omega arith)
  by_zero (Err d) q z = absurd (omega (arith, (drop-codes d).0))

  by_one : (a : Result Received Drop) → (step_of e m k).answer ≡ a → (values_of a).number ≡ 1 → NotYet e m k left (step_of e m k).mem
  by_one (Ok (R.Delivered t p)) q z = absurd (omega arith)
  by_one (Ok R.Pending) q z = waiting e m k q
  by_one (Err d) q z = absurd (omega (arith, (drop-codes d).0))

  by_other : (a : Result Received Drop) → (step_of e m k).answer ≡ a → (values_of a).number ≢ 0 → (values_of a).number ≢ 1
      → Unchanged e m left (step_of e m k).mem ⊎ FoundBad e m k (values_of a).number left (step_of e m k).mem
  by_other (Ok (R.Delivered t p)) q x y = absurd (x refl)
  by_other (Ok R.Pending) q x y = absurd (y refl)
  by_other (Err d) q x y = refused e m k d q

  pub receive_rule : ReceiveRule e m k (values_of (step_of e m k).answer) left (step_of e m k).mem
  receive_rule = record {
    number = number_one (step_of e m k).answer;
    offset = step_silent e m k;
    empties = empties (step_of e m k).answer;
    delivered = by_zero (step_of e m k).answer refl;
    not_yet = by_one (step_of e m k).answer refl;
    refused = by_other (step_of e m k).answer refl;
    found_bad = λ p g w n. step-bad e m k p g (segment_complete (config_of e) k p g w) n;
    configuration = same_configuration e (step_of e m k).peer (step_of e m k).row;
  }
