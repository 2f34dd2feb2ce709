-- `EveryRun`, proved of every run from a set-up whose layers keep their promise.
use Rattle.std.specs.Prelude.{◌≡◌, ◌≢◌, Bool, true, false, cond, length, get_or, set, eqb}
use Rattle.std.proofs.Math.Path.{refl, sym, ap, subst}
use Rattle.std.proofs.Common.{◌∙◌, arith, get_or-set_same, get_or-set_other, le-ltb, eq-eqb, ne_eqb, eqb-true}
use mathlib.Core.List.{List, [], ◌∷◌, ◌++◌}
use Prim.Native.Nat.{ℕ, ◌+◌, ◌*◌, ◌≤◌, ◌<◌}
use Rattle.std.proofs.lemmas.Bool.{eqb-false}
use Rattle.reassembly.specs.Base.{all_below}
use Rattle.reassembly.proofs.Laws.Base.{case_b, either, clash, get_d_table}
use Rattle.reassembly.specs.Slots.{Slot, Peer, Note, no_row, note_of, no_note, free, empty_rows, most_peers}
use Rattle.reassembly.specs.Take.{slot_no, Seg, Rejection, Outcome, Rejected, Pending, Complete, NoMemory, AlreadyReceived, rejection_code, Choice, reject}
use Rattle.reassembly.specs.Take.{old, fresh, chosen, note_after, opened_slot, further_slot, Effect, overlaps, frame_in, placed, take_segment, Fits}
use Rattle.reassembly.proofs.Laws.TakeFacts.{finish_mem, take-rejects}
use Rattle.reassembly.specs.Store.{bytes_of, take_in, put_at, clear_at, byte_at, slot_start}
use Rattle.reassembly.specs.Receive.{Answers, Verdict, Reading, other_sender, direct, segment, Event, receive, tick, take_answer}
use Rattle.reassembly.proofs.Laws.Runs.{State, react, after, rows-older}
use Rattle.reassembly.specs.SetUp.{Layers, Promised, Endpoint, World, set_up, receive_by, receives, next, runs}
use Rattle.reassembly.proofs.Laws.NonInterference.{empty-at, empty-free, start, ghost_start}
use Rattle.reassembly.proofs.Laws.Ghost.{ghost}
use Rattle.reassembly.proofs.Laws.Claim.{set_up-rows, next-at}
use Rattle.reassembly.specs.History.{OneOf, OfFrame, Log, writes, enters, entered, taking, log_seen, log_next, log_run, taken_since, frame_complete}
use Rattle.reassembly.specs.History.{frame_pending, History, Fifteen, Sixteen, Seventeen, Further, Opens, resets, restarts, restarted, clock_seen}
use Rattle.reassembly.specs.History.{clock_next, clock_run, ticks_since, history_of}
use Rattle.reassembly.proofs.Laws.Log.{AllOf, all_of_at, apart_at_lem, Logs, writes-same, writes-other}
use Rattle.reassembly.proofs.Laws.Carried.{came_at, completes, world, Inv, step, Reach, reached, begin, from, log_snoc, alike, in_memory, same_outcome}
use Rattle.reassembly.proofs.Laws.Carried.{log_now}
use Rattle.reassembly.specs.EveryRun.{frame_at, TakenFor, NothingMoves, Fourteen, Ruled, Stands, EveryRun}
use Rattle.reassembly.proofs.Laws.RulesTake.{covered_is, Stand, under_young, holds_one, chosen_unfit, chosen-old, chosen-new, take_stand, tick_stand}
use Rattle.reassembly.proofs.Laws.RulesTake.{take_by, outcome_15, outcome_16, outcome_17, outcome-further, outcome_opens, OneCase, one_case}
use Rattle.reassembly.proofs.Laws.RulesTouch.{touches_further, touches_opens}

-- ---- one outcome is not another

abbrev code_of : Outcome → ℕ
code_of (Rejected r) = rejection_code r
code_of Pending = 1
code_of (Complete s) = 0
code_of NoMemory = 2

taken_code : (b : Bool) (s : ℕ) → code_of (cond b (Complete s) Pending) ≤ 1
taken_code true s = omega arith
taken_code false s = omega arith

-- a segment that is taken is entered
entered-taken : (L : Log) (g : Seg) (c : Choice) (b : Bool) (s : ℕ) → entered L g c (cond b (Complete s) Pending) ≡ enters L g c
entered-taken L g c true s = refl
entered-taken L g c false s = refl

restarted-taken : (C : ℕ → ℕ) (c : Choice) (b : Bool) (s : ℕ) → restarted C c (cond b (Complete s) Pending) ≡ restarts C c
restarted-taken C c true s = refl
restarted-taken C c false s = refl

-- ---- the memory of a segment that is taken

module _ (p : ℕ) (row : Peer) (m : List ℕ) (g : Seg) where
  mem_old : (s : ℕ) (b : Bool) → chosen row.slots g ≡ old s → (take_segment bytes_of p row m g).outcome ≡ cond b (Complete s) Pending
      → (take_segment bytes_of p row m g).mem ≡ put_at m (slot_no p s) g.offset g.bytes
  unfolding rejection_code
  mem_old s b e o =
      let t : take_segment bytes_of p row m g ≡ placed bytes_of p row.slots m g (old s) = take_by bytes_of p row m g (old s) e in
      case_b (overlaps bytes_of m (slot_no p s) g)
      (λ q. let z : (placed bytes_of p row.slots m g (old s)).outcome ≡ Rejected AlreadyReceived = rw q in
      let y : 16 ≡ code_of (cond b (Complete s) Pending) = sym (ap code_of z) ∙ sym (ap (λ (x : Effect bytes_of). code_of x.outcome) t) ∙ ap code_of o in
      absurd (omega (arith, taken_code b s)))
      (λ q. ap (λ (x : Effect bytes_of). x.mem) t ∙ rw q
      (finish_mem bytes_of p s (set row.slots s (further_slot (get_or row.slots s free) g)) (put_at m (slot_no p s) g.offset g.bytes) g
      (note_after (note_of (get_or row.slots s free)) g)))

  mem_new : (s : ℕ) → chosen row.slots g ≡ fresh s → (take_segment bytes_of p row m g).mem ≡ put_at (clear_at m (slot_no p s)) (slot_no p s) g.offset g.bytes
  mem_new s e =
      ap (λ (x : Effect bytes_of). x.mem) (take_by bytes_of p row m g (fresh s) e)
      ∙ finish_mem bytes_of p s (set row.slots s (opened_slot g)) (put_at (clear_at m (slot_no p s)) (slot_no p s) g.offset g.bytes) g (note_after no_note g)

-- where a slot's frame lies
pub frame-at : (p s : ℕ) → slot_start (slot_no p s) ≡ frame_at p s
unfolding slot_start slot_no frame_at
frame-at p s = refl

-- byte i of the frame in a slot, where it lies
pub frame_byte : (m : List ℕ) (p s n i : ℕ) → i < n → get_or (frame_in bytes_of m (slot_no p s) n) i 0 ≡ get_or m (frame_at p s + i) 0
unfolding frame_in byte_at slot_start slot_no frame_at
frame_byte m p s n i l = get_d_table n (λ i. get_or m (slot_no p s * 1728 + i) 0) 0 i l

module _ (W : Answers) (Config : Type 0) (U : Layers W Config) where
  pub runs_snoc : (es : List Event) (w : World Config) (e : Event) → runs W Config U w (es ++ (e ∷ [])) ≡ next W Config U (runs W Config U w es) e
  unfolding next runs
  runs_snoc [] w e = refl
  runs_snoc (v ∷ es) w e = runs_snoc es (next W Config U w v) e

module _ (W : Answers) (Config : Type 0) (U : Layers W Config) (p : ℕ) (p< : p < most_peers) (c : Config) (promise : Promised W Config U c) where
  abbrev header : List ℕ → Reading W
  header k = U.header c k

  abbrev judge : ℕ → Note → List ℕ → Verdict W
  judge q t f = U.judge c q t f

  abbrev at : State bytes_of → World Config
  at s = world W Config U p p< c promise s

  abbrev row_in : State bytes_of → Peer
  row_in s = get_or s.peers p no_row

  abbrev Holding : List Event → State bytes_of → State ghost → Log → Type 0
  Holding past s g L = Inv W Config U p p< c promise past s g L

  abbrev history_with : Log → (ℕ → ℕ) → History
  history_with L C = record { taken = L; ticks = C }

  logs_in : (past : List Event) (s : State bytes_of) (g : State ghost) (L : Log) → Holding past s g L → Logs p (row_in s).slots g.mem L
  logs_in past s g L h = subst (λ (r : List Slot). Logs p r g.mem L) (sym h.sim.row) h.logs

  -- ---- one event

  seen_stand : (past : List Event) (s : State bytes_of) (g : State ghost) (L : Log) (C : ℕ → ℕ) (k : List ℕ) (x : Reading W) → header k ≡ x
      → Holding past s g L → Stand (row_in s).slots (history_with L C)
      → Stand (row_in (react W judge bytes_of s x).state).slots (history_with (log_seen W Config U p (at s) L x) (clock_seen W Config U p (at s) C x))
  seen_stand past s g L C k (other_sender a) e h st = st
  seen_stand past s g L C k (direct q a) e h st = st
  seen_stand past s g L C k (segment q x) e h st =
      case_b (eqb q p)
      (λ m. let z : q ≡ p = eqb-true q p m in
      let o : Effect bytes_of = take_segment bytes_of p (row_in s) s.mem x in
      let e' : header k ≡ segment p x = e ∙ ap (λ (n : ℕ). segment n x) z in
      let l = alike W Config U p p< c promise past s g L h k x e' in
      let r : get_or (set s.peers p o.row) p no_row ≡ (take_segment ghost p (row_in s) g.mem x).row =
      get_or-set_same s.peers p o.row no_row (omega (arith, h.sim.eight_a)) ∙ l.row in
      rw (m, z, same_outcome W Config U p p< c promise past s g L h k x e')
      (rw r (take_stand p (row_in s) g.mem (history_with L C) x (logs_in past s g L h) st)))
      (λ m. let n : p ≢ q = λ z. eqb-false q p m (sym z) in
      let r : get_or (set s.peers q (take_segment bytes_of q (get_or s.peers q no_row) s.mem x).row) p no_row ≡ row_in s =
      get_or-set_other s.peers q p _ no_row n in
      rw (m, r) st)

  event_stand : (past : List Event) (s : State bytes_of) (g : State ghost) (L : Log) (C : ℕ → ℕ) (e : Event) → Holding past s g L
      → Stand (row_in s).slots (history_with L C)
      → Stand (row_in (after W judge bytes_of header s e)).slots (history_with (log_next W Config U p (at s) L e) (clock_next W Config U p (at s) C e))
  event_stand past s g L C tick h st = rw (rows-older s.peers p) (tick_stand (row_in s).slots (history_with L C) st)
  event_stand past s g L C (receive k) h st = seen_stand past s g L C k (header k) refl h st

  -- ---- a run

  abbrev StandAfter : World Config → Log → (ℕ → ℕ) → List Event → Type 0
  StandAfter w L C es = Stand (get_or (runs W Config U w es).ends.peers p no_row).slots (history_with (log_run W Config U p w L es) (clock_run W Config U p w C es))

  run_stand : (es past : List Event) (s : State bytes_of) (g : State ghost) (L : Log) (C : ℕ → ℕ) → Holding past s g L
      → Stand (row_in s).slots (history_with L C) → StandAfter (at s) L C es
  unfolding runs next
  run_stand [] past s g L C h st = st
  run_stand (v ∷ es) past s g L C h st =
      let q : next W Config U (at s) v ≡ at (after W judge bytes_of header s v) = next-at W Config U c promise p p< s g v h.sim in
      subst (λ (w : World Config). StandAfter w (log_next W Config U p (at s) L v) (clock_next W Config U p (at s) C v) es) (sym q)
      (run_stand es (past ++ (v ∷ [])) (after W judge bytes_of header s v) _ (log_next W Config U p (at s) L v) (clock_next W Config U p (at s) C v)
      (step W Config U p p< c promise past s g L v h) (event_stand past s g L C v h st))

  clock_snoc : (es : List Event) (w : World Config) (C : ℕ → ℕ) (e : Event)
      → clock_run W Config U p w C (es ++ (e ∷ [])) ≡ clock_next W Config U p (runs W Config U w es) (clock_run W Config U p w C es) e
  unfolding runs
  clock_snoc [] w C e = refl
  clock_snoc (v ∷ es) w C e = clock_snoc es (next W Config U w v) (clock_next W Config U p w C v) e

  abbrev begun : List ℕ → World Config
  begun m = from W Config U p p< c promise m

  first_stand : (m : List ℕ) → Stand (row_in (start bytes_of m)).slots (history_with (λ t. []) (λ t. 0))
  unfolding frame_pending frame_complete all_below
  first_stand m =
      rw (empty-at p p<)
      (record {
        four = refl;
        stands = λ s l. rw (empty-free s l) (record { pending = refl; identifier = λ q. clash (cc); size = λ q. clash (cc); age = λ q. clash (cc) });
        distinct = λ s t ls lt es et q. clash (cc (empty-free s ls));
      })

  pub stand_from : (m : List ℕ) → 55296 ≤ length m → (es : List Event) → StandAfter (begun m) (λ t. []) (λ t. 0) es
  stand_from m o es = run_stand es [] (start bytes_of m) ghost_start (λ t. []) (λ t. 0) (begin W Config U p p< c promise m o) (first_stand m)

  -- ---- one more packet, which carries segment x of peer p's

  module _ (past : List Event) (s : State bytes_of) (g : State ghost) (L : Log) (C : ℕ → ℕ) (h : Holding past s g L)
      (st : Stand (row_in s).slots (history_with L C))
      (k : List ℕ) (x : Seg) (e : header k ≡ segment p x) where
    abbrev before : History
    before = history_with L C

    abbrev behind : History
    behind = history_with (log_next W Config U p (at s) L (receive k)) (clock_next W Config U p (at s) C (receive k))

    abbrev outcome : Outcome
    outcome = (taking W Config U p (at s) x).outcome

    abbrev ghost_outcome : Outcome
    ghost_outcome = (take_segment ghost p (row_in s) g.mem x).outcome

    lg : Logs p (row_in s).slots g.mem L
    lg = logs_in past s g L h

    same : outcome ≡ ghost_outcome
    same = same_outcome W Config U p p< c promise past s g L h k x e

    clock_now : clock_next W Config U p (at s) C (receive k) ≡ restarted C (chosen (row_in s).slots x) ghost_outcome
    clock_now = rw (e, eq-eqb p p refl, same)

    taken-now : log_next W Config U p (at s) L (receive k) ≡ entered L x (chosen (row_in s).slots x) ghost_outcome
    taken-now = log_now W Config U p p< c promise past s g L h k x e

    log_by : (ch : Choice) (b : Bool) (t : ℕ) → chosen (row_in s).slots x ≡ ch → ghost_outcome ≡ cond b (Complete t) Pending
        → log_next W Config U p (at s) L (receive k) ≡ enters L x ch
    log_by ch b t q o = taken-now ∙ ap (λ (y : Choice). entered L x y ghost_outcome) q ∙ ap (λ (y : Outcome). entered L x ch y) o ∙ entered-taken L x ch b t

    clock_by : (ch : Choice) (b : Bool) (t : ℕ) → chosen (row_in s).slots x ≡ ch → ghost_outcome ≡ cond b (Complete t) Pending
        → clock_next W Config U p (at s) C (receive k) ≡ restarts C ch
    clock_by ch b t q o = clock_now ∙ ap (λ (y : Choice). restarted C y ghost_outcome) q ∙ ap (λ (y : Outcome). restarted C ch y) o ∙ restarted-taken C ch b t

    in_bytes : take_in p (row_in s) s.mem x ≡ take_segment bytes_of p (row_in s) s.mem x
    in_bytes = in_memory W Config U p p< c promise past s g L h k x e

    left : (receives W Config U (at s) k).world.mem ≡ (take_segment bytes_of p (row_in s) s.mem x).mem
    unfolding receives receive_by
    left = rw (le-ltb (length s.mem) 55296 h.sim.same.ok_a, e) (ap (λ (o : Effect bytes_of). o.mem) in_bytes)

    refused_left : (r : Rejection) → outcome ≡ Rejected r → NothingMoves before behind s.mem (receives W Config U (at s) k).world.mem
    refused_left r q =
        let o : ghost_outcome ≡ Rejected r = sym same ∙ q in
        let a : log_next W Config U p (at s) L (receive k) ≡ L = taken-now ∙ ap (λ (y : Outcome). entered L x (chosen (row_in s).slots x) y) o in
        let b : clock_next W Config U p (at s) C (receive k) ≡ C = clock_now ∙ ap (λ (y : Outcome). restarted C (chosen (row_in s).slots x) y) o in
        let d : (take_segment bytes_of p (row_in s) s.mem x).outcome ≡ Rejected r = sym (ap (λ (y : Effect bytes_of). y.outcome) in_bytes) ∙ q in
        record {
          taken = λ t. ap (λ (y : Log). y t) a;
          ticks = λ t. ap (λ (y : ℕ → ℕ). y t) b;
          memory = left ∙ (take-rejects bytes_of p (row_in s) s.mem x r d).1;
        }

    fourteen_at : (Fits x → ⊥) → Fourteen before behind outcome s.mem (receives W Config U (at s) k).world.mem
    fourteen_at n =
        let u = chosen_unfit (row_in s).slots x n in
        let o : outcome ≡ Rejected u.0 = same ∙ ap (λ (y : Effect ghost). y.outcome) (take_by ghost p (row_in s) g.mem x (reject u.0) u.1.0) in
        record { cause = u.0; number = u.1.1; rejected = o; unchanged = refused_left u.0 o }

    -- the memory that a segment which completes its frame leaves
    bytes-now : (t : ℕ) (gs : List Seg) → ghost_outcome ≡ cond (frame_complete gs) (Complete t) Pending → log_next W Config U p (at s) L (receive k) t ≡ gs
        → frame_complete gs ≡ true
        → (i : ℕ) → i < x.frame_length → OneOf gs i (get_or (receives W Config U (at s) k).world.mem (frame_at p t + i) 0)
    bytes-now t gs o q w i l =
        let a : outcome ≡ Complete t = same ∙ o ∙ rw w in
        let m : List ℕ = (take_segment bytes_of p (row_in s) s.mem x).mem in
        let z : get_or (frame_in bytes_of m (slot_no p t) x.frame_length) i 0 ≡ get_or m (frame_at p t + i) 0 = frame_byte m p t x.frame_length i l in
        rw left (subst (λ (b : ℕ). OneOf gs i b) z (subst (λ (y : List Seg). OneOf y i (get_or (frame_in bytes_of m (slot_no p t) x.frame_length) i 0)) q
        (completes W Config U p p< c promise past s g L h k x e t a i l)))

    module _ (f : Fits x) where
      it_fits : OfFrame x.identifier x.frame_length x
      it_fits = record { identifier = refl; size = refl; fits = f }

      pending-at : (t : ℕ) → Further before x t → (get_or (row_in s).slots t free).pending ≡ true
      pending-at t w = (st.stands t w.bears.is_slot).pending ∙ w.bears.pending

      of_pending : (t : ℕ) → Further before x t → AllOf x.identifier x.frame_length (L t)
      of_pending t w =
          let v = st.stands t w.bears.is_slot in
          subst (λ (n : ℕ). AllOf x.identifier n (L t)) (v.size (pending-at t w) ∙ w.same)
          (subst (λ (n : ℕ). AllOf n (get_or (row_in s).slots t free).frame_length (L t)) (v.identifier (pending-at t w) ∙ w.bears.identifier)
          (lg.all_of t w.bears.is_slot (pending-at t w)))

      further-taken : (t : ℕ) → Further before x t → TakenFor p t false x (x ∷ L t) (C t) before behind outcome s.mem (receives W Config U (at s) k).world.mem
      further-taken t w =
          let q : chosen (row_in s).slots x ≡ old t = chosen-old (row_in s).slots before st x f t w.bears w.same in
          let o : ghost_outcome ≡ cond (frame_complete (x ∷ L t)) (Complete t) Pending = outcome-further p (row_in s) g.mem before lg st x f t w in
          let a : log_next W Config U p (at s) L (receive k) ≡ writes L t (x ∷ L t) = log_by (old t) (frame_complete (x ∷ L t)) t q o in
          let b : clock_next W Config U p (at s) C (receive k) ≡ C = clock_by (old t) (frame_complete (x ∷ L t)) t q o in
          let r : (take_segment bytes_of p (row_in s) s.mem x).outcome ≡ cond (frame_complete (x ∷ L t)) (Complete t) Pending =
          sym (ap (λ (y : Effect bytes_of). y.outcome) in_bytes) ∙ same ∙ o in
          record {
            outcome = same ∙ o;
            segments = ap (λ (y : Log). y t) a ∙ writes-same L t (x ∷ L t);
            clock = ap (λ (y : ℕ → ℕ). y t) b;
            others = λ u n. (ap (λ (y : Log). y u) a ∙ writes-other L t (x ∷ L t) u n, ap (λ (y : ℕ → ℕ). y u) b);
            touches = rw (left, mem_old p (row_in s) s.mem x t (frame_complete (x ∷ L t)) q r)
                (touches_further p t p< w.bears.is_slot x f s.mem h.sim.same.ok_a);
            of_frame = all_of_at x.identifier x.frame_length (x ∷ L t) (it_fits, of_pending t w);
            once = apart_at_lem (x ∷ L t) ((λ i y. sym (covered_is (L t) i) ∙ w.apart i y), lg.all_apart t w.bears.is_slot (pending-at t w));
            bytes = bytes-now t (x ∷ L t) o (ap (λ (y : Log). y t) a ∙ writes-same L t (x ∷ L t));
          }

      opens_taken : (t : ℕ) → Opens before x t → TakenFor p t true x (x ∷ []) 0 before behind outcome s.mem (receives W Config U (at s) k).world.mem
      opens_taken t w =
          let q : chosen (row_in s).slots x ≡ fresh t = chosen-new (row_in s).slots before st x f t w in
          let o : ghost_outcome ≡ cond (frame_complete (x ∷ [])) (Complete t) Pending = outcome_opens p (row_in s) g.mem before lg st x f t w in
          let a : log_next W Config U p (at s) L (receive k) ≡ writes L t (x ∷ []) = log_by (fresh t) (frame_complete (x ∷ [])) t q o in
          let b : clock_next W Config U p (at s) C (receive k) ≡ resets C t = clock_by (fresh t) (frame_complete (x ∷ [])) t q o in
          record {
            outcome = same ∙ o;
            segments = ap (λ (y : Log). y t) a ∙ writes-same L t (x ∷ []);
            clock = ap (λ (y : ℕ → ℕ). y t) b ∙ rw (eq-eqb t t refl);
            others = λ u n. (ap (λ (y : Log). y u) a ∙ writes-other L t (x ∷ []) u n, ap (λ (y : ℕ → ℕ). y u) b ∙ rw (ne_eqb u t n));
            touches = rw (left, mem_new p (row_in s) s.mem x t q) (touches_opens p t p< w.lowest.is_slot x f s.mem h.sim.same.ok_a);
            of_frame = all_of_at x.identifier x.frame_length (x ∷ []) (it_fits, tt);
            once = apart_at_lem (x ∷ []) ((λ i y. refl), tt);
            bytes = bytes-now t (x ∷ []) o (ap (λ (y : Log). y t) a ∙ writes-same L t (x ∷ []));
          }

      one : OneCase p (row_in s) g.mem before lg st x f
      one = one_case p (row_in s) g.mem before lg st x f

      -- what each case tells
      o_15 : Fifteen before x → code_of outcome ≡ 15
      unfolding rejection_code
      o_15 w = ap code_of (same ∙ outcome_15 p (row_in s) g.mem before lg st x f w)

      o_16 : Sixteen before x → code_of outcome ≡ 16
      unfolding rejection_code
      o_16 w = ap code_of (same ∙ outcome_16 p (row_in s) g.mem before lg st x f w)

      o_17 : Seventeen before x → code_of outcome ≡ 17
      unfolding rejection_code
      o_17 w = ap code_of (same ∙ outcome_17 p (row_in s) g.mem before lg st x f w)

      o-further : ((t : ℕ) × Further before x t) → code_of outcome ≤ 1
      o-further w = rw (further-taken w.0 w.1).outcome (taken_code (frame_complete (x ∷ L w.0)) w.0)

      o_opens : ((t : ℕ) × Opens before x t) → code_of outcome ≤ 1
      o_opens w = rw (opens_taken w.0 w.1).outcome (taken_code (frame_complete (x ∷ [])) w.0)

      only_15 : code_of outcome ≡ 15 → Fifteen before x
      only_15 q =
          either one (λ w. w)
          (λ y. either y (λ w. absurd (omega (arith, o_16 w)))
          (λ y. either y (λ w. absurd (omega (arith, o_17 w)))
          (λ y. either y (λ w. absurd (omega (arith, o-further w))) (λ w. absurd (omega (arith, o_opens w))))))

      only_16 : code_of outcome ≡ 16 → Sixteen before x
      only_16 q =
          either one (λ w. absurd (omega (arith, o_15 w)))
          (λ y. either y (λ w. w)
          (λ y. either y (λ w. absurd (omega (arith, o_17 w)))
          (λ y. either y (λ w. absurd (omega (arith, o-further w))) (λ w. absurd (omega (arith, o_opens w))))))

      only_17 : code_of outcome ≡ 17 → Seventeen before x
      only_17 q =
          either one (λ w. absurd (omega (arith, o_15 w)))
          (λ y. either y (λ w. absurd (omega (arith, o_16 w)))
          (λ y. either y (λ w. w)
          (λ y. either y (λ w. absurd (omega (arith, o-further w))) (λ w. absurd (omega (arith, o_opens w))))))

      ruled_at : Ruled p x before behind outcome s.mem (receives W Config U (at s) k).world.mem
      unfolding rejection_code
      ruled_at =
          record {
            fifteen = record { only = λ q. only_15 (ap code_of q); all = λ w. same ∙ outcome_15 p (row_in s) g.mem before lg st x f w };
            sixteen = record { only = λ q. only_16 (ap code_of q); all = λ w. same ∙ outcome_16 p (row_in s) g.mem before lg st x f w };
            seventeen = record { only = λ q. only_17 (ap code_of q); all = λ w. same ∙ outcome_17 p (row_in s) g.mem before lg st x f w };
            further = further-taken;
            opens = opens_taken;
            rejected = refused_left;
            one_of = one;
          }

  ruled_from : (m : List ℕ) → 55296 ≤ length m → (es : List Event) (k : List ℕ) (g : Seg) → header k ≡ segment p g → Fits g
      → Ruled p g (history_of W Config U p (begun m) es) (history_of W Config U p (begun m) (es ++ (receive k ∷ [])))
      (taking W Config U p (runs W Config U (begun m) es) g).outcome
      (runs W Config U (begun m) es).mem (runs W Config U (begun m) (es ++ (receive k ∷ []))).mem
  unfolding runs next
  ruled_from m o es k g e f =
      let r : Reach W Config U p p< c promise [] es (start bytes_of m) (λ t. []) = reached W Config U p p< c promise m o es in
      let st : Stand (row_in r.state).slots (history_of W Config U p (begun m) es) =
      subst (λ (w : World Config). Stand (get_or w.ends.peers p no_row).slots (history_of W Config U p (begun m) es)) r.is (stand_from m o es) in
      rw (
        log_snoc W Config U p p< c promise es (begun m) (λ t. []) (receive k),
        clock_snoc es (begun m) (λ t. 0) (receive k),
        runs_snoc W Config U es (begun m) (receive k),
        r.is,
      )
      (ruled_at es r.state r.ghosts (taken_since W Config U p (begun m) es) (ticks_since W Config U p (begun m) es) r.inv st k g e f)

  fourteen_from : (m : List ℕ) → 55296 ≤ length m → (es : List Event) (k : List ℕ) (g : Seg) → header k ≡ segment p g → (Fits g → ⊥)
      → Fourteen (history_of W Config U p (begun m) es) (history_of W Config U p (begun m) (es ++ (receive k ∷ [])))
      (taking W Config U p (runs W Config U (begun m) es) g).outcome
      (runs W Config U (begun m) es).mem (runs W Config U (begun m) (es ++ (receive k ∷ []))).mem
  unfolding runs next
  fourteen_from m o es k g e f =
      let r : Reach W Config U p p< c promise [] es (start bytes_of m) (λ t. []) = reached W Config U p p< c promise m o es in
      let st : Stand (row_in r.state).slots (history_of W Config U p (begun m) es) =
      subst (λ (w : World Config). Stand (get_or w.ends.peers p no_row).slots (history_of W Config U p (begun m) es)) r.is (stand_from m o es) in
      rw (
        log_snoc W Config U p p< c promise es (begun m) (λ t. []) (receive k),
        clock_snoc es (begun m) (λ t. 0) (receive k),
        runs_snoc W Config U es (begun m) (receive k),
        r.is,
      )
      (fourteen_at es r.state r.ghosts (taken_since W Config U p (begun m) es) (ticks_since W Config U p (begun m) es) r.inv st k g e f)

  -- a packet that carries no segment of the peer's; no segment at all
  seen_left : (s : State bytes_of) (L : Log) (C : ℕ → ℕ) (x : Reading W) → ((g : Seg) → x ≡ segment p g → ⊥)
      → (log_seen W Config U p (at s) L x ≡ L) × (clock_seen W Config U p (at s) C x ≡ C)
  seen_left s L C (other_sender a) n = (refl, refl)
  seen_left s L C (direct q a) n = (refl, refl)
  seen_left s L C (segment q g) n = case_b (eqb q p) (λ e. absurd (n g (ap (λ (y : ℕ). segment y g) (eqb-true q p e)))) (λ e. rw e (refl, refl))

  passed_left : (s : State bytes_of) (x : Reading W) → ((q : ℕ) (g : Seg) → x ≡ segment q g → ⊥) → (receive_by W Config U (at s) x).world.mem ≡ s.mem
  unfolding receive_by
  passed_left s (other_sender a) n = refl
  passed_left s (direct q a) n = refl
  passed_left s (segment q g) n = absurd (n q g refl)

  history-left : (m : List ℕ) → 55296 ≤ length m → (es : List Event) (k : List ℕ) → ((g : Seg) → header k ≡ segment p g → ⊥)
      → history_of W Config U p (begun m) (es ++ (receive k ∷ [])) ≡ history_of W Config U p (begun m) es
  history-left m o es k n =
      let r : Reach W Config U p p< c promise [] es (start bytes_of m) (λ t. []) = reached W Config U p p< c promise m o es in
      let x = seen_left r.state (taken_since W Config U p (begun m) es) (ticks_since W Config U p (begun m) es) (header k) n in
      let a : log_run W Config U p (begun m) (λ t. []) (es ++ (receive k ∷ [])) ≡ taken_since W Config U p (begun m) es =
      log_snoc W Config U p p< c promise es (begun m) (λ t. []) (receive k)
      ∙ ap (λ (w : World Config). log_next W Config U p w (taken_since W Config U p (begun m) es) (receive k)) r.is ∙ x.0 in
      let b : clock_run W Config U p (begun m) (λ t. 0) (es ++ (receive k ∷ [])) ≡ ticks_since W Config U p (begun m) es =
      clock_snoc es (begun m) (λ t. 0) (receive k) ∙ ap (λ (w : World Config). clock_next W Config U p w (ticks_since W Config U p (begun m) es) (receive k))
      r.is ∙ x.1 in
      ap (λ (y : Log). history_with y (clock_run W Config U p (begun m) (λ t. 0) (es ++ (receive k ∷ [])))) a
      ∙ ap (λ (y : ℕ → ℕ). history_with (taken_since W Config U p (begun m) es) y) b

  memory_left : (m : List ℕ) → 55296 ≤ length m → (es : List Event) (k : List ℕ) → ((q : ℕ) (g : Seg) → header k ≡ segment q g → ⊥)
      → (runs W Config U (begun m) (es ++ (receive k ∷ []))).mem ≡ (runs W Config U (begun m) es).mem
  unfolding receives next
  memory_left m o es k n =
      let r : Reach W Config U p p< c promise [] es (start bytes_of m) (λ t. []) = reached W Config U p p< c promise m o es in
      let left : (receives W Config U (runs W Config U (begun m) es) k).world.mem ≡ (runs W Config U (begun m) es).mem =
      rw r.is (rw (le-ltb (length r.state.mem) 55296 r.inv.sim.same.ok_a) (passed_left r.state (header k) n)) in
      ap (λ (w : World Config). w.mem) (runs_snoc W Config U es (begun m) (receive k)) ∙ left

  answered-from : (m : List ℕ) → 55296 ≤ length m → (es : List Event) (k : List ℕ) (g : Seg) → header k ≡ segment p g
      → (receives W Config U (runs W Config U (begun m) es) k).reply
      ≡ (take_answer W judge bytes_of p g (taking W Config U p (runs W Config U (begun m) es) g)
      (taking W Config U p (runs W Config U (begun m) es) g).outcome).reply
  unfolding receives receive_by
  answered-from m o es k g e =
      let r : Reach W Config U p p< c promise [] es (start bytes_of m) (λ t. []) = reached W Config U p p< c promise m o es in
      rw r.is (rw (le-ltb (length r.state.mem) 55296 r.inv.sim.same.ok_a, e) refl)

  every_from : EveryRun W Config U p (record { config = c; peers = empty_rows })
  unfolding next
  every_from =
      record {
        begins = λ m s. refl;
        stands = λ m o es s l. (stand_from m o es).stands s l;
        distinct = λ m o es id s t a b. holds_one (get_or (runs W Config U (begun m) es).ends.peers p no_row).slots (history_of W Config U p (begun m) es)
            (stand_from m o es) id s t a b;
        came = λ m o es s j l. came_at W Config U p c es (taken_since W Config U p (begun m) es s) ((reached W Config U p p< c promise m o es).inv.came s) j l;
        ruled = ruled_from;
        answered = answered-from;
        fourteen = fourteen_from;
        no_segment = λ m o es k n.
            let q : history_of W Config U p (begun m) (es ++ (receive k ∷ [])) ≡ history_of W Config U p (begun m) es = history-left m o es k (λ g e. n p g e) in
            record { taken = λ t. ap (λ (y : History). y.taken t) q; ticks = λ t. ap (λ (y : History). y.ticks t) q; memory = memory_left m o es k n };
        another's = λ m o es k q g e n. history-left m o es k (λ x y. n (peer_is q p g x (sym e ∙ y)));
        ticked = λ m o es. (
          ap (λ (y : Log). history_with y (clock_run W Config U p (begun m) (λ t. 0) (es ++ (tick ∷ []))))
              (log_snoc W Config U p p< c promise es (begun m) (λ t. []) tick)
              ∙ ap (λ (y : ℕ → ℕ). history_with (taken_since W Config U p (begun m) es) y) (clock_snoc es (begun m) (λ t. 0) tick),
          ap (λ (w : World Config). w.mem) (runs_snoc W Config U es (begun m) tick),
        );
      }
    where
      peer_or : ℕ → Reading W → ℕ
      peer_or d (other_sender a) = d
      peer_or d (direct q a) = d
      peer_or d (segment q g) = q

      peer_is : (q p : ℕ) (g x : Seg) → ◌≡◌ {A = Reading W} (segment q g) (segment p x) → q ≡ p
      peer_is q p g x e = ap (peer_or 0) e

-- ---- what `Stands` comes to: three ticks at most, and at the fourth the frame is gone, whatever came between
pub young : (v : Slot) (gs : List Seg) (t : ℕ) → Stands v gs t → v.pending ≡ true → t ≤ 3
young v gs t w e = omega (arith, under_young gs t (sym w.pending ∙ e))

pub given_up : (v : Slot) (gs : List Seg) (t : ℕ) → Stands v gs t → 4 ≤ t → v.pending ≡ false
given_up v gs t w l = case_b v.pending (λ e. absurd (omega (arith, young v gs t w e))) (λ e. e)

-- ---- of every set-up whose layers keep their promise
module _ (W : Answers) (Config : Type 0) (U : Layers W Config) (p : ℕ) (Adding : Type 0) (adds : Config → Adding → Config) where
  pub every_run : (c : Config) (as' : List Adding) → Promised W Config U (set_up Config Adding adds c as').config → p < most_peers
      → EveryRun W Config U p (set_up Config Adding adds c as')
  every_run c as' promised p< = of (set_up Config Adding adds c as') (set_up-rows Config Adding adds as' (record { config = c; peers = empty_rows })) promised
    where
      of : (e : Endpoint Config) → e.peers ≡ empty_rows → Promised W Config U e.config → EveryRun W Config U p e
      of e q promise = subst (λ (r : List Peer). EveryRun W Config U p (record { config = e.config; peers = r })) (sym q)
          (every_from W Config U p p< e.config promise)
