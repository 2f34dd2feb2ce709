-- A mixing, run from the start: each segment's answer.
use Rattle.std.specs.Prelude.{◌≡◌, refl, cond, ℕ, ◌+◌, ◌-◌, ◌<◌, length, get_or, ltb}
use Rattle.std.proofs.Math.Path.{ap}
use Rattle.std.proofs.Common.{subst, ◌∙◌, arith, get_or-set_same, eq-eqb, eqb-true, ltb-true}
use Rattle.std.proofs.Math.Bool.{true}
use mathlib.Core.List.{List, [], ◌∷◌, ◌++◌, map, reverse_aux}
use Rattle.std.proofs.Math.ListN.{drop, set, length-set, length-map}
use Rattle.reassembly.proofs.Laws.Base.{case_b, clash, and_r}
use Rattle.reassembly.specs.Slots.{Note, no_row, free, empty_row, empty_rows, most_peers, most_slots}
use Rattle.reassembly.specs.Take.{slot_no, Ops, Effect, take_segment}
use Rattle.reassembly.specs.Store.{slot_start}
use Rattle.reassembly.proofs.Laws.Memory.{Laws}
use Rattle.reassembly.specs.Receive.{Answers, Answer, Verdict, take_answer, Reading, other_sender, direct, segment, receive, tick, frame_answer}
use Rattle.reassembly.proofs.Laws.Runs.{State, react, run, mine, Listed, own, run_sim, mine_sim, rows-older}
use Rattle.reassembly.specs.SetUp.{keeps, strike}
use Rattle.reassembly.proofs.Laws.Ghost.{ghost, ghost_laws}
use Rattle.reassembly.proofs.Laws.NonInterference.{empty-at, empty-free, start, ghost_start, start_sim}
use Rattle.reassembly.specs.Mix.{Frame, part_of, states, Cut, Item, given, other, frame_of, event, segments_of, times, is_segment, IsNoSegment, AllFree}
use Rattle.reassembly.specs.Mix.{Mixing, Right}
use Rattle.reassembly.proofs.Laws.MixFacts.{times-append}
use Rattle.reassembly.proofs.Laws.Deliver.{Seats, Step, take_step, lf, lj, tick_seats, other_seats}

module _ (W : Answers) (header : List ℕ → Reading W) (judge : ℕ → Note → List ℕ → Verdict W) (p : ℕ) (p< : p < most_peers) (frames : List Frame)
    (items : List Item)
    (cuts : (f : ℕ) → f < length frames → Cut W header judge p (frame_of frames f)) (mix : Mixing W header p frames items) where
  record Inv (past fut : List Item) (e : State ghost) : Type 0 where
    is : reverse_aux past fut ≡ items
    left : AllFree W header p fut
    eight : length e.peers ≡ most_peers
    seats : Seats p frames past fut (get_or e.peers p no_row).slots e.mem

  -- the packet of a segment reads as the segment
  reads : (past fut : List Item) (f j : ℕ) → reverse_aux past (given f j ∷ fut) ≡ items
      → header (part_of (frame_of frames f) j).packet ≡ segment p (states (frame_of frames f) j)
  reads past fut f j is =
      (cuts f (lf W header judge p p< frames items cuts mix past fut f j is)).sound j (lj W header judge p p< frames items cuts mix past fut f j is)

  -- a packet that is no segment of the peer's leaves the state
  leaves : (e : State ghost) (x : Reading W) → IsNoSegment W p x → mine W p x ≡ true → (react W judge ghost e x).state ≡ e
  leaves e (other_sender a) s m = refl
  leaves e (direct q a) s m = refl
  leaves e (segment q g) s m = absurd (s (eqb-true q p m))

  step : (past fut : List Item) (f j : ℕ) (e : State ghost) (h : Inv past (given f j ∷ fut) e)
      → Step W header judge p p< frames items cuts mix past fut f j h.is
      (take_segment ghost p (get_or e.peers p no_row) e.mem (states (frame_of frames f) j))
  step past fut f j e h = take_step W header judge p p< frames items cuts mix past fut f j h.is _ _ h.seats

  item_step : (past fut : List Item) (x : Item) (e : State ghost) → Inv past (x ∷ fut) e
      → Inv (x ∷ past) fut (run W judge ghost header e (cond (keeps (own W header p) (event frames x)) (event frames x ∷ []) []))
  unfolding event
  item_step past fut (given f j) e h =
      let r = reads past fut f j h.is in
      let o : Effect ghost = take_segment ghost p (get_or e.peers p no_row) e.mem (states (frame_of frames f) j) in
      let q : (react W judge ghost e (header (part_of (frame_of frames f) j).packet)).state ≡ record { peers = set e.peers p o.row; mem = o.mem } =
      ap (λ (x : Reading W). (react W judge ghost e x).state) r in
      let m : mine W p (header (part_of (frame_of frames f) j).packet) ≡ true = rw r (eq-eqb p p refl) in
      rw m
      (rw q
      (record {
        is = h.is;
        left = h.left.1;
        eight = length-set e.peers p o.row ∙ h.eight;
        seats = rw (get_or-set_same e.peers p o.row no_row (omega (arith, h.eight))) (step past fut f j e h).seats;
      }))
  item_step past fut (other tick) e h =
      record {
        is = h.is;
        left = h.left.1;
        eight = length-map e.peers _ ∙ h.eight;
        seats = rw (rows-older e.peers p) (tick_seats W header judge p p< frames items cuts mix past fut _ _ h.is h.seats);
      }
  item_step past fut (other (receive k)) e h =
      let kept : Inv (other (receive k) ∷ past) fut e =
      record { is = h.is; left = h.left.1; eight = h.eight; seats = other_seats W header judge p p< frames items cuts mix past fut k _ _ h.seats } in
      case_b (mine W p (header k))
      (λ m. rw m (rw (leaves e (header k) h.left.0 m) kept))
      (λ m. rw m kept)

  -- the answer to a segment, wherever it stands
  ghost_right : (before past after' : List Item) (f j : ℕ) (lf' : f < length frames) (e : State ghost) → Inv past (before ++ (given f j ∷ after')) e
      → Right W p (frame_of frames f) (cuts f lf').verdict (segments_of f after')
      (react W judge ghost (run W judge ghost header e (strike (own W header p) (map (event frames) before)))
      (header (part_of (frame_of frames f) j).packet)).answer
  unfolding frame_answer slot_no take_answer strike states
  ghost_right [] past after' f j lf' e h =
      let s = step past after' f j e h in
      let o : Effect ghost = take_segment ghost p (get_or e.peers p no_row) e.mem (states (frame_of frames f) j) in
      let full : segments_of f after' ≡ 0 → take_answer W judge ghost p (states (frame_of frames f) j) o o.outcome
      ≡ record {
        reply = W.gives (cuts f lf').verdict (slot_start (slot_no p s.slot) + 18) (length (frame_of frames f).content - 18);
        bytes =
            drop 18 (frame_of frames f).content;
      } =
      λ z. ap (take_answer W judge ghost p (states (frame_of frames f) j) o) (s.done z) ∙ rw (s.note z, s.frame z, (cuts f lf').is_good) in
      rw (reads past after' f j h.is)
      (record {
        waits = λ l. ap (take_answer W judge ghost p (states (frame_of frames f) j) o) (s.waits l);
        slot = s.slot;
        is_slot = s.is_slot;
        delivers = λ z. ap (λ (x : Answer W). x.reply) (full z);
        bytes = λ z. ap (λ (x : Answer W). x.bytes) (full z);
      })
  ghost_right (x ∷ before) past after' f j lf' e h =
      let k = item_step past (before ++ (given f j ∷ after')) x e h in
      case_b (keeps (own W header p) (event frames x))
      (λ m. rw m (ghost_right before (x ∷ past) after' f j lf' _ (rw m at k)))
      (λ m. rw m (ghost_right before (x ∷ past) after' f j lf' _ (rw m at k)))

  begin : Inv [] items ghost_start
  begin =
      let row : (get_or empty_rows p no_row).slots ≡ empty_row = empty-at p p< in
      let no_slot : (s : ℕ) → s < most_slots → get_or (get_or empty_rows p no_row).slots s free ≡ free = λ s l. rw row (empty-free s l) in
      record {
        is = refl;
        left = mix.rest;
        eight = refl;
        seats =
            record {
              row_ok = record { four = rw row; sizes = λ s l t. clash (cc (no_slot s l)) };
              owner = λ s l t. clash (cc (no_slot s l));
              seat = λ f l b u. absurd (omega arith);
              alone = λ s t l k e. clash (cc (no_slot s l));
            };
      }

  pub part_real : (before after' : List Item) (f j : ℕ) → items ≡ before ++ (given f j ∷ after') → j < length (frame_of frames f).parts
  part_real before after' f j is =
      let n : times f j items ≡ times f j before + (1 + times f j after') =
      rw is (times-append f j before (given f j ∷ after') ∙ rw (eq-eqb f f refl, eq-eqb j j refl)) in
      case_b (is_segment frames f j)
      (λ e. ltb-true _ _ (and_r (ltb f (length frames)) (ltb j (length (frame_of frames f).parts)) e))
      (λ e. absurd (omega (arith, rw e at (mix.once f j))))

  module _ (O : Ops) (L : Laws O) (listed : (k : List ℕ) → Listed W (header k)) where
    -- every segment's answer, in the run of every item before it, over any sound memory
    pub mixed : (m : O.S) → O.Ok m → (before after' : List Item) (f j : ℕ) (lf' : f < length frames) → items ≡ before ++ (given f j ∷ after')
        → Right W p (frame_of frames f) (cuts f lf').verdict (segments_of f after')
        (react W judge O (run W judge O header (start O m) (map (event frames) before)) (header (part_of (frame_of frames f) j).packet)).answer
    mixed m ok before after' f j lf' is =
        let s = run_sim W judge O ghost L ghost_laws header listed p p< (map (event frames) before) (start O m) ghost_start (start_sim O p p< m ok) in
        let b : Inv [] (before ++ (given f j ∷ after')) ghost_start = subst (λ (x : List Item). Inv [] x ghost_start) is begin in
        let lj' : j < length (frame_of frames f).parts = part_real before after' f j is in
        let r : header (part_of (frame_of frames f) j).packet ≡ segment p (states (frame_of frames f) j) = (cuts f lf').sound j lj' in
        let m : mine W p (header (part_of (frame_of frames f) j).packet) ≡ true = rw r (eq-eqb p p refl) in
        let a = (mine_sim W judge O ghost L ghost_laws header listed p p< _ _ (header (part_of (frame_of frames f) j).packet) (listed _) m s).0 in
        rw a (ghost_right before [] after' f j lf' ghost_start b)
