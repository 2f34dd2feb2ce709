-- The slot rules (EveryRun) for one segment and one tick, over the memory of pieces: the row is as the history tells, the history decides, and the row that
-- is left is as the next history tells.
use Rattle.std.specs.Prelude.{◌≡◌, refl, ◌⊎◌, ◌≢◌, Bool, true, false, cond, ◌&&◌, ◌||◌, List, [], ◌∷◌, map, ℕ, zero, suc, ◌+◌, ◌-◌, ◌≤◌, ◌<◌, length, get_or}
use Rattle.std.specs.Prelude.{set, ltb, eqb}
use Rattle.std.proofs.Common.{sym, ◌∙◌, inl, inr, arith, length-set, set-set, ltb-true, ltb-false, lt-ltb, le-ltb, eqb-true, eq-eqb, ne_eqb}
use Rattle.std.proofs.Math.Path.{ap}
use Rattle.std.proofs.Math.Bool.{not}
use Rattle.std.proofs.Math.Option.{none, some}
use Rattle.std.proofs.lemmas.List.{length-map}
use Rattle.std.proofs.lemmas.Bool.{eqb-false}
use Rattle.reassembly.specs.Base.{all_below, some_below}
use Rattle.reassembly.proofs.Laws.Base.{case_b, case_o, either, clash, all_below_ext, some_below-some, some_below-none, or_false-l, or_false_r, and_l, and_r}
use Rattle.reassembly.specs.Slots.{Slot, Peer, Note, no_note, note_of, free, first, bears, is_free_slot, older, lifetime, most_slots}
use Rattle.reassembly.proofs.Laws.Slots.{First, first_some, first-none, first_is, first_not, older-pending}
use Rattle.reassembly.specs.Take.{slot_no, Seg, Ops, Rejection, rejection_code, Empty, FrameLength, PastEnd, Outcome, Rejected, Pending, Complete}
use Rattle.reassembly.specs.Take.{LengthDiffers, AlreadyReceived, NoSlot, Choice, reject, old, fresh, choose, chosen, tested_bytes, stored_bytes, note_after}
use Rattle.reassembly.specs.Take.{opened_slot, further_slot, Effect, complete, overlaps, finish, placed, take_segment, Fits}
use Rattle.reassembly.proofs.Laws.TakeFacts.{Fits, ChoiceFacts, chosen_facts, chosen-fits, bears_is, bears-pending, bears_identifier, is_free-false}
use Rattle.reassembly.proofs.Laws.TakeFacts.{not_free}
use Rattle.reassembly.proofs.Laws.Memory.{within_low, within_high, within_is}
use Rattle.reassembly.proofs.Laws.Sim.{set_cases}
use Rattle.reassembly.proofs.Laws.Runs.{older-at}
use Rattle.reassembly.proofs.Laws.Ghost.{Piece, received_in, ghost, upd_same}
use Rattle.reassembly.specs.History.{enters, entered, carries, covered, length_of, frame_complete, frame_pending, History, pending_in, Bears, NoneBears}
use Rattle.reassembly.specs.History.{Lowest, Fifteen, Sixteen, Seventeen, Further, Opens, resets, restarts, restarted, once_more}
use Rattle.reassembly.proofs.Laws.Log.{piece_of, Logs, writes-same, writes-other}
use Rattle.reassembly.specs.EveryRun.{Stands}

-- ---- covered is what the memory of pieces has received

pub covered_is : (gs : List Seg) (i : ℕ) → covered gs i ≡ received_in (map piece_of gs) i
covered_is [] i = refl
covered_is (g ∷ gs) i = ap (λ (b : Bool). carries g i || b) (covered_is gs i)

pub whole_is : (m : ℕ → List Piece) (k : ℕ) (gs : List Seg) → m k ≡ map piece_of gs → complete ghost m k (length_of gs) ≡ frame_complete gs
unfolding complete frame_complete
whole_is m k gs e = all_below_ext (length_of gs) (λ i. received_in (m k) i) (λ i. covered gs i)
    (λ i l. ap (λ (x : List Piece). received_in x i) e ∙ sym (covered_is gs i))

pub record FoundSlot (n : ℕ) (f : ℕ → Bool) : Type 0 where
  pub at : ℕ
  pub is_below : at < n
  pub passes : f at ≡ true

some_finds : (n : ℕ) (f : ℕ → Bool) → some_below n f ≡ true → FoundSlot n f
unfolding some_below
some_finds zero f e = clash (cc)
some_finds (suc n) f e =
    case_b (f n)
    (λ q. record { at = n; is_below = omega arith; passes = q })
    (λ q. let r : FoundSlot n f = some_finds n f (rw q at e) in record { at = r.at; is_below = omega (arith, r.is_below); passes = r.passes })

-- 16 and its contrary, of the segments gs that are in slot k
pub covered-overlaps : (m : ℕ → List Piece) (k : ℕ) (g : Seg) (gs : List Seg) (i : ℕ) → m k ≡ map piece_of gs → carries g i ≡ true → covered gs i ≡ true
    → overlaps ghost m k g ≡ true
unfolding overlaps
covered-overlaps m k g gs i e c d =
    let lo : g.offset ≤ i = within_low g.offset (length g.bytes) i c in
    let hi : i < g.offset + length g.bytes = within_high g.offset (length g.bytes) i c in
    let z : g.offset + (i - g.offset) ≡ i = omega arith in
    some_below-some (tested_bytes g) (λ j. received_in (m k) (g.offset + j)) (i - g.offset) (omega arith)
    (ap (λ (x : ℕ). received_in (m k) x) z ∙ ap (λ (x : List Piece). received_in x i) e ∙ sym (covered_is gs i) ∙ d)

pub apart_overlaps : (m : ℕ → List Piece) (k : ℕ) (g : Seg) (gs : List Seg) → m k ≡ map piece_of gs → ((i : ℕ) → carries g i ≡ true → covered gs i ≡ false)
    → overlaps ghost m k g ≡ false
unfolding overlaps
apart_overlaps m k g gs e a =
    some_below-none (tested_bytes g) (λ j. received_in (m k) (g.offset + j))
    (λ j l. ap (λ (x : List Piece). received_in x (g.offset + j)) e ∙ sym (covered_is gs (g.offset + j))
    ∙ a (g.offset + j) (within_is g.offset (length g.bytes) (g.offset + j) (omega arith) (omega arith)))

pub record Overlap (g : Seg) (gs : List Seg) : Type 0 where
  pub byte : ℕ
  pub its : carries g byte ≡ true
  pub already : covered gs byte ≡ true

pub overlaps-covered : (m : ℕ → List Piece) (k : ℕ) (g : Seg) (gs : List Seg) → m k ≡ map piece_of gs → overlaps ghost m k g ≡ true → Overlap g gs
unfolding overlaps
overlaps-covered m k g gs e o =
    let f : FoundSlot (tested_bytes g) (λ j. received_in (m k) (g.offset + j)) = some_finds (tested_bytes g) (λ j. received_in (m k) (g.offset + j)) o in
    record {
      byte = g.offset + f.at;
      its = within_is g.offset (length g.bytes) (g.offset + f.at) (omega arith) (omega (arith, f.is_below));
      already = covered_is gs (g.offset + f.at) ∙ ap (λ (x : List Piece). received_in x (g.offset + f.at)) (sym e) ∙ f.passes;
    }

pub overlaps_apart : (m : ℕ → List Piece) (k : ℕ) (g : Seg) (gs : List Seg) → m k ≡ map piece_of gs → overlaps ghost m k g ≡ false → (i : ℕ)
    → carries g i ≡ true → covered gs i ≡ false
overlaps_apart m k g gs e o i c = case_b (covered gs i) (λ d. clash (cc (covered-overlaps m k g gs i e c d))) (λ d. d)

-- ---- the row is as the history tells

pub record Stand (row : List Slot) (h : History) : Type 0 where
  pub four : length row ≡ most_slots
  pub stands : (s : ℕ) → s < most_slots → Stands (get_or row s free) (h.taken s) (h.ticks s)
  pub distinct : (s t : ℕ) → s < most_slots → t < most_slots → (get_or row s free).pending ≡ true → (get_or row t free).pending ≡ true
      → (get_or row s free).identifier ≡ (get_or row t free).identifier → s ≡ t

module _ (row : List Slot) (h : History) (st : Stand row h) where
  abbrev slot_of : ℕ → Slot
  slot_of s = get_or row s free

  pub holds-bears : (id s : ℕ) → Bears h id s → bears id (slot_of s) ≡ true
  holds-bears id s w =
      let v = st.stands s w.is_slot in
      let e : (slot_of s).pending ≡ true = v.pending ∙ w.pending in
      bears_is id (slot_of s) e (v.identifier e ∙ w.identifier)

  pub bears-holds : (id s : ℕ) → s < most_slots → bears id (slot_of s) ≡ true → Bears h id s
  bears-holds id s l b =
      let v = st.stands s l in
      let e : (slot_of s).pending ≡ true = bears-pending id (slot_of s) b in
      record { is_slot = l; pending = sym v.pending ∙ e; identifier = sym (v.identifier e) ∙ bears_identifier id (slot_of s) b }

  pub holds_one : (id s t : ℕ) → Bears h id s → Bears h id t → s ≡ t
  holds_one id s t a b =
      let x : bears id (slot_of s) ≡ true = holds-bears id s a in
      let y : bears id (slot_of t) ≡ true = holds-bears id t b in
      st.distinct s t a.is_slot b.is_slot (bears-pending id (slot_of s) x) (bears-pending id (slot_of t) y)
      (bears_identifier id (slot_of s) x ∙ sym (bears_identifier id (slot_of t) y))

  holds-first : (id s : ℕ) → Bears h id s → first (bears id) row ≡ some s
  holds-first id s w =
      first_is (bears id) row s w.is_slot
      (λ t l. case_b (bears id (slot_of t))
      (λ e. let z : t ≡ s = holds_one id t s (bears-holds id t (omega (arith, w.is_slot)) e) w in absurd (omega arith))
      (λ e. e))
      (holds-bears id s w)

  none_first : (id : ℕ) → NoneBears h id → first (bears id) row ≡ none
  none_first id n = first_not (bears id) row (λ t l. case_b (bears id (slot_of t)) (λ e. absurd (n t (bears-holds id t l e))) (λ e. e))

  free_is : (v : Slot) (b : Bool) → v.pending ≡ b → is_free_slot v ≡ not b
  unfolding is_free_slot
  free_is v b e = ap not e

  idle_free : (s : ℕ) → s < most_slots → (b : Bool) → pending_in h s ≡ b → is_free_slot (slot_of s) ≡ not b
  idle_free s l b e = free_is (slot_of s) b ((st.stands s l).pending ∙ e)

  lowest-first : (s : ℕ) → Lowest h s → first is_free_slot row ≡ some s
  lowest-first s w = first_is is_free_slot row s w.is_slot (λ t l. idle_free t (omega (arith, w.is_slot)) true (w.below t l))
      (idle_free s w.is_slot false w.idle)

  module _ (g : Seg) (f : Fits g) where
    -- ---- the history decides

    chosen-holds : (s : ℕ) → Bears h g.identifier s → chosen row g ≡ cond (eqb (slot_of s).frame_length g.frame_length) (old s) (reject LengthDiffers)
    chosen-holds s w = chosen-fits row g f ∙ ap (choose row g) (holds-first g.identifier s w)

    size_of : (s : ℕ) → Bears h g.identifier s → (slot_of s).frame_length ≡ length_of (h.taken s)
    size_of s w = let v = st.stands s w.is_slot in v.size (v.pending ∙ w.pending)

    pub chosen-old : (s : ℕ) → Bears h g.identifier s → length_of (h.taken s) ≡ g.frame_length → chosen row g ≡ old s
    chosen-old s w q = chosen-holds s w ∙ rw (eq-eqb (slot_of s).frame_length g.frame_length (size_of s w ∙ q))

    pub chosen-other : (x : Fifteen h g) → chosen row g ≡ reject LengthDiffers
    chosen-other x =
        let n : (slot_of x.slot).frame_length ≢ g.frame_length = λ z. x.other (sym (size_of x.slot x.bears) ∙ z) in
        chosen-holds x.slot x.bears ∙ rw (ne_eqb (slot_of x.slot).frame_length g.frame_length n)

    pub chosen-full : Seventeen h g → chosen row g ≡ reject NoSlot
    chosen-full x =
        let n : first is_free_slot row ≡ none = first_not is_free_slot row (λ t l. idle_free t l true (x.four t l)) in
        chosen-fits row g f ∙ rw (none_first g.identifier x.none_bears, n)

    pub chosen-new : (s : ℕ) → Opens h g s → chosen row g ≡ fresh s
    chosen-new s x = chosen-fits row g f ∙ rw (none_first g.identifier x.none_bears, lowest-first s x.lowest)

-- 14
pub chosen_unfit : (row : List Slot) (g : Seg) → (Fits g → ⊥) → (r : Rejection) × ((chosen row g ≡ reject r) × (rejection_code r ≡ 14))
unfolding chosen rejection_code
chosen_unfit row g n =
    case_b (eqb (length g.bytes) 0)
    (λ a. (Empty, (rw a, refl)))
    (λ a. case_b (ltb g.frame_length 32 || ltb 1532 g.frame_length)
    (λ b. (FrameLength, (rw (a, b), refl)))
    (λ b. case_b (ltb g.frame_length (g.offset + length g.bytes))
    (λ c. (PastEnd, (rw (a, b, c), refl)))
    (λ c. let z : length g.bytes ≢ 0 = eqb-false (length g.bytes) 0 a in
    absurd (n (record {
      some_byte = omega arith;
      least = omega (arith, ltb-false g.frame_length 32 (or_false-l (ltb g.frame_length 32) (ltb 1532 g.frame_length) b));
      most = omega (arith, ltb-false 1532 g.frame_length (or_false_r (ltb g.frame_length 32) (ltb 1532 g.frame_length) b));
      inside = omega (arith, ltb-false g.frame_length (g.offset + length g.bytes) c);
    })))))

-- ---- the history and the outcome that follow

abbrev pub afterwards : History → Seg → Choice → Outcome → History
afterwards h g c o = record { taken = entered h.taken g c o; ticks = restarted h.ticks c o }

pub under_young : (gs : List Seg) (t : ℕ) → frame_pending gs t ≡ true → t < 4
unfolding frame_pending
under_young gs t e = ltb-true t 4 (and_l (ltb t 4) (not (frame_complete gs)) e)

pub under_is : (gs : List Seg) (t : ℕ) → t < 4 → frame_complete gs ≡ false → frame_pending gs t ≡ true
unfolding frame_pending
under_is gs t l e = rw (lt-ltb t 4 l, e)

pub under_whole : (gs : List Seg) (t : ℕ) → frame_complete gs ≡ true → frame_pending gs t ≡ false
unfolding frame_pending
under_whole gs t e = case_b (ltb t 4) (λ q. rw (q, e)) (λ q. rw q)

pub nothing-pending : (t : ℕ) → frame_pending [] t ≡ false
unfolding frame_complete all_below
nothing-pending t = under_whole [] t refl

free-stands : (gs : List Seg) (t : ℕ) → frame_pending gs t ≡ false → Stands free gs t
free-stands gs t e = record { pending = sym e; identifier = λ q. clash (cc); size = λ q. clash (cc); age = λ q. clash (cc) }

-- slot s is written
put_stand : (row : List Slot) (h h' : History) (s : ℕ) (v : Slot) → s < most_slots → Stand row h → Stands v (h'.taken s) (h'.ticks s)
    → ((t : ℕ) → t ≢ s → (h'.taken t ≡ h.taken t) × (h'.ticks t ≡ h.ticks t))
    → (v.pending ≡ true → (t : ℕ) → t < most_slots → t ≢ s → (get_or row t free).pending ≡ true → (get_or row t free).identifier ≢ v.identifier)
    → Stand (set row s v) h'
put_stand row h h' s v ls st w others only =
    record {
      four = length-set row s v ∙ st.four;
      stands = λ t lt.
          either (set_cases row s v free t (omega (arith, st.four)))
          (λ c. rw (c.1, c.0) w)
          (λ c. rw (c.1, (others t c.0).0, (others t c.0).1) (st.stands t lt));
      distinct = λ t u lt lu et eu q.
          either (set_cases row s v free t (omega (arith, st.four)))
          (λ c. either (set_cases row s v free u (omega (arith, st.four)))
          (λ d. c.0 ∙ sym d.0)
          (λ d. absurd (only (rw c.1 at et) u lu d.0 (rw d.1 at eu) (rw (c.1, d.1) at (sym q)))))
          (λ c. either (set_cases row s v free u (omega (arith, st.four)))
          (λ d. absurd (only (rw d.1 at eu) t lt c.0 (rw c.1 at et) (rw (c.1, d.1) at q)))
          (λ d. st.distinct t u lt lu (rw c.1 at et) (rw d.1 at eu) (rw (c.1, d.1) at q)));
    }

module _ (p : ℕ) where
  -- the segment has been put into slot s: `c` is for that slot, whose segments are then g and the earlier ones
  finish_stand : (row : List Slot) (m : ℕ → List Piece) (h : History) (s : ℕ) (v : Slot) (g : Seg) (earlier : List Seg) (note : Note) (c : Choice)
      → s < most_slots
      → Stand row h
      → enters h.taken g c s ≡ g ∷ earlier → m (slot_no p s) ≡ map piece_of (g ∷ earlier)
      → ((t : ℕ) → t ≢ s → (enters h.taken g c t ≡ h.taken t) × (restarts h.ticks c t ≡ h.ticks t))
      → v.pending ≡ true → v.identifier ≡ g.identifier → v.frame_length ≡ g.frame_length → v.age ≡ restarts h.ticks c s → restarts
      h.ticks c s < most_slots
      → ((t : ℕ) → t < most_slots → t ≢ s → (get_or row t free).pending ≡ true → (get_or row t free).identifier ≢ g.identifier)
      → Stand (finish ghost p s (set row s v) m g note).row.slots (afterwards h g c (finish ghost p s (set row s v) m g note).outcome)
  finish_stand row m h s v g earlier note c ls st here pieces others vp vi vs va young only =
      let w : complete ghost m (slot_no p s) g.frame_length ≡ frame_complete (g ∷ earlier) = whole_is m (slot_no p s) (g ∷ earlier) pieces in
      let h' : History = record { taken = enters h.taken g c; ticks = restarts h.ticks c } in
      case_b (complete ghost m (slot_no p s) g.frame_length)
      (λ e. rw e (rw (set-set row s v free)
      (put_stand row h h' s free ls st (rw here (free-stands (g ∷ earlier) (restarts h.ticks c s)
      (under_whole (g ∷ earlier) (restarts h.ticks c s) (sym w ∙ e)))) others (λ q. clash (cc)))))
      (λ e. rw e
      (put_stand row h h' s v ls st
      (rw here
      (record {
        pending = vp ∙ sym (under_is (g ∷ earlier) (restarts h.ticks c s) young (sym w ∙ e));
        identifier = λ q. vi;
        size = λ q. vs;
        age = λ q. va;
      }))
      others (λ q t lt n e' z. only t lt n e' (z ∙ vi))))

  pub placed_stand : (row : List Slot) (m : ℕ → List Piece) (h : History) (g : Seg) (c : Choice) → ChoiceFacts row g c → Logs p row m h.taken → Stand row h
      → Stand (placed ghost p row m g c).row.slots (afterwards h g c (placed ghost p row m g c).outcome)
  placed_stand row m h g (reject r) q lg st = st
  placed_stand row m h g (old s) q lg st =
      let ls : s < most_slots = q.is_slot in
      let v : Slot = further_slot (get_or row s free) g in
      let m' : ℕ → List Piece = ghost.put m (slot_no p s) g.offset (stored_bytes g) in
      let pieces : m' (slot_no p s) ≡ map piece_of (g ∷ h.taken s) = upd_same m (slot_no p s) _ ∙ ap (λ (x : List Piece). piece_of g ∷ x) (lg.pieces s ls) in
      let now = st.stands s ls in
      let young : h.ticks s < 4 = under_young (h.taken s) (h.ticks s) (sym now.pending ∙ q.pending) in
      case_b (overlaps ghost m (slot_no p s) g)
      (λ e. rw e st)
      (λ e. rw e
      (finish_stand row m' h s v g (h.taken s) (note_after (note_of (get_or row s free)) g) (old s) ls st (writes-same h.taken s (g ∷ h.taken s)) pieces
      (λ t n. (writes-other h.taken s (g ∷ h.taken s) t n, refl)) refl q.identifier q.size (now.age q.pending) young
      (λ t lt n e' z. n (st.distinct t s lt ls e' q.pending (z ∙ sym q.identifier)))))
  placed_stand row m h g (fresh s) q lg st =
      let ls : s < most_slots = q.is_slot in
      let m₁ : ℕ → List Piece = ghost.clear m (slot_no p s) in
      let m' : ℕ → List Piece = ghost.put m₁ (slot_no p s) g.offset g.bytes in
      let pieces : m' (slot_no p s) ≡ map piece_of (g ∷ []) = upd_same m₁ (slot_no p s) _ ∙ ap (λ (x : List Piece). piece_of g ∷ x) (upd_same m (slot_no p s) []) in
      let zero-now : resets h.ticks s s ≡ 0 = rw (eq-eqb s s refl) in
      finish_stand row m' h s (opened_slot g) g [] (note_after no_note g) (fresh s) ls st (writes-same h.taken s (g ∷ [])) pieces
      (λ t n. (writes-other h.taken s (g ∷ []) t n, rw (ne_eqb t s n))) refl refl refl (sym zero-now) (omega (arith, zero-now))
      (λ t lt n e' z. clash (cc (q.no_bearer t lt, bears_is g.identifier (get_or row t free) e' z)))

  pub take_stand : (row : Peer) (m : ℕ → List Piece) (h : History) (g : Seg) → Logs p row.slots m h.taken → Stand row.slots h
      → Stand (take_segment ghost p row m g).row.slots (afterwards h g (chosen row.slots g) (take_segment ghost p row m g).outcome)
  unfolding take_segment
  take_stand row m h g lg st = placed_stand row.slots m h g (chosen row.slots g) (chosen_facts row.slots g) lg st

-- ---- a tick

older-stands : (v : Slot) (gs : List Seg) (t : ℕ) → Stands v gs t → Stands (older v) gs (t + 1)
unfolding older frame_pending
older-stands v gs t w =
    case_b v.pending
    (λ e. let u : (ltb t 4 && not (frame_complete gs)) ≡ true = sym w.pending ∙ e in
    let n : not (frame_complete gs) ≡ true = and_r (ltb t 4) (not (frame_complete gs)) u in
    let a : v.age ≡ t = w.age e in
    case_b (ltb (v.age + 1) lifetime)
    (λ y. let young : t + 1 < 4 = omega (arith, ltb-true (v.age + 1) lifetime y) in
    rw (e, y) (record { pending = rw (lt-ltb (t + 1) 4 young, n); identifier = λ q. w.identifier e; size = λ q. w.size e; age = λ q. omega arith }))
    (λ y. let old : 4 ≤ t + 1 = omega (arith, ltb-false (v.age + 1) lifetime y) in
    rw (e, y) (free-stands gs (t + 1) (unfolded gs t (le-ltb (t + 1) 4 old)))))
    (λ e. rw e
    (record {
      pending = gone (sym w.pending ∙ e);
      identifier = λ q. clash (cc);
      size = λ q. clash (cc);
      age = λ q. clash (cc);
    }))
  where
    unfolded : (gs : List Seg) (t : ℕ) → ltb (t + 1) 4 ≡ false → frame_pending gs (t + 1) ≡ false
    unfolded gs t y = rw y

    gone : (ltb t 4 && not (frame_complete gs)) ≡ false → false ≡ (ltb (t + 1) 4 && not (frame_complete gs))
    gone e =
        case_b (not (frame_complete gs))
        (λ n. case_b (ltb t 4)
        (λ y. clash (cc))
        (λ y. let z : ltb (t + 1) 4 ≡ false = le-ltb (t + 1) 4 (omega (arith, ltb-false t 4 y)) in rw z))
        (λ n. case_b (ltb (t + 1) 4) (λ y. rw (y, n)) (λ y. rw y))

pub tick_stand : (row : List Slot) (h : History) → Stand row h → Stand (map older row) (record { taken = h.taken; ticks = once_more h.ticks })
tick_stand row h st =
    record {
      four = length-map row older ∙ st.four;
      stands = λ s l. rw (older-at row s) (older-stands (get_or row s free) (h.taken s) (h.ticks s) (st.stands s l));
      distinct = λ s t ls lt es et q.
          let a = older-pending (get_or row s free) (rw (older-at row s) at es) in
          let b = older-pending (get_or row t free) (rw (older-at row t) at et) in
          let i : (get_or (map older row) s free).identifier ≡ (get_or row s free).identifier = rw (older-at row s, a.1) in
          let j : (get_or (map older row) t free).identifier ≡ (get_or row t free).identifier = rw (older-at row t, b.1) in
          st.distinct s t ls lt a.0 b.0 (sym i ∙ q ∙ j);
    }

-- ---- one segment that passes 14: exactly one case, and what is told in it

pub take_by : (O : Ops) (p : ℕ) (row : Peer) (m : O.S) (g : Seg) (c : Choice) → chosen row.slots g ≡ c
    → take_segment O p row m g ≡ placed O p row.slots m g c
unfolding take_segment
take_by O p row m g c e = ap (placed O p row.slots m g) e

module _ (p : ℕ) (row : Peer) (m : ℕ → List Piece) (h : History) (lg : Logs p row.slots m h.taken) (st : Stand row.slots h) (g : Seg)
    (f : Fits g) where
  abbrev take_answer : Outcome
  take_answer = (take_segment ghost p row m g).outcome

  outcome_by : (c : Choice) → chosen row.slots g ≡ c → take_answer ≡ (placed ghost p row.slots m g c).outcome
  outcome_by c e = ap (λ (x : Effect ghost). x.outcome) (take_by ghost p row m g c e)

  pub outcome_15 : Fifteen h g → take_answer ≡ Rejected LengthDiffers
  outcome_15 x = outcome_by (reject LengthDiffers) (chosen-other row.slots h st g f x)

  pub outcome_16 : Sixteen h g → take_answer ≡ Rejected AlreadyReceived
  outcome_16 x =
      let o : overlaps ghost m (slot_no p x.slot) g ≡ true =
      covered-overlaps m (slot_no p x.slot) g (h.taken x.slot) x.byte (lg.pieces x.slot x.bears.is_slot) x.its x.already in
      outcome_by (old x.slot) (chosen-old row.slots h st g f x.slot x.bears x.same) ∙ rw o

  pub outcome_17 : Seventeen h g → take_answer ≡ Rejected NoSlot
  outcome_17 x = outcome_by (reject NoSlot) (chosen-full row.slots h st g f x)

  finish-outcome : (s : ℕ) (r : List Slot) (m' : ℕ → List Piece) (note : Note) (earlier : List Seg) → m' (slot_no p s) ≡ map piece_of (g ∷ earlier)
      → (finish ghost p s r m' g note).outcome ≡ cond (frame_complete (g ∷ earlier)) (Complete s) Pending
  finish-outcome s r m' note earlier e =
      let w : complete ghost m' (slot_no p s) g.frame_length ≡ frame_complete (g ∷ earlier) = whole_is m' (slot_no p s) (g ∷ earlier) e in
      case_b (frame_complete (g ∷ earlier)) (λ q. rw (w, q)) (λ q. rw (w, q))

  pub outcome-further : (s : ℕ) → Further h g s → take_answer ≡ cond (frame_complete (g ∷ h.taken s)) (Complete s) Pending
  outcome-further s x =
      let ls : s < most_slots = x.bears.is_slot in
      let m' : ℕ → List Piece = ghost.put m (slot_no p s) g.offset (stored_bytes g) in
      let pieces : m' (slot_no p s) ≡ map piece_of (g ∷ h.taken s) = upd_same m (slot_no p s) _ ∙ ap (λ (x : List Piece). piece_of g ∷ x) (lg.pieces s ls) in
      outcome_by (old s) (chosen-old row.slots h st g f s x.bears x.same)
      ∙ rw (apart_overlaps m (slot_no p s) g (h.taken s) (lg.pieces s ls) x.apart)
      (finish-outcome s (set row.slots s (further_slot (get_or row.slots s free) g)) m' (note_after (note_of (get_or row.slots s free)) g)
      (h.taken s) pieces)

  pub outcome_opens : (s : ℕ) → Opens h g s → take_answer ≡ cond (frame_complete (g ∷ [])) (Complete s) Pending
  outcome_opens s x =
      let m₁ : ℕ → List Piece = ghost.clear m (slot_no p s) in
      let m' : ℕ → List Piece = ghost.put m₁ (slot_no p s) g.offset g.bytes in
      let pieces : m' (slot_no p s) ≡ map piece_of (g ∷ []) = upd_same m₁ (slot_no p s) _ ∙ ap (λ (x : List Piece). piece_of g ∷ x) (upd_same m (slot_no p s) []) in
      outcome_by (fresh s) (chosen-new row.slots h st g f s x) ∙ (finish-outcome s (set row.slots s (opened_slot g)) m' (note_after no_note g) [] pieces)

  abbrev pub OneCase : Type 0
  OneCase = Fifteen h g ⊎ (Sixteen h g ⊎ (Seventeen h g ⊎ (((s : ℕ) × Further h g s) ⊎ ((s : ℕ) × Opens h g s))))

  pub one_case : OneCase
  one_case = case_o (first (bears g.identifier) row.slots) no_bearer known
    where
      no_bearer : first (bears g.identifier) row.slots ≡ none → OneCase
      no_bearer e =
          let n : NoneBears h g.identifier = λ s w. clash
          (cc (first-none (bears g.identifier) row.slots e s w.is_slot, holds-bears row.slots h st g.identifier s w)) in
          case_o (first is_free_slot row.slots)
          (λ q. inr (inr (inl (record {
            none_bears = n;
            four = λ s l. sym (st.stands s l).pending
                ∙ not_free (get_or row.slots s free) (first-none is_free_slot row.slots q s l);
          }))))
          (λ s q. let b : First is_free_slot row.slots s = first_some is_free_slot row.slots s q in
          inr (inr (inr (inr (
            s,
            record {
              none_bears = n;
              lowest =
                  record {
                    is_slot = b.is_slot;
                    idle = sym (st.stands s b.is_slot).pending ∙ is_free-false (get_or row.slots s free) b.passes;
                    below = λ t l. sym (st.stands t (omega (arith, b.is_slot))).pending ∙ not_free (get_or row.slots t free) (b.lowest t l);
                  };
            },
          )))))

      known : (s : ℕ) → first (bears g.identifier) row.slots ≡ some s → OneCase
      known s e =
          let b : First (bears g.identifier) row.slots s = first_some (bears g.identifier) row.slots s e in
          let w : Bears h g.identifier s = bears-holds row.slots h st g.identifier s b.is_slot b.passes in
          let pieces : m (slot_no p s) ≡ map piece_of (h.taken s) = lg.pieces s b.is_slot in
          case_b (eqb (length_of (h.taken s)) g.frame_length)
          (λ q. let z : length_of (h.taken s) ≡ g.frame_length = eqb-true (length_of (h.taken s)) g.frame_length q in
          case_b (overlaps ghost m (slot_no p s) g)
          (λ o. let c : Overlap g (h.taken s) = overlaps-covered m (slot_no p s) g (h.taken s) pieces o in
          inr (inl (record { slot = s; bears = w; same = z; byte = c.byte; its = c.its; already = c.already })))
          (λ o. inr (inr (inr (inl (s, record { bears = w; same = z; apart = overlaps_apart m (slot_no p s) g (h.taken s) pieces o }))))))
          (λ q. inl (record { slot = s; bears = w; other = eqb-false (length_of (h.taken s)) g.frame_length q }))
