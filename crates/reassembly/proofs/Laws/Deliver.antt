-- The invariant of a mixing, over the memory of pieces: the peer's pending slots are the frames pending, each in one slot, with its identifier, its length,
-- its age, what is noted, and the segments given.
use Rattle.std.specs.Prelude.{◌≡◌, ◌≢◌, cond, get_or, set, ltb, eqb}
use Rattle.std.proofs.Math.Path.{refl, sym, ap}
use Rattle.std.proofs.Common.{subst, ◌∙◌, arith, get_or-set_same, get_or-set_other, set-set, ext_get_or}
use Rattle.std.proofs.Math.Bool.{true, false}
use mathlib.Core.List.{List, [], ◌∷◌, ◌++◌, map, reverse, reverse_aux, reverse_aux-eq, append_assoc}
use Rattle.std.proofs.Math.Option.{none}
use Prim.Native.Nat.{ℕ, suc, ◌+◌, ◌≤◌, ◌<◌}
use Rattle.std.proofs.Math.ListN.{length}
use Rattle.std.proofs.lemmas.List.{length-map}
use borrow.Author.Tests.{ltb-true, ltb-false, eqb-true, eqb-false, lt-ltb, eq-eqb, ne_eqb}
use Rattle.reassembly.proofs.Laws.Base.{case_b, case_o, either, clash, and_l, and_r, all_below-at, all_below_intro, some_below-none, length-table, get_d_table}
use Rattle.reassembly.specs.Base.{some_below, all_below, table}
use Rattle.reassembly.specs.Slots.{Slot, Peer, Note, no_note, note_of, free, pending_slot, lifetime, older, first, bears, is_free_slot, most_peers, most_slots}
use Rattle.reassembly.proofs.Laws.Slots.{note_of-pending, older-pending, older_stays, First, first_some, first-none}
use Rattle.reassembly.specs.Take.{slot_no, Seg, Pending, Complete, old, fresh, chosen, tested_bytes, stored_bytes, note_after, opened_slot, further_slot}
use Rattle.reassembly.specs.Take.{Effect, complete, overlaps, frame_in, finish, placed, take_segment, Fits}
use Rattle.reassembly.proofs.Laws.TakeFacts.{chosen_opens, bears_is, bears-pending, bears_identifier, not_free, chosen-fits}
use Rattle.reassembly.proofs.Laws.Memory.{within_is}
use Rattle.reassembly.specs.Receive.{Answers, Verdict, Reading, receive, tick}
use Rattle.reassembly.proofs.Laws.Sim.{RowOk, row-set, set_cases}
use Rattle.reassembly.proofs.Laws.Runs.{older-at}
use Rattle.reassembly.proofs.Laws.Ghost.{Piece, received_in, byte_in, ghost, upd_same, upd_other}
use Rattle.reassembly.specs.Mix.{Frame, joined, offset_of, part_of, states, frame_note, Cut, Item, given, other, frame_of, is_segment, times, segments_of}
use Rattle.reassembly.specs.Mix.{pending_at, how_many, Mixing}
use Rattle.reassembly.proofs.Laws.CutFacts.{size, part_end, part_one, Lies, part-some}
use Rattle.reassembly.proofs.Laws.MixFacts.{times_back, of_append, of_back, times-le, Splits, splits, Given, some-given, pieces, notes, notes-all, age}
use Rattle.reassembly.proofs.Laws.MixFacts.{pieces_none, age-none, Holder, received_by, holds, right_byte, Since, since, ticks-append, five}

-- the three questions, of a slot whose pieces are known
pub complete_is : (m : ℕ → List Piece) (k n : ℕ) (ps : List Piece) → m k ≡ ps → complete ghost m k n ≡ all_below n (λ i. received_in ps i)
unfolding complete
complete_is m k n ps e = rw e

pub overlaps_is : (m : ℕ → List Piece) (k : ℕ) (g : Seg) (ps : List Piece) → m k ≡ ps
    → overlaps ghost m k g ≡ some_below (tested_bytes g) (λ i. received_in ps (g.offset + i))
unfolding overlaps
overlaps_is m k g ps e = rw e

pub frame_is : (m : ℕ → List Piece) (k n : ℕ) (ps : List Piece) → m k ≡ ps → frame_in ghost m k n ≡ table n (λ i. byte_in ps i)
unfolding frame_in
frame_is m k n ps e = rw e

module _ (p : ℕ) (frames : List Frame) where
  abbrev pub slot_of : ℕ → List Item → Slot
  slot_of f past = pending_slot (frame_of frames f).identifier (length (frame_of frames f).content) (age frames f past) (notes frames f past)

  -- whose slot s is
  pub record Owner (past fut : List Item) (row : List Slot) (m : ℕ → List Piece) (s : ℕ) : Type 0 where
    pub frame : ℕ
    pub is_frame : frame < length frames
    pub begun : 0 < segments_of frame past
    pub unfinished : 0 < segments_of frame fut
    pub slot : get_or row s free ≡ slot_of frame past
    pub store : m (slot_no p s) ≡ pieces frames frame past

  -- where frame f sits
  pub record Seat (past : List Item) (row : List Slot) (m : ℕ → List Piece) (f : ℕ) : Type 0 where
    pub at : ℕ
    pub is_slot : at < most_slots
    pub slot : get_or row at free ≡ slot_of f past
    pub store : m (slot_no p at) ≡ pieces frames f past

  pub record Seats (past fut : List Item) (row : List Slot) (m : ℕ → List Piece) : Type 0 where
    pub row_ok : RowOk row
    pub owner : (s : ℕ) → s < most_slots → (get_or row s free).pending ≡ true → Owner past fut row m s
    pub seat : (f : ℕ) → f < length frames → 0 < segments_of f past → 0 < segments_of f fut → Seat past row m f
    pub alone : (s t : ℕ) → s < most_slots → t < most_slots → (get_or row s free).pending ≡ true → (get_or row t free).pending ≡ true
        → (get_or row s free).identifier ≡ (get_or row t free).identifier → s ≡ t

  of_other : (f g j : ℕ) (xs : List Item) → g ≢ f → segments_of g (given f j ∷ xs) ≡ segments_of g xs
  of_other f g j xs n = rw (ne_eqb f g (λ q. n (sym q))) (omega arith)

  pieces-other : (f g j : ℕ) (past : List Item) → g ≢ f → pieces frames g (given f j ∷ past) ≡ pieces frames g past
  pieces-other f g j past n = rw (ne_eqb f g (λ q. n (sym q)))

  notes-now : (f j : ℕ) (past : List Item) → notes frames f (given f j ∷ past) ≡ note_after (notes frames f past) (states (frame_of frames f) j)
  notes-now f j past = rw (eq-eqb f f refl)

  notes-other : (f g j : ℕ) (past : List Item) → g ≢ f → notes frames g past ≡ notes frames g (given f j ∷ past)
  notes-other f g j past n = rw (ne_eqb f g (λ q. n (sym q)))

  slot-other : (f g j : ℕ) (past : List Item) → g ≢ f → slot_of g past ≡ slot_of g (given f j ∷ past)
  slot-other f g j past n = ap (λ (x : Note). pending_slot (frame_of frames g).identifier (length (frame_of frames g).content) (age frames g past) x)
      (notes-other f g j past n)

  -- slot s becomes frame f's, or is freed with its last segment; the other slots are left
  settle : (past fut : List Item) (f j s : ℕ) (row : List Slot) (m m' : ℕ → List Piece) (v : Slot)
      → f < length frames → s < most_slots → length (frame_of frames f).content ≤ 1532
      → Seats past (given f j ∷ fut) row m
      → ((t : ℕ) → t < most_slots → t ≢ s → (get_or row t free).pending ≡ true → (get_or row t free).identifier ≢ (frame_of frames f).identifier)
      → ((get_or row s free).pending ≡ true → (get_or row s free).identifier ≡ (frame_of frames f).identifier)
      → ((g : ℕ) → g < length frames → 0 < segments_of g past → 0 < segments_of g fut → (frame_of frames g).identifier ≡ (frame_of frames f).identifier → g ≡ f)
      → m' (slot_no p s) ≡ pieces frames f (given f j ∷ past)
      → ((t : ℕ) → t ≢ s → m' (slot_no p t) ≡ m (slot_no p t))
      → (v.pending ≡ true → (v ≡ slot_of f (given f j ∷ past)) × (0 < segments_of f fut))
      → (0 < segments_of f fut → v ≡ slot_of f (given f j ∷ past))
      → Seats (given f j ∷ past) fut (set row s v) m'
  settle past fut f j s row m m' v lf ls most h others mine near st left own sit =
      let here : get_or (set row s v) s free ≡ v = get_or-set_same row s v free (omega (arith, h.row_ok.four)) in
      let there : (t : ℕ) → t ≢ s → get_or (set row s v) t free ≡ get_or row t free = λ t n. get_or-set_other row s t v free n in
      record {
        row_ok = row-set row s v ls h.row_ok (λ e. let z : v ≡ slot_of f (given f j ∷ past) = (own e).0 in rw z most);
        owner = λ t lt e.
            either (set_cases row s v free t (omega (arith, h.row_ok.four)))
            (λ c. let o = own (rw c.1 at e) in
            record {
              frame = f;
              is_frame = lf;
              begun = rw (eq-eqb f f refl) (omega arith);
              unfinished = o.1;
              slot = c.1 ∙ o.0;
              store = rw c.0 st;
            })
            (λ c. let o : Owner past (given f j ∷ fut) row m t = h.owner t lt (rw c.1 at e) in
            let n : o.frame ≢ f = λ q. others t lt c.0 (rw c.1 at e) (cc o.slot) in
            record {
              frame = o.frame;
              is_frame = o.is_frame;
              begun = rw (of_other f o.frame j past n) o.begun;
              unfinished = rw (of_other f o.frame j fut n) at o.unfinished;
              slot = c.1 ∙ o.slot ∙ slot-other f o.frame j past n;
              store = left t c.0 ∙ o.store ∙ sym (pieces-other f o.frame j past n);
            });
        seat = λ g lg b u.
            case_b (eqb g f)
            (λ q. let z : g ≡ f = eqb-true g f q in
            rw z (record { at = s; is_slot = ls; slot = here ∙ sit (rw z at u); store = st }))
            (λ q. let n : g ≢ f = eqb-false g f q in
            let b' : 0 < segments_of g past = rw (of_other f g j past n) at b in
            let o : Seat past row m g = h.seat g lg b' (rw (of_other f g j fut n) u) in
            let w : o.at ≢ s = λ z. n (near g lg b' u (let k : get_or row s free ≡ slot_of g past = rw z at o.slot in cc (mine (rw k)))) in
            record {
              at = o.at;
              is_slot = o.is_slot;
              slot = there o.at w ∙ o.slot ∙ slot-other f g j past n;
              store = left o.at w ∙ o.store
                  ∙ sym (pieces-other f g j past n);
            });
        alone = λ t u lt lu et eu i.
            either (set_cases row s v free t (omega (arith, h.row_ok.four)))
            (λ c. either (set_cases row s v free u (omega (arith, h.row_ok.four)))
            (λ d. cc (c.0, d.0))
            (λ d. absurd (others u lu d.0 (rw d.1 at eu) (cc (i, c.1, d.1, (own (rw c.1 at et)).0)))))
            (λ c. either (set_cases row s v free u (omega (arith, h.row_ok.four)))
            (λ d. absurd (others t lt c.0 (rw c.1 at et) (cc (i, c.1, d.1, (own (rw d.1 at eu)).0))))
            (λ d. h.alone t u lt lu (rw c.1 at et) (rw d.1 at eu) (cc (i, c.1, d.1))));
      }

module _ (W : Answers) (header : List ℕ → Reading W) (judge : ℕ → Note → List ℕ → Verdict W) (p : ℕ) (p< : p < most_peers) (frames : List Frame)
    (items : List Item)
    (cuts : (f : ℕ) → f < length frames → Cut W header judge p (frame_of frames f)) (mix : Mixing W header p frames items) where
  -- the frames pending at an item, from what was before it and what is after it
  way : (past : List Item) (now : Item) (fut : List Item) (g : ℕ) → 0 < segments_of g (now ∷ past) → 0 < segments_of g (now ∷ fut)
      → pending_at (reverse past) now fut g ≡ true
  way past now fut g b u =
      cc (
        lt-ltb 0 (segments_of g (reverse past ++ (now ∷ []))) (omega (arith, of_append g (reverse past) (now ∷ []), of_back g past [])),
        lt-ltb 0 (segments_of g (now ∷ fut)) u,
      )

  split_here : (past : List Item) (now : Item) (fut : List Item) → reverse_aux past (now ∷ fut) ≡ items → items ≡ reverse past ++ (now ∷ fut)
  split_here past now fut is = sym is ∙ reverse_aux-eq past (now ∷ fut)

  -- one segment arrives
  module _ (past fut : List Item) (f j : ℕ) (is : reverse_aux past (given f j ∷ fut) ≡ items) where
    abbrev pub fr : Frame
    fr = frame_of frames f

    abbrev pub now : Item
    now = given f j

    counts : (k : ℕ) → times f k (now ∷ past) + times f k fut ≡ cond (is_segment frames f k) 1 0
    counts k = sym (times_back f k (now ∷ past) fut) ∙ ap (times f k) is ∙ mix.once f k

    real : (k : ℕ) → 0 < times f k (now ∷ past) + times f k fut → (f < length frames) × (k < length fr.parts)
    real k l =
        case_b (is_segment frames f k)
        (λ e. (
          ltb-true _ _ (and_l (ltb f (length frames)) (ltb k (length fr.parts)) e),
          ltb-true _ _ (and_r (ltb f (length frames)) (ltb k (length fr.parts)) e),
        ))
        (λ e. absurd (omega (arith, rw e at (counts k))))

    once_at : (k : ℕ) → times f k (now ∷ past) + times f k fut ≤ 1
    once_at k = case_b (is_segment frames f k) (λ e. omega (arith, rw e at (counts k))) (λ e. omega (arith, rw e at (counts k)))

    is_now : times f j (now ∷ past) ≡ suc (times f j past)
    is_now = rw (eq-eqb f f refl, eq-eqb j j refl) (omega arith)

    pub lf : f < length frames
    lf = (real j (omega (arith, is_now))).0

    pub lj : j < length (frame_of frames f).parts
    lj = (real j (omega (arith, is_now))).1

    cut : Cut W header judge p fr
    cut = cuts f lf

    content_length : length (joined fr.parts) ≡ length fr.content
    content_length = ap length cut.bytes

    -- all segments given: every byte is received, and it is the frame's
    complete_yes : segments_of f fut ≡ 0 → all_below (length fr.content) (λ i. received_in (pieces frames f (now ∷ past)) i) ≡ true
    unfolding states
    complete_yes z = all_below_intro _ _ λ i (l : i < length fr.content).
        let w : Lies fr.parts i = part-some fr.parts i (omega (arith, content_length)) in
        let c : times f w.part (now ∷ past) + times f w.part fut ≡ 1 =
        cc (counts w.part, lt-ltb f (length frames) lf, lt-ltb w.part (length fr.parts) w.is_part) in
        holds frames f (now ∷ past) w.part i (omega (arith, times-le f w.part fut)) w.here

    content_right : segments_of f fut ≡ 0 → table (length fr.content) (λ i. byte_in (pieces frames f (now ∷ past)) i) ≡ fr.content
    content_right z =
        ext_get_or 0 _ _ (length-table (length fr.content) _) λ i l.
        let l' : i < length fr.content = omega (arith, length-table (length fr.content) (λ i. byte_in (pieces frames f (now ∷ past)) i)) in
        get_d_table (length fr.content) (λ i. byte_in (pieces frames f (now ∷ past)) i) 0 i l'
        ∙ right_byte frames f (now ∷ past) i (λ k t. (real k (omega arith)).1) (all_below-at _ _ (complete_yes z) i l')
        ∙ ap (λ (c : List ℕ). get_or c i 0) cut.bytes

    -- some segment still to come: its first byte is not received
    complete_no : 0 < segments_of f fut → all_below (length fr.content) (λ i. received_in (pieces frames f (now ∷ past)) i) ≡ false
    unfolding states
    complete_no u =
        let w : Given f fut = some-given f fut u in
        let k : ℕ = w.seg in
        let lk : k < length fr.parts = (real k (omega (arith, w.there))).1 in
        let i : ℕ = offset_of fr.parts k in
        let ne : 0 < size fr.parts k = cut.some_byte k lk in
        let li : i < length fr.content = omega (arith, part_end fr.parts k lk, content_length) in
        case_b (all_below (length fr.content) (λ i. received_in (pieces frames f (now ∷ past)) i))
        (λ e. let h : Holder frames f (now ∷ past) i = received_by frames f (now ∷ past) i (all_below-at _ _ e i li) in
        let lh : h.seg < length fr.parts = (real h.seg (omega (arith, h.was))).1 in
        let q : h.seg ≡ k = part_one fr.parts h.seg k i lh lk h.here (within_is i (size fr.parts k) i (omega arith) (omega arith)) in
        absurd (omega (arith, once_at k, w.there, subst (λ (t : ℕ). 0 < times f t (now ∷ past)) q h.was)))
        (λ e. e)

    -- no byte of the segment is received
    clear_way : some_below (tested_bytes (states fr j)) (λ i. received_in (pieces frames f past) (offset_of fr.parts j + i)) ≡ false
    unfolding states
    clear_way = some_below-none _ _ λ i (l : i < tested_bytes (states fr j)).
        case_b (received_in (pieces frames f past) (offset_of fr.parts j + i))
        (λ e. let h : Holder frames f past (offset_of fr.parts j + i) = received_by frames f past (offset_of fr.parts j + i) e in
        let lh : h.seg < length fr.parts = (real h.seg (omega (arith, h.was))).1 in
        let q : h.seg ≡ j = part_one fr.parts h.seg j (offset_of fr.parts j + i) lh lj h.here
        (within_is (offset_of fr.parts j) (size fr.parts j) _ (omega arith) (omega arith)) in
        absurd (omega (arith, once_at j, is_now, rw q at h.was)))
        (λ e. e)

    -- check 14 passes
    fits-now : Fits (states fr j)
    unfolding states
    fits-now =
        record {
          some_byte = cut.some_byte j lj;
          least = cut.least;
          most = cut.most;
          inside = omega (arith, part_end fr.parts j lj, content_length);
        }

    -- all segments given: what is noted is the frame's
    note_right : segments_of f fut ≡ 0 → notes frames f (now ∷ past) ≡ frame_note fr
    note_right z =
        notes-all frames f (now ∷ past) (λ k t. (real k (omega arith)).1)
        (λ k l. let c : times f k (now ∷ past) + times f k fut ≡ 1 = cc (counts k, lt-ltb f (length frames) lf, lt-ltb k (length fr.parts) l) in
        omega (arith, times-le f k fut))
        (λ k l. cut.some_byte k l)

    -- another frame pending bears another identifier
    near : (g : ℕ) → g < length frames → 0 < segments_of g past → 0 < segments_of g (now ∷ fut) → (frame_of frames g).identifier ≡ fr.identifier → g ≡ f
    near g lg b u q =
        mix.apart (reverse past) now fut (split_here past now fut is) g f lg lf
        (way past now fut g (omega arith) u)
        (way past now fut f (rw (eq-eqb f f refl) (omega arith)) (rw (eq-eqb f f refl) (omega arith))) q

    -- ---- the step itself: what taking the segment gives
    pub record Step (o : Effect ghost) : Type 0 where
      pub seats : Seats p frames (now ∷ past) fut o.row.slots o.mem
      pub waits : 0 < segments_of f fut → o.outcome ≡ Pending
      pub slot : ℕ
      pub is_slot : slot < most_slots
      pub done : segments_of f fut ≡ 0 → o.outcome ≡ Complete slot
      pub note : segments_of f fut ≡ 0 → o.note ≡ frame_note fr
      pub frame : segments_of f fut ≡ 0 → frame_in ghost o.mem (slot_no p slot) (length fr.content) ≡ fr.content

    finish-step : (s : ℕ) (row : List Slot) (m m' : ℕ → List Piece) (v : Slot) (note : Note) → s < most_slots → Seats p frames past (now ∷ fut) row m
        → ((t : ℕ) → t < most_slots → t ≢ s → (get_or row t free).pending ≡ true → (get_or row t free).identifier ≢ fr.identifier)
        → ((get_or row s free).pending ≡ true → (get_or row s free).identifier ≡ fr.identifier)
        → m' (slot_no p s) ≡ pieces frames f (now ∷ past)
        → ((t : ℕ) → t ≢ s → m' (slot_no p t) ≡ m (slot_no p t))
        → v ≡ slot_of p frames f (now ∷ past) → note ≡ notes frames f (now ∷ past)
        → Step (finish ghost p s (set row s v) m' (states fr j) note)
    unfolding states
    finish-step s row m m' v note ls h others mine st left vs nt =
        case_b (ltb 0 (segments_of f fut))
        (λ e. let u : 0 < segments_of f fut = ltb-true 0 (segments_of f fut) e in
        let w : complete ghost m' (slot_no p s) (length fr.content) ≡ false = complete_is m' (slot_no p s) (length fr.content) _ st ∙ complete_no u in
        rw w
        (record {
          seats = settle p frames past fut f j s row m m' v lf ls cut.most h others mine (λ g lg b u. near g lg b (omega arith)) st left (λ t. (vs, u))
              (λ t. vs);
          waits = λ t. refl;
          slot = s;
          is_slot = ls;
          done = λ z. absurd (omega arith);
          note = λ z. absurd (omega arith);
          frame = λ z. absurd (omega arith);
        }))
        (λ e. let z : segments_of f fut ≡ 0 = omega (arith, ltb-false 0 (segments_of f fut) e) in
        let w : complete ghost m' (slot_no p s) (length fr.content) ≡ true = complete_is m' (slot_no p s) (length fr.content) _ st ∙ complete_yes z in
        rw (w, set-set)
        (record {
          seats = settle p frames past fut f j s row m m' free lf ls cut.most h others mine (λ g lg b u. near g lg b (omega arith)) st left
              (λ t. clash (cc)) (λ t. absurd (omega arith));
          waits = λ t. absurd (omega arith);
          slot = s;
          is_slot = ls;
          done = λ t. refl;
          note = λ t. nt ∙ note_right z;
          frame = λ t. frame_is m' (slot_no p s) (length fr.content) _ st ∙ content_right z;
        }))

    -- a pending frame: its slot is found
    find-old : (row : List Slot) (m : ℕ → List Piece) (h : Seats p frames past (now ∷ fut) row m) (o : Seat p frames past row m f)
        → chosen row (states fr j) ≡ old o.at
    unfolding states
    find-old row m h o =
        let on : bears fr.identifier (get_or row o.at free) ≡ true = bears_is fr.identifier (get_or row o.at free) (rw o.slot) (rw o.slot) in
        case_o (first (bears fr.identifier) row)
        (λ n. clash (cc (first-none (bears fr.identifier) row n o.at o.is_slot)))
        (λ t n. let b : First (bears fr.identifier) row t = first_some (bears fr.identifier) row t n in
        let tp : (get_or row t free).pending ≡ true = bears-pending fr.identifier (get_or row t free) b.passes in
        let ti : (get_or row t free).identifier ≡ fr.identifier = bears_identifier fr.identifier (get_or row t free) b.passes in
        let z : t ≡ o.at = h.alone t o.at b.is_slot o.is_slot tp (rw o.slot) (cc (ti, o.slot)) in
        let sz : (get_or row t free).frame_length ≡ length fr.content = rw (z, o.slot) in
        chosen-fits row (states fr j) fits-now ∙ rw (n, eq-eqb (get_or row t free).frame_length (length fr.content) sz, z))

    take-old : (row : List Slot) (m : ℕ → List Piece) → Seats p frames past (now ∷ fut) row m → 0 < segments_of f past
        → Step (placed ghost p row m (states fr j) (chosen row (states fr j)))
    unfolding slot_no states
    take-old row m h b =
        let o : Seat p frames past row m f = h.seat f lf b (rw (eq-eqb f f refl) (omega arith)) in
        let s : ℕ = o.at in
        let way-clear : overlaps ghost m (slot_no p s) (states fr j) ≡ false = overlaps_is m (slot_no p s) (states fr j) _ o.store ∙ clear_way in
        let nt : note_after (note_of (get_or row s free)) (states fr j) ≡ notes frames f (now ∷ past) =
        ap (λ (x : Slot). note_after (note_of x) (states fr j)) o.slot
        ∙ ap (λ (x : Note). note_after x (states fr j)) (note_of-pending fr.identifier (length fr.content) (age frames f past) (notes frames f past))
        ∙ sym (notes-now p frames f j past) in
        let vs : further_slot (get_or row s free) (states fr j) ≡ slot_of p frames f (now ∷ past) =
        ap (λ (x : Slot). pending_slot x.identifier x.frame_length x.age (note_after (note_of (get_or row s free)) (states fr j))) o.slot
        ∙ ap (λ (x : Note). pending_slot fr.identifier (length fr.content) (age frames f past) x) nt in
        rw (find-old row m h o)
        (rw way-clear
        (finish-step s row m (ghost.put m (slot_no p s) (offset_of fr.parts j) (stored_bytes (states fr j))) _ _ o.is_slot h
        (λ t lt n e q. n (h.alone t s lt o.is_slot e (rw o.slot) (cc o.slot)))
        (λ e. rw o.slot)
        (upd_same m (slot_no p s) _ ∙ cc (o.store, eq-eqb f f refl))
        (λ t n. upd_other m (slot_no p s) _ (slot_no p t) (λ q. n (omega arith)))
        vs nt))

    -- a new frame: no slot bears its identifier, and one of the four is free
    module _ (row : List Slot) (m : ℕ → List Piece) (h : Seats p frames past (now ∷ fut) row m) (z : segments_of f past ≡ 0) where
      no_bearer : (t : ℕ) → t < most_slots → (get_or row t free).pending ≡ true → (get_or row t free).identifier ≢ fr.identifier
      no_bearer t lt e q =
          let o : Owner p frames past (now ∷ fut) row m t = h.owner t lt e in
          let w : o.frame ≡ f = near o.frame o.is_frame o.begun o.unfinished (cc o.slot) in
          absurd (omega (arith, rw w at o.begun))

      not_found : first (bears fr.identifier) row ≡ none
      not_found =
          case_o (first (bears fr.identifier) row)
          (λ n. n)
          (λ t n. let b : First (bears fr.identifier) row t = first_some (bears fr.identifier) row t n in
          absurd (no_bearer t b.is_slot (bears-pending fr.identifier (get_or row t free) b.passes)
          (bears_identifier fr.identifier (get_or row t free) b.passes)))

      not_full : first is_free_slot row ≡ none → ⊥
      not_full e =
          let all : (s : ℕ) → s < most_slots → (get_or row s free).pending ≡ true =
          λ s ls. not_free (get_or row s free) (first-none is_free_slot row e s ls) in
          let o : (s : ℕ) → s < most_slots → Owner p frames past (now ∷ fut) row m s = λ s ls. h.owner s ls (all s ls) in
          let not_f : (s : ℕ) (ls : s < most_slots) → (o s ls).frame ≢ f = λ s ls q. absurd (omega (arith, rw q at (o s ls).begun)) in
          let differ : (s t : ℕ) (ls : s < most_slots) (lt : t < most_slots) → s ≢ t → (o s ls).frame ≢ (o t lt).frame =
          λ s t ls lt n q. n (h.alone s t ls lt (all s ls) (all t lt) (cc ((o s ls).slot, (o t lt).slot))) in
          let on : (s : ℕ) (ls : s < most_slots) → pending_at (reverse past) now fut (o s ls).frame ≡ true =
          λ s ls. way past now fut (o s ls).frame (omega (arith, (o s ls).begun)) (o s ls).unfinished in
          let l0 : 0 < most_slots = omega arith in
          let l1 : 1 < most_slots = omega arith in
          let l2 : 2 < most_slots = omega arith in
          let l3 : 3 < most_slots = omega arith in
          let k : 5 ≤ how_many (length frames) (pending_at (reverse past) now fut) =
          five (length frames) (pending_at (reverse past) now fut) f (o 0 l0).frame (o 1 l1).frame (o 2 l2).frame (o 3 l3).frame
          lf (o 0 l0).is_frame (o 1 l1).is_frame (o 2 l2).is_frame (o 3 l3).is_frame
          (way past now fut f (rw (eq-eqb f f refl) (omega arith)) (rw (eq-eqb f f refl) (omega arith))) (on 0 l0) (on 1 l1) (on 2 l2) (on 3 l3)
          (not_f 0 l0) (not_f 1 l1) (not_f 2 l2) (not_f 3 l3)
          (differ 1 0 l1 l0 (omega arith)) (differ 2 0 l2 l0 (omega arith)) (differ 3 0 l3 l0 (omega arith))
          (differ 2 1 l2 l1 (omega arith)) (differ 3 1 l3 l1 (omega arith)) (differ 3 2 l3 l2 (omega arith)) in
          absurd (omega (arith, mix.four (reverse past) now fut (split_here past now fut is)))

      take-fresh : Step (placed ghost p row m (states fr j) (chosen row (states fr j)))
      unfolding slot_no states
      take-fresh =
          case_o (first is_free_slot row)
          (λ n. absurd (not_full n))
          (λ lowest n. let o = chosen_opens row (states fr j) fits-now not_found lowest n in
          let s : ℕ = o.0 in
          let is_free : (get_or row s free).pending ≡ false = o.1.1.1 in
          let c : chosen row (states fr j) ≡ fresh s = o.1.0 in
          let m₁ : ℕ → List Piece = ghost.clear m (slot_no p s) in
          let nt : note_after no_note (states fr j) ≡ notes frames f (now ∷ past) =
          ap (λ (x : Note). note_after x (states fr j)) (sym (notes-none past z)) ∙ sym (notes-now p frames f j past) in
          let vs : opened_slot (states fr j) ≡ slot_of p frames f (now ∷ past) =
          ap (λ (x : ℕ). pending_slot fr.identifier (length fr.content) x (note_after no_note (states fr j))) (sym (age-none frames f past z))
          ∙ ap (λ (x : Note). pending_slot fr.identifier (length fr.content) (age frames f past) x) nt in
          rw c
          (finish-step s row m (ghost.put m₁ (slot_no p s) (offset_of fr.parts j) (part_of fr j).bytes) _ _ o.1.1.0 h
          (λ t lt d e. no_bearer t lt e)
          (λ e. clash (cc (is_free)))
          (upd_same m₁ (slot_no p s) _ ∙ cc (upd_same m (slot_no p s) [], pieces_none frames f past z, eq-eqb f f refl))
          (λ t d. upd_other m₁ (slot_no p s) _ (slot_no p t) (λ q. d (omega arith)) ∙ upd_other m (slot_no p s) [] (slot_no p t) (λ q. d (omega arith)))
          vs nt))
        where
          notes-none : (past : List Item) → segments_of f past ≡ 0 → notes frames f past ≡ no_note
          notes-none [] z = refl
          notes-none (given g j ∷ past) z = case_b (eqb g f) (λ e. absurd (omega (arith, rw e at z))) (λ e. rw e (notes-none past (omega (arith, rw e at z))))
          notes-none (other e ∷ past) z = notes-none past (omega arith)

    pub take_step : (row : Peer) (m : ℕ → List Piece) → Seats p frames past (now ∷ fut) row.slots m → Step (take_segment ghost p row m (states fr j))
    unfolding take_segment
    take_step row m h =
        case_b (ltb 0 (segments_of f past))
        (λ e. take-old row.slots m h (ltb-true 0 (segments_of f past) e))
        (λ e. take-fresh row.slots m h (omega (arith, ltb-false 0 (segments_of f past) e)))

  -- ---- a tick: no frame pending is four ticks old
  young_by : (past fut : List Item) → reverse_aux past (other tick ∷ fut) ≡ items → (g : ℕ) → Since frames g past → Splits g fut
      → age frames g past + 1 < lifetime
  young_by past fut is g a c =
      let e : items ≡ a.before ++ (given g a.seg ∷ ((a.middle ++ (other tick ∷ c.before)) ++ (given g c.seg ∷ c.after))) =
      split_here past (other tick) fut is ∙ rw (a.is, c.is) (simp append_assoc) in
      omega (
        arith,
        mix.soon a.before (a.middle ++ (other tick ∷ c.before)) c.after g a.seg c.seg e,
        ticks-append a.middle (other tick ∷ c.before),
        a.aged,
      )

  young : (past fut : List Item) → reverse_aux past (other tick ∷ fut) ≡ items → (g : ℕ) → 0 < segments_of g past → 0 < segments_of g fut
      → age frames g past + 1 < lifetime
  young past fut is g b u = young_by past fut is g (since frames g past b) (splits g fut u)

  older-slot : (past : List Item) (g : ℕ) → 0 < segments_of g past → age frames g past + 1 < lifetime
      → older (slot_of p frames g past) ≡ slot_of p frames g (other tick ∷ past)
  older-slot past g b y =
      let a : age frames g past + 1 ≡ age frames g (other tick ∷ past) = rw (lt-ltb 0 (segments_of g past) b) in
      older_stays (frame_of frames g).identifier (length (frame_of frames g).content) (age frames g past) (notes frames g past) y
      ∙ ap (λ (x : ℕ). pending_slot (frame_of frames g).identifier (length (frame_of frames g).content) x (notes frames g past)) a

  pub tick_seats : (past fut : List Item) (row : List Slot) (m : ℕ → List Piece) → reverse_aux past (other tick ∷ fut) ≡ items
      → Seats p frames past (other tick ∷ fut) row m → Seats p frames (other tick ∷ past) fut (map older row) m
  tick_seats past fut row m is h =
      let at : (s : ℕ) → get_or (map older row) s free ≡ older (get_or row s free) = λ s. older-at row s in
      let back : (s : ℕ) → (get_or (map older row) s free).pending ≡ true → (get_or row s free).pending ≡ true =
      λ s e. (older-pending (get_or row s free) (rw (at s) at e)).0 in
      let grown : (s g : ℕ) → get_or row s free ≡ slot_of p frames g past → 0 < segments_of g past → 0 < segments_of g fut
      → get_or (map older row) s free ≡ slot_of p frames g (other tick ∷ past) =
      λ s g e b u. at s ∙ ap older e ∙ older-slot past g b (young past fut is g b u) in
      let now : (s : ℕ) → s < most_slots → (get_or (map older row) s free).pending ≡ true → Owner p frames (other tick ∷ past) fut (map older row) m s =
      λ s ls e. let o : Owner p frames past (other tick ∷ fut) row m s = h.owner s ls (back s e) in
      record {
        frame = o.frame;
        is_frame = o.is_frame;
        begun = omega (arith, o.begun);
        unfinished = omega (arith, o.unfinished);
        slot = grown s o.frame o.slot o.begun (omega (arith, o.unfinished));
        store = o.store;
      } in
      let ident : (s : ℕ) → s < most_slots → (get_or (map older row) s free).pending ≡ true → (get_or (map older row) s free).identifier
      ≡ (get_or row s free).identifier =
      λ s ls e. let o : Owner p frames past (other tick ∷ fut) row m s = h.owner s ls (back s e) in
      cc (grown s o.frame o.slot o.begun (omega (arith, o.unfinished)), o.slot) in
      record {
        row_ok =
            record {
              four = length-map row older ∙ h.row_ok.four;
              sizes = λ s ls e. let o : Owner p frames (other tick ∷ past) fut (map older row) m s = now s ls e in
                  rw o.slot (cuts o.frame o.is_frame).most;
            };
        owner = now;
        seat = λ g lg b u.
            let b' : 0 < segments_of g past = omega arith in
            let o : Seat p frames past row m g = h.seat g lg b' (omega arith) in
            record { at = o.at; is_slot = o.is_slot; slot = grown o.at g o.slot b' u; store = o.store };
        alone = λ s t ls lt es et q. h.alone s t ls lt (back s es) (back t et) (cc (ident s ls es, ident t lt et));
      }

  -- ---- any other event of the peer's, or none: nothing changes
  pub other_seats : (past fut : List Item) (k : List ℕ) (row : List Slot) (m : ℕ → List Piece) → Seats p frames past (other (receive k) ∷ fut) row m
      → Seats p frames (other (receive k) ∷ past) fut row m
  other_seats past fut k row m h =
      record {
        row_ok = h.row_ok;
        owner = λ s ls e. let o : Owner p frames past (other (receive k) ∷ fut) row m s = h.owner s ls e in
            record {
              frame = o.frame;
              is_frame = o.is_frame;
              begun = omega (arith, o.begun);
              unfinished = omega (arith, o.unfinished);
              slot = o.slot;
              store = o.store;
            };
        seat = λ g lg b u. let o : Seat p frames past row m g = h.seat g lg (omega arith) (omega arith) in
            record { at = o.at; is_slot = o.is_slot; slot = o.slot; store = o.store };
        alone = h.alone;
      }
