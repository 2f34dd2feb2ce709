-- The log of a run: the segments taken for each slot of a peer since its frame opened, latest first. It is what the memory of pieces (`Ghost`) keeps, told
-- from the run itself.
use Rattle.std.specs.Prelude.{◌≡◌, ◌≢◌, Bool, false, length, set, eqb}
use Rattle.std.proofs.Math.Path.{refl, ap, subst}
use Rattle.std.proofs.Common.{sym, ◌∙◌, arith, length-set, eqb-true, eq-eqb, ne_eqb}
use Rattle.std.proofs.Math.Bool.{true}
use mathlib.Core.List.{List, [], ◌∷◌, map}
use Prim.Native.Nat.{ℕ, zero, suc, ◌+◌, ◌-◌, ◌≤◌, ◌<◌}
use Rattle.std.proofs.Math.ListN.{get_or}
use Rattle.std.proofs.lemmas.List.{length-map}
use Rattle.std.proofs.lemmas.Bool.{eqb-false}
use Rattle.reassembly.specs.Base.{some_below, table}
use Rattle.reassembly.proofs.Laws.Base.{case_b, either, clash, below_suc, or_false-l, or_false_r, all_below-at, get_d_table}
use Rattle.reassembly.specs.Slots.{Slot, Peer, Note, no_note, note_of, free, older, most_slots}
use Rattle.reassembly.proofs.Laws.Slots.{older-pending}
use Rattle.reassembly.specs.Take.{slot_no, Seg, Rejected, Pending, Complete, AlreadyReceived, Choice, reject, old, fresh, chosen, tested_bytes, stored_bytes}
use Rattle.reassembly.specs.Take.{note_after, opened_slot, further_slot, Effect, complete, overlaps, frame_in, finish, placed, take_segment}
use Rattle.reassembly.proofs.Laws.TakeFacts.{ChoiceFacts, chosen_facts, not_complete, complete-slot}
use Rattle.reassembly.proofs.Laws.Memory.{within_low, within_high}
use Rattle.reassembly.proofs.Laws.Sim.{set_cases}
use Rattle.reassembly.proofs.Laws.Runs.{older-at}
use Rattle.reassembly.proofs.Laws.Ghost.{Piece, received_in, byte_in, ghost, upd_same, upd_other}
use Rattle.reassembly.specs.History.{Log, writes, enters, entered, logged, carries, no_seg, OneOf, OfFrame}

-- ---- what the log keeps to

abbrev pub piece_of : Seg → Piece
piece_of g = record { offset = g.offset; bytes = g.bytes }

abbrev pub AllOf : ℕ → ℕ → List Seg → Type 0
AllOf id n [] = Unit {0}
AllOf id n (g ∷ gs) = OfFrame id n g × AllOf id n gs

-- no byte is covered twice
abbrev pub AllApart : List Seg → Type 0
AllApart [] = Unit {0}
AllApart (g ∷ gs) = ((i : ℕ) → carries g i ≡ true → received_in (map piece_of gs) i ≡ false) × AllApart gs

pub all_of_at : (id n : ℕ) (gs : List Seg) → AllOf id n gs → (j : ℕ) → j < length gs → OfFrame id n (get_or gs j no_seg)
all_of_at id n [] a j l = absurd (omega arith)
all_of_at id n (g ∷ gs) a zero l = a.0
all_of_at id n (g ∷ gs) a (suc j) l = all_of_at id n gs a.1 j (omega arith)

-- a byte that some segment covers is received
covered : (gs : List Seg) (j i : ℕ) → j < length gs → carries (get_or gs j no_seg) i ≡ true → received_in (map piece_of gs) i ≡ true
covered [] j i l e = absurd (omega arith)
covered (g ∷ gs) zero i l e = rw e
covered (g ∷ gs) (suc j) i l e = case_b (carries g i) (λ q. rw q) (λ q. rw q (covered gs j i (omega arith) e))

pub one_of : (gs : List Seg) (i : ℕ) → AllApart gs → received_in (map piece_of gs) i ≡ true → OneOf gs i (byte_in (map piece_of gs) i)
one_of [] i a e = clash (cc)
one_of (g ∷ gs) i a e =
    case_b (carries g i)
    (λ q. record { which = 0; is_one = omega arith; covering = q; only = first q; byte = rw q })
    (λ q. let r : OneOf gs i (byte_in (map piece_of gs) i) = one_of gs i a.1 (rw q at e) in
    record { which = suc r.which; is_one = omega (arith, r.is_one); covering = r.covering; only = later q r; byte = rw q r.byte })
  where
    first : carries g i ≡ true → (j : ℕ) → j < suc (length gs) → carries (get_or (g ∷ gs) j no_seg) i ≡ true → j ≡ 0
    first q zero l c = refl
    first q (suc j) l c = clash (cc (a.0 i q, covered gs j i (omega arith) c))

    later : carries g i ≡ false → (r : OneOf gs i (byte_in (map piece_of gs) i)) → (j : ℕ) → j < suc (length gs) → carries (get_or (g ∷ gs) j no_seg) i ≡ true
        → j ≡ suc r.which
    later q r zero l c = clash (cc)
    later q r (suc j) l c = ap suc (r.only j (omega arith) c)

-- one segment at most covers a byte
pub apart_at_lem : (gs : List Seg) → AllApart gs → (i j k : ℕ) → j < length gs → k < length gs → carries (get_or gs j no_seg) i ≡ true
    → carries (get_or gs k no_seg) i ≡ true → j ≡ k
apart_at_lem gs a i j k lj lk cj ck =
    let r : OneOf gs i (byte_in (map piece_of gs) i) = one_of gs i a (covered gs j i lj cj) in
    r.only j lj cj ∙ sym (r.only k lk ck)

pub writes-same : (L : Log) (s : ℕ) (gs : List Seg) → writes L s gs s ≡ gs
writes-same L s gs = rw (eq-eqb s s refl)

pub writes-other : (L : Log) (s : ℕ) (gs : List Seg) (t : ℕ) → t ≢ s → writes L s gs t ≡ L t
writes-other L s gs t n = rw (ne_eqb t s n)

-- the memory of pieces keeps the log; the segments logged for a pending frame are of it, and no byte is covered twice
pub record Logs (p : ℕ) (row : List Slot) (m : ℕ → List Piece) (L : Log) : Type 0 where
  pub four : length row ≡ most_slots
  pub pieces : (s : ℕ) → s < most_slots → m (slot_no p s) ≡ map piece_of (L s)
  pub all_of : (s : ℕ) → s < most_slots → (get_or row s free).pending ≡ true → AllOf (get_or row s free).identifier (get_or row s free).frame_length (L s)
  pub all_apart : (s : ℕ) → s < most_slots → (get_or row s free).pending ≡ true → AllApart (L s)

-- what a segment that was taken leaves in its slot's list
pub record Pieced (p s : ℕ) (g : Seg) (m : ℕ → List Piece) (gs : List Seg) : Type 0 where
  pub earlier : List Seg
  pub latest : gs ≡ g ∷ earlier
  pub pieces : m (slot_no p s) ≡ map piece_of gs
  pub all_of : AllOf g.identifier g.frame_length gs
  pub all_apart : AllApart gs

some_below-at : (n : ℕ) (f : ℕ → Bool) → some_below n f ≡ false → (i : ℕ) → i < n → f i ≡ false
unfolding some_below
some_below-at zero f e i l = absurd (omega arith)
some_below-at (suc n) f e i l =
    either (below_suc l)
    (λ h. some_below-at n f (or_false_r (f n) (some_below n f) e) i h)
    (λ q. rw q (or_false-l (f n) (some_below n f) e))

-- no byte of the segment is received: whatever it covers is not
apart_from : (m : ℕ → List Piece) (k : ℕ) (g : Seg) (gs : List Seg) → m k ≡ map piece_of gs → overlaps ghost m k g ≡ false → (i : ℕ) → carries g i ≡ true
    → received_in (map piece_of gs) i ≡ false
unfolding overlaps
apart_from m k g gs e o i c =
    let lo : g.offset ≤ i = within_low g.offset (length g.bytes) i c in
    let hi : i < g.offset + length g.bytes = within_high g.offset (length g.bytes) i c in
    let z : g.offset + (i - g.offset) ≡ i = omega arith in
    let f : received_in (m k) (g.offset + (i - g.offset)) ≡ false =
    some_below-at (tested_bytes g) (λ i. received_in (m k) (g.offset + i)) o (i - g.offset) (omega arith) in
    ap (λ (x : List Piece). received_in x i) (sym e) ∙ ap (λ (x : ℕ). received_in (m k) x) (sym z) ∙ f

module _ (p : ℕ) where
  -- slot s has been written in row, memory and log
  put_logs : (row : List Slot) (m m' : ℕ → List Piece) (L : Log) (s : ℕ) (v : Slot) (gs : List Seg) → s < most_slots → Logs p row m L
      → ((t : ℕ) → t ≢ s → m' (slot_no p t) ≡ m (slot_no p t)) → m' (slot_no p s) ≡ map piece_of gs
      → (v.pending ≡ true → AllOf v.identifier v.frame_length gs × AllApart gs)
      → Logs p (set row s v) m' (writes L s gs)
  put_logs row m m' L s v gs ls h left here own =
      record {
        four = length-set row s v ∙ h.four;
        pieces = λ t lt.
            case_b (eqb t s)
            (λ q. let z : t ≡ s = eqb-true t s q in rw (q, z) here)
            (λ q. let n : t ≢ s = eqb-false t s q in rw q (left t n ∙ h.pieces t lt));
        all_of = λ t lt e.
            either (set_cases row s v free t (omega (arith, h.four)))
            (λ c. rw (c.1, c.0, writes-same L s gs) (own (rw c.1 at e)).0)
            (λ c. rw (c.1, writes-other L s gs t c.0) (h.all_of t lt (rw c.1 at e)));
        all_apart = λ t lt e.
            either (set_cases row s v free t (omega (arith, h.four)))
            (λ c. rw (c.0, writes-same L s gs) (own (rw c.1 at e)).1)
            (λ c. rw (writes-other L s gs t c.0) (h.all_apart t lt (rw c.1 at e)));
      }

  -- the slot is freed
  free_logs : (row : List Slot) (m : ℕ → List Piece) (L : Log) (s : ℕ) → s < most_slots → Logs p row m L → Logs p (set row s free) m L
  free_logs row m L s ls h =
      record {
        four = length-set row s free ∙ h.four;
        pieces = h.pieces;
        all_of = λ t lt e. either (set_cases row s free free t (omega (arith, h.four))) (λ c. clash (cc c.1))
            (λ c. rw c.1 (h.all_of t lt (rw c.1 at e)));
        all_apart = λ t lt e. either (set_cases row s free free t (omega (arith, h.four))) (λ c. clash (cc c.1)) (λ c. h.all_apart t lt (rw c.1 at e));
      }

  -- after a segment: the log is kept; where it completes a frame, that frame's list makes it up
  pub record Logged (g : Seg) (o : Effect ghost) (L : Log) : Type 0 where
    pub logs : Logs p o.row.slots o.mem L
    pub pieced : (t : ℕ) → o.outcome ≡ Complete t → Pieced p t g o.mem (L t) × (complete ghost o.mem (slot_no p t) g.frame_length ≡ true)

  finish_logs : (row : List Slot) (m : ℕ → List Piece) (L : Log) (s : ℕ) (g : Seg) (note : Note) → s < most_slots → Logs p row m L
      → Pieced p s g m (L s) → Logged g (finish ghost p s row m g note) L
  finish_logs row m L s g note ls h w =
      case_b (complete ghost m (slot_no p s) g.frame_length)
      (λ e. rw e
      (record {
        logs = free_logs row m L s ls h;
        pieced = λ t q. let z : s ≡ t = complete-slot s t q in rw (← z) (w, e);
      }))
      (λ e. rw e
      (record {
        logs = h;
        pieced = λ t q. not_complete Pending t refl q;
      }))

  -- a segment that comes so far is entered
  finish-enters : (L : Log) (c : Choice) (row : List Slot) (m : ℕ → List Piece) (s : ℕ) (g : Seg) (note : Note)
      → enters L g c ≡ entered L g c (finish ghost p s row m g note).outcome
  finish-enters L c row m s g note = case_b (complete ghost m (slot_no p s) g.frame_length) (λ e. rw e) (λ e. rw e)

  placed_logs : (row : List Slot) (m : ℕ → List Piece) (L : Log) (g : Seg) (c : Choice) → ChoiceFacts row g c → Logs p row m L
      → Logged g (placed ghost p row m g c) (entered L g c (placed ghost p row m g c).outcome)
  unfolding slot_no
  placed_logs row m L g (reject r) q h = record { logs = h; pieced = λ t e. not_complete (Rejected r) t refl e }
  placed_logs row m L g (old s) q h =
      let ls : s < most_slots = q.is_slot in
      let v : Slot = further_slot (get_or row s free) g in
      let m' : ℕ → List Piece = ghost.put m (slot_no p s) g.offset (stored_bytes g) in
      case_b (overlaps ghost m (slot_no p s) g)
      (λ e. rw e (record { logs = h; pieced = λ t z. not_complete (Rejected AlreadyReceived) t refl z }))
      (λ e. let pieces : m' (slot_no p s) ≡ map piece_of (g ∷ L s) = upd_same m (slot_no p s) _ ∙ ap (λ (x : List Piece). piece_of g ∷ x) (h.pieces s ls) in
      let of-it : OfFrame g.identifier g.frame_length g = record { identifier = refl; size = refl; fits = q.fits } in
      let all_of : AllOf g.identifier g.frame_length (g ∷ L s) = (of-it, rw (q.identifier, q.size) at (h.all_of s ls q.pending)) in
      let all_apart : AllApart (g ∷ L s) = (apart_from m (slot_no p s) g (L s) (h.pieces s ls) e, h.all_apart s ls q.pending) in
      let logs : Logs p (set row s v) m' (writes L s (g ∷ L s)) =
      put_logs row m m' L s v (g ∷ L s) ls h (λ t n. upd_other m (slot_no p s) _ (slot_no p t) (λ z. n (omega arith))) pieces
      (λ t. ((record { identifier = sym q.identifier; size = sym q.size; fits = q.fits }, h.all_of s ls q.pending), all_apart)) in
      let w : Pieced p s g m' (writes L s (g ∷ L s) s) = rw (writes-same L s (g ∷ L s))
      (record { earlier = L s; latest = refl; pieces = pieces; all_of = all_of; all_apart = all_apart }) in
      let n : Note = note_after (note_of (get_or row s free)) g in
      rw e
      (subst (λ (x : Log). Logged g (finish ghost p s (set row s v) m' g n) x) (finish-enters L (old s) (set row s v) m' s g n)
      (finish_logs (set row s v) m' (writes L s (g ∷ L s)) s g n ls logs w)))
  placed_logs row m L g (fresh s) q h =
      let ls : s < most_slots = q.is_slot in
      let v : Slot = opened_slot g in
      let m₁ : ℕ → List Piece = ghost.clear m (slot_no p s) in
      let m' : ℕ → List Piece = ghost.put m₁ (slot_no p s) g.offset g.bytes in
      let pieces : m' (slot_no p s) ≡ map piece_of (g ∷ []) = upd_same m₁ (slot_no p s) _ ∙ ap (λ (x : List Piece). piece_of g ∷ x) (upd_same m (slot_no p s) []) in
      let of-it : OfFrame g.identifier g.frame_length g = record { identifier = refl; size = refl; fits = q.fits } in
      let all_of : AllOf g.identifier g.frame_length (g ∷ []) = (of-it, tt) in
      let all_apart : AllApart (g ∷ []) = ((λ i e. refl), tt) in
      let logs : Logs p (set row s v) m' (writes L s (g ∷ [])) =
      put_logs row m m' L s v (g ∷ []) ls h
      (λ t n. upd_other m₁ (slot_no p s) _ (slot_no p t) (λ z. n (omega arith)) ∙ upd_other m (slot_no p s) [] (slot_no p t) (λ z. n (omega arith))) pieces
      (λ t. (all_of, all_apart)) in
      let w : Pieced p s g m' (writes L s (g ∷ []) s) = rw (writes-same L s (g ∷ []))
      (record { earlier = []; latest = refl; pieces = pieces; all_of = all_of; all_apart = all_apart }) in
      subst (λ (x : Log). Logged g (finish ghost p s (set row s v) m' g (note_after no_note g)) x)
      (finish-enters L (fresh s) (set row s v) m' s g (note_after no_note g))
      (finish_logs (set row s v) m' (writes L s (g ∷ [])) s g (note_after no_note g) ls logs w)

  pub take_logs : (row : Peer) (m : ℕ → List Piece) (L : Log) (g : Seg) → Logs p row.slots m L
      → Logged g (take_segment ghost p row m g) (logged L row.slots g (take_segment ghost p row m g).outcome)
  unfolding take_segment
  take_logs row m L g h = placed_logs row.slots m L g (chosen row.slots g) (chosen_facts row.slots g) h

  -- a tick leaves the log
  pub tick_logs : (row : List Slot) (m : ℕ → List Piece) (L : Log) → Logs p row m L → Logs p (map older row) m L
  tick_logs row m L h =
      record {
        four = length-map row older ∙ h.four;
        pieces = h.pieces;
        all_of = λ s ls e.
            let z : get_or (map older row) s free ≡ older (get_or row s free) = older-at row s in
            let b = older-pending (get_or row s free) (rw z at e) in
            rw (z, b.1) (h.all_of s ls b.0);
        all_apart = λ s ls e.
            let z : get_or (map older row) s free ≡ older (get_or row s free) = older-at row s in
            h.all_apart s ls (older-pending (get_or row s free) (rw z at e)).0;
      }

  -- the list makes up the frame: each byte is from the one segment that covers it
  pub pieced_byte : (s : ℕ) (g : Seg) (m : ℕ → List Piece) (gs : List Seg) → Pieced p s g m gs → complete ghost m (slot_no p s) g.frame_length ≡ true
      → (i : ℕ) → i < g.frame_length
      → OneOf gs i (get_or (frame_in ghost m (slot_no p s) g.frame_length) i 0)
  unfolding complete frame_in
  pieced_byte s g m gs w c i l =
      let n : ℕ = g.frame_length in
      let z : get_or (table n (λ i. byte_in (m (slot_no p s)) i)) i 0 ≡ byte_in (map piece_of gs) i = get_d_table n (λ i. byte_in (m (slot_no p s)) i) 0 i l
      ∙ ap (λ (x : List Piece). byte_in x i) w.pieces in
      let r : received_in (map piece_of gs) i ≡ true = ap (λ (x : List Piece). received_in x i) (sym w.pieces)
      ∙ all_below-at n (λ i. received_in (m (slot_no p s)) i) c i l in
      subst (λ (b : ℕ). OneOf gs i b) (sym z) (one_of gs i w.all_apart r)
