-- What the decision on a segment tells of the segment and the row, and an outcome of the segment.
use Rattle.std.specs.Prelude.{◌≡◌, refl, ◌≢◌, Bool, true, false, ◌||◌, List, ℕ, ◌+◌, ◌≤◌, ◌<◌, length, get_or, set, ltb, eqb}
use Rattle.std.proofs.Common.{ap, ◌∙◌, arith, ltb-false, eqb-true, le-ltb, eq-eqb, ne_eqb}
use Rattle.std.proofs.Math.Option.{Option, none, some}
use Rattle.std.proofs.lemmas.Bool.{eqb-false}
use Rattle.reassembly.proofs.Laws.Base.{length-table, case_b, clash, and_l, and_r, or_false-l, or_false_r}
use Rattle.reassembly.specs.Slots.{Slot, Peer, Note, no_note, note_of, free, first, bears, is_free_slot, most_slots}
use Rattle.reassembly.proofs.Laws.Slots.{First, first_some, first-none}
use Rattle.reassembly.specs.Take.{slot_no, Seg, Ops, Rejection, Empty, FrameLength, PastEnd, LengthDiffers, AlreadyReceived, NoSlot, rejection_code}
use Rattle.reassembly.specs.Take.{Outcome}
use Rattle.reassembly.specs.Take.{Rejected, Pending, Complete, NoMemory, stored_bytes, note_after, opened_slot, further_slot, complete, overlaps, frame_in}
use Rattle.reassembly.specs.Take.{finish, placed, take_segment, Choice, reject, old, fresh, choose, choose_new, chosen}
pub use Rattle.reassembly.specs.Take.{Fits, Old, Fresh}

pub stored-length : (g : Seg) → length (stored_bytes g) ≡ length g.bytes
stored-length g = refl

abbrev pub ChoiceFacts : List Slot → Seg → Choice → Type 0
ChoiceFacts row g (reject r) = Unit {0}
ChoiceFacts row g (old s) = Old row g s
ChoiceFacts row g (fresh s) = Fresh row g s

pub bears_is : (id : ℕ) (v : Slot) → v.pending ≡ true → v.identifier ≡ id → bears id v ≡ true
unfolding bears
bears_is id v p i = rw p (eq-eqb v.identifier id i)

pub bears-pending : (id : ℕ) (v : Slot) → bears id v ≡ true → v.pending ≡ true
unfolding bears
bears-pending id v e = and_l v.pending (eqb v.identifier id) e

pub bears_identifier : (id : ℕ) (v : Slot) → bears id v ≡ true → v.identifier ≡ id
unfolding bears
bears_identifier id v e = eqb-true v.identifier id (and_r v.pending (eqb v.identifier id) e)

pub is_free-false : (v : Slot) → is_free_slot v ≡ true → v.pending ≡ false
unfolding is_free_slot
is_free-false v e = case_b v.pending (λ p. clash (cc)) (λ p. p)

pub not_free : (v : Slot) → is_free_slot v ≡ false → v.pending ≡ true
unfolding is_free_slot
not_free v e = case_b v.pending (λ p. p) (λ p. clash (cc))

choose_facts : (row : List Slot) (g : Seg) → Fits g → (o : Option ℕ) → first (bears g.identifier) row ≡ o → ChoiceFacts row g (choose row g o)
choose_facts row g f none e = new (first is_free_slot row) refl
  where
    new : (o : Option ℕ) → first is_free_slot row ≡ o → ChoiceFacts row g (choose_new o)
    new none n = tt
    new (some s) n =
        let b : First is_free_slot row s = first_some is_free_slot row s n in
        record { fits = f; is_slot = b.is_slot; is_free = is_free-false (get_or row s free) b.passes; no_bearer = first-none (bears g.identifier) row e }
choose_facts row g f (some s) e =
    let b : First (bears g.identifier) row s = first_some (bears g.identifier) row s e in
    case_b (eqb (get_or row s free).frame_length g.frame_length)
    (λ q. rw q
    (record {
      fits = f;
      is_slot = b.is_slot;
      pending = bears-pending g.identifier (get_or row s free) b.passes;
      identifier = bears_identifier g.identifier (get_or row s free) b.passes;
      size = eqb-true (get_or row s free).frame_length g.frame_length q;
    }))
    (λ q. rw q tt)

pub chosen_facts : (row : List Slot) (g : Seg) → ChoiceFacts row g (chosen row g)
unfolding chosen
chosen_facts row g =
    case_b (eqb (length g.bytes) 0)
    (λ a. rw a tt)
    (λ a. case_b (ltb g.frame_length 32 || ltb 1532 g.frame_length)
    (λ b. rw (a, b) tt)
    (λ b. case_b (ltb g.frame_length (g.offset + length g.bytes))
    (λ c. rw (a, b, c) tt)
    (λ c. let n : length g.bytes ≢ 0 = eqb-false (length g.bytes) 0 a in
    rw (a, b, c)
    (choose_facts row g
    (record {
      some_byte = omega arith;
      least = omega (arith, ltb-false g.frame_length 32 (or_false-l (ltb g.frame_length 32) (ltb 1532 g.frame_length) b));
      most = omega (arith, ltb-false 1532 g.frame_length (or_false_r (ltb g.frame_length 32) (ltb 1532 g.frame_length) b));
      inside = omega (arith, ltb-false g.frame_length (g.offset + length g.bytes) c);
    })
    (first (bears g.identifier) row) refl))))

-- a segment that fits: 15 or 17, or a slot
pub chosen-fits : (row : List Slot) (g : Seg) → Fits g → chosen row g ≡ choose row g (first (bears g.identifier) row)
unfolding chosen
chosen-fits row g f =
    let n : length g.bytes ≢ 0 = λ z. absurd (omega (arith, f.some_byte)) in
    rw (
      ne_eqb (length g.bytes) 0 n,
      le-ltb g.frame_length 32 f.least,
      le-ltb 1532 g.frame_length f.most,
      le-ltb g.frame_length (g.offset + length g.bytes) f.inside,
    )

-- a segment of no pending frame, with a slot free: it opens a frame in a free one
pub chosen_opens : (row : List Slot) (g : Seg) → Fits g → first (bears g.identifier) row ≡ none → (s : ℕ) → first is_free_slot row ≡ some s
    → (t : ℕ) × ((chosen row g ≡ fresh t) × ((t < most_slots) × ((get_or row t free).pending ≡ false)))
chosen_opens row g f e s n =
    let b : First is_free_slot row s = first_some is_free_slot row s n in
    let c : chosen row g ≡ fresh s = chosen-fits row g f ∙ rw (e, n) in
    (s, (c, (b.is_slot, is_free-false (get_or row s free) b.passes)))

-- ---- outcomes

-- the slot of an outcome
abbrev pub slot_in : Outcome → ℕ
slot_in (Rejected r) = 0
slot_in Pending = 0
slot_in (Complete s) = s
slot_in NoMemory = 0

abbrev pub is_complete : Outcome → Bool
is_complete (Rejected r) = false
is_complete Pending = false
is_complete (Complete s) = true
is_complete NoMemory = false

abbrev pub is_pending : Outcome → Bool
is_pending (Rejected r) = false
is_pending Pending = true
is_pending (Complete s) = false
is_pending NoMemory = false

pub not_complete {ℓ} : {C : Type ℓ} (o : Outcome) (s : ℕ) → is_complete o ≡ false → o ≡ Complete s → C
not_complete o s e q = clash (cc (ap is_complete q))

pub not_pending {ℓ} : {C : Type ℓ} (o : Outcome) → is_pending o ≡ false → o ≡ Pending → C
not_pending o e q = clash (cc (ap is_pending q))

pub complete-slot : (s t : ℕ) → Complete s ≡ Complete t → s ≡ t
complete-slot s t q = ap slot_in q

pub length-frame : (O : Ops) (m : O.S) (k n : ℕ) → length (frame_in O m k n) ≡ n
unfolding frame_in
length-frame O m k n = length-table n (λ i. O.byte m k i)

module _ (O : Ops) where
  -- nothing more happens to the memory once the segment has been put
  pub finish_mem : (p s : ℕ) (row : List Slot) (m : O.S) (g : Seg) (note : Note) → (finish O p s row m g note).mem ≡ m
  finish_mem p s row m g note = case_b (complete O m (slot_no p s) g.frame_length) (λ e. rw e) (λ e. rw e)

  -- a segment that completes a frame fits, and the slot is one of the four
  finish-slot : (p s t : ℕ) (row : List Slot) (m : O.S) (g : Seg) (note : Note) → (finish O p s row m g note).outcome ≡ Complete t → s ≡ t
  finish-slot p s t row m g note e =
      case_b (complete O m (slot_no p s) g.frame_length)
      (λ c. complete-slot s t (rw c at e))
      (λ c. not_complete Pending t refl (rw c at e))

  placed-slot : (p t : ℕ) (row : List Slot) (m : O.S) (g : Seg) (c : Choice) → ChoiceFacts row g c → (placed O p row m g c).outcome ≡ Complete t →
      (t < most_slots) × Fits g
  placed-slot p t row m g (reject r) q e = not_complete (Rejected r) t refl e
  placed-slot p t row m g (old s) q e =
      case_b (overlaps O m (slot_no p s) g)
      (λ c. not_complete (Rejected AlreadyReceived) t refl (rw c at e))
      (λ c. let z : s ≡ t = finish-slot p s t (set row s (further_slot (get_or row s free) g)) (O.put m (slot_no p s) g.offset (stored_bytes g)) g
      (note_after (note_of (get_or row s free)) g) (rw c at e) in (rw z at q.is_slot, q.fits))
  placed-slot p t row m g (fresh s) q e = let z : s ≡ t = finish-slot p s t (set row s (opened_slot g))
      (O.put (O.clear m (slot_no p s)) (slot_no p s) g.offset g.bytes) g (note_after no_note g) e in (rw z at q.is_slot, q.fits)

  pub take-complete : (p t : ℕ) (row : Peer) (m : O.S) (g : Seg) → (take_segment O p row m g).outcome ≡ Complete t → (t < most_slots) × Fits g
  unfolding take_segment
  take-complete p t row m g e = placed-slot p t row.slots m g (chosen row.slots g) (chosen_facts row.slots g) e

  -- a rejection changes neither the row nor the memory (demand 1)
  finish-takes : {C : Type 0} (p s : ℕ) (row : List Slot) (m : O.S) (g : Seg) (note : Note) (r : Rejection)
      → (finish O p s row m g note).outcome ≡ Rejected r → C
  finish-takes p s row m g note r e =
      case_b (complete O m (slot_no p s) g.frame_length)
      (λ c. let z : Complete s ≡ Rejected r = rw c at e in clash (cc))
      (λ c. let z : Pending ≡ Rejected r = rw c at e in clash (cc))

  placed-rejects : (p : ℕ) (row : List Slot) (m : O.S) (g : Seg) (c : Choice) (r : Rejection) → (placed O p row m g c).outcome ≡ Rejected r
      → ((placed O p row m g c).row ≡ record { slots = row }) × ((placed O p row m g c).mem ≡ m)
  placed-rejects p row m g (reject x) r e = (refl, refl)
  placed-rejects p row m g (old s) r e =
      case_b (overlaps O m (slot_no p s) g)
      (λ c. rw c (refl, refl))
      (λ c. finish-takes p s (set row s (further_slot (get_or row s free) g)) (O.put m (slot_no p s) g.offset (stored_bytes g)) g
      (note_after (note_of (get_or row s free)) g) r (rw c at e))
  placed-rejects p row m g (fresh s) r e =
      finish-takes p s (set row s (opened_slot g)) (O.put (O.clear m (slot_no p s)) (slot_no p s) g.offset g.bytes) g (note_after no_note g) r e

  pub take-rejects : (p : ℕ) (row : Peer) (m : O.S) (g : Seg) (r : Rejection) → (take_segment O p row m g).outcome ≡ Rejected r
      → ((take_segment O p row m g).row ≡ row) × ((take_segment O p row m g).mem ≡ m)
  unfolding take_segment
  take-rejects p row m g r e = placed-rejects p row.slots m g (chosen row.slots g) r e

-- a rejection's number is one of 14 to 17
pub rejection_codes : (r : Rejection) → (14 ≤ rejection_code r) × (rejection_code r ≤ 17)
unfolding rejection_code
rejection_codes Empty = (omega arith, omega arith)
rejection_codes FrameLength = (omega arith, omega arith)
rejection_codes PastEnd = (omega arith, omega arith)
rejection_codes LengthDiffers = (omega arith, omega arith)
rejection_codes AlreadyReceived = (omega arith, omega arith)
rejection_codes NoSlot = (omega arith, omega arith)
