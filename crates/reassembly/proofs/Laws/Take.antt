-- What the code answers, as its own enums and structs, over the definitions of `Take` and `Store`; and the laws that its proofs cite.
use Rattle.std.specs.Prelude.{◌≡◌, ◌⊎◌, Bool, true, cond, ◌≢◌, ltb, ℕ, ◌+◌, ◌≤◌, ◌<◌, get_or}
use Rattle.std.proofs.Math.Path.{sym, ap}
use Rattle.std.proofs.Common.{◌∙◌, inl, inr}
use Rattle.std.proofs.Math.Bool.{false}
use mathlib.Core.List.{List}
use Rattle.std.proofs.Math.ListN.{length, set}
use borrow.Author.Tests.{lt-ltb, le-ltb, lt-leb, eq-eqb, ne_eqb}
use Rattle.std.specs.Prelude.{Ok, Err, Some, None}
use Rattle.lookup.specs.Search.{found_of}
use Rattle.lookup.proofs.Laws.Search.{found_some, found_none}
use Rattle.reassembly.specs.declared.take.Decision.TheVariants.{Further, Open}
use Rattle.reassembly.specs.Base.{some_below}
use Rattle.reassembly.proofs.Laws.Base.{case_b, clash}
use Rattle.reassembly.specs.Slots.{Slot, Peer, free, first, bears, is_free_slot, Note, no_note, note_of, most_peers, most_slots}
use Rattle.reassembly.proofs.Laws.Slots.{first_some}
use Rattle.reassembly.specs.Take.{Seg, Choice, reject, old, fresh, chosen, Effect, finish, placed, rejects, take_segment, complete, overlaps, further_slot}
use Rattle.reassembly.specs.Take.{opened_slot, note_after, Rejection, Empty, FrameLength, PastEnd, LengthDiffers, AlreadyReceived, NoSlot, Rejected}
use Rattle.reassembly.specs.Take.{Outcome, Pending}
use Rattle.reassembly.specs.Take.{Complete, NoMemory, Fits, Old, Fresh, decision_of, slot_no}
use Rattle.reassembly.proofs.Laws.TakeFacts.{chosen_facts, chosen-fits}
use Rattle.reassembly.specs.Store.{bytes_of, take_in, has_slots, received_at, clear_at, put_at}
use Rattle.reassembly.proofs.Laws.Store.{take_in_lem}
use Rattle.std.proofs.lemmas.List.{set-get_or}

-- where nothing is noted (the base), a further segment leaves the row: for code that writes no slot then
pub further-row : (row : List Slot) (s : ℕ) (g : Seg) → (get_or row s free).pending ≡ true → set row s (further_slot (get_or row s free) g) ≡ row
further-row row s g e = ap (λ (v : Slot). set row s v) (same (get_or row s free) e) ∙ set-get_or row s free
  where
    same : (v : Slot) → v.pending ≡ true → further_slot v g ≡ v
    same v e = ap (λ (b : Bool). record { identifier = v.identifier; frame_length = v.frame_length; age = v.age; pending = b }) (sym e)

-- ---- the decision

module _ (row : List Slot) (g : Seg) where
  pub decide_empty : length g.bytes ≡ 0 → Err Empty ≡ decision_of (chosen row g)
  unfolding decision_of chosen
  decide_empty e = rw (eq-eqb (length g.bytes) 0 e)

  pub decide_length : length g.bytes ≢ 0 → (g.frame_length < 32) ⊎ (1532 < g.frame_length) → Err FrameLength ≡ decision_of (chosen row g)
  unfolding decision_of chosen
  decide_length n (inl l) = rw (ne_eqb (length g.bytes) 0 n, lt-ltb g.frame_length 32 l)
  decide_length n (inr l) = case_b (ltb g.frame_length 32)
      (λ e. rw (ne_eqb (length g.bytes) 0 n, e))
      (λ e. rw (ne_eqb (length g.bytes) 0 n, e, lt-ltb 1532 g.frame_length l))

  pub decide_past : length g.bytes ≢ 0 → 32 ≤ g.frame_length → g.frame_length ≤ 1532 → g.frame_length < g.offset + length g.bytes
      → Err PastEnd ≡ decision_of (chosen row g)
  unfolding decision_of chosen
  decide_past n h l p = rw (
    ne_eqb (length g.bytes) 0 n,
    le-ltb g.frame_length 32 h,
    le-ltb 1532 g.frame_length l,
    lt-ltb g.frame_length (g.offset + length g.bytes) p,
  )

  pub decide_other : Fits g → (s : ℕ) → found_of (first (bears g.identifier) row) ≡ Some s → (get_or row s free).frame_length ≢ g.frame_length
      → Err LengthDiffers ≡ decision_of (chosen row g)
  unfolding decision_of
  decide_other f s e d = rw (chosen-fits row g f, found_some (first (bears g.identifier) row) s e, ne_eqb (get_or row s free).frame_length g.frame_length d)

  pub decide_further : Fits g → (s : ℕ) → found_of (first (bears g.identifier) row) ≡ Some s → (get_or row s free).frame_length ≡ g.frame_length
      → Ok (Further s) ≡ decision_of (chosen row g)
  unfolding decision_of
  decide_further f s e d = rw (
    chosen-fits row g f,
    found_some (first (bears g.identifier) row) s e,
    eq-eqb (get_or row s free).frame_length g.frame_length d,
  )

  pub decide_full : Fits g → found_of (first (bears g.identifier) row) ≡ None → found_of (first is_free_slot row) ≡ None
      → Err NoSlot ≡ decision_of (chosen row g)
  unfolding decision_of
  decide_full f e n = rw (chosen-fits row g f, found_none (first (bears g.identifier) row) e, found_none (first is_free_slot row) n)

  pub decide_open : Fits g → found_of (first (bears g.identifier) row) ≡ None → (s : ℕ) → found_of (first is_free_slot row) ≡ Some s
      → Ok (Open s) ≡ decision_of (chosen row g)
  unfolding decision_of
  decide_open f e s a = rw (chosen-fits row g f, found_none (first (bears g.identifier) row) e, found_some (first is_free_slot row) s a)

-- ---- what a call leaves: the answer, the record and the memory

pub record Gives (e : Effect bytes_of) (o : Outcome) (row : Peer) (m : List ℕ) : Type 0 where
  pub value : o ≡ e.outcome
  pub record_after : row ≡ e.row
  pub memory_after : m ≡ e.mem

-- ---- storing

-- what `finish` leaves of the row, and what it answers
pub finish-gives : (p s : ℕ) (row : List Slot) (m : List ℕ) (g : Seg) (note : Note) (o : Outcome) (next : Peer)
    → o ≡ cond (complete bytes_of m (slot_no p s) g.frame_length) (Complete s) Pending
    → next ≡ cond (complete bytes_of m (slot_no p s) g.frame_length) (record { slots = set row s free }) (record { slots = row })
    → Gives (finish bytes_of p s row m g note) o next m
finish-gives p s row m g note o next eo er =
    case_b (complete bytes_of m (slot_no p s) g.frame_length)
    (λ e. record { value = eo ∙ rw e; record_after = er ∙ rw e; memory_after = rw e })
    (λ e. record { value = eo ∙ rw e; record_after = er ∙ rw e; memory_after = rw e })

module _ (p s : ℕ) (row : Peer) (m : List ℕ) where
  pub further_refused : (g : Seg) (b : Bool) → b ≡ some_below (length g.bytes) (λ i. received_at m (slot_no p s) (g.offset + i)) → b ≡ true
      → Gives (placed bytes_of p row.slots m g (old s)) (Rejected AlreadyReceived) row m
  unfolding overlaps slot_no
  further_refused g b e t = record { value = rw (← e, t); record_after = rw (← e, t); memory_after = rw (← e, t) }

  pub further-stored : (g : Seg) (b : Bool) (m₁ : List ℕ) (o : Outcome) (next : Peer) → Old row.slots g s
      → b ≡ some_below (length g.bytes) (λ i. received_at m (slot_no p s) (g.offset + i)) → b ≡ false
      → m₁ ≡ put_at m (slot_no p s) g.offset g.bytes
      → o ≡ cond (complete bytes_of m₁ (slot_no p s) g.frame_length) (Complete s) Pending
      → next ≡ cond (complete bytes_of m₁ (slot_no p s) g.frame_length) (record { slots = set row.slots s free }) row
      → Gives (placed bytes_of p row.slots m g (old s)) o next m₁
  unfolding overlaps slot_no
  further-stored g b m₁ o next w e t em eo er =
      let none_yet : overlaps bytes_of m (slot_no p s) g ≡ false = sym e ∙ t in
      let kept : set row.slots s (further_slot (get_or row.slots s free) g) ≡ row.slots = further-row row.slots s g w.pending in
      rw (none_yet, kept, ← em) (finish-gives p s row.slots m₁ g (note_after (note_of (get_or row.slots s free)) g) o next eo er)

  pub open_stored : (g : Seg) (m₁ m₂ : List ℕ) (o : Outcome) (next : Peer)
      → m₁ ≡ clear_at m (slot_no p s) → m₂ ≡ put_at m₁ (slot_no p s) g.offset g.bytes
      → o ≡ cond (complete bytes_of m₂ (slot_no p s) g.frame_length) (Complete s) Pending
      → next ≡ cond (complete bytes_of m₂ (slot_no p s) g.frame_length) (record { slots = set (set row.slots s (opened_slot g)) s free }) (record { slots = set row.slots s (opened_slot g) })
      → Gives (placed bytes_of p row.slots m g (fresh s)) o next m₂
  unfolding slot_no
  open_stored g m₁ m₂ o next e₁ e₂ eo er =
      let at : put_at (clear_at m (slot_no p s)) (slot_no p s) g.offset g.bytes ≡ m₂ = ap (λ (t : List ℕ). put_at t (slot_no p s) g.offset g.bytes)
      (sym e₁)
      ∙ sym e₂ in
      rw at (finish-gives p s (set row.slots s (opened_slot g)) m₂ g (note_after no_note g) o next eo er)

-- ---- taking

chosen_is_old : (c : Choice) (s : ℕ) → Ok (Further s) ≡ decision_of c → c ≡ old s
unfolding decision_of
chosen_is_old (reject r) s e = clash (cc)
chosen_is_old (old t) s e = cc
chosen_is_old (fresh t) s e = clash (cc)

chosen_is_fresh : (c : Choice) (s : ℕ) → Ok (Open s) ≡ decision_of c → c ≡ fresh s
unfolding decision_of
chosen_is_fresh (reject r) s e = clash (cc)
chosen_is_fresh (old t) s e = clash (cc)
chosen_is_fresh (fresh t) s e = cc

chosen_is_reject : (c : Choice) (r : Rejection) → Err r ≡ decision_of c → c ≡ reject r
unfolding decision_of
chosen_is_reject (reject t) r e = cc
chosen_is_reject (old t) r e = clash (cc)
chosen_is_reject (fresh t) r e = clash (cc)

-- a slot that was found is one of four
pub found-slot : (f : Slot → Bool) (row : List Slot) (s : ℕ) → found_of (first f row) ≡ Some s → s < most_slots
found-slot f row s e = (first_some f row s (found_some (first f row) s e)).is_slot

-- what a decision to store tells
pub further_is : (row : List Slot) (g : Seg) (s : ℕ) → Ok (Further s) ≡ decision_of (chosen row g) → Old row g s
further_is row g s e = rw (chosen_is_old (chosen row g) s e) at (chosen_facts row g)

pub open_is : (row : List Slot) (g : Seg) (s : ℕ) → Ok (Open s) ≡ decision_of (chosen row g) → Fresh row g s
open_is row g s e = rw (chosen_is_fresh (chosen row g) s e) at (chosen_facts row g)

module _ (p : ℕ) (row : Peer) (m : List ℕ) (g : Seg) where
  nowhere : (most_peers ≤ p) ⊎ ((p < most_peers) × (length m < 55296)) → has_slots p m ≡ false
  unfolding has_slots
  nowhere (inl h) = rw (le-ltb p most_peers h)
  nowhere (inr l) = rw (lt-ltb p most_peers l.0, lt-leb 55296 (length m) l.1)

  pub no_memory : (most_peers ≤ p) ⊎ ((p < most_peers) × (length m < 55296)) → Gives (take_in p row m g) NoMemory row m
  unfolding take_in
  no_memory h = let e = nowhere h in record { value = rw e; record_after = rw e; memory_after = rw e }

  takes : p < most_peers → 55296 ≤ length m → (c : Choice) → chosen row.slots g ≡ c → take_in p row m g ≡ placed bytes_of p row.slots m g c
  unfolding take_segment
  takes h l c e = take_in_lem p row m g h l ∙ ap (λ (x : Choice). placed bytes_of p row.slots m g x) e

  pub take-rejected : p < most_peers → 55296 ≤ length m → (r : Rejection) → Err r ≡ decision_of (chosen row.slots g)
      → Gives (take_in p row m g) (Rejected r) row m
  take-rejected h l r e =
      let is : take_in p row m g ≡ rejects bytes_of r row.slots m = takes h l (reject r) (chosen_is_reject (chosen row.slots g) r e) in
      record { value = rw is; record_after = rw is; memory_after = rw is }

  -- a decision to store is carried out: what is placed is what is taken
  module _ (o : Outcome) (next : Peer) (m₁ : List ℕ) where
    pub take-further : p < most_peers → 55296 ≤ length m → (s : ℕ) → Ok (Further s) ≡ decision_of (chosen row.slots g)
        → Gives (placed bytes_of p row.slots m g (old s)) o next m₁ → Gives (take_in p row m g) o next m₁
    take-further h l s e w = rw (takes h l (old s) (chosen_is_old (chosen row.slots g) s e)) w

    pub take_open : p < most_peers → 55296 ≤ length m → (s : ℕ) → Ok (Open s) ≡ decision_of (chosen row.slots g)
        → Gives (placed bytes_of p row.slots m g (fresh s)) o next m₁ → Gives (take_in p row m g) o next m₁
    take_open h l s e w = rw (takes h l (fresh s) (chosen_is_fresh (chosen row.slots g) s e)) w
