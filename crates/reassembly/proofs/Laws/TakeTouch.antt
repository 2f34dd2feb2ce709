-- What a segment that is taken leaves, over the bytes and the row: it is stored and nothing else of the memory changes (EveryRun, `Touches`), and its slot is
-- free where its frame is complete, pending where it is not.
-- And what a tick leaves of one slot.
use Rattle.std.specs.Prelude.{◌≡◌, Bool, true, false, cond, List, ℕ, ◌+◌, ◌≤◌, ◌<◌, length, get_or, set, eqb}
use Rattle.std.proofs.Math.Path.{refl}
use Rattle.std.proofs.Common.{sym, ap, subst, ◌∙◌, set-set, lt-ltb, le-ltb}
use Rattle.std.proofs.Math.Option.{Option, none, some}
use Rattle.reassembly.proofs.Laws.Base.{case_b, case_o, clash, all_below-at, all_below_fails}
use Rattle.reassembly.specs.Slots.{Slot, Peer, Note, no_note, note_of, free, first, bears, is_free_slot, lifetime, older, most_peers, most_slots}
use Rattle.reassembly.proofs.Laws.Slots.{first_some}
use Rattle.reassembly.specs.Take.{slot_no, Seg, Rejected, Pending, Complete, NoMemory, AlreadyReceived, Choice, reject, old, fresh, choose, chosen}
use Rattle.reassembly.specs.Take.{note_after, opened_slot, further_slot, complete, overlaps, finish, placed, take_segment, Fits, Old, Fresh}
use Rattle.reassembly.proofs.Laws.TakeFacts.{not_complete, not_pending, ChoiceFacts, chosen_facts, chosen-fits, not_free}
use Rattle.reassembly.specs.Store.{is_on, bit_at, map_start, received_at, bytes_of, has_slots, take_in, put_at, clear_at}
use Rattle.reassembly.proofs.Laws.TakeIn.{has-slots}
use Rattle.reassembly.proofs.Laws.RulesTouch.{touches_further, touches_opens}
use Rattle.reassembly.specs.EveryRun.{map_at, bit_of, Touches}

-- no lower slot would do: a further segment's is the lowest with its identifier, a new frame's the lowest that is free
abbrev AtLowest : List Slot → Seg → Choice → Type 0
AtLowest row g (reject r) = Unit {0}
AtLowest row g (old s) = (t : ℕ) → t < s → bears g.identifier (get_or row t free) ≡ false
AtLowest row g (fresh s) = (t : ℕ) → t < s → (get_or row t free).pending ≡ true

choose-lowest : (row : List Slot) (g : Seg) (o : Option ℕ) → first (bears g.identifier) row ≡ o → AtLowest row g (choose row g o)
choose-lowest row g none e = case_o (first is_free_slot row) (λ n. rw n tt) (λ s n. rw n (λ t l. not_free (get_or row t free) ((first_some is_free_slot row s n).lowest t l)))
choose-lowest row g (some s) e =
    case_b (eqb (get_or row s free).frame_length g.frame_length)
    (λ q. rw q (first_some (bears g.identifier) row s e).lowest)
    (λ q. rw q tt)

chosen-lowest : (row : List Slot) (g : Seg) (c : Choice) → chosen row g ≡ c → ChoiceFacts row g c → AtLowest row g c
chosen-lowest row g (reject r) e w = tt
chosen-lowest row g (old s) e w =
    subst (AtLowest row g) (sym (chosen-fits row g w.fits) ∙ e) (choose-lowest row g (first (bears g.identifier) row) refl)
chosen-lowest row g (fresh s) e w =
    subst (AtLowest row g) (sym (chosen-fits row g w.fits) ∙ e) (choose-lowest row g (first (bears g.identifier) row) refl)

-- segment g goes into slot s of peer p's row: the first of a new frame, or a further one of the frame that is pending there
pub record Stores (p s : ℕ) (new : Bool) (g : Seg) (row : List Slot) (m m' : List ℕ) : Type 0 where
  pub is_peer_lem : p < most_peers
  pub is_slot : s < most_slots
  pub fits : Fits g
  pub opens : new ≡ true → Fresh row g s
  pub lowest_free : new ≡ true → (t : ℕ) → t < s → (get_or row t free).pending ≡ true
  pub further : new ≡ false → Old row g s
  pub lowest_pending : new ≡ false → (t : ℕ) → t < s → bears g.identifier (get_or row t free) ≡ false
  pub touches : Touches p s new g m m'

pub record Completes (p s : ℕ) (g : Seg) (row row' : List Slot) (m m' : List ℕ) : Type 0 where
  pub new : Bool
  pub stores : Stores p s new g row m m'
  pub whole : (i : ℕ) → i < g.frame_length → bit_of m' (map_at p s) i ≡ true
  pub freed : row' ≡ set row s free

pub record Waits (p : ℕ) (g : Seg) (row row' : List Slot) (m m' : List ℕ) : Type 0 where
  pub s : ℕ
  pub new : Bool
  pub stores : Stores p s new g row m m'
  pub missing : (i : ℕ) × ((i < g.frame_length) × (bit_of m' (map_at p s) i ≡ false))
  pub pending :
      row' ≡ set row s (record { identifier = g.identifier; frame_length = g.frame_length; age = cond new 0 (get_or row s free).age; pending = true })

-- every byte of the frame is received: its bits are set; or one is not
all_set : (p s n : ℕ) (m : List ℕ) → complete bytes_of m (slot_no p s) n ≡ true → (i : ℕ) → i < n → bit_of m (map_at p s) i ≡ true
unfolding complete received_at map_start bit_at is_on slot_no bit_of map_at
all_set p s n m e i l = all_below-at n (λ j. received_at m (slot_no p s) j) e i l

one_clear : (p s n : ℕ) (m : List ℕ) → complete bytes_of m (slot_no p s) n ≡ false → (i : ℕ) × ((i < n) × (bit_of m (map_at p s) i ≡ false))
unfolding complete received_at map_start bit_at is_on slot_no bit_of map_at
one_clear p s n m e = all_below_fails n (λ j. received_at m (slot_no p s) j) e

module _ (p : ℕ) (row : List Slot) (m : List ℕ) (g : Seg) where
  -- slot t was written, and the memory is n
  module _ (t : ℕ) (v : Slot) (n : List ℕ) (note : Note) (new : Bool) (w : Stores p t new g row m n) where
    completed : (s : ℕ) → (finish bytes_of p t (set row t v) n g note).outcome ≡ Complete s
        → Completes p s g row (finish bytes_of p t (set row t v) n g note).row.slots m (finish bytes_of p t (set row t v) n g note).mem
    completed s e =
        case_b (complete bytes_of n (slot_no p t) g.frame_length)
        (λ d.
        let z : Complete t ≡ Complete s = rw d at e in
        let same : t ≡ s = cc (z) in
        rw d (rw (← same) (record { new = new; stores = w; whole = all_set p t g.frame_length n d; freed = set-set row t v free })))
        (λ d. not_complete Pending s refl (rw d at e))

    waiting : v ≡ record { identifier = g.identifier; frame_length = g.frame_length; age = cond new 0 (get_or row t free).age; pending = true }
        → (finish bytes_of p t (set row t v) n g note).outcome ≡ Pending
        → Waits p g row (finish bytes_of p t (set row t v) n g note).row.slots m (finish bytes_of p t (set row t v) n g note).mem
    waiting is e =
        case_b (complete bytes_of n (slot_no p t) g.frame_length)
        (λ d. not_pending (Complete t) refl (rw d at e))
        (λ d. rw d
        (record { s = t; new = new; stores = w; missing = one_clear p t g.frame_length n d; pending = ap (λ (x : Slot). set row t x) is }))

  module _ (is_peer_lem : p < most_peers) (enough : 55296 ≤ length m) where
    stores-further : (t : ℕ) → Old row g t → AtLowest row g (old t) → Stores p t false g row m (put_at m (slot_no p t) g.offset g.bytes)
    stores-further t w l = record {
      is_peer_lem = is_peer_lem;
      is_slot = w.is_slot;
      fits = w.fits;
      opens = λ q. clash (cc (q));
      lowest_free = λ q. clash (cc (q));
      further = λ q. w;
      lowest_pending = λ q. l;
      touches = touches_further p t is_peer_lem w.is_slot g w.fits m enough;
    }

    stores_opens : (t : ℕ) → Fresh row g t → AtLowest row g (fresh t)
        → Stores p t true g row m (put_at (clear_at m (slot_no p t)) (slot_no p t) g.offset g.bytes)
    stores_opens t w l = record {
      is_peer_lem = is_peer_lem;
      is_slot = w.is_slot;
      fits = w.fits;
      opens = λ q. w;
      lowest_free = λ q. l;
      further = λ q. clash (cc (q));
      lowest_pending = λ q. clash (cc (q));
      touches = touches_opens p t is_peer_lem w.is_slot g w.fits m enough;
    }

    completes_by : (s : ℕ) (c : Choice) → ChoiceFacts row g c → AtLowest row g c → (placed bytes_of p row m g c).outcome ≡ Complete s
        → Completes p s g row (placed bytes_of p row m g c).row.slots m (placed bytes_of p row m g c).mem
    completes_by s (reject r) w l e = not_complete (Rejected r) s refl e
    completes_by s (old t) w l e =
        case_b (overlaps bytes_of m (slot_no p t) g)
        (λ d. not_complete (Rejected AlreadyReceived) s refl (rw d at e))
        (λ d. rw d
        (completed t (further_slot (get_or row t free) g) (put_at m (slot_no p t) g.offset g.bytes) (note_after (note_of (get_or row t free)) g) false
        (stores-further t w l) s (rw d at e)))
    completes_by s (fresh t) w l e =
        completed t (opened_slot g) (put_at (clear_at m (slot_no p t)) (slot_no p t) g.offset g.bytes) (note_after no_note g) true
        (stores_opens t w l) s e

    waits_by : (c : Choice) → ChoiceFacts row g c → AtLowest row g c → (placed bytes_of p row m g c).outcome ≡ Pending
        → Waits p g row (placed bytes_of p row m g c).row.slots m (placed bytes_of p row m g c).mem
    waits_by (reject r) w l e = not_pending (Rejected r) refl e
    waits_by (old t) w l e =
        case_b (overlaps bytes_of m (slot_no p t) g)
        (λ d. not_pending (Rejected AlreadyReceived) refl (rw d at e))
        (λ d. rw d
        (waiting t (further_slot (get_or row t free) g) (put_at m (slot_no p t) g.offset g.bytes) (note_after (note_of (get_or row t free)) g) false
        (stores-further t w l) (rw (w.identifier, w.size)) (rw d at e)))
    waits_by (fresh t) w l e =
        waiting t (opened_slot g) (put_at (clear_at m (slot_no p t)) (slot_no p t) g.offset g.bytes) (note_after no_note g) true
        (stores_opens t w l) refl e

module _ (p : ℕ) (row : Peer) (m : List ℕ) (g : Seg) where
  pub take-completes : (s : ℕ) → (take_in p row m g).outcome ≡ Complete s
      → Completes p s g row.slots (take_in p row m g).row.slots m (take_in p row m g).mem
  unfolding take_in take_segment
  take-completes s e =
      case_b (has_slots p m)
      (λ d. let w = has-slots p m d in
      let t = chosen_facts row.slots g in
      rw d
      (completes_by p row.slots m g w.0 w.1 s (chosen row.slots g) t (chosen-lowest row.slots g (chosen row.slots g) refl t) (rw d at e)))
      (λ d. not_complete NoMemory s refl (rw d at e))

  pub take-waits : (take_in p row m g).outcome ≡ Pending → Waits p g row.slots (take_in p row m g).row.slots m (take_in p row m g).mem
  unfolding take_in take_segment
  take-waits e =
      case_b (has_slots p m)
      (λ d. let w = has-slots p m d in
      let t = chosen_facts row.slots g in
      rw d
      (waits_by p row.slots m g w.0 w.1 (chosen row.slots g) t (chosen-lowest row.slots g (chosen row.slots g) refl t) (rw d at e)))
      (λ d. not_pending NoMemory refl (rw d at e))

-- ---- a tick, of one slot

-- a free slot stays
pub older-free : (s : Slot) → s.pending ≡ false → older s ≡ s
unfolding older
older-free s e = rw e

-- a pending frame that is younger grows older by 1
pub older_younger : (s : Slot) → s.pending ≡ true → s.age + 1 < lifetime
    → older s ≡ record { identifier = s.identifier; frame_length = s.frame_length; age = s.age + 1; pending = true }
unfolding older
older_younger s e l = rw (e, lt-ltb (s.age + 1) lifetime l)

-- one that comes to its lifetime is given up
pub older_gone : (s : Slot) → s.pending ≡ true → lifetime ≤ s.age + 1 → older s ≡ free
unfolding older
older_gone s e l = rw (e, le-ltb (s.age + 1) lifetime l)
