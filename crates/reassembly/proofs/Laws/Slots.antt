-- Laws of `Slots`.
use Rattle.std.specs.Prelude.{◌≡◌, refl, ◌≢◌, Bool, true, false, List, ℕ, zero, suc, ◌+◌, ◌<◌, length, get_or, ltb, position}
use Rattle.std.proofs.Common.{ap, sym, ◌∙◌, arith, lt-ltb}
use Rattle.std.proofs.Math.Option.{none, some}
use Rattle.lookup.specs.Search.{lowest, found_of}
use Rattle.lookup.proofs.Laws.Search.{lowest_four, position_is}
use Rattle.reassembly.proofs.Laws.Base.{case_b, clash}
use Rattle.reassembly.specs.Slots.{Slot, Peer, Note, Mark, no_note, no_mark, noted, free, pending_slot, note_of, lifetime, older, first, most_slots}

-- the order of segments at different offsets does not matter
pub noted_swap : (n : Note) (a b : ℕ) (j k : Mark) → a ≢ b → noted (noted n a j) b k ≡ noted (noted n b k) a j
unfolding noted
noted_swap n a b j k d = refl

-- there is one mark
pub only_mark : (k : Mark) → k ≡ no_mark
unfolding Mark no_mark
only_mark k = refl

pub note_of-pending : (i n a : ℕ) (t : Note) → note_of (pending_slot i n a t) ≡ t
unfolding Note no_note note_of
note_of-pending i n a t = refl

abbrev pub slots_of : Peer → List Slot
slots_of r = r.slots

pub older-pending : (s : Slot) → (older s).pending ≡ true
    → (s.pending ≡ true) × (older s ≡ pending_slot s.identifier s.frame_length (s.age + 1) (note_of s))
unfolding older
older-pending s e =
    case_b s.pending
    (λ t. case_b (ltb (s.age + 1) lifetime) (λ u. (t, rw (t, u))) (λ u. clash (cc)))
    (λ t. clash (cc))

-- a frame that is younger stays
pub older_stays : (i n a : ℕ) (t : Note) → a + 1 < lifetime → older (pending_slot i n a t) ≡ pending_slot i n (a + 1) t
unfolding older
older_stays i n a t l = rw (lt-ltb (a + 1) lifetime l) (ap (λ (x : Note). pending_slot i n (a + 1) x) (note_of-pending i n a t))

-- what it finds, and that it is that
pub record First (f : Slot → Bool) (l : List Slot) (s : ℕ) : Type 0 where
  pub is_slot : s < most_slots
  pub passes : f (get_or l s free) ≡ true
  pub lowest : (t : ℕ) → t < s → f (get_or l t free) ≡ false

pub first_some : (f : Slot → Bool) (l : List Slot) (s : ℕ) → first f l ≡ some s → First f l s
unfolding first
first_some f l s e =
    case_b (f (get_or l 0 free))
    (λ a. let z : s ≡ 0 = cc in rw z (record { is_slot = omega arith; passes = a; lowest = λ t h. absurd (omega arith) }))
    (λ a. case_b (f (get_or l 1 free))
    (λ b. let z : s ≡ 1 = cc in rw z (record { is_slot = omega arith; passes = b; lowest = λ t h. low1 t h a }))
    (λ b. case_b (f (get_or l 2 free))
    (λ c. let z : s ≡ 2 = cc in rw z (record { is_slot = omega arith; passes = c; lowest = λ t h. low2 t h a b }))
    (λ c. case_b (f (get_or l 3 free))
    (λ d. let z : s ≡ 3 = cc in rw z (record { is_slot = omega arith; passes = d; lowest = λ t h. low3 t h a b c }))
    (λ d. clash (cc)))))
  where
    low1 : (t : ℕ) → t < 1 → f (get_or l 0 free) ≡ false → f (get_or l t free) ≡ false
    low1 zero h a = a
    low1 (suc t) h a = absurd (omega arith)

    low2 : (t : ℕ) → t < 2 → f (get_or l 0 free) ≡ false → f (get_or l 1 free) ≡ false → f (get_or l t free) ≡ false
    low2 zero h a b = a
    low2 (suc zero) h a b = b
    low2 (suc (suc t)) h a b = absurd (omega arith)

    low3 : (t : ℕ) → t < 3 → f (get_or l 0 free) ≡ false → f (get_or l 1 free) ≡ false → f (get_or l 2 free) ≡ false → f (get_or l t free) ≡ false
    low3 zero h a b c = a
    low3 (suc zero) h a b c = b
    low3 (suc (suc zero)) h a b c = c
    low3 (suc (suc (suc t))) h a b c = absurd (omega arith)

pub first-none : (f : Slot → Bool) (l : List Slot) → first f l ≡ none → (s : ℕ) → s < most_slots → f (get_or l s free) ≡ false
unfolding first
first-none f l e s h =
    case_b (f (get_or l 0 free))
    (λ a. clash (cc))
    (λ a. case_b (f (get_or l 1 free))
    (λ b. clash (cc))
    (λ b. case_b (f (get_or l 2 free))
    (λ c. clash (cc))
    (λ c. case_b (f (get_or l 3 free))
    (λ d. clash (cc))
    (λ d. low4 s h a b c d))))
  where
    low4 : (t : ℕ) → t < most_slots → f (get_or l 0 free) ≡ false → f (get_or l 1 free) ≡ false → f (get_or l 2 free) ≡ false → f (get_or l 3 free) ≡ false
        → f (get_or l t free) ≡ false
    low4 zero h a b c d = a
    low4 (suc zero) h a b c d = b
    low4 (suc (suc zero)) h a b c d = c
    low4 (suc (suc (suc zero))) h a b c d = d
    low4 (suc (suc (suc (suc t)))) h a b c d = absurd (omega arith)

pub first_is : (f : Slot → Bool) (l : List Slot) (s : ℕ) → s < most_slots → ((t : ℕ) → t < s → f (get_or l t free) ≡ false) → f (get_or l s free) ≡ true
    → first f l ≡ some s
unfolding first
first_is f l zero h n e = rw e
first_is f l (suc zero) h n e = rw (n 0 (omega arith), e)
first_is f l (suc (suc zero)) h n e = rw (n 0 (omega arith), n 1 (omega arith), e)
first_is f l (suc (suc (suc zero))) h n e = rw (n 0 (omega arith), n 1 (omega arith), n 2 (omega arith), e)
first_is f l (suc (suc (suc (suc s)))) h n e = absurd (omega arith)

pub first_not : (f : Slot → Bool) (l : List Slot) → ((t : ℕ) → t < most_slots → f (get_or l t free) ≡ false) → first f l ≡ none
unfolding first
first_not f l n = rw (n 0 (omega arith), n 1 (omega arith), n 2 (omega arith), n 3 (omega arith))

-- the search of a row is a search, also as std's `position` does it
pub slots-lowest : (f : Slot → Bool) (l : List Slot) → first f l ≡ lowest (λ (s : ℕ). f (get_or l s free)) most_slots
unfolding first
slots-lowest f l = sym (lowest_four (λ (s : ℕ). f (get_or l s free)))

pub position-first : (f : Slot → Bool) (l : List Slot) → length l ≡ most_slots → position f l ≡ found_of (first f l)
position-first f l n =
    position_is f (λ (s : ℕ). f (get_or l s free)) l free (λ i h. refl)
    ∙ ap (λ (k : ℕ). found_of (lowest (λ (s : ℕ). f (get_or l s free)) k)) n
    ∙ ap found_of (sym (slots-lowest f l))
