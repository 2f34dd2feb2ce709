-- What the items given so far (`past`, latest first) say of a frame: the pieces that are there, what is noted of them, and its age. And counting: segments,
-- ticks, frames pending.
use Rattle.std.specs.Prelude.{◌≡◌, ◌≢◌, Bool, true, cond, ◌&&◌, ◌||◌, get_or, eqb}
use Rattle.std.proofs.Math.Path.{refl, sym, ap}
use Rattle.std.proofs.Common.{◌∙◌, arith}
use Rattle.std.proofs.Math.Bool.{false, not}
use mathlib.Core.List.{List, [], ◌∷◌, ◌++◌, reverse, reverse_aux, reverse-cons, append_assoc}
use Prim.Native.Nat.{ℕ, zero, suc, ◌+◌, ◌≤◌, ◌<◌}
use Rattle.std.proofs.Math.ListN.{length}
use Rattle.std.proofs.Math.Dec.{ltb}
use borrow.Author.Tests.{ltb-true, ltb-false, eqb-true, eqb-false, lt-ltb, le-ltb, eq-eqb, ne_eqb}
use Rattle.reassembly.proofs.Laws.Base.{case_b, either, clash, and_yes, and_no, below_suc}
use Rattle.reassembly.specs.Receive.{receive, tick}
use Rattle.reassembly.proofs.Laws.Ghost.{Piece, covers, received_in, byte_in}
use Rattle.reassembly.specs.Slots.{Note, no_note}
use Rattle.reassembly.proofs.Laws.Slots.{noted_swap}
use Rattle.reassembly.specs.Take.{note_after}
use Rattle.reassembly.specs.Mix.{Frame, joined, offset_of, part_of, states, note_to, frame_note, Item, given, other, frame_of, event, times, times_item}
use Rattle.reassembly.specs.Mix.{segments_of}
use Rattle.reassembly.specs.Mix.{of_item, ticks, tick_item, how_many}
use Rattle.reassembly.proofs.Laws.CutFacts.{size, part_byte, part_differ}

-- ---- what the crates above know of an item and of a part

pub event-given : (frames : List Frame) (f j : ℕ) → event frames (given f j) ≡ receive (part_of (frame_of frames f) j).packet
unfolding event
event-given frames f j = refl

pub states_are : (f : Frame) (j : ℕ)
    → states f j
    ≡ record {
      identifier = f.identifier;
      frame_length = length f.content;
      offset = offset_of f.parts j;
      bytes = (part_of f j).bytes;
      mark = (part_of f j).mark;
    }
unfolding states
states_are f j = refl

-- ---- counting

pub times-append : (f j : ℕ) (xs ys : List Item) → times f j (xs ++ ys) ≡ times f j xs + times f j ys
times-append f j [] ys = omega arith
times-append f j (x ∷ xs) ys = omega (arith, times-append f j xs ys)

pub of_append : (f : ℕ) (xs ys : List Item) → segments_of f (xs ++ ys) ≡ segments_of f xs + segments_of f ys
of_append f [] ys = omega arith
of_append f (x ∷ xs) ys = omega (arith, of_append f xs ys)

pub ticks-append : (xs ys : List Item) → ticks (xs ++ ys) ≡ ticks xs + ticks ys
ticks-append [] ys = omega arith
ticks-append (x ∷ xs) ys = omega (arith, ticks-append xs ys)

pub times_back : (f j : ℕ) (xs ys : List Item) → times f j (reverse_aux xs ys) ≡ times f j xs + times f j ys
times_back f j [] ys = omega arith
times_back f j (x ∷ xs) ys = omega (arith, times_back f j xs (x ∷ ys))

pub of_back : (f : ℕ) (xs ys : List Item) → segments_of f (reverse_aux xs ys) ≡ segments_of f xs + segments_of f ys
of_back f [] ys = omega arith
of_back f (x ∷ xs) ys = omega (arith, of_back f xs (x ∷ ys))

pub item_le : (f j : ℕ) (x : Item) → times_item f j x ≤ of_item f x
item_le f j (given g k) = case_b (eqb g f) (λ e. case_b (eqb k j) (λ e'. rw (e, e') (omega arith)) (λ e'. rw (e, e') (omega arith))) (λ e. rw e (omega arith))
item_le f j (other e) = omega arith

pub times-le : (f j : ℕ) (xs : List Item) → times f j xs ≤ segments_of f xs
times-le f j [] = omega arith
times-le f j (x ∷ xs) = omega (arith, item_le f j x, times-le f j xs)

-- a frame with a segment in a list: the list splits there
pub record Splits (f : ℕ) (xs : List Item) : Type 0 where
  pub before : List Item
  pub seg : ℕ
  pub after : List Item
  pub is : xs ≡ before ++ (given f seg ∷ after)

pub splits : (f : ℕ) (xs : List Item) → 0 < segments_of f xs → Splits f xs
splits f [] l = absurd (omega arith)
splits f (given g k ∷ xs) l =
    case_b (eqb g f)
    (λ e. record { before = []; seg = k; after = xs; is = rw (eqb-true g f e) })
    (λ e. let r : Splits f xs = splits f xs (omega (arith, rw e at l)) in
    record { before = given g k ∷ r.before; seg = r.seg; after = r.after; is = ap (λ (t : List Item). given g k ∷ t) r.is })
splits f (other v ∷ xs) l =
    let r : Splits f xs = splits f xs (omega arith) in
    record { before = other v ∷ r.before; seg = r.seg; after = r.after; is = ap (λ (t : List Item). other v ∷ t) r.is }

-- a frame with a segment in a list: some segment of it is there
pub record Given (f : ℕ) (xs : List Item) : Type 0 where
  pub seg : ℕ
  pub there : 0 < times f seg xs

pub some-given : (f : ℕ) (xs : List Item) → 0 < segments_of f xs → Given f xs
some-given f [] l = absurd (omega arith)
some-given f (given g k ∷ xs) l =
    case_b (eqb g f)
    (λ e. record { seg = k; there = rw (e, eq-eqb k k refl) (omega arith) })
    (λ e. let r : Given f xs = some-given f xs (omega (arith, rw e at l)) in
    record { seg = r.seg; there = omega (arith, r.there) })
some-given f (other v ∷ xs) l =
    let r : Given f xs = some-given f xs (omega arith) in
    record { seg = r.seg; there = omega (arith, r.there) }

-- ---- what the past says of a frame

module _ (frames : List Frame) (f : ℕ) where
  abbrev pub piece : ℕ → Piece
  piece j = record { offset = offset_of (frame_of frames f).parts j; bytes = (part_of (frame_of frames f) j).bytes }

  abbrev pub pieces : List Item → List Piece
  pieces [] = []
  pieces (given g j ∷ past) = cond (eqb g f) (piece j ∷ pieces past) (pieces past)
  pieces (other e ∷ past) = pieces past

  abbrev pub age : List Item → ℕ
  age [] = 0
  age (given g j ∷ past) = age past
  age (other tick ∷ past) = cond (ltb 0 (segments_of f past)) (age past + 1) 0
  age (other (receive k) ∷ past) = age past

  pub pieces_none : (past : List Item) → segments_of f past ≡ 0 → pieces past ≡ []
  pieces_none [] z = refl
  pieces_none (given g j ∷ past) z =
      case_b (eqb g f)
      (λ e. absurd (omega (arith, rw e at z)))
      (λ e. rw e (pieces_none past (omega (arith, rw e at z))))
  pieces_none (other e ∷ past) z = pieces_none past (omega arith)

  pub age-none : (past : List Item) → segments_of f past ≡ 0 → age past ≡ 0
  age-none [] z = refl
  age-none (given g j ∷ past) z = age-none past (omega arith)
  age-none (other tick ∷ past) z = rw (le-ltb 0 (segments_of f past) (omega arith))
  age-none (other (receive k) ∷ past) z = age-none past (omega arith)

  -- a byte is received by a segment that was given, and by no other
  pub record Holder (past : List Item) (i : ℕ) : Type 0 where
    pub seg : ℕ
    pub was : 0 < times f seg past
    pub here : covers (piece seg) i ≡ true

  pub received_by : (past : List Item) (i : ℕ) → received_in (pieces past) i ≡ true → Holder past i
  received_by [] i e = clash (cc)
  received_by (given g j ∷ past) i e =
      case_b (eqb g f)
      (λ q. case_b (covers (piece j) i)
      (λ c. record { seg = j; was = rw (q, eq-eqb j j refl) (omega arith); here = c })
      (λ c. let r : Holder past i = received_by past i (rw c at (rw q at e)) in
      record { seg = r.seg; was = omega (arith, r.was); here = r.here }))
      (λ q. let r : Holder past i = received_by past i (rw q at e) in
      record { seg = r.seg; was = omega (arith, r.was); here = r.here })
  received_by (other v ∷ past) i e =
      let r : Holder past i = received_by past i e in
      record { seg = r.seg; was = omega (arith, r.was); here = r.here }

  pub holds : (past : List Item) (j i : ℕ) → 0 < times f j past → covers (piece j) i ≡ true → received_in (pieces past) i ≡ true
  holds [] j i l c = absurd (omega arith)
  holds (given g k ∷ past) j i l c =
      case_b (eqb g f)
      (λ q. case_b (eqb k j)
      (λ r. rw q (let z : k ≡ j = eqb-true k j r in cc))
      (λ r. rw q (cc (holds past j i (omega (arith, rw r at (rw q at l))) c, or_right (covers (piece k) i)))))
      (λ q. rw q (holds past j i (omega (arith, rw q at l)) c))
    where
      or_right : (b : Bool) → (b || true) ≡ true
      or_right true = refl
      or_right false = refl
  holds (other v ∷ past) j i l c = holds past j i (omega arith) c

  -- and it is the frame's byte
  pub right_byte : (past : List Item) (i : ℕ) → ((j : ℕ) → 0 < times f j past → j < length (frame_of frames f).parts) → received_in (pieces past) i ≡ true
      → byte_in (pieces past) i ≡ get_or (joined (frame_of frames f).parts) i 0
  unfolding states
  right_byte [] i v e = clash (cc)
  right_byte (given g j ∷ past) i v e =
      case_b (eqb g f)
      (λ q. let lj : j < length (frame_of frames f).parts = v j (rw (q, eq-eqb j j refl) (omega arith)) in
      case_b (covers (piece j) i)
      (λ c. rw (q, c) (part_byte (frame_of frames f).parts j i lj c))
      (λ c. rw (q, c) (right_byte past i (λ k l. v k (omega arith)) (rw c at (rw q at e)))))
      (λ q. rw q (right_byte past i (λ k l. v k (omega arith)) (rw q at e)))
  right_byte (other w ∷ past) i v e = right_byte past i (λ k l. v k (omega arith)) e

  -- what is noted of the segments given that pass a test; of all
  abbrev pub notes_if : (ℕ → Bool) → List Item → Note
  notes_if t [] = no_note
  notes_if t (given g j ∷ past) = cond (eqb g f) (cond (t j) (note_after (notes_if t past) (states (frame_of frames f) j)) (notes_if t past)) (notes_if t past)
  notes_if t (other e ∷ past) = notes_if t past

  abbrev pub notes : List Item → Note
  notes past = notes_if (λ j. true) past

  notes_ext : (t u : ℕ → Bool) (past : List Item) → ((j : ℕ) → 0 < times f j past → t j ≡ u j) → notes_if t past ≡ notes_if u past
  notes_ext t u [] h = refl
  notes_ext t u (given g j ∷ past) h =
      let ih : notes_if t past ≡ notes_if u past = notes_ext t u past (λ k l. h k (omega arith)) in
      case_b (eqb g f)
      (λ e. rw (e, h j (rw (e, eq-eqb j j refl) (omega arith)), ih))
      (λ e. rw (e, ih))
  notes_ext t u (other e ∷ past) h = notes_ext t u past (λ k l. h k (omega arith))

  -- a segment given once may as well have been the last: parts at different offsets
  pull : (t : ℕ → Bool) (k : ℕ) (past : List Item) → t k ≡ true → times f k past ≡ 1
      → ((j : ℕ) → 0 < times f j past → j ≢ k → offset_of (frame_of frames f).parts k ≢ offset_of (frame_of frames f).parts j)
      → notes_if t past ≡ note_after (notes_if (λ j. t j && not (eqb j k)) past) (states (frame_of frames f) k)
  unfolding states
  pull t k [] tk one d = absurd (omega arith)
  pull t k (given g j ∷ past) tk one d =
      case_b (eqb g f)
      (λ e. case_b (eqb j k)
      (λ q. let jk : j ≡ k = eqb-true j k q in
      let gone : (t j && not (eqb j k)) ≡ false = rw q (and_no (t j)) in
      let z : times f k past ≡ 0 = omega (arith, rw (e, q) at one) in
      rw (e, gone)
      (rw jk (rw tk
      (ap (λ (x : Note). note_after x (states (frame_of frames f) k))
      (notes_ext t (λ j. t j && not (eqb j k)) past (λ i l. sym (rw (ne_eqb i k (λ w. absurd (omega (arith, rw w at l)))) (and_yes (t i)))))))))
      (λ q. let n : j ≢ k = eqb-false j k q in
      let stays : (t j && not (eqb j k)) ≡ t j = rw q (and_yes (t j)) in
      let ih : notes_if t past ≡ note_after (notes_if (λ j. t j && not (eqb j k)) past) (states (frame_of frames f) k) =
      pull t k past tk (omega (arith, rw (e, q) at one)) (λ i l. d i (omega arith)) in
      rw (e, stays)
      (case_b (t j)
      (λ u. rw (u, ih)
      (noted_swap (notes_if (λ j. t j && not (eqb j k)) past) (offset_of (frame_of frames f).parts k) (offset_of (frame_of frames f).parts j)
      (part_of (frame_of frames f) k).mark (part_of (frame_of frames f) j).mark (d j (rw (e, eq-eqb j j refl) (omega arith)) n)))
      (λ u. rw u ih))))
      (λ e. rw e (pull t k past tk (omega (arith, rw e at one)) (λ i l. d i (omega arith))))
  pull t k (other e ∷ past) tk one d = pull t k past tk (omega arith) (λ i l. d i (omega arith))

  notes-to : (n : ℕ) (past : List Item) → ((j : ℕ) → j < n → times f j past ≡ 1)
      → ((j k : ℕ) → 0 < times f j past → k < n → j ≢ k → offset_of (frame_of frames f).parts k ≢ offset_of (frame_of frames f).parts j)
      → notes_if (λ j. ltb j n) past ≡ note_to (frame_of frames f) n
  unfolding note_to
  notes-to zero past one d = none past
    where
      none : (past : List Item) → notes_if (λ j. ltb j 0) past ≡ no_note
      none [] = refl
      none (given g j ∷ past) = case_b (eqb g f) (λ e. rw (e, le-ltb j 0 (omega arith)) (none past)) (λ e. rw e (none past))
      none (other e ∷ past) = none past
  notes-to (suc n) past one d =
      pull (λ j. ltb j (suc n)) n past (lt-ltb n (suc n) (omega arith)) (one n (omega arith)) (λ j l. d j n l (omega arith))
      ∙ ap (λ (x : Note). note_after x (states (frame_of frames f) n))
      (notes_ext (λ j. ltb j (suc n) && not (eqb j n)) (λ j. ltb j n) past (λ j l. less j)
      ∙ notes-to n past (λ j l. one j (omega arith)) (λ j k l h. d j k l (omega arith)))
    where
      less : (j : ℕ) → (ltb j (suc n) && not (eqb j n)) ≡ ltb j n
      less j =
          case_b (ltb j n)
          (λ e. rw (e, lt-ltb j (suc n) (omega (arith, ltb-true j n e)), ne_eqb j n (λ q. absurd (omega (arith, ltb-true j n e)))))
          (λ e. case_b (eqb j n)
          (λ q. rw (e, q, lt-ltb j (suc n) (omega (arith, eqb-true j n q))))
          (λ q. let d : j ≢ n = eqb-false j n q in rw (e, q, le-ltb j (suc n) (omega (arith, ltb-false j n e)))))

  -- all segments given, each once, in any order: what is noted is what the cut's own order gives
  pub notes-all : (past : List Item) → ((j : ℕ) → 0 < times f j past → j < length (frame_of frames f).parts)
      → ((j : ℕ) → j < length (frame_of frames f).parts → times f j past ≡ 1)
      → ((j : ℕ) → j < length (frame_of frames f).parts → 0 < size (frame_of frames f).parts j)
      → notes past ≡ frame_note (frame_of frames f)
  unfolding frame_note
  notes-all past real one some_byte =
      notes_ext (λ j. true) (λ j. ltb j (length (frame_of frames f).parts)) past (λ j l. sym (lt-ltb j (length (frame_of frames f).parts) (real j l)))
      ∙ notes-to (length (frame_of frames f).parts) past one (λ j k l h n. part_differ (frame_of frames f).parts k j h (real j l) (λ q. n (sym q)) some_byte)

  -- the age counts the ticks since the frame's first segment
  pub record Since (past : List Item) : Type 0 where
    pub before : List Item
    pub seg : ℕ
    pub middle : List Item
    pub is : reverse past ≡ before ++ (given f seg ∷ middle)
    pub aged : ticks middle ≡ age past

  -- one more item, which is no first segment of the frame
  since_more : (x : Item) (past : List Item) → Since past → age (x ∷ past) ≡ age past + tick_item x → Since (x ∷ past)
  since_more x past r a =
      record {
        before = r.before;
        seg = r.seg;
        middle = r.middle ++ (x ∷ []);
        is = reverse-cons x past ∙ ap (λ (l : List Item). l ++ (x ∷ [])) r.is ∙ append_assoc r.before (given f r.seg ∷ r.middle) (x ∷ []);
        aged = omega (arith, ticks-append r.middle (x ∷ []), r.aged);
      }

  pub since : (past : List Item) → 0 < segments_of f past → Since past
  since [] l = absurd (omega arith)
  since (given g j ∷ past) l =
      case_b (ltb 0 (segments_of f past))
      (λ e. since_more (given g j) past (since past (ltb-true _ _ e)) (omega arith))
      (λ e. case_b (eqb g f)
      (λ q. record {
        before = reverse past;
        seg = j;
        middle = [];
        is = rw (← eqb-true g f q) (reverse-cons (given g j) past);
        aged = sym (age-none past (omega (arith, ltb-false 0 (segments_of f past) e)));
      })
      (λ q. absurd (omega (arith, ltb-false 0 (segments_of f past) e, rw q at l))))
  since (other tick ∷ past) l =
      let l' : 0 < segments_of f past = omega arith in
      since_more (other tick) past (since past l') (rw (lt-ltb 0 (segments_of f past) l'))
  since (other (receive k) ∷ past) l = since_more (other (receive k)) past (since past (omega arith)) (omega arith)

-- ---- counting the frames for which a test holds

abbrev but : (ℕ → Bool) → ℕ → ℕ → Bool
but t g x = t x && not (eqb x g)

but_same : (t : ℕ → Bool) (g x : ℕ) → x ≢ g → but t g x ≡ t x
but_same t g x n = rw (ne_eqb x g n) (and_yes (t x))

but_gone : (t : ℕ → Bool) (g : ℕ) → but t g g ≡ false
but_gone t g = rw (eq-eqb g g refl) (and_no (t g))

but_above : (n : ℕ) (t : ℕ → Bool) (g : ℕ) → n ≤ g → how_many n (but t g) ≡ how_many n t
but_above zero t g l = refl
but_above (suc n) t g l = cc (but_same t g n (λ q. absurd (omega arith)), but_above n t g (omega arith))

-- taking one away
less_one : (n : ℕ) (t : ℕ → Bool) (g : ℕ) → g < n → t g ≡ true → how_many n t ≡ suc (how_many n (but t g))
less_one zero t g l e = absurd (omega arith)
less_one (suc n) t g l e =
    either (below_suc l)
    (λ m. omega (arith, less_one n t g m e, ap {B = ℕ} (λ (b : Bool). cond b 1 0) (but_same t g n (λ q. absurd (omega arith)))))
    (λ q. rw (← q) (omega (
      arith,
      but_above g t g (omega arith),
      ap {B = ℕ} (λ (b : Bool). cond b 1 0) (but_gone t g),
      ap {B = ℕ} (λ (b : Bool). cond b 1 0) e,
    )))

-- five different numbers below n
pub five : (n : ℕ) (t : ℕ → Bool) (a b c d e : ℕ) → a < n → b < n → c < n → d < n → e < n → t a ≡ true → t b ≡ true → t c ≡ true → t d ≡ true → t e ≡ true
    → b ≢ a → c ≢ a → d ≢ a → e ≢ a → c ≢ b → d ≢ b → e ≢ b → d ≢ c → e ≢ c → e ≢ d → 5 ≤ how_many n t
five n t a b c d e la lb lc ld le ta tb tc td te ba ca da ea cb db eb dc ec ed =
    let t₁ : ℕ → Bool = but t a in
    let t₂ : ℕ → Bool = but t₁ b in
    let t₃ : ℕ → Bool = but t₂ c in
    let t₄ : ℕ → Bool = but t₃ d in
    omega (
      arith,
      less_one n t a la ta,
      less_one n t₁ b lb (but_same t a b ba ∙ tb),
      less_one n t₂ c lc (but_same t₁ b c cb ∙ but_same t a c ca ∙ tc),
      less_one n t₃ d ld (but_same t₂ c d dc ∙ but_same t₁ b d db ∙ but_same t a d da ∙ td),
      less_one n t₄ e le (but_same t₃ d e ed ∙ but_same t₂ c e ec ∙ but_same t₁ b e eb ∙ but_same t a e ea ∙ te),
    )
