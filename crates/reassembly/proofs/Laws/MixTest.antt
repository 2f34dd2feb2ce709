-- A test of a mixing that computes: for showing, above, that the claim's conditions can be met.
use Rattle.std.specs.Prelude.{◌≡◌, refl, Bool, false, ◌&&◌, ◌||◌, ℕ, length, ltb, leb}
use Rattle.std.proofs.Math.Bool.{true, not}
use mathlib.Core.List.{List, [], ◌∷◌, ◌++◌, append_assoc, append-nil}
use Rattle.std.proofs.Common.{arith}
use Rattle.std.proofs.Math.Dec.{eqb}
use borrow.Author.Tests.{ltb-true, leb-true, eqb-true, eq-eqb}
use Rattle.reassembly.proofs.Laws.Base.{case_b, clash, and_l, and_r, all_below-at}
use Rattle.reassembly.specs.Base.{all_below}
use Rattle.reassembly.specs.Receive.{Answers, Reading}
use Rattle.reassembly.specs.Mix.{Frame, frame_of, Item, given, other, is_segment, times, ticks, pending_at, how_many, AllFree, Mixing}
use Rattle.reassembly.specs.Slots.{most_slots}

-- ---- a test of every place of a list

abbrev pub everywhere : (List Item → Item → List Item → Bool) → List Item → List Item → Bool
everywhere c before [] = true
everywhere c before (x ∷ xs) = c before x xs && everywhere c (before ++ (x ∷ [])) xs

everywhere-at : (c : List Item → Item → List Item → Bool) (xs before : List Item) → everywhere c before xs ≡ true
    → (b : List Item) (now : Item) (a : List Item) → xs ≡ b ++ (now ∷ a) → c (before ++ b) now a ≡ true
everywhere-at c [] before e [] now a is = clash (cc)
everywhere-at c [] before e (y ∷ b) now a is = clash (cc)
everywhere-at c (x ∷ xs) before e [] now a is =
    let q : x ≡ now = cc in
    let r : xs ≡ a = cc in
    rw (append-nil before, ← q, ← r) (and_l (c before x xs) _ e)
everywhere-at c (x ∷ xs) before e (y ∷ b) now a is =
    let q : x ≡ y = cc in
    let r : xs ≡ b ++ (now ∷ a) = cc in
    rw (← q) (rw append_assoc at (everywhere-at c xs (before ++ (x ∷ [])) (and_r (c before x xs) _ e) b now a r))

-- ---- the conditions on a mixing, as tests

module _ (frames : List Frame) where
  abbrev pub apart_at : List Item → Item → List Item → Bool
  apart_at b now a = all_below (length frames) (λ f. all_below (length frames)
      (λ g. not (pending_at b now a f && (pending_at b now a g && eqb (frame_of frames f).identifier (frame_of frames g).identifier)) || eqb f g))

  abbrev pub four_at : List Item → Item → List Item → Bool
  four_at b now a = leb (how_many (length frames) (pending_at b now a)) most_slots

  abbrev pub ticks_to : ℕ → List Item → Item → List Item → Bool
  ticks_to f middle (given g k) after = not (eqb g f) || leb (ticks middle) 3
  ticks_to f middle (other e) after = true

  abbrev pub soon_at : List Item → Item → List Item → Bool
  soon_at b (given f j) a = everywhere (ticks_to f) [] a
  soon_at b (other e) a = true

  abbrev pub labelled : List Item → Item → List Item → Bool
  labelled b (given f j) a = is_segment frames f j
  labelled b (other e) a = true

  abbrev pub once_all : List Item → Bool
  once_all items = all_below (length frames) (λ f. all_below (length (frame_of frames f).parts) (λ j. eqb (times f j items) 1))

  unfoldable pub mixes : List Item → Bool
  mixes items = everywhere labelled [] items && (once_all items && (everywhere apart_at [] items && (everywhere four_at [] items && everywhere soon_at [] items)))

  unlabelled : (f j : ℕ) → is_segment frames f j ≡ false → (xs before : List Item) → everywhere labelled before xs ≡ true → times f j xs ≡ 0
  unlabelled f j n [] before e = refl
  unlabelled f j n (given g k ∷ xs) before e =
      let ih : times f j xs ≡ 0 = unlabelled f j n xs (before ++ (given g k ∷ [])) (and_r (is_segment frames g k) _ e) in
      let l : is_segment frames g k ≡ true = and_l (is_segment frames g k) _ e in
      let z : (eqb g f && eqb k j) ≡ false =
      case_b (eqb g f && eqb k j)
      (λ t. let q : g ≡ f = eqb-true g f (and_l (eqb g f) (eqb k j) t) in
      let r : k ≡ j = eqb-true k j (and_r (eqb g f) (eqb k j) t) in
      clash (let y : is_segment frames f j ≡ true = rw (← q, ← r) l in cc))
      (λ t. t) in
      rw z (omega arith)
  unlabelled f j n (other v ∷ xs) before e = omega (arith, unlabelled f j n xs (before ++ (other v ∷ [])) e)

  implies : (x y : Bool) → (not x || y) ≡ true → x ≡ true → y ≡ true
  implies true y h e = h
  implies false y h e = clash (cc)

  pub mixing : (W : Answers) (header : List ℕ → Reading W) (p : ℕ) (items : List Item) → mixes items ≡ true → AllFree W header p items
      → Mixing W header p frames items
  unfolding mixes
  mixing W header p items t free =
      let t₁ = and_r (everywhere labelled [] items) _ t in
      let t₂ = and_r (once_all items) _ t₁ in
      let t₃ = and_r (everywhere apart_at [] items) _ t₂ in
      record {
        once = λ f j.
            case_b (is_segment frames f j)
            (λ e. rw e (eqb-true _ _ (all_below-at (length (frame_of frames f).parts) (λ j. eqb (times f j items) 1)
            (all_below-at (length frames) (λ f. all_below (length (frame_of frames f).parts) (λ j. eqb (times f j items) 1)) (and_l (once_all items) _ t₁) f
            (ltb-true f (length frames) (and_l (ltb f (length frames)) _ e)))
            j (ltb-true j (length (frame_of frames f).parts) (and_r (ltb f (length frames)) _ e)))))
            (λ e. rw e (unlabelled f j e items [] (and_l (everywhere labelled [] items) _ t)));
        rest = free;
        apart = λ before now after is f g lf lg wf wg q.
            eqb-true f g (implies (pending_at before now after f
            && (pending_at before now after g && eqb (frame_of frames f).identifier (frame_of frames g).identifier)) (eqb f g)
            (all_below-at (length frames) (λ g. not (pending_at before now after f
            && (pending_at before now after g && eqb (frame_of frames f).identifier (frame_of frames g).identifier)) || eqb f g)
            (all_below-at (length frames) (λ f. all_below (length frames)
            (λ g. not (pending_at before now after f && (pending_at before now after g && eqb (frame_of frames f).identifier (frame_of frames g).identifier))
            || eqb f g))
            (everywhere-at apart_at items [] (and_l (everywhere apart_at [] items) _ t₂) before now after is) f lf) g lg)
            (rw (wf, wg, eq-eqb (frame_of frames f).identifier (frame_of frames g).identifier q)));
        four = λ before now after is. leb-true _ _ (everywhere-at four_at items [] (and_l (everywhere four_at [] items) _ t₃) before now after is);
        soon = λ before middle after f j k is.
            let s : everywhere (ticks_to f) [] (middle ++ (given f k ∷ after)) ≡ true =
            everywhere-at soon_at items [] (and_r (everywhere four_at [] items) _ t₃) before (given f j) (middle ++ (given f k ∷ after)) is in
            leb-true _ _ (implies (eqb f f) _ (everywhere-at (ticks_to f) (middle ++ (given f k ∷ after)) [] s middle (given f k) after refl) (eq-eqb f f refl));
      }
