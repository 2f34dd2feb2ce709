-- A loop that changes each entry of a list in turn.
use Rattle.std.specs.Prelude.{◌≡◌, length, get_or, set, take}
use Rattle.std.proofs.Common.{◌∙◌, sym, add-one, not-suc-le-zero, le_of_suc-le-suc}
use Rattle.std.proofs.Math.Path.{refl, ap}
use mathlib.Core.List.{List, [], ◌∷◌, ◌++◌, map, append-nil}
use Prim.Native.Nat.{ℕ, zero, suc, ◌+◌, ◌<◌}
use Rattle.std.proofs.Math.ListN.{drop}
use Rattle.std.proofs.Math.Seq.{take-length, drop-length}

-- a loop that changes each entry of a list: those before p are changed
module _ {A : Type 0} (f : A → A) where
  unfoldable pub changed_before : List A → ℕ → List A
  changed_before l p = map f (take p l) ++ drop p l

  -- what a turn finds at p is as it came
  pub before_at : (l : List A) (p : ℕ) (d : A) → p < length l → get_or (changed_before l p) p d ≡ get_or l p d
  unfolding changed_before
  before_at [] p d h = absurd (not-suc-le-zero h)
  before_at (x ∷ l) zero d h = refl
  before_at (x ∷ l) (suc p) d h = before_at l p d (le_of_suc-le-suc h)

  pub before_more : (l : List A) (p : ℕ) (d : A) → p < length l → set (changed_before l p) p (f (get_or l p d)) ≡ changed_before l (suc p)
  unfolding changed_before
  before_more [] p d h = absurd (not-suc-le-zero h)
  before_more (x ∷ l) zero d h = refl
  before_more (x ∷ l) (suc p) d h = ap (λ (t : List A). f x ∷ t) (before_more l p d (le_of_suc-le-suc h))

  -- a turn
  pub before_turn : (l now : List A) (p : ℕ) (x d : A) → p < length l → now ≡ changed_before l p → x ≡ f (get_or now p d)
      → set now p x ≡ changed_before l (p + 1)
  before_turn l now p x d h is e =
      ap (λ (t : List A). set t p x) is
      ∙ ap (set (changed_before l p) p) (e ∙ ap f (ap (λ (t : List A). get_or t p d) is ∙ before_at l p d h))
      ∙ before_more l p d h
      ∙ ap (changed_before l) (sym (add-one p))

  pub before-none : (l : List A) → changed_before l 0 ≡ l
  unfolding changed_before
  before-none l = refl

  pub before-all : (l : List A) → changed_before l (length l) ≡ map f l
  unfolding changed_before
  before-all l =
      ap (λ (t : List A). map f t ++ drop (length l) l) (take-length l)
      ∙ ap (λ (t : List A). map f l ++ t) (drop-length l)
      ∙ append-nil (map f l)
