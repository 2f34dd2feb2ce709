-- Laws of `Each`, and how many entries a list with keys has.
use Rattle.std.specs.Prelude.{◌≡◌, ◌≢◌, length, eqb}
use Rattle.std.proofs.Common.{ap}
use mathlib.Core.List.{List, [], ◌∷◌}
use Rattle.std.proofs.Math.Option.{none, some}
use Prim.Native.Nat.{ℕ, suc, ◌≤◌}
use native.Mathlib.Omega.{arith}
use Rattle.std.proofs.lemmas.Bool.{eqb-false}
use Rattle.reassembly.proofs.Laws.Base.{case_b, clash}
use Rattle.reference.specs.Keyed.{find, put, without}
use Rattle.reference.specs.Many.{Each}

pub each_so : {A : Type 0} (P Q : A → Type 0) (l : List A) → ((x : A) → P x → Q x) → Each P l → Each Q l
each_so P Q [] f h = tt
each_so P Q (x ∷ xs) f h = (f x h.0, each_so P Q xs f h.1)

module _ {A : Type 0} (key : A → ℕ) where
  pub each-find : (P : A → Type 0) (k : ℕ) (l : List A) (a : A) → Each P l → find key k l ≡ some a → P a
  unfolding find
  each-find P k [] a h e = clash (cc)
  each-find P k (x ∷ xs) a h e =
      case_b (eqb (key x) k)
      (λ q. let z : some x ≡ some a = rw q at e in let y : x ≡ a = cc in rw (← y) h.0)
      (λ q. each-find P k xs a h.1 (rw q at e))

  pub each-put : (P : A → Type 0) (a : A) (l : List A) → P a → Each P l → Each P (put key a l)
  unfolding put
  each-put P a [] r h = (r, tt)
  each-put P a (x ∷ xs) r h = case_b (eqb (key x) (key a)) (λ e. rw e (r, h.1)) (λ e. rw e (h.0, each-put P a xs r h.1))

  pub each-without : (P : A → Type 0) (k : ℕ) (l : List A) → Each P l → Each P (without key k l)
  unfolding without
  each-without P k [] h = tt
  each-without P k (x ∷ xs) h = case_b (eqb (key x) k) (λ e. rw e (each-without P k xs h.1)) (λ e. rw e (h.0, each-without P k xs h.1))

  -- where nothing is found, every key is another
  pub each-other : (k : ℕ) (l : List A) → find key k l ≡ none → Each (λ (x : A). key x ≢ k) l
  unfolding find
  each-other k [] e = tt
  each-other k (x ∷ xs) e =
      case_b (eqb (key x) k)
      (λ q. let z : some x ≡ none = rw q at e in clash (cc))
      (λ q. (eqb-false (key x) k q, each-other k xs (rw q at e)))

  pub length-put-new : (a : A) (l : List A) → length (put key a l) ≤ suc (length l)
  unfolding put
  length-put-new a [] = omega arith
  length-put-new a (x ∷ xs) = case_b (eqb (key x) (key a)) (λ e. rw e (omega arith)) (λ e. rw e (omega (arith, length-put-new a xs)))

  pub length-put-old : (a x : A) (l : List A) → find key (key a) l ≡ some x → length (put key a l) ≡ length l
  unfolding find put
  length-put-old a x [] e = clash (cc)
  length-put-old a x (y ∷ ys) e = case_b (eqb (key y) (key a)) (λ q. rw q) (λ q. rw q (ap suc (length-put-old a x ys (rw q at e))))

  pub length_without : (k : ℕ) (l : List A) → length (without key k l) ≤ length l
  unfolding without
  length_without k [] = omega arith
  length_without k (x ∷ xs) = case_b (eqb (key x) k) (λ e. rw e (omega (arith, length_without k xs))) (λ e. rw e (omega (arith, length_without k xs)))
