-- Laws of `Keyed`: what is found after a list has changed, and lists with no key twice.
use Rattle.std.specs.Prelude.{◌≡◌, ◌≢◌, ℕ, eqb}
use Rattle.std.proofs.Math.Path.{refl}
use Rattle.std.proofs.Common.{sym, ap, ◌∙◌}
use Rattle.std.proofs.Math.Bool.{cond}
use mathlib.Core.List.{List, [], ◌∷◌}
use Rattle.std.proofs.Math.Option.{Option, none, some}
use borrow.Author.Tests.{eqb-true, eqb-false, eq-eqb, ne_eqb}
use Rattle.reassembly.proofs.Laws.Base.{case_b, clash}
use Rattle.reference.specs.Keyed.{find, put, without, Distinct}

module _ {A : Type 0} (key : A → ℕ) where
  pub find-nothing : (k : ℕ) → find key k [] ≡ none
  unfolding find
  find-nothing k = refl

  pub find-here : (a : A) (l : List A) → find key (key a) (a ∷ l) ≡ some a
  unfolding find
  find-here a l = rw (eq-eqb (key a) (key a) refl)

  pub find_past : (a : A) (l : List A) (k : ℕ) → key a ≢ k → find key k (a ∷ l) ≡ find key k l
  unfolding find
  find_past a l k n = rw (ne_eqb (key a) k n)

  pub find-put-same : (a : A) (l : List A) → find key (key a) (put key a l) ≡ some a
  unfolding find put
  find-put-same a [] = rw (eq-eqb (key a) (key a) refl)
  find-put-same a (x ∷ xs) =
      case_b (eqb (key x) (key a))
      (λ e. rw (e, eq-eqb (key a) (key a) refl))
      (λ e. rw (e, e) (find-put-same a xs))

  pub find-put-other : (a : A) (l : List A) (k : ℕ) → key a ≢ k → find key k (put key a l) ≡ find key k l
  unfolding find put
  find-put-other a [] k n = rw (ne_eqb (key a) k n)
  find-put-other a (x ∷ xs) k n =
      case_b (eqb (key x) (key a))
      (λ e. let z : key x ≡ key a = eqb-true (key x) (key a) e in rw (e, z, ne_eqb (key a) k n))
      (λ e. rw e (ap (λ (r : Option A). cond (eqb (key x) k) (some x) r) (find-put-other a xs k n)))

  pub find-without-same : (k : ℕ) (l : List A) → find key k (without key k l) ≡ none
  unfolding find without
  find-without-same k [] = refl
  find-without-same k (x ∷ xs) = case_b (eqb (key x) k) (λ e. rw e (find-without-same k xs)) (λ e. rw (e, e) (find-without-same k xs))

  pub find-without-other : (k j : ℕ) (l : List A) → k ≢ j → find key j (without key k l) ≡ find key j l
  unfolding find without
  find-without-other k j [] n = refl
  find-without-other k j (x ∷ xs) n =
      case_b (eqb (key x) k)
      (λ e. let z : key x ≡ k = eqb-true (key x) k e in rw (e, z, ne_eqb k j n) (find-without-other k j xs n))
      (λ e. rw e (ap (λ (r : Option A). cond (eqb (key x) j) (some x) r) (find-without-other k j xs n)))

  -- where nothing is found, nothing is after entries with some key have gone
  pub find-without-none : (k j : ℕ) (l : List A) → find key j l ≡ none → find key j (without key k l) ≡ none
  find-without-none k j l e =
      case_b (eqb k j)
      (λ q. rw (eqb-true k j q) (find-without-same j l))
      (λ q. find-without-other k j l (eqb-false k j q) ∙ e)

  pub without-put : (a : A) (l : List A) → without key (key a) (put key a l) ≡ without key (key a) l
  unfolding without put
  without-put a [] = rw (eq-eqb (key a) (key a) refl)
  without-put a (x ∷ xs) =
      case_b (eqb (key x) (key a))
      (λ e. rw (e, eq-eqb (key a) (key a) refl))
      (λ e. rw (e, e) (ap (λ (r : List A). x ∷ r) (without-put a xs)))

  -- what is found bears the key
  pub find_key : (k : ℕ) (l : List A) (a : A) → find key k l ≡ some a → key a ≡ k
  unfolding find
  find_key k [] a e = clash (cc)
  find_key k (x ∷ xs) a e =
      case_b (eqb (key x) k)
      (λ q. let z : some x ≡ some a = rw q at e in let y : x ≡ a = cc in rw (← y) (eqb-true (key x) k q))
      (λ q. find_key k xs a (rw q at e))

  -- ---- no key twice

  pub distinct_put : (a : A) (l : List A) → Distinct key l → Distinct key (put key a l)
  unfolding put
  distinct_put a [] d = (find-nothing (key a), tt)
  distinct_put a (x ∷ xs) d =
      case_b (eqb (key x) (key a))
      (λ e. let z : key x ≡ key a = eqb-true (key x) (key a) e in rw e (rw z at d.0, d.1))
      (λ e. let n : key a ≢ key x = λ z. eqb-false (key x) (key a) e (sym z) in
      rw e (find-put-other a xs (key x) n ∙ d.0, distinct_put a xs d.1))

  pub distinct_without : (k : ℕ) (l : List A) → Distinct key l → Distinct key (without key k l)
  unfolding without
  distinct_without k [] d = tt
  distinct_without k (x ∷ xs) d =
      case_b (eqb (key x) k)
      (λ e. rw e (distinct_without k xs d.1))
      (λ e. rw e (find-without-none k (key x) xs d.0, distinct_without k xs d.1))
