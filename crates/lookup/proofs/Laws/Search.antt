-- Laws of a search: what it finds is the lowest number that passes.
use Rattle.std.specs.Prelude.{◌≡◌, Bool, true, cond, ◌≢◌, eqb, ltb, List, length, get_or, Some, None, position}
use Rattle.std.specs.List.{position_or_len}
use Rattle.std.proofs.Math.Path.{refl, ap}
use Rattle.std.proofs.Common.{sym, ◌∙◌, arith}
use Rattle.std.proofs.Math.Bool.{false}
use Rattle.std.proofs.Math.Option.{Option, none, some}
use Prim.Native.Nat.{ℕ, zero, suc, ◌+◌, ◌<◌, ◌≤◌}
use Rattle.std.proofs.lemmas.List.Sums.{passes_at_first, fails_before_first}
use borrow.Author.Tests.{eqb-true, eqb-false, ltb-true, ltb-false}
use borrow.Table.Steps.{cases}
use Rattle.lookup.proofs.Laws.Cases.{clash}
use Rattle.lookup.specs.Search.{from, lowest, Lowest, found, found_of}

module _ (test : ℕ → Bool) where
  -- r is the lowest that passes among the k numbers from i on
  record LowestFrom (i k r : ℕ) : Type 0 where
    pub above : i ≤ r
    pub below : r < i + k
    pub passes : test r ≡ true
    pub least : (j : ℕ) → i ≤ j → j < r → test j ≡ false

  least_more : (i r : ℕ) → test i ≡ false → ((j : ℕ) → suc i ≤ j → j < r → test j ≡ false) → (j : ℕ) → i ≤ j → j < r → test j ≡ false
  least_more i r e h j a b = cases (eqb j i) (λ q. ap test (eqb-true j i q) ∙ e) (λ q. let d : j ≢ i = eqb-false j i q in h j (omega arith) b)

  from_some : (i k r : ℕ) → from test i k ≡ some r → LowestFrom i k r
  unfolding from
  from_some i zero r e = clash (cc)
  from_some i (suc k) r e =
      cases (test i)
      (λ t. let q : r ≡ i = cc in record { above = omega arith; below = omega arith; passes = ap test q ∙ t; least = λ j a b. absurd (omega arith) })
      (λ t.
      let w = from_some (suc i) k r (cc) in
      let a : suc i ≤ r = w.above in
      let b : r < suc i + k = w.below in
      record { above = omega arith; below = omega arith; passes = w.passes; least = least_more i r t w.least })

  from-none : (i k : ℕ) → from test i k ≡ none → (j : ℕ) → i ≤ j → j < i + k → test j ≡ false
  unfolding from
  from-none i zero e j a b = absurd (omega arith)
  from-none i (suc k) e j a b =
      cases (test i)
      (λ t. clash (cc))
      (λ t. least_more i (suc i + k) t (from-none (suc i) k (cc)) j a (omega arith))

  from_is : (i k r : ℕ) → LowestFrom i k r → from test i k ≡ some r
  unfolding from
  from_is i zero r w =
      let a : i ≤ r = w.above in
      let b : r < i + 0 = w.below in
      absurd (omega arith)
  from_is i (suc k) r w =
      let a : i ≤ r = w.above in
      let b : r < i + suc k = w.below in
      cases (eqb i r)
      (λ q.
      let s : i ≡ r = eqb-true i r q in
      cc (ap test s ∙ w.passes))
      (λ q.
      let d : i ≢ r = eqb-false i r q in
      let miss : test i ≡ false = w.least i (omega arith) (omega arith) in
      cc (miss, from_is (suc i) k r (record { above = omega arith; below = omega arith; passes = w.passes; least = λ j x y. w.least j (omega arith) y })))

  from_not : (i k : ℕ) → ((j : ℕ) → i ≤ j → j < i + k → test j ≡ false) → from test i k ≡ none
  unfolding from
  from_not i zero h = refl
  from_not i (suc k) h = cc (h i (omega arith) (omega arith), from_not (suc i) k (λ j a b. h j (omega arith) (omega arith)))

  -- ---- a search's loop: one number more was looked at

  pub more_not : (i : ℕ) → ((t : ℕ) → t < i → test t ≡ false) → test i ≡ false → (t : ℕ) → t < i + 1 → test t ≡ false
  more_not i h e t l =
      cases (eqb t i)
      (λ q. ap test (eqb-true t i q) ∙ e)
      (λ q. let d : t ≢ i = eqb-false t i q in h t (omega arith))

  -- ---- what a search finds, and that it is that

  pub lowest-some : (n i : ℕ) → lowest test n ≡ some i → Lowest test n i
  unfolding lowest
  lowest-some n i e =
      let w = from_some 0 n i e in
      let b : i < 0 + n = w.below in
      record { below = omega arith; passes = w.passes; least = λ j h. w.least j (omega arith) h }

  pub lowest-none : (n : ℕ) → lowest test n ≡ none → (j : ℕ) → j < n → test j ≡ false
  unfolding lowest
  lowest-none n e j h = from-none 0 n e j (omega arith) (omega arith)

  pub lowest_is : (n i : ℕ) → Lowest test n i → lowest test n ≡ some i
  unfolding lowest
  lowest_is n i w =
      let b : i < n = w.below in
      from_is 0 n i (record { above = omega arith; below = omega arith; passes = w.passes; least = λ j _ h. w.least j h })

  pub lowest_not : (n : ℕ) → ((j : ℕ) → j < n → test j ≡ false) → lowest test n ≡ none
  unfolding lowest
  lowest_not n h = from_not 0 n (λ j _ b. h j (omega arith))

-- among four
pub lowest_four : (test : ℕ → Bool)
    → lowest test 4 ≡ cond (test 0) (some 0) (cond (test 1) (some 1) (cond (test 2) (some 2) (cond (test 3) (some 3) none)))
unfolding lowest from
lowest_four test = refl

-- what was found, where something was
pub found_is : (o : Option ℕ) (i : ℕ) → o ≡ some i → o ≡ some (found o)
unfolding found
found_is o i q = q ∙ ap some (sym (ap found q))

-- ---- as std answers it

-- `position` over elements that pass as the numbers do
pub position_is : {X : Type 0} (p : X → Bool) (test : ℕ → Bool) (xs : List X) (d : X)
    → ((i : ℕ) → i < length xs → p (get_or xs i d) ≡ test i)
    → position p xs ≡ found_of (lowest test (length xs))
position_is p test xs d same =
    let k : ℕ = position_or_len p xs in
    cases (ltb k (length xs))
    (λ q.
    let l : k < length xs = ltb-true k (length xs) q in
    rw q
    (sym (ap found_of (lowest_is test (length xs) k (record {
      below = l;
      passes = sym (same k l) ∙ passes_at_first p xs d l;
      least = λ j h. sym (same j (omega arith)) ∙ fails_before_first p xs j d h;
    })))))
    (λ q.
    let l : length xs ≤ k = ltb-false k (length xs) q in
    rw q (sym (ap found_of (lowest_not test (length xs) (λ j h. sym (same j h) ∙ fails_before_first p xs j d (omega arith))))))

pub found_some : (o : Option ℕ) (i : ℕ) → found_of o ≡ Some i → o ≡ some i
found_some none i e = clash (cc)
found_some (some j) i e = cc

pub found_none : (o : Option ℕ) → found_of o ≡ None → o ≡ none
found_none none e = refl
found_none (some j) e = clash (cc)
