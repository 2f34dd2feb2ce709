-- Laws of ordered checks.
use Rattle.std.specs.Prelude.{◌≡◌, ℕ, zero, suc, Bool, true, false, not, ◌||◌, List, [], ◌∷◌, ◌==◌, ◌≢◌, refl, Result, Ok, Err}
use Rattle.std.proofs.Common.{ltb-true, ltb-false, leb-true, leb-false, eqb-true, eq-eqb, lt-ltb, le-ltb, le-leb, ne_eqb}
use Rattle.std.proofs.lemmas.Bool.{not-false, lt-leb}
use Rattle.wire.specs.Checks.{Check, ◌⇒◌, pick, first, Passed}

-- what a list of checks gives, one check after another
pub first-none : {R A : Type 0} (refused : R → A) (accepted : A) → first refused [] accepted ≡ accepted
unfolding first
first-none refused accepted = refl

pub first_more : {R A : Type 0} (refused : R → A) (test : Bool) (r : R) (checks : List (Check R)) (accepted : A)
    → first refused ((test ⇒ r) ∷ checks) accepted ≡ pick test (refused r) (first refused checks accepted)
unfolding first
first_more refused test r checks accepted = refl

-- for simp: a list of checks that is written out, as choices
pub ruleset choices = (first-none, first_more)

-- behind a test, what holds where it is not met
pub unless : {A : Type 0} (test : Bool) (a x y : A) → (test ≡ false → x ≡ y) → pick test a x ≡ pick test a y
unless true a x y h = refl
unless false a x y h = h refl

-- accepted exactly when no check is met
pub pass : {R A : Type 0} (refused : R → A) (checks : List (Check R)) (accepted : A) → Passed checks → first refused checks accepted ≡ accepted
unfolding first
pass refused [] accepted p = refl
pass refused ((test ⇒ r) ∷ checks) accepted p = rw p.0 (pass refused checks accepted p.1)

pub passed : {R A : Type 0} (refused : R → A) (checks : List (Check R)) (accepted x : A)
    → ((r : R) → refused r ≢ x) → first refused checks accepted ≡ x → Passed checks × (accepted ≡ x)
unfolding first
passed refused [] accepted x n e = (tt, e)
passed refused ((true ⇒ r) ∷ checks) accepted x n e = absurd (n r e)
passed refused ((false ⇒ r) ∷ checks) accepted x n e =
    let p = passed refused checks accepted x n e in
    ((refl, p.0), p.1)

-- of a reader: what it gives passed every check
pub through : {R A : Type 0} (checks : List (Check R)) (accepted : Result A R) (x : A) → first Err checks accepted ≡ Ok x → Passed checks × (accepted ≡ Ok x)
through checks accepted x e = passed Err checks accepted (Ok x) (λ r q. cc) e

-- what holds of every refusal, and of what is accepted where no check is met, holds of the answer
pub cases : {R A : Type 0} (P : A → Type 0) (refused : R → A) (checks : List (Check R)) (accepted : A)
    → ((r : R) → P (refused r)) → (Passed checks → P accepted) → P (first refused checks accepted)
unfolding first
cases P refused [] accepted f g = g tt
cases P refused ((true ⇒ r) ∷ checks) accepted f g = f r
cases P refused ((false ⇒ r) ∷ checks) accepted f g = cases P refused checks accepted f (λ p. g (refl, p))

-- and so does what holds of the refusals of this list alone
abbrev pub Each : {R : Type 0} → (R → Type 0) → List (Check R) → Type 0
Each Q [] = Unit {0}
Each Q ((test ⇒ r) ∷ checks) = Q r × Each Q checks

pub by_each : {R A : Type 0} (P : A → Type 0) (refused : R → A) (checks : List (Check R)) (accepted : A)
    → Each (λ r. P (refused r)) checks → P accepted → P (first refused checks accepted)
unfolding first
by_each P refused [] accepted f g = g
by_each P refused ((true ⇒ r) ∷ checks) accepted f g = f.0
by_each P refused ((false ⇒ r) ∷ checks) accepted f g = by_each P refused checks accepted f.1 g

-- two answers by one list of checks are related where what they give is
pub relates : {R A : Type 0} (P : A → A → Type 0) (f g : R → A) (checks : List (Check R)) (x y : A) → ((r : R) → P (f r) (g r)) → P x y
    → P (first f checks x) (first g checks y)
unfolding first
relates P f g [] x y h k = k
relates P f g ((true ⇒ r) ∷ checks) x y h k = h r
relates P f g ((false ⇒ r) ∷ checks) x y h k = relates P f g checks x y h k

-- check n is the first that is met; past the last, none is
abbrev pub At : {R : Type 0} → List (Check R) → ℕ → Type 0
At [] n = Unit {0}
At ((test ⇒ r) ∷ checks) zero = test ≡ true
At ((test ⇒ r) ∷ checks) (suc n) = (test ≡ false) × At checks n

-- what is then given
-- Open: the words of the law `decided`: entry n of a list that is written out
abbrev pub given : {R A : Type 0} → (R → A) → List (Check R) → A → ℕ → A
given refused [] accepted n = accepted
given refused ((test ⇒ r) ∷ checks) accepted zero = refused r
given refused ((test ⇒ r) ∷ checks) accepted (suc n) = given refused checks accepted n

-- the one law by which code with early returns meets a list of checks: its exit number n gives what the list gives
pub decided : {R A : Type 0} (refused : R → A) (checks : List (Check R)) (accepted : A) (n : ℕ)
    → At checks n → first refused checks accepted ≡ given refused checks accepted n
unfolding first
decided refused [] accepted n p = refl
decided refused ((test ⇒ r) ∷ checks) accepted zero p = rw p
decided refused ((test ⇒ r) ∷ checks) accepted (suc n) p = rw p.0 (decided refused checks accepted n p.1)

-- no cause of several
pub neither : (a b : Bool) → a ≡ false → b ≡ false → (a || b) ≡ false
neither a b p q = rw (p, q)

pub or_false-l : (a b : Bool) → (a || b) ≡ false → a ≡ false
or_false-l true b e = e
or_false-l false b e = refl

pub or_false_r : (a b : Bool) → (a || b) ≡ false → b ≡ false
or_false_r true b e = cc
or_false_r false b e = e

-- a check for a number other than the one that is asked for
pub is_not : (a b : ℕ) → a ≡ b → not (a == b) ≡ false
is_not a b e = rw (eq-eqb a b e)

pub is_met : (a b : ℕ) → (a ≢ b) → not (a == b) ≡ true
is_met a b h = rw (ne_eqb a b h)

pub is_so : (a b : ℕ) → not (a == b) ≡ false → a ≡ b
is_so a b e = eqb-true a b (not-false (a == b) e)

-- for omega: what a passed check says
pub ruleset tests = (ltb-true, ltb-false, leb-true, leb-false, eqb-true, is_so)

-- for omega: that a check is passed, or met
pub ruleset passing = (le-ltb, lt-leb, is_not, ne_eqb)

pub ruleset deciding = (lt-ltb, le-ltb, le-leb, lt-leb, eq-eqb, ne_eqb, is_not, is_met)
