-- Case analysis that keeps the equation, and what `&&` and `||` of two tests say.
use Rattle.std.specs.Prelude.{◌≡◌, refl, ◌⊎◌, Bool, true, false, ◌&&◌, ◌||◌, ℕ}
use Rattle.std.proofs.Common.{inl, inr, arith}
use Rattle.std.proofs.Math.Option.{Option, none, some}

-- case analysis that keeps the equation: a value is handed over with what each case knows. The goal needs no motive.
pub case_o {ℓ} : {A : Type 0} {C : Type ℓ} (o : Option A) → (o ≡ none → C) → ((a : A) → o ≡ some a → C) → C
case_o none f g = f refl
case_o (some a) f g = g a refl

pub either {ℓ} : {A B : Type 0} {C : Type ℓ} → A ⊎ B → (A → C) → (B → C) → C
either (inl a) f g = f a
either (inr b) f g = g b

-- two constructors that clash: `clash (cc)`
pub clash {ℓ} : {C : Type ℓ} → ◌≡◌ {A = ℕ} 0 1 → C
clash e = absurd (omega arith)

pub and_l : (a b : Bool) → (a && b) ≡ true → a ≡ true
and_l true b e = refl
and_l false b e = e

pub and_r : (a b : Bool) → (a && b) ≡ true → b ≡ true
and_r true b e = e
and_r false b e = let z : true ≡ false = cc in cc

pub or_cases : (a b : Bool) → (a || b) ≡ true → (a ≡ true) ⊎ (b ≡ true)
or_cases true b e = inl refl
or_cases false b e = inr e

pub or_true-l : (a b : Bool) → a ≡ true → (a || b) ≡ true
or_true-l a b e = rw e

pub or_true_r : (a b : Bool) → b ≡ true → (a || b) ≡ true
or_true_r true b e = refl
or_true_r false b e = e
