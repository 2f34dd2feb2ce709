-- The number and the values of each answer: 0, 18, 21 and 24 of the numbered table.
use Rattle.std.specs.Prelude.{ℕ, Result, Ok, Err}
use Rattle.image.specs.declared.answer.SaveRefusal.{SaveRefusal}
use Rattle.image.specs.declared.answer.SaveRefusal.TheVariants as X
use Rattle.image.specs.declared.answer.BadImage.{BadImage}

-- ---- need not be believed: a number for each refusal

unfoldable pub save_refusal_code : SaveRefusal → ℕ
save_refusal_code X.NotStarted = 18
save_refusal_code X.OutputTooShort = 21

-- ---- what the calls give back

-- what a save gives back: its number, and the length of the image. A refusal carries 0
pub record SaveValues : Type 0 where
  pub number : ℕ
  pub length_is : ℕ

unfoldable pub save_values_of : Result ℕ SaveRefusal → SaveValues
save_values_of (Ok n) = record { number = 0; length_is = n }
save_values_of (Err r) = record { number = save_refusal_code r; length_is = 0 }

unfoldable pub load_code : Result (Unit {0}) BadImage → ℕ
load_code (Ok done) = 0
load_code (Err bad) = 24
