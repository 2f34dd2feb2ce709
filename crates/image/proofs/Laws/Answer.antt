-- The number and the values of a save's and a load's answer, case by case: what a crate above knows of `save_values_of` and `load_code`.
use Rattle.std.specs.Prelude.{ℕ, ◌≡◌, refl, Ok, Err}
use Rattle.image.specs.Answer.{save_refusal_code, save_values_of, load_code}
use Rattle.image.specs.declared.answer.SaveRefusal.{SaveRefusal}

pub written_values : (n : ℕ) → save_values_of (Ok n) ≡ record { number = 0; length_is = n }
unfolding save_values_of
written_values n = refl

pub refused_values : (r : SaveRefusal) → save_values_of (Err r) ≡ record { number = save_refusal_code r; length_is = 0 }
unfolding save_values_of
refused_values r = refl

pub loaded_code : (done : Unit {0}) → load_code (Ok done) ≡ 0
unfolding load_code
loaded_code done = refl
