-- Document 01's number and values of an answer, case by case: what a crate above knows of `added_code`, `start_code`, `tick_code` and `wrap_values_of`.
use Rattle.std.specs.Prelude.{ℕ, ◌≡◌, refl, Result, Ok, Err}
use Rattle.endpoint.specs.declared.answer.ConfigRefusal.{ConfigRefusal}
use Rattle.endpoint.specs.declared.answer.Packet.{Packet}
use Rattle.endpoint.specs.declared.answer.WrapRefusal.{WrapRefusal}
use Rattle.endpoint.specs.Answer.{config_answer_code, config_code, added_code, start_code, tick_code, wrap_refusal_code, wrap_values_of}

pub number_code : (n : ℕ) → added_code (Ok n) ≡ 0
unfolding added_code
number_code n = refl

pub refused_code : (r : ConfigRefusal) → added_code (Err r) ≡ config_code r
unfolding added_code
refused_code r = refl

-- the number of a start's answer is that of any answer about the configuration
pub start_code_is : (a : Result (Unit {0}) ConfigRefusal) → config_answer_code a ≡ start_code a
unfolding start_code
start_code_is a = refl

pub tick_code_lem : (t : Unit {0}) → tick_code t ≡ 0
unfolding tick_code
tick_code_lem t = refl

pub written_values : (p : Packet) → wrap_values_of (Ok p) ≡ record { number = 0; length_is = p.length; segments = p.segments }
unfolding wrap_values_of
written_values p = refl

pub refused_values : (r : WrapRefusal) → wrap_values_of (Err r) ≡ record { number = wrap_refusal_code r; length_is = 0; segments = 0 }
unfolding wrap_values_of
refused_values r = refl
