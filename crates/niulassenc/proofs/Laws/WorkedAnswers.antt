-- The exported answers are what they should be: each case computes.
use Rattle.std.specs.Prelude.{ℕ, ◌+◌, ◌<◌, ◌≤◌, ◌≡◌, refl, Bool, true, false, cond}
use Rattle.std.proofs.lemmas.Bool.{lt-leb}
use Rattle.std.proofs.Common.{le-leb}
use Rattle.wire.specs.Refusal.{finding_of}
use Rattle.reassembly.specs.Take.{rejection_code}
use Rattle.endpoint.specs.Answer.{added_code, start_code, wrap_values_of}
use Rattle.endpoint.specs.View.{cut_within, cut_of}
use Rattle.image.specs.Answer.{save_refusal_code, save_values_of, load_code}
use Rattle.niulassenc.specs.Cut.{cut_at}
use Rattle.niulassenc.specs.WorkedAnswers.{WorkedAnswers}

fits : (p m start length : ℕ) (in_lent_memory : Bool) → start + length ≤ cond in_lent_memory m p
    → cut_at p m start length in_lent_memory ≡ record { start = start; length = length; in_memory = in_lent_memory }
unfolding cut_of cut_within
fits p m start length true h = rw (le-leb (start + length) m h)
fits p m start length false h = rw (le-leb (start + length) p h)

past : (p m start length : ℕ) (in_lent_memory : Bool) → cond in_lent_memory m p < start + length
    → cut_at p m start length in_lent_memory ≡ record { start = 0; length = 0; in_memory = false }
unfolding cut_of cut_within
past p m start length true h = rw (lt-leb (start + length) m h)
past p m start length false h = rw (lt-leb (start + length) p h)

pub worked-answers : WorkedAnswers
unfolding finding_of rejection_code start_code added_code wrap_values_of save_refusal_code save_values_of load_code
worked-answers = record {
  delivered = λ tenant binding start length in_lent_memory. refl;
  pending = refl;
  drops = refl;
  outer_headers = refl;
  carriages = refl;
  tunnels = λ offset. refl;
  frames = refl;
  segments = refl;
  started = λ e. refl;
  not_started = λ e. refl;
  added = λ n. refl;
  not_added_lem = refl;
  written = λ length segments. refl;
  not_written_lem = refl;
  saved = λ length. refl;
  not_saved_lem = refl;
  loaded = λ e. refl;
  not_loaded = λ e. refl;
  cut_fits = fits;
  cut_past = past;
}
