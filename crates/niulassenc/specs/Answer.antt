-- The endpoint's and the image's answers as they cross to C: their numbers and values (`values_of`, `config_code` .. of the endpoint, `save_values_of` and
-- `load_code` of the image), in flat structs.
use Rattle.std.specs.Prelude.{ℕ, false, Result, Ok, Err}
use Rattle.std.proofs.Math.Option.{Option, none, some}
use Rattle.endpoint.specs.Answer.{Values, WrapValues, added_code, start_code}
use Rattle.endpoint.specs.declared.config as E
use Rattle.image.specs.Answer.{SaveValues, load_code}
use Rattle.image.specs.declared.answer.LoadResult.{LoadResult}
use Rattle.niulassenc.specs.declared.answer.Receipt.{Receipt}
use Rattle.niulassenc.specs.declared.answer.Addition.{Addition}
use Rattle.niulassenc.specs.declared.answer.Writing.{Writing}
use Rattle.niulassenc.specs.declared.answer.Saving.{Saving}
use Rattle.niulassenc.specs.declared.config.Started.{Started}
use Rattle.endpoint.specs.declared.answer.ConfigRefusal.{ConfigRefusal}

-- a number that may be missing. 65,535 is a tenant's number too: the code alone says whether there is one
abbrev pub or_none : Option ℕ → ℕ
or_none none = 65535
or_none (some n) = n

-- a receive's values, flat
abbrev pub flat_of : Values → Receipt
flat_of v = record {
  start = v.place.start;
  length = v.place.len;
  tenant = or_none v.tenant;
  binding = or_none v.binding;
  code = v.number;
  in_memory = v.place.in_lent_memory;
  offset = v.offset;
}

-- what answer 1 and a refusal carry: no tenant, no binding, the empty place; and the byte that a refusal names (answer 1: 0)
abbrev pub empty_of : (code offset : ℕ) → Receipt
empty_of code offset = record { start = 0; length = 0; tenant = 65535; binding = 65535; code = code; in_memory = false; offset = offset }

abbrev pub number_of : Result ℕ ConfigRefusal → Option ℕ
number_of (Ok n) = some n
number_of (Err r) = none

abbrev pub addition_of : Result ℕ ConfigRefusal → Addition
addition_of a = record { number = or_none (number_of a); code = added_code a }

abbrev pub started_of : E.StartResult.StartResult → Started
started_of s = record { endpoint = s.endpoint; code = start_code s.answer }

-- a wrap's values, flat
abbrev pub writing_of : WrapValues → Writing
writing_of v = record { length = v.length_is; segments = v.segments; code = v.number }

-- a save's values, flat
abbrev pub saving_of : SaveValues → Saving
saving_of v = record { length = v.length_is; code = v.number }

-- a load's result: what a start gives
abbrev pub started_of_load : LoadResult → Started
started_of_load l = record { endpoint = l.endpoint; code = load_code l.answer }
