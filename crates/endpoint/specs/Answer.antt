-- The documents' number and values for each answer ("The numbered answers").
use Rattle.std.specs.Prelude.{ℕ, Result, Ok, Err}
use Rattle.std.proofs.Math.Option.{Option, none, some}
use Rattle.wire.specs.Refusal.{Finding, ◌at_byte◌, only, code_of}
use Rattle.reassembly.specs.Take.{rejection_code}
use Rattle.reassembly.specs.Receive as P
use Rattle.endpoint.specs.declared.answer.Place.{Place}
use Rattle.endpoint.specs.declared.answer.Drop.{Drop}
use Rattle.endpoint.specs.declared.answer.Drop.TheVariants as D
use Rattle.endpoint.specs.declared.answer.Received.{Received}
use Rattle.endpoint.specs.declared.answer.Received.TheVariants as R
use Rattle.endpoint.specs.declared.answer.ConfigRefusal.{ConfigRefusal}
use Rattle.endpoint.specs.declared.answer.ConfigRefusal.TheVariants as C
use Rattle.endpoint.specs.declared.answer.WrapRefusal.{WrapRefusal}
use Rattle.endpoint.specs.declared.answer.WrapRefusal.TheVariants as X
use Rattle.endpoint.specs.declared.answer.Packet.{Packet}

-- ---- need not be believed: a number for each refusal, and the byte that it names

abbrev pub drop_of : Drop → Finding
drop_of D.MemoryTooSmall = only 2
drop_of (D.Format r offset) = code_of r at_byte offset
drop_of D.NotForUs = only 6
drop_of D.UnknownPeer = only 7
drop_of D.NoBinding = only 12
drop_of (D.Segment r) = only (rejection_code r)

-- Open: a field of `drop_of`
abbrev pub drop_code : Drop → ℕ
drop_code d = (drop_of d).number

abbrev pub config_code : ConfigRefusal → ℕ
config_code C.OutOfRange = 18
config_code C.AlreadyListed = 19
config_code C.Full = 20

-- ---- what the calls give back

-- a place as the theory of runs has it
-- Open: three fields of a record
abbrev pub place_of : Place → P.Place
place_of p = record { in_lent_memory = p.in_memory; start = p.start; len = p.length }

-- what a receive gives back: its number; the offset of the first offending byte (25 to 29; 0 in other answers); and the tenant, binding and place of answer 0.
-- A refusal and answer 1 carry no tenant and no binding, and the empty place
pub record Values : Type 0 where
  pub number : ℕ
  pub offset : ℕ
  pub tenant : Option ℕ
  pub binding : Option ℕ
  pub place : P.Place

-- Open: the record `answers` (Receive.antt) holds equations that compute with it
abbrev pub values_of : Result Received Drop → Values
values_of (Ok (R.Delivered t p)) = record { number = 0; offset = 0; tenant = some t.tenant; binding = some t.binding; place = place_of p }
values_of (Ok R.Pending) = record { number = 1; offset = 0; tenant = none; binding = none; place = P.nowhere }
values_of (Err d) = record { number = (drop_of d).number; offset = (drop_of d).offset; tenant = none; binding = none; place = P.nowhere }

-- number and offset
abbrev pub told_by : Values → Finding
told_by v = v.number at_byte v.offset

-- the number of an answer that is no refusal, or why the configuration is not changed
abbrev pub config_answer_code : {T : Type 0} → Result T ConfigRefusal → ℕ
config_answer_code (Ok x) = 0
config_answer_code (Err r) = config_code r

unfoldable pub added_code : Result ℕ ConfigRefusal → ℕ
added_code a = config_answer_code a

-- what an adding call gives back: its number, and the number of the new peer or binding. A refusal carries none
pub record AddedValues : Type 0 where
  pub number : ℕ
  pub entry : Option ℕ

abbrev pub added_values_of : Result ℕ ConfigRefusal → AddedValues
added_values_of (Ok n) = record { number = 0; entry = some n }
added_values_of (Err r) = record { number = config_code r; entry = none }

unfoldable pub start_code : Result (Unit {0}) ConfigRefusal → ℕ
start_code a = config_answer_code a

unfoldable pub tick_code : Unit {0} → ℕ
tick_code done = 0

-- ---- need not be believed: a number for each refusal to write

abbrev pub wrap_refusal_code : WrapRefusal → ℕ
wrap_refusal_code X.NoBinding = 23
wrap_refusal_code X.BadFrame = 13
wrap_refusal_code X.ExceedsMtu = 22
wrap_refusal_code X.NoSegment = 23
wrap_refusal_code X.OutputTooShort = 21

-- ---- what writing gives back

-- what writing gives back: its number, and the packet's length and the number of segments. A refusal carries 0 and 0
pub record WrapValues : Type 0 where
  pub number : ℕ
  pub length_is : ℕ
  pub segments : ℕ

unfoldable pub wrap_values_of : Result Packet WrapRefusal → WrapValues
wrap_values_of (Ok p) = record { number = 0; length_is = p.length; segments = p.segments }
wrap_values_of (Err r) = record { number = wrap_refusal_code r; length_is = 0; segments = 0 }
