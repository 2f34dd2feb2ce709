-- WHAT RERUN WRITES (document 02, §6): one line a record, from the bytes of a settings image and of a trace. Only definitions.
use Rattle.std.specs.Prelude.{ℕ, zero, suc, ◌+◌, ◌/◌, ◌%◌, List, [], ◌∷◌, replicate}
use Rattle.std.proofs.Math.Option.{Option, none, some}
use Rattle.wire.specs.Bytes.{◌then◌}
use Rattle.wire.specs.Checks.{pick, ◌below◌}
use Rattle.reassembly.specs.Receive.{Event, receive}
use Rattle.reassembly.specs.Receive as E
use Rattle.endpoint.specs.Answer.{Values, values_of}
use Rattle.endpoint.specs.Receive.{step_of}
use Rattle.endpoint.specs.Run.{Left, called}
use Rattle.image.specs.Load.{load_of}
use Rattle.trace.specs.Trace.{Record, tick, packet}

-- ---- a line as text (ASCII)

-- a number in decimal, with no 0 in front of it; 20 digits hold every number of 64 bits
unfoldable pub decimal_in : (places : ℕ) → ℕ → List ℕ
decimal_in zero n = []
decimal_in (suc places) n = pick (n below 10) [] (decimal_in places (n / 10)) then ((0x30 + n % 10) ∷ [])

unfoldable pub decimal : ℕ → List ℕ
decimal n = decimal_in 20 n

unfoldable pub space : List ℕ
space = 0x20 ∷ []

unfoldable pub newline : List ℕ
newline = 0x0A ∷ []

-- what a line says of its record: a tick; or the number of a packet's answer, and the tenant (document 02: bench) where there is one
pub data Said : Type 0 where
  ticked : Said
  answered : (number : ℕ) → (tenant : Option ℕ) → Said

unfoldable pub tenant_text : Option ℕ → List ℕ
tenant_text none = 0x2D ∷ []  -- -
tenant_text (some t) = decimal t

unfoldable pub said_text : Said → List ℕ
said_text ticked = 0x74 ∷ 0x69 ∷ 0x63 ∷ 0x6B ∷ []  -- tick
said_text (answered n t) = decimal n then space then tenant_text t

unfoldable pub line_text : (number : ℕ) → Said → List ℕ
line_text number said = decimal number then space then said_text said then newline

-- ---- the lines of a run: records count from 1

-- the endpoint of a settings image, and the memory that it is lent, at first all 0
unfoldable pub loaded : (settings : List ℕ) → Left
loaded settings = record { endpoint = (load_of settings).endpoint; mem = replicate 55296 0 }

-- the call that a record stands for
unfoldable pub event_of : Record → Event
event_of tick = E.tick
event_of (packet k) = receive k

-- what it is answered, by an endpoint with its memory
unfoldable pub said_of : Left → Record → Said
said_of w tick = ticked
said_of w (packet k) = let v : Values = values_of (step_of w.endpoint w.mem k).answer in answered v.number v.tenant

-- the lines of records behind n others, each call given what the last one left
unfoldable pub lines_of : Left → (n : ℕ) → List Record → List ℕ
lines_of w n [] = []
lines_of w n (r ∷ rs) = line_text (n + 1) (said_of w r) then lines_of (called w (event_of r)) (n + 1) rs

-- ---- the lines without a record

unfoldable pub bad_trace : List ℕ
bad_trace = 0x62 ∷ 0x61 ∷ 0x64 ∷ 0x20 ∷ 0x74 ∷ 0x72 ∷ 0x61 ∷ 0x63 ∷ 0x65 ∷ newline  -- bad trace

unfoldable pub bad_settings : List ℕ
bad_settings = 0x62 ∷ 0x61 ∷ 0x64 ∷ 0x20 ∷ 0x73 ∷ 0x65 ∷ 0x74 ∷ 0x74 ∷ 0x69 ∷ 0x6E ∷ 0x67 ∷ 0x73 ∷ newline  -- bad settings
