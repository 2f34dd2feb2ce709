-- How the program comes to what it writes: where a run stands in its trace, and what it will still write.
use Rattle.std.specs.Prelude.{ℕ, ◌+◌, ◌*◌, ◌<◌, ◌≤◌, ◌≡◌, ◌≢◌, List, [], ◌∷◌, ◌++◌, Option, None, Some, Result, Ok, Err, length, take, drop}
use Rattle.wire.specs.Bytes.{◌then◌}
use Rattle.wire.specs.Checks.{pick, ◌is◌}
use Rattle.endpoint.specs.Run.{Left, called}
use Rattle.image.specs.Answer.{load_code}
use Rattle.image.specs.Load.{load_of}
use Rattle.trace.specs.Reader.{Reading, bytes_of, begins_trace, read_of, HeaderWaits, Waits}
use Rattle.trace.specs.Trace.{Record, tick, packet}
use Rattle.trace.specs.declared.reader.Complete.{Complete}
use Rattle.trace.specs.declared.reader.Complete.TheVariants as C
use Rattle.rerun.specs.Rerun.{line_text, event_of, said_of, loaded, lines_of, bad_trace, bad_settings}
use Rattle.rerun.specs.declared.input.Input.{Input}
use Rattle.rerun.specs.declared.input.Phase.{Phase}
use Rattle.rerun.specs.declared.input.Phase.TheVariants as P
use Rattle.rerun.specs.declared.run.Run.{Run}

-- ---- need not be believed: Reruns.antt says what is written

-- behind the records there is nothing, or a broken one
unfoldable pub ending : List ℕ → List ℕ
ending [] = []
ending (x ∷ rest) = bad_trace

-- what is written of records, n of them told already; and of a trace
unfoldable pub records_text : Left → (n : ℕ) → Reading → List ℕ
records_text w n x = lines_of w n x.records then ending x.rest

unfoldable pub trace_text : Left → (n : ℕ) → List ℕ → List ℕ
trace_text w n s = pick (begins_trace s) (records_text w n (read_of (drop 5 s))) bad_trace

-- and of a settings image and a trace
unfoldable pub output_of : (settings trace : List ℕ) → List ℕ
output_of settings s = pick (load_code (load_of settings).answer is 0) (trace_text (loaded settings) 0 s) bad_settings

-- where a run stands: in the header, behind it, or at a broken record; the bytes held of what is not complete yet; how many records are told; the
-- endpoint and its memory
pub record Standing : Type 0 where
  pub phase : Phase
  pub held : List ℕ
  pub number : ℕ
  pub left : Left

-- Open: a record of an input's phase and bytes
abbrev pub stands : Input → (number : ℕ) → Left → Standing
stands i n w = record { phase = i.phase; held = bytes_of i.reader; number = n; left = w }

unfoldable pub standing : Run → (mem : List ℕ) → Standing
standing r mem = stands r.input r.number (record { endpoint = r.endpoint; mem = mem })

-- what it will write yet, of the bytes held and those that are still to come
abbrev pub text_from : Phase → Left → (n : ℕ) → List ℕ → List ℕ
text_from P.Header w n s = trace_text w n s
text_from P.Records w n s = records_text w n (read_of s)
text_from P.Broken w n s = bad_trace

unfoldable pub goes_on : Standing → List ℕ → List ℕ
goes_on x t = text_from x.phase x.left x.number (x.held ++ t)

-- what is held is not complete yet
abbrev pub Incomplete : Phase → (held : List ℕ) → Type 0
Incomplete P.Header h = HeaderWaits h
Incomplete P.Records h = Waits h
Incomplete P.Broken h = Unit {0}

unfoldable pub Ready : Standing → Type 0
Ready x = Incomplete x.phase x.held

-- a step that completes nothing: what will be written is the same. Some of the piece is used: `piece'` is left of it
abbrev pub Quiet : (i : Input) (piece : List ℕ) (i' : Input) (piece' : List ℕ) → Type 0
Quiet i piece i' piece' =
    ((n : ℕ) (w : Left) (t : List ℕ) → goes_on (stands i n w) (piece ++ t) ≡ goes_on (stands i' n w) (piece' ++ t))
    × Incomplete i'.phase (bytes_of i'.reader)

-- and one that completes a record: its line comes first, and then what the endpoint that it is fed to will write with nothing held
abbrev pub behind_record : Record → Input → (number : ℕ) → Left → Standing
behind_record r i n w = record { phase = i.phase; held = []; number = n + 1; left = called w (event_of r) }

abbrev pub Completes : Record → (i : Input) (piece : List ℕ) (i' : Input) (piece' : List ℕ) → Type 0
Completes r i piece i' piece' =
    ((n : ℕ) (w : Left) (t : List ℕ)
    → goes_on (stands i n w) (piece ++ t) ≡ line_text (n + 1) (said_of w r) ++ goes_on (behind_record r i' n w) (piece' ++ t))
    × Incomplete i'.phase []

-- what a step reads, by the record that is complete: it is held, and a packet lies behind its tag and its length
pub record Stepped (i : Input) (piece : List ℕ) (complete : Option Complete) (i' : Input) (piece' : List ℕ) : Type 0 where
  pub less : length piece' < length piece
  pub held : length (bytes_of i'.reader) ≡ i'.reader.count
  pub quiet : complete ≡ None → Quiet i piece i' piece'
  pub ticks : complete ≡ Some C.Tick → Completes tick i piece i' piece'
  pub packets : complete ≡ Some C.Packet → Completes (packet (drop 3 (bytes_of i'.reader))) i piece i' piece' × (3 ≤ i'.reader.count)
      × (i'.reader.count ≤ 1603)

-- the steps through a piece so far: what was written, which ends at `end` of the output, and what will be is together the same; and for the lines that the rest
-- of the piece can bring there is room
pub record Through (x : Standing) (piece : List ℕ) (x' : Standing) (rest : List ℕ) (end : ℕ) (out : List ℕ) : Type 0 where
  pub goes : (t : List ℕ) → goes_on x (piece ++ t) ≡ take end out ++ goes_on x' (rest ++ t)
  pub room : end + 64 * length rest ≤ 64 * length piece
  pub told : x'.number + length rest ≤ x.number + length piece
  pub ready : Ready x'

-- a piece, all of it: what it makes the run write, and then what the run will write yet
pub record Fed (x : Standing) (piece : List ℕ) (x' : Standing) (text : List ℕ) : Type 0 where
  pub goes : (t : List ℕ) → goes_on x (piece ++ t) ≡ text ++ goes_on x' t
  pub told : x'.number ≤ x.number + length piece
  pub ready : Ready x'

-- what a settings file begins: a run of the image's endpoint, with any memory; or, of a bad image, its line, up to here in the output
abbrev pub Started : (settings : List ℕ) → Result Run ℕ → (out : List ℕ) → Type 0
Started settings (Ok r) out =
    (load_code (load_of settings).answer ≡ 0)
    × ((m t : List ℕ) → goes_on (standing r m) t ≡ trace_text (record { endpoint = (load_of settings).endpoint; mem = m }) 0 t)
    × ((m : List ℕ) → Ready (standing r m))
Started settings (Err end) out = (load_code (load_of settings).answer ≢ 0) × (take end out ≡ bad_settings)
