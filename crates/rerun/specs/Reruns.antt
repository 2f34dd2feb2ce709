-- WHAT RERUN PROMISES (document 02, §6): `Reruns`, THE STATEMENT. The lines as text are Rerun.antt, what a trace reads as is crate trace's (specs/Trace.antt),
-- which images are good is crate image's (specs/Images.antt).
-- Only definitions; proved in Laws/Reruns (`reruns`).
use Rattle.std.specs.Prelude.{ℕ, ◌+◌, ◌≡◌, ◌≢◌, List, [], ◌∷◌, ◌++◌, map, length, take, Ok, Err}
use Rattle.std.proofs.Math.Option.{none, some}
use Rattle.wire.specs.Bytes.{Bytes, ◌then◌}
use Rattle.endpoint.specs.Account.{Accounts}
use Rattle.endpoint.specs.Answer.{drop_code}
use Rattle.endpoint.specs.Receive.{step_of}
use Rattle.endpoint.specs.Run.{Left, calls}
use Rattle.endpoint.specs.declared.answer.Drop.{Drop}
use Rattle.endpoint.specs.declared.answer.Place.{Place}
use Rattle.endpoint.specs.declared.answer.Received.TheVariants as R
use Rattle.endpoint.specs.declared.answer.Target.{Target}
use Rattle.image.specs.Answer.{load_code}
use Rattle.image.specs.Load.{load_of}
use Rattle.trace.specs.Trace.{Record, packet, no_trace, read, ReadsAs}
use Rattle.trace.specs.Traces.{joined}
use Rattle.rerun.specs.Rerun.{answered, line_text, loaded, event_of, said_of, lines_of, bad_trace, bad_settings}
use Rattle.rerun.specs.declared.input.Phase.TheVariants as P
use Rattle.rerun.specs.Standing.{trace_text, output_of, Standing, goes_on, Fed}
use Rattle.rerun.specs.WorkedRerun.{WorkedRerun}

-- ---- the program, piece by piece: calls of `advance` (its contract, `Fed`: src/run.rt)

-- one call: the piece that it is fed, the text that it leaves to be written, and where the run stands then
pub record Call : Type 0 where
  pub piece : List ℕ
  pub text : List ℕ
  pub after : Standing

abbrev pub Calls : Standing → List Call → Type 0
Calls x [] = Unit {0}
Calls x (c ∷ cs) = Fed x c.piece c.after c.text × Calls c.after cs

-- all pieces, all that is written, and where the run stands at the end
abbrev pub pieces : List Call → List (List ℕ)
pieces [] = []
pieces (c ∷ cs) = c.piece ∷ pieces cs

abbrev pub written : List Call → List ℕ
written [] = []
written (c ∷ cs) = c.text ++ written cs

abbrev pub last : Standing → List Call → Standing
last x [] = x
last x (c ∷ cs) = last c.after cs

-- the run that `Run::load` makes of a good image's endpoint, with the memory that it is lent (its contract, `Started`)
pub record Begun (settings : List ℕ) (x : Standing) : Type 0 where
  pub good : load_code (load_of settings).answer ≡ 0
  pub goes : (t : List ℕ) → goes_on x t ≡ trace_text (loaded settings) 0 t

-- ---- THE STATEMENT

module _ (settings trace : List ℕ) where
  pub record Writes (text : List ℕ) : Type 0 where
    -- the image is looked at first: a bad one, which a load answers with 24, gives one line
    pub bad_settings_lem : load_code (load_of settings).answer ≢ 0 → text ≡ bad_settings
    -- a good one: no trace's beginning gives one line
    pub no_trace_lem : load_code (load_of settings).answer ≡ 0 → ReadsAs trace no_trace → text ≡ bad_trace
    -- and a trace a line for each record, up to the first broken one, if there is one
    pub lines : load_code (load_of settings).answer ≡ 0 → (rs : List Record) → ReadsAs trace (read rs []) → text ≡ lines_of (loaded settings) 0 rs
    pub broken : load_code (load_of settings).answer ≡ 0 → (rs : List Record) (rest : List ℕ) → rest ≢ [] → ReadsAs trace (read rs rest)
        → text ≡ lines_of (loaded settings) 0 rs then bad_trace

pub record Reruns : Type 0 where
  pub writes : (settings trace : List ℕ) → Bytes trace → Writes settings trace (output_of settings trace)
  -- however the trace is cut into pieces: what the calls leave to be written, and what is still to be written for the bytes behind them, is that; and at a
  -- broken record the last line alone is, whatever follows
  pub in_pieces : (settings : List ℕ) (x : Standing) → Begun settings x → (cs : List Call) → Calls x cs → (t : List ℕ)
      → written cs ++ goes_on (last x cs) t ≡ output_of settings (joined (pieces cs) ++ t)
  pub stopped : (x : Standing) → x.phase ≡ P.Broken → (t : List ℕ) → goes_on x t ≡ bad_trace
  -- of a long settings file the first 1,024 bytes are enough
  pub front : (settings trace : List ℕ) → Bytes settings → output_of (take 1024 settings) trace ≡ output_of settings trace
  -- the accounting of every run holds of the image's endpoint
  pub accounts : (settings : List ℕ) → Bytes settings → load_code (load_of settings).answer ≡ 0 → Accounts (load_of settings).endpoint
  -- the lines are those of a run of the calls (crate endpoint, specs/Run.antt): each record's is its answer behind all records before it
  pub follows : (w : Left) (n : ℕ) (rs : List Record) (r : Record)
      → lines_of w n (rs ++ (r ∷ [])) ≡ lines_of w n rs then line_text (n + length rs + 1) (said_of (calls w (map event_of rs)) r)
  -- an answer that delivers tells its tenant, and no other tells one
  pub delivered : (w : Left) (k : List ℕ) (t : Target) (p : Place) → (step_of w.endpoint w.mem k).answer ≡ Ok (R.Delivered t p)
      → said_of w (packet k) ≡ answered 0 (some t.tenant)
  pub pending : (w : Left) (k : List ℕ) → (step_of w.endpoint w.mem k).answer ≡ Ok R.Pending → said_of w (packet k) ≡ answered 1 none
  pub dropped : (w : Left) (k : List ℕ) (d : Drop) → (step_of w.endpoint w.mem k).answer ≡ Err d → said_of w (packet k) ≡ answered (drop_code d) none
  pub worked : WorkedRerun
