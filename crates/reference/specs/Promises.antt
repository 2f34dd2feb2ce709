-- THE PROMISES of the reference reassembler (document 02, §7), one record: open this file first. What it does is Reassembler.antt; a run of it, Run.antt; its
-- calls, as the contracts of src/ have them, Calls.antt; what is compared, Same.antt; when 32 is given, Many.antt.
-- Only definitions; proved in Laws/Promises (`promises`).
use Rattle.std.specs.Prelude.{◌≡◌, false, List, [], ◌∷◌, ℕ, ◌≤◌, ◌<◌, length}
use Rattle.reassembly.specs.Take.{Seg}
use Rattle.reassembly.specs.Receive.{Event, segment}
use Rattle.endpoint.specs.Config.{Config, config_of}
use Rattle.endpoint.specs.Receive.{answers, layers}
use Rattle.endpoint.specs.Demand1.{◌among◌}
use Rattle.endpoint.specs.declared.config.Endpoint.{Endpoint}
use Rattle.reference.specs.Run.{State, start, said32, hears, replies}
use Rattle.reference.specs.Many.{Many, Brings, Bounded}
use Rattle.reference.specs.Calls.{Left, hears_in, replies_in, ran_in, HandedBack, OnlyFront, begun_of, reply_of, number_of}
use Rattle.reference.specs.Same.{SameAnswers, SameCallAnswers}

pub record Promises : Type 0 where
  -- its calls do what the definition says: in every run from every endpoint, with enough memory lent, of any contents at first, their answers, with the bytes
  -- that the view hands back, are the definition's
  pub follows : (e : Endpoint) (m : List ℕ) → 50688 ≤ length m → (es : List Event)
      → replies_in answers Config layers (begun_of e m) es ≡ replies answers Config layers (length m) (start answers Config layers (config_of e)) es
  -- in every run from a set-up in which it never answers 32, every receive answers as the endpoint's does: the definition, and the calls
  pub same : SameAnswers
  pub same_calls : SameCallAnswers
  -- 32 is given on a frame's 65th segment and nowhere else; and what is kept has its bounds
  pub many : Many
  pub bounded : Bounded
  -- so of a receive: 32 is given to a packet that brings such a segment, and to no other
  pub many_given : (lent : ℕ) (w : State answers Config layers) (k : List ℕ) → Brings answers Config layers lent w k
      → (hears answers Config layers lent w k).reply ≡ said32
  pub many_only : (lent : ℕ) (w : State answers Config layers) (k : List ℕ) → (hears answers Config layers lent w k).reply ≡ said32
      → Brings answers Config layers lent w k
  -- the bytes of an answer are those that the view hands back, of the packet or of the memory that the call leaves
  pub handed_back_lem : (w : Left answers Config layers) (k : List ℕ)
      → HandedBack answers Config layers k (hears_in answers Config layers w k).left.mem (hears_in answers Config layers w k).reply
  -- in every run from every endpoint, with enough memory lent, only its first 50,688 bytes are written
  pub front : (e : Endpoint) (m : List ℕ) → 50688 ≤ length m → (es : List Event) → OnlyFront m (ran_in answers Config layers (begun_of e m) es).mem
  -- in less memory than 50,688 bytes a receive answers 2
  pub too_small : (w : Left answers Config layers) (k : List ℕ) → length w.mem < 50688
      → number_of (reply_of (hears_in answers Config layers w k).reply) ≡ 2
  -- a refusal, 32 among them, changes nothing, whatever state and memory are; but for those of a complete frame, which goes
  pub unchanged : (w : Left answers Config layers) (k : List ℕ)
      → number_of (reply_of (hears_in answers Config layers w k).reply) among (0 ∷ 1 ∷ 28 ∷ 29 ∷ 12 ∷ 13 ∷ []) ≡ false
      → (hears_in answers Config layers w k).left ≡ w
  -- and a packet that brings no segment changes nothing, whatever it is answered
  pub no_segment : (w : Left answers Config layers) (k : List ℕ) → ((p : ℕ) (g : Seg) → layers.header w.config k ≡ segment p g → ⊥)
      → (hears_in answers Config layers w k).left ≡ w
