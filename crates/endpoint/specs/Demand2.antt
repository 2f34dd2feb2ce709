-- DEMAND 2's words for receiving (document 00): what it is to deliver a frame, and which packets and runs carry one.
-- How to read it: what a packet carries and what a good frame is are the formats' own words (Formats.antt); `Gathers` and `MakesUp` follow from the run
-- alone (crate reassembly, specs/History.antt); which segments are taken, rejected or given up is `EveryRun`, a field of `Demand3`. Only definitions;
-- `Demand2` (Demands.antt) is the statement, its receiving half proved in Laws/Demand2.
use Rattle.std.specs.Prelude.{ℕ, ◌<◌, ◌≡◌, List, [], ◌∷◌, Ok}
use Rattle.wire.specs.Bytes.{Bytes}
use Rattle.reassembly.specs.Take.{Seg}
use Rattle.reassembly.specs.Receive.{Event, receive, tick, view_of}
use Rattle.reassembly.specs.History.{Gathers, MakesUp}
use Rattle.reassembly.specs.EveryRun.{history}
use Rattle.endpoint.specs.Config.{Config, config_of}
use Rattle.endpoint.specs.Receive.{answers, layers, step_of}
use Rattle.endpoint.specs.Formats.{CarriesSegment, GoodFrame}
use Rattle.endpoint.specs.declared.answer.Target.{Target}
use Rattle.endpoint.specs.declared.config.Endpoint.{Endpoint}
use Rattle.endpoint.specs.Answer.{place_of}
use Rattle.endpoint.specs.declared.answer.Place.{Place}
use Rattle.endpoint.specs.declared.answer.Received.TheVariants as R
use Rattle.endpoint.specs.Run.{ends_of}

-- the receive delivers the frame to the target: answer 0, and the view of its place is the frame
pub record Delivers (e : Endpoint) (m k : List ℕ) (t : Target) (frame : List ℕ) : Type 0 where
  pub place : Place
  pub answer : (step_of e m k).answer ≡ Ok (R.Delivered t place)
  pub views : view_of k (step_of e m k).mem (place_of place) ≡ frame

-- the packet carries an STT segment of a listed peer's; the segments taken in the run since its frame opened, with it, make up exactly a frame; and that is
-- good, for the target, and carries the inner frame
pub record MadeUp (e : Endpoint) (m : List ℕ) (es : List Event) (k : List ℕ) (t : Target) (frame : List ℕ) : Type 0 where
  pub p : ℕ
  pub is_peer_lem : p < 8
  pub g : Seg
  pub carried : CarriesSegment (config_of e) k p g
  pub segments : List Seg
  pub gathers : Gathers (history answers Config layers p (ends_of e) m es) g segments
  pub complete : List ℕ
  pub makes : MakesUp g segments complete
  pub good_frame : GoodFrame (config_of e) p complete t frame

-- the packets of a run are of bytes
abbrev pub Packets : List Event → Type 0
Packets [] = Unit {0}
Packets (tick ∷ es) = Packets es
Packets (receive k ∷ es) = Bytes k × Packets es
