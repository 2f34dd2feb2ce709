-- A RUN of the calls (document 01, "Whose packet it is"): a list of receives and ticks, each given the endpoint and the memory that the last one left. Only
-- definitions.
use Rattle.std.specs.Prelude.{ℕ, List, [], ◌∷◌}
use Rattle.reassembly.specs.Receive.{Event, receive, tick}
use Rattle.endpoint.specs.Config.{Config, config_of, tick_of}
use Rattle.endpoint.specs.Receive.{Step, step_of, with_row}
use Rattle.endpoint.specs.declared.config.Endpoint.{Endpoint}
use Rattle.reassembly.specs.SetUp as U

-- the endpoint and the memory that a list of calls leaves
pub record Left : Type 0 where
  pub endpoint : Endpoint
  pub mem : List ℕ

-- what one call leaves
-- Open: a record of what `step_of` and `tick_of` give, which are shut
abbrev pub called : Left → Event → Left
called w tick = record { endpoint = (tick_of w.endpoint).endpoint; mem = w.mem }
called w (receive k) =
    let s : Step = step_of w.endpoint w.mem k in
    record { endpoint = with_row w.endpoint s.peer s.row; mem = s.mem }

-- and a list of calls
-- Open: a fold over the list, which the crates above write out
abbrev pub calls : Left → List Event → Left
calls w [] = w
calls w (e ∷ es) = calls (called w e) es

-- what a run from this endpoint and this memory leaves
abbrev pub left : Endpoint → List ℕ → List Event → Left
left e m es = calls (record { endpoint = e; mem = m }) es

-- an endpoint as the theory of runs has it
-- Open: two fields of a record
abbrev pub ends_of : Endpoint → U.Endpoint Config
ends_of e = record { config = config_of e; peers = e.peers }
