-- An endpoint that came from the calls (document 01, "Listing and numbers": a promise may assume only that): a start, and then adding calls, receives and
-- ticks in any order, refused ones too, each receive with any memory lent. Only definitions.
use Rattle.std.specs.Prelude.{ℕ, ◌^◌, ◌<◌, ◌≡◌, List, [], ◌∷◌}
use Rattle.endpoint.specs.Config.{start_of, tick_of, Adding, add_peer, add_binding, added}
use Rattle.endpoint.specs.Receive.{step_of, with_row}
use Rattle.endpoint.specs.declared.config.Endpoint.{Endpoint}

-- ---- the calls

pub data Call : Type 0 where
  add : Adding → Call
  got : (memory packet : List ℕ) → Call
  ticked : Call

-- the endpoint that a call leaves, and a list of calls
abbrev pub left : Endpoint → Call → Endpoint
left e (add a) = added e a
left e (got m k) = with_row e (step_of e m k).peer (step_of e m k).row
left e ticked = (tick_of e).endpoint

unfoldable pub left_by : Endpoint → List Call → Endpoint
left_by e [] = e
left_by e (c ∷ cs) = left_by (left e c) cs

-- a network is a number of its type, u64
abbrev pub Typed : Call → Type 0
Typed (add (add_binding peer kind network tenant)) = network < 256 ^ 8
Typed (add (add_peer address)) = Unit {0}
Typed (got m k) = Unit {0}
Typed ticked = Unit {0}

abbrev pub AllTyped : List Call → Type 0
AllTyped [] = Unit {0}
AllTyped (c ∷ cs) = Typed c × AllTyped cs

pub record Reached (e : Endpoint) : Type 0 where
  pub own : ℕ
  pub port : ℕ
  pub mtu : ℕ
  pub calls : List Call
  pub typed : AllTyped calls
  pub is : left_by (start_of own port mtu).endpoint calls ≡ e
