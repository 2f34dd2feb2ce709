-- `view::cut_within` meets its contract: the tests say whether the sum of start and length is within the room.
use native.Mathlib.Omega.{arith}
use Rattle.endpoint.proofs.Laws.View.{cut_past, cut_fits}
use Rattle.endpoint.proofs.view.cut_within.Goals as goal

pub returns-then-room-place : goal.returns-then-room-place
returns-then-room-place c = cut_past _ _ (omega arith)

pub returns-then-room-place-2 : goal.returns-then-room-place-2
returns-then-room-place-2 c = cut_past _ _ (omega arith)

pub returns : goal.returns
returns c = cut_fits _ _ (omega arith)
