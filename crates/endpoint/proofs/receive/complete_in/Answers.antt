-- `endpoint::receive::complete_in` meets its contract: a part ends within 64 bits.
use native.Mathlib.Omega.{arith}
use Rattle.endpoint.proofs.Laws.Stands.{part_room}
use Rattle.endpoint.proofs.receive.complete_in.Goals as goal

pub complete-requires : goal.complete-requires
complete-requires c = part_room _ _ _ _ c.part-frame.ensures.bytes (omega arith) (omega arith)
