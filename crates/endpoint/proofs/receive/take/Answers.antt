-- `endpoint::receive::take` meets its contract: a complete frame lies in the memory.
use Rattle.endpoint.proofs.Laws.Receive.{lies}
use Rattle.endpoint.proofs.receive.take.Goals as goal

pub settled-requires : goal.settled-requires
settled-requires c = rw (c.take-outcome.ensures.value, c.take-outcome.ensures.memory_after) (lies _ _ _ _)
