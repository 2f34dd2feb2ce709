-- `reassembly::slot::Peer::tick` meets its contract. The loop's invariant: the slots before this one are older.
use Rattle.std.proofs.Common.{◌≡◌, ◌++◌, map, take, drop}
use Rattle.reassembly.specs.Slots.{older}
use Rattle.reassembly.proofs.slot.Peer.tick.Given as goal

abbrev pub invariant-loop-slot : goal.invariant-loop-slot
invariant-loop-slot l = l.slot-items ≡ map older (take l.slot-index l.initial.slot-items) ++ drop l.slot-index l.initial.slot-items
