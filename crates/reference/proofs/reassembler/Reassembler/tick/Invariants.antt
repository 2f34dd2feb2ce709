-- `reference::reassembler::Reassembler::tick` meets its contract. The loop's invariant: the frames of the peers so far are older.
use Rattle.std.proofs.Common.{◌≡◌, map}
use Rattle.reference.specs.Layout.{buffers_of}
use Rattle.reference.proofs.Laws.Tick.{older_peers}
use Rattle.reference.proofs.reassembler.Reassembler.tick.Given as goal

abbrev pub invariant-loop-pending : goal.invariant-loop-pending
invariant-loop-pending l = map buffers_of l.pending-items ≡ older_peers l.initial.pending-items l.pending-index
