-- `reference::list::Buffers::remove` meets its contract. The loop's invariant: `left` has those of the frames so far that bear another identifier.
use Rattle.std.proofs.Common.{◌≡◌, take}
use Rattle.reference.specs.Keyed.{without}
use Rattle.reference.specs.Layout.{identifier_in, buffers_of}
use Rattle.reference.proofs.list.Buffers.remove.Given as goal

abbrev pub invariant-loop-b : goal.invariant-loop-b
invariant-loop-b l = buffers_of l.left ≡ without identifier_in l.identifier (take l.b-index (l.b-items))
