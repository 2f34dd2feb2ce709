-- `reference::list::Buffers::tick` meets its contract. The loop's invariant: `left` has the frames so far, a tick older, but those that are given up.
use Rattle.std.proofs.Common.{◌≡◌, take}
use Rattle.reference.specs.Layout.{buffers_of, older_buffers}
use Rattle.reference.proofs.list.Buffers.tick.Given as goal

abbrev pub invariant-loop-b : goal.invariant-loop-b
invariant-loop-b l = buffers_of l.left ≡ older_buffers (take l.b-index (l.b-items))
