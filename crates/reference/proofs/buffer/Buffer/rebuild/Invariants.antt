-- `reference::buffer::Buffer::rebuild` meets its contract. The loop's invariant: the first i bytes of the frame are rebuilt.
use Rattle.std.proofs.Common.{◌≡◌, length, take}
use Rattle.std.proofs.Math.Option.{some}
use Rattle.reference.specs.Reassembler.{rebuilt}
use Rattle.reference.specs.Layout.{kept, parts_in}
use Rattle.reference.proofs.buffer.Buffer.rebuild.Given as goal

abbrev pub invariant-loop-i : goal.invariant-loop-i
invariant-loop-i l = (length l.frame ≡ 1536) × (rebuilt (parts_in l.self.extents l.memory l.block (kept l.self)) l.i ≡ some (take l.i l.frame))
