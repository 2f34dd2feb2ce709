-- `reference::buffer::Buffer::end` meets its contract. The loop's invariant: `at` is where the next segment begins.
use Rattle.std.proofs.Common.{◌≡◌, ◌≤◌, ◌*◌}
use Rattle.reference.specs.Layout.{begins}
use Rattle.reference.proofs.buffer.Buffer.end.Given as goal

abbrev pub invariant-loop-e : goal.invariant-loop-e
invariant-loop-e l = (l.at ≡ begins l.self.extents l.e-index) × (l.at ≤ l.e-index * 65535)
