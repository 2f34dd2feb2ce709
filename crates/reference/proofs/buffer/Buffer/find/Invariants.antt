-- `reference::buffer::Buffer::find` meets its contract. The loop's invariant: `found` is where the byte lies in the segments so far, and `at`, where the next
-- one begins.
use Rattle.std.proofs.Common.{◌≡◌, ◌≤◌, ◌<◌, ◌*◌, IfSome}
use Rattle.reference.specs.Layout.{begins, place_in}
use Rattle.reference.proofs.buffer.Buffer.find.Given as goal

abbrev pub invariant-loop-e : goal.invariant-loop-e
invariant-loop-e l = record {
  begin : l.at ≡ begins l.self.extents l.e-index;
  low : l.at ≤ l.e-index * 65535;
  place : l.found ≡ place_in l.self.extents l.e-index l.i;
  inside : IfSome l.found (λ p. p < l.e-index * 65535);
}
