-- `reassembly::map::any_bit` meets its contract. The loop's invariant: `found` is 0 so long as no bit from a up to this byte is set.
use Rattle.std.proofs.Common.{◌≡◌, ◌+◌, ◌*◌, ◌-◌, not, eqb}
use Rattle.reassembly.specs.Base.{some_below}
use Rattle.reassembly.specs.Store.{bit_at}
use Rattle.reassembly.proofs.map.any_bit.Given as goal

abbrev pub invariant-loop-byte : goal.invariant-loop-byte
invariant-loop-byte l = eqb l.found 0 ≡ not (some_below ((l.first + 1 + l.byte-index) * 8 - l.a) (λ i. bit_at l.map 0 (l.a + i)))
