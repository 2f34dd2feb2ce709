-- `reassembly::map::set_bits` meets its contract. The loop's invariant: the bytes before this one have every bit set.
use Rattle.std.proofs.Common.{◌≡◌, ◌++◌, map, take, drop, bit_or}
use Rattle.reassembly.proofs.map.set_bits.Given as goal

abbrev pub invariant-loop-byte : goal.invariant-loop-byte
invariant-loop-byte l = l.byte-items ≡ map (λ x. bit_or x 255) (take l.byte-index l.initial.byte-items) ++ drop l.byte-index l.initial.byte-items
