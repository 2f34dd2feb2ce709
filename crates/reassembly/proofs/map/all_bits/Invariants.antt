-- `reassembly::map::all_bits` meets its contract. The loop's invariant: `kept` is 255 so long as every bit before this byte is set.
use Rattle.std.proofs.Common.{◌≡◌, ◌*◌, ◌<◌, eqb}
use Rattle.reassembly.specs.Base.{all_below}
use Rattle.reassembly.specs.Store.{bit_at}
use Rattle.reassembly.proofs.map.all_bits.Given as goal

abbrev pub invariant-loop-byte : goal.invariant-loop-byte
invariant-loop-byte l = (l.kept < 256) × (eqb l.kept 255 ≡ all_below (l.byte-index * 8) (λ i. bit_at l.map 0 i))
