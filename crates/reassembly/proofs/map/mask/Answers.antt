-- `reassembly::map::mask` meets its contract.
use mathlib.Core.Path.{◌≡◌, ◌∙◌}
use Prim.Native.Nat.{ℕ, ◌*◌, ◌%◌, ◌^◌, ◌≤◌}
use native.Mathlib.Nat.{one-mul}
use native.Mathlib.Omega.{arith}
use lib.Dec.{lit<}
use lib.Pow.{pow_mono, shl_exact}
use Rattle.reassembly.proofs.map.mask.Goals as goal

-- a single bit of at most 8 places up loses nothing
bit : (k : ℕ) → k ≤ 8 → 1 * 2 ^ k % 4294967296 ≡ 2 ^ k
bit k h = shl_exact {a = 1} 1 k 32 (lit< tt) (omega arith) ∙ one-mul (2 ^ k)

pub overflow_sub-result : goal.overflow_sub-result
overflow_sub-result c = let lo = c.args.lo in
    let hi = c.args.hi in
    let l = bit lo (omega arith) in
    let h = bit hi (omega arith) in
    rw (l, h) (pow_mono (omega arith))
