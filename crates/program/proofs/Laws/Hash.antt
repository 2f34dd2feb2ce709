-- Of a hash that is gone on from, the lowest 32 bits count.
use Rattle.std.specs.Prelude.{ℕ, ◌≡◌, ◌+◌, ◌%◌, ◌^◌, ◌<◌, List, [], ◌∷◌, length}
use Rattle.std.proofs.Common.{ap, arith}
use Rattle.std.proofs.Math.Path.{refl}
use Rattle.std.proofs.lemmas.Nat.{mul-mod_first}
use Rattle.program.specs.Hash.{hashed}

pub behind : (h : ℕ) (s : List ℕ) → 0 < length s → hashed (h % 2 ^ 32) s ≡ hashed h s
behind h [] some = elim some [ ]
behind h (b ∷ s) some = ap (λ (x : ℕ). hashed (((x + b) % 2 ^ 32 + 1) % 2 ^ 32) s) (mul-mod_first h 31 (2 ^ 32))

pub behind_none : (h : ℕ) (s : List ℕ) → length s ≡ 0 → h ≡ hashed h s
behind_none h [] none = refl
behind_none h (b ∷ s) none = absurd (omega (arith, none))
