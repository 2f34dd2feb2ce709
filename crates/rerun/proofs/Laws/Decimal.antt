-- The digits that `io::decimal` puts are the number's decimal text.
use Rattle.std.specs.Prelude.{ℕ, zero, suc, ◌+◌, ◌-◌, ◌*◌, ◌/◌, ◌%◌, ◌^◌, ◌<◌, ◌≤◌, ◌≡◌, refl, List, [], ◌∷◌, ◌++◌, ltb}
use Rattle.std.proofs.Common.{ap, ap₂, subst, arith, pow-suc, mod-lt, lt-ltb, le-ltb, ltb-true, ltb-false}
use Rattle.std.proofs.Math.Nat.{one-le-pow, pow-le-pow_right}
use Rattle.wire.proofs.Laws.Bytes.{case_b}
use Rattle.io.specs.Digits.{last_digits, hex_digit_ascii, IsDigitCount}
use Rattle.rerun.specs.Rerun.{decimal_in, decimal}

-- a decimal digit
digit : (d : ℕ) → d < 10 → hex_digit_ascii d ≡ 0x30 + d
digit d h = rw (lt-ltb d 10 h) refl

-- so many places are enough for the digits
digits_in : (places k n : ℕ) → k ≤ places → 1 ≤ k → n < 10 ^ k → (1 < k → 10 ^ (k - 1) ≤ n) → last_digits 10 k n ≡ decimal_in places n
unfolding decimal_in
digits_in zero k n most some_one fits fewest = absurd (omega arith)
digits_in (suc places) zero n most some_one fits fewest = absurd (omega arith)
digits_in (suc places) (suc zero) n most some_one fits fewest =
    let small : n < 10 = omega (arith, pow-suc 10 0) in
    rw (lt-ltb n 10 small) (ap (λ (d : ℕ). d ∷ []) (digit (n % 10) (mod-lt n (omega arith))))
digits_in (suc places) (suc (suc k)) n most some_one fits fewest =
    let p : 10 ^ suc (suc k) ≡ 10 ^ suc k * 10 = pow-suc 10 (suc k) in
    let q : 10 ^ suc k ≡ 10 ^ k * 10 = pow-suc 10 k in
    let large : 10 ^ suc k ≤ n = subst (λ (e : ℕ). 10 ^ e ≤ n) {x = suc (suc k) - 1} {y = suc k} (omega arith) (fewest (omega arith)) in
    let below : n / 10 < 10 ^ suc k = omega arith in
    let rest : 10 ^ k ≤ n / 10 = omega arith in
    let again : 1 < suc k → 10 ^ (suc k - 1) ≤ n / 10 = λ h. subst (λ (e : ℕ). 10 ^ e ≤ n / 10) {x = k} {y = suc k - 1} (omega arith) rest in
    let ten : 10 ≤ n = omega (arith, one-le-pow k 10 (omega arith)) in
    rw (le-ltb n 10 ten)
    (ap₂ (λ (x : List ℕ) (d : ℕ). x ++ (d ∷ [])) (digits_in places (suc k) (n / 10) (omega arith) (omega arith) below again)
    (digit (n % 10) (mod-lt n (omega arith))))

-- twenty are enough for 64 bits
few : (n k : ℕ) → n < 2 ^ 64 → IsDigitCount 10 1 n k → k ≤ 20
few n k h f =
    case_b (ltb 20 k)
    (λ e.
    let l : 20 < k = ltb-true 20 k e in
    let p : 10 ^ 20 ≤ 10 ^ (k - 1) = pow-le-pow_right {n = 10} (omega arith) {i = 20} {j = k - 1} (omega arith) in
    let q : 10 ^ (k - 1) ≤ n = f.2 (omega arith) in
    absurd (omega arith))
    (λ e. ltb-false 20 k e)

-- the text of a number of 64 bits, and its length
pub decimal_is : (n k : ℕ) → n < 2 ^ 64 → IsDigitCount 10 1 n k → (k ≤ 20) × (last_digits 10 k n ≡ decimal n)
unfolding decimal
decimal_is n k h f = (few n k h f, digits_in 20 k n (few n k h f) f.0 f.1 f.2)
