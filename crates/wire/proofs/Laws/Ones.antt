-- Laws of ones' complement addition in machine words: what overflows a word comes around.
use Rattle.std.specs.Prelude.{◌≡◌, ℕ, zero, suc, ◌+◌, ◌-◌, ◌*◌, ◌/◌, ◌%◌, ◌^◌, ◌<◌, ◌≤◌, bit_or, nat_lt, refl}
use Rattle.std.proofs.Common.{◌∙◌, sym, ap, arith, mul_assoc, one-mul, add_comm, mod-eq_of_lt, ltb-true, ltb-false, lt-ltb, le-ltb}
use Rattle.std.proofs.Math.Nat.{pow-zero, pow-succ', div-add-mod, mod-eq-sub-mod, div-eq_of_lt, div-eq_of_lt-le}
use Rattle.std.specs.Int.Bits.{or_add_and}
use Rattle.std.specs.Int.{w32, w64, rotate_left}
use Rattle.std.proofs.lemmas.Nat.{and_le_l, and_le_r, or_shifted}
use Rattle.std.proofs.Math.Arith.{digits_div, digits_mod}
use mir.Val.{bool_byte}
use Rattle.wire.specs.Sum.{ones, end_around}
use Rattle.wire.proofs.Laws.Bytes.{case_b}
use Rattle.wire.proofs.Laws.Sum.{ones_shift, ones_small}

pub higher : (n r : ℕ) → 256 ^ suc n * r ≡ 256 * (256 ^ n * r)
higher n r = ap (λ (x : ℕ). x * r) (pow-succ' 256 n) ∙ mul_assoc 256 (256 ^ n) r

-- a number that stands an even number of bytes higher counts the same
pub ones_high : (k m n : ℕ) → ones (256 ^ (2 * k) * m + n) ≡ ones (m + n)
ones_high zero m n = rw (pow-zero, one-mul)
ones_high (suc k) m n =
    let e : 256 ^ (2 * suc k) * m ≡ 65536 * (256 ^ (2 * k) * m) =
    ap (λ (j : ℕ). 256 ^ j * m) {y = suc (suc (2 * k))} (omega arith) ∙ omega (arith, higher (suc (2 * k)) m, higher (2 * k) m) in
    ap (λ (x : ℕ). ones (x + n)) e ∙ ones_shift (256 ^ (2 * k) * m) n ∙ ones_high k m n

-- what overflows comes around
pub ones_around : (k n : ℕ) → ones (end_around (256 ^ (2 * k)) n) ≡ ones n
unfolding end_around
ones_around k n =
    let w : ℕ = 256 ^ (2 * k) in
    ap ones (add_comm (n % w) (n / w)) ∙ sym (ones_high k (n / w) (n % w)) ∙ ap ones (div-add-mod n w)

-- a sum that wraps at w is below what was added, which tells its carry; with it added again it does not wrap once more
carry_is : (w a b : ℕ) → a < w → b < w → (bool_byte (nat_lt ((a + b) % w) a) ≡ (a + b) / w) × (end_around w (a + b) < w)
unfolding end_around
carry_is w a b h k =
    case_b (nat_lt (a + b) w)
    (λ e.
    let l : a + b < w = ltb-true (a + b) w e in
    rw (mod-eq_of_lt l, div-eq_of_lt l, le-ltb (a + b) a (omega arith)) (refl, omega arith))
    (λ e.
    let l : w ≤ a + b = ltb-false (a + b) w e in
    let m : (a + b) % w ≡ a + b - w = mod-eq-sub-mod l ∙ mod-eq_of_lt (omega arith) in
    let d : (a + b) / w ≡ 1 = div-eq_of_lt-le w (omega arith) (omega arith) in
    rw (m, d, lt-ltb (a + b - w) a (omega arith)) (refl, omega arith))

-- an addition in a word, with its carry
pub around_is : (w a b low : ℕ) → a < w → b < w → low ≡ (a + b) % w
    → (low + bool_byte (nat_lt low a) < w) × (low + bool_byte (nat_lt low a) ≡ end_around w (a + b))
unfolding end_around
around_is w a b low h k e = rw (e, (carry_is w a b h k).0) ((carry_is w a b h k).1, refl)

or_carries : (x y : ℕ) → x + y ≤ 1 → bit_or x y ≡ x + y
or_carries x y h = omega (arith, or_add_and x y, and_le_l x y, and_le_r x y)

-- an addition in 64 bits with the carry of the one before, which overflows once at most
pub add_carry : (acc carry word first low next : ℕ) → word < 2 ^ 64 → acc + carry < 2 ^ 64
    → first ≡ (acc + word) % 2 ^ 64 → low ≡ (first + carry) % 2 ^ 64 → next ≡ bit_or (bool_byte (nat_lt first word)) (bool_byte (nat_lt low first))
    → (low + next < 2 ^ 64) × (low + next ≡ end_around (2 ^ 64) (acc + carry + word))
unfolding end_around
add_carry acc carry word first low next h k e f g =
    let w : ℕ = 2 ^ 64 in
    let x : ℕ = (acc + word) / w in
    let y : ℕ = (first + carry) / w in
    let p : bool_byte (nat_lt first word) ≡ x = rw (e, add_comm acc word) (carry_is w word acc (omega arith) (omega arith)).0 in
    let q : bool_byte (nat_lt low first) ≡ y = rw f (carry_is w first carry (omega arith) (omega arith)).0 in
    let c : next ≡ x + y = g ∙ rw (p, q) (or_carries x y (omega arith)) in
    let l : low < w = omega arith in
    let s : (x + y) * w + low ≡ acc + carry + word = omega arith in
    let d : low + next ≡ end_around w (acc + carry + word) = rw (c, sym s, digits_mod (x + y) l, digits_div (x + y) l) in
    rw d ((carry_is w (acc + carry) word k h).1, refl)

-- a number of two halves, and the same with its halves exchanged: in the upper half of their sum the halves are added, and the carry comes around
halves_64 : (n a : ℕ) → n < 2 ^ 64 → a ≡ rotate_left w64 n 32 → (n + a) % 2 ^ 64 / 2 ^ 32 ≡ end_around (2 ^ 32) (n % 2 ^ 32 + n / 2 ^ 32)
unfolding end_around
halves_64 n a h e =
    let m : (n * 2 ^ 32) % 2 ^ 64 ≡ n % 2 ^ 32 * 2 ^ 32 = omega arith in
    let o : a ≡ n % 2 ^ 32 * 2 ^ 32 + n / 2 ^ 32 = e ∙ ap (λ (x : ℕ). bit_or x (n / 2 ^ 32)) m ∙ or_shifted (n % 2 ^ 32) 32 (n / 2 ^ 32) (omega arith) in
    omega arith

halves_32 : (n a : ℕ) → n < 2 ^ 32 → a ≡ rotate_left w32 n 16 → (n + a) % 2 ^ 32 / 2 ^ 16 ≡ end_around (2 ^ 16) (n % 2 ^ 16 + n / 2 ^ 16)
unfolding end_around
halves_32 n a h e =
    let m : (n * 2 ^ 16) % 2 ^ 32 ≡ n % 2 ^ 16 * 2 ^ 16 = omega arith in
    let o : a ≡ n % 2 ^ 16 * 2 ^ 16 + n / 2 ^ 16 = e ∙ ap (λ (x : ℕ). bit_or x (n / 2 ^ 16)) m ∙ or_shifted (n % 2 ^ 16) 16 (n / 2 ^ 16) (omega arith) in
    omega arith

-- the halves of 64 bits added, and the halves of that
pub fold_is : (n x r : ℕ) → r < 2 ^ 16 → x ≡ end_around (2 ^ 32) (n % 2 ^ 32 + n / 2 ^ 32) → r ≡ end_around (2 ^ 16) (x % 2 ^ 16 + x / 2 ^ 16) → r ≡ ones n
unfolding end_around
fold_is n x r h e f =
    sym (ones_small r h) ∙ ap ones f ∙ ones_around 1 (x % 2 ^ 16 + x / 2 ^ 16) ∙ ones_around 1 x ∙ ap ones e ∙ ones_around 2 (n % 2 ^ 32 + n / 2 ^ 32)
    ∙ ones_around 2 n

-- the same by a number and itself with its halves exchanged
pub fold_rotated : (n a x b r : ℕ) → n < 2 ^ 64 → a ≡ rotate_left w64 n 32 → x ≡ (n + a) % 2 ^ 64 / 2 ^ 32
    → b ≡ rotate_left w32 x 16 → r ≡ (x + b) % 2 ^ 32 / 2 ^ 16 → r ≡ ones n
fold_rotated n a x b r h ea e eb f =
    let k : x < 2 ^ 32 = omega arith in
    fold_is n x r (omega arith) (e ∙ halves_64 n a h ea) (f ∙ halves_32 x b k eb)
