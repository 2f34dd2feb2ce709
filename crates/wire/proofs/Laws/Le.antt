-- Laws of the little-endian number that bytes spell: it folds to their sum with its bytes exchanged, and words may be cut from it.
use Rattle.std.specs.Prelude.{◌≡◌, ℕ, zero, suc, ◌+◌, ◌-◌, ◌*◌, ◌%◌, ◌^◌, ◌<◌, ◌≤◌, List, [], ◌∷◌, length, drop, slice_index, refl}
use Rattle.std.proofs.Common.{◌∙◌, sym, ap, arith, one-mul, add-zero, zero-add, mul-zero, add_comm, mod-eq_of_lt, mod-lt, drop_of_length-le}
use Rattle.std.proofs.Math.Nat.{pow-zero, pow-succ', add_right_comm, mod-mod_of_dvd, mod-eq-sub-mod, mod-le, dvd-mul_left}
use Rattle.std.proofs.Math.Seq.{drop-nil}
use Rattle.wire.specs.Bytes.{Bytes}
use Rattle.wire.proofs.Laws.Bytes.{byte_up}
use Rattle.wire.specs.Sum.{total, ones, end_around, swapped, le, le_at, with_rest, blocks}
use Rattle.wire.proofs.Laws.Sum.{ones_shift, ones_plus, ones-swapped}
use Rattle.wire.proofs.Laws.Ones.{higher, ones_high, ones_around}

-- a byte higher, it folds to the same as the sum
pub le_total : (s : List ℕ) → ones (256 * le s) ≡ ones (total s)
unfolding le total
le_total [] = refl
le_total (a ∷ []) = ap ones (omega arith)
le_total (a ∷ b ∷ s) =
    let l : ℕ = le s in
    let e : 256 * (a + 256 * (b + 256 * l)) ≡ 65536 * (b + 256 * l) + a * 256 = omega arith in
    let f : b + 256 * l + a * 256 ≡ 256 * l + (a * 256 + b) = omega arith in
    let g : total s + (a * 256 + b) ≡ a * 256 + b + total s = omega arith in
    ap ones e ∙ ones_shift (b + 256 * l) (a * 256) ∙ ap ones f ∙ ones_plus (256 * l) (total s) (a * 256 + b) (le_total s) ∙ ap ones g

-- ---- cut at a place

le-first : (s : List ℕ) (i : ℕ) → le (drop i s) ≡ slice_index s i + 256 * le (drop (suc i) s)
unfolding le
le-first [] i = rw (drop-nil i)
le-first (a ∷ s) zero = refl
le-first (a ∷ s) (suc i) = le-first s i

-- behind n bytes the rest stands n bytes higher
le-cut : (s : List ℕ) (i n : ℕ) → le (drop i s) ≡ le_at s i n + 256 ^ n * le (drop (i + n) s)
unfolding le_at
le-cut s i zero = rw (pow-zero, one-mul, add-zero, zero-add)
le-cut s i (suc n) =
    let p : i + suc n ≡ suc i + n = omega arith in
    le-first s i ∙ rw p (omega (arith, le-cut s (suc i) n, higher n (le (drop (suc i + n) s))))

-- the number of j + k bytes is that of its first j, below that of its last k
pub le_split : (s : List ℕ) (at j k : ℕ) → le_at s at (j + k) ≡ le_at s at j + 256 ^ j * le_at s (at + j) k
unfolding le_at
le_split s at zero k = rw (pow-zero, one-mul, add-zero, zero-add, zero-add)
le_split s at (suc j) k =
    let p : at + suc j ≡ suc at + j = omega arith in
    let q : suc j + k ≡ suc (j + k) = omega arith in
    rw (p, q) (omega (arith, le_split s (suc at) j k, higher j (le_at s (suc at + j) k)))

pub le_one : (s : List ℕ) (at : ℕ) → le_at s at 1 ≡ slice_index s at
unfolding le_at
le_one s at = omega arith

-- a number of n bytes is below 256 ^ n
pub le-lt : (s : List ℕ) → Bytes s → (at n : ℕ) → le_at s at n < 256 ^ n
unfolding le_at
le-lt s b at zero = rw pow-zero (omega arith)
le-lt s b at (suc n) = rw pow-succ' (omega (arith, le-lt s b (suc at) n, b at))

-- a number's first i bytes, and the byte behind them
pub le_upward : (s : List ℕ) → Bytes s → (at i x : ℕ) → i < 8 → x ≡ le_at s at i
    → x + (slice_index s (at + i) * 2 ^ (8 * i)) % 2 ^ 64 ≡ le_at s at (i + 1)
le_upward s b at i x h e =
    rw (byte_up (slice_index s (at + i)) i (b (at + i)) h, le_split s at i 1, le_one s (at + i), e) (omega arith)

-- ---- what is added, with the rest that is still to be added

-- what is carried around
pub rest-carried : (x r : ℕ) (s : List ℕ) (i : ℕ) → r ≡ end_around (2 ^ 64) x → with_rest r s i ≡ with_rest x s i
unfolding with_rest
rest-carried x r s i e = ones_plus r x (le (drop i s)) (ap ones e ∙ ones_around 4 x)

-- a word of an even number of bytes
rest_word : (k x : ℕ) (s : List ℕ) (i : ℕ) → with_rest (x + le_at s i (2 * k)) s (i + 2 * k) ≡ with_rest x s i
unfolding with_rest
rest_word k x s i =
    let w : ℕ = le_at s i (2 * k) in
    let r : ℕ = le (drop (i + 2 * k) s) in
    let e : 256 ^ (2 * k) * r + (x + w) ≡ x + le (drop i s) = omega (arith, le-cut s i (2 * k)) in
    ap ones (add_comm (x + w) r) ∙ sym (ones_high k r (x + w)) ∙ ap ones e

-- the last bytes, of any number
rest-last : (n x : ℕ) (s : List ℕ) (i : ℕ) → length s ≤ i + n → with_rest (x + le_at s i n) s (i + n) ≡ with_rest x s i
unfolding with_rest le
rest-last n x s i h =
    let d : drop (i + n) s ≡ [] = drop_of_length-le s {i = i + n} h in
    rw (le-cut s i n, d, mul-zero, add-zero, add-zero)

-- each with its carry
pub rest_around : (k x w r : ℕ) (s : List ℕ) (i : ℕ) → r ≡ end_around (2 ^ 64) (x + w) → w ≡ le_at s i (2 * k) → with_rest r s (i + 2 * k) ≡ with_rest x s i
rest_around k x w r s i e f = rest-carried (x + w) r s (i + 2 * k) e ∙ rw f (rest_word k x s i)

pub rest_around_last : (n x w r : ℕ) (s : List ℕ) (i : ℕ) → length s ≤ i + n → r ≡ end_around (2 ^ 64) (x + w) → w ≡ le_at s i n
    → with_rest r s (i + n) ≡ with_rest x s i
rest_around_last n x w r s i h e f = rest-carried (x + w) r s (i + n) e ∙ rw f (rest-last n x s i h)

-- n bytes, and n more
pub rest_twice : (n x y z : ℕ) (s : List ℕ) (i : ℕ) → with_rest y s (i + n) ≡ with_rest x s i → with_rest z s (i + n + n) ≡ with_rest y s (i + n)
    → with_rest z s (i + 2 * n) ≡ with_rest x s i
rest_twice n x y z s i e f =
    let p : i + 2 * n ≡ i + n + n = omega arith in
    ap (λ (j : ℕ). with_rest z s j) p ∙ f ∙ e

-- beside another sum
rest_beside : (a c b : ℕ) (s : List ℕ) (i j : ℕ) → with_rest c s j ≡ with_rest a s i → with_rest (c + b) s j ≡ with_rest (a + b) s i
unfolding with_rest
rest_beside a c b s i j e =
    ap ones (add_right_comm c b (le (drop j s))) ∙ ones_plus (c + le (drop j s)) (a + le (drop i s)) b e ∙ ap ones (add_right_comm a (le (drop i s)) b)

-- n bytes in one sum, and n more in the other
pub rest-two : (n a b c d : ℕ) (s : List ℕ) (i : ℕ) → with_rest c s (i + n) ≡ with_rest a s i → with_rest d s (i + n + n) ≡ with_rest b s (i + n)
    → with_rest (c + d) s (i + 2 * n) ≡ with_rest (a + b) s i
rest-two n a b c d s i e f =
    rest_twice n (a + b) (c + b) (c + d) s i (rest_beside a c b s i (i + n) e)
    (rw (add_comm c d, add_comm c b) (rest_beside b d c s (i + n) (i + n + n) f))

-- ---- blocks of k bytes, and of twice as many

halved : (k n : ℕ) → n % (2 * k) % k ≡ n % k
halved k n = mod-mod_of_dvd k n (dvd-mul_left k 2)

-- there is no block of k bytes behind those of twice as many
pub block_none : (k x : ℕ) (s : List ℕ) → length s % (2 * k) < k → with_rest x s (blocks k s) ≡ with_rest x s (blocks (2 * k) s)
unfolding blocks
block_none k x s h =
    let m : length s % k ≡ length s % (2 * k) = sym (halved k (length s)) ∙ mod-eq_of_lt h in
    ap (λ (n : ℕ). with_rest x s (length s - n)) m

-- there is one, and it is added
pub block_one : (k x y : ℕ) (s : List ℕ) → 0 < k → k ≤ length s % (2 * k) → with_rest y s (blocks (2 * k) s + k) ≡ with_rest x s (blocks (2 * k) s)
    → with_rest y s (blocks k s) ≡ with_rest x s (blocks (2 * k) s)
unfolding blocks
block_one k x y s p h e =
    let n : ℕ = length s in
    let b : n % (2 * k) < 2 * k = mod-lt n (omega arith) in
    let m : n % k ≡ n % (2 * k) - k = sym (halved k n) ∙ mod-eq-sub-mod h ∙ mod-eq_of_lt (omega arith) in
    let l : n % (2 * k) ≤ n = mod-le n (2 * k) in
    let q : n - n % k ≡ n - n % (2 * k) + k = omega arith in
    ap (λ (i : ℕ). with_rest y s i) q ∙ e

-- ---- the sum of all

-- all of it is added; the bytes are exchanged at the end
pub rest-none : (first x : ℕ) (s : List ℕ) → with_rest x s (blocks 1 s) ≡ with_rest (256 * first) s 0 → swapped (ones x) ≡ ones (first + total s)
unfolding with_rest blocks le
rest-none first x s e =
    let d : drop (length s - length s % 1) s ≡ [] = drop_of_length-le s {i = length s - length s % 1} (omega arith) in
    let f : ones x ≡ ones (256 * first + le s) = ap ones (sym (add-zero x)) ∙ ap (λ (l : List ℕ). ones (x + le l)) (sym d) ∙ e in
    let g : 256 * (256 * first + le s) ≡ 65536 * first + 256 * le s = omega arith in
    ap swapped f ∙ ones-swapped (256 * first + le s) ∙ ap ones g ∙ ones_shift first (256 * le s) ∙ ap ones (add_comm first (256 * le s))
    ∙ ones_plus (256 * le s) (total s) first (le_total s) ∙ ap ones (add_comm (total s) first)
