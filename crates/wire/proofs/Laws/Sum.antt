-- Laws of the ones' complement sum.
use Rattle.std.specs.Prelude.{◌≡◌, ℕ, zero, suc, ◌+◌, ◌-◌, ◌*◌, ◌/◌, ◌%◌, ◌^◌, ◌<◌, ◌≤◌, List, [], ◌∷◌, ◌++◌, length, drop, nat_lt, slice_index, slice_index_or}
use Rattle.std.specs.Prelude.{refl}
use Rattle.std.proofs.Common.{◌∙◌, sym, ap, append_assoc, arith, add_comm, zero-add, add-zero, drop-cons, ltb-true, ltb-false}
use Rattle.std.proofs.Math.Nat.{add-mul-mod_self_right}
use Rattle.std.proofs.Math.Seq.{drop-length}
use Rattle.wire.specs.Bytes.{Bytes, be, be_at}
use Rattle.wire.proofs.Laws.Bytes.{be-two, be_split, case_b}
use Rattle.wire.specs.Checks.{pick}
use Rattle.wire.specs.Sum.{total, ones, pseudo, complement, swapped}

-- ---- folding

pub ones_is : (n : ℕ) → 0 < n → ones n ≡ (n - 1) % 65535 + 1
unfolding ones
ones_is zero h = absurd (omega arith)
ones_is (suc n) h = omega arith

pub ones_small : (n : ℕ) → n < 65536 → ones n ≡ n
unfolding ones
ones_small zero h = refl
ones_small (suc n) h = omega arith

pub ones_lt : (n : ℕ) → ones n < 65536
unfolding ones
ones_lt zero = omega arith
ones_lt (suc n) = omega arith

-- two numbers above 0 that leave the same rest by 65,535 fold to the same
pub ones-same : (m n : ℕ) → 0 < m → 0 < n → m % 65535 ≡ n % 65535 → ones m ≡ ones n
ones-same m n hm hn e = ones_is m hm ∙ omega arith ∙ sym (ones_is n hn)

-- a part of a sum may be folded first
pub ones_join : (m n : ℕ) → ones (ones m + n) ≡ ones (m + n)
unfolding ones
ones_join zero n = refl
ones_join (suc m) n = ones-same (m % 65535 + 1 + n) (suc m + n) (omega arith) (omega arith) (omega arith)

-- what folds to the same may stand for each other in a sum
pub ones_plus : (m n k : ℕ) → ones m ≡ ones n → ones (m + k) ≡ ones (n + k)
ones_plus m n k e = sym (ones_join m k) ∙ ap (λ (x : ℕ). ones (x + k)) e ∙ ones_join n k

-- a number that stands a word higher counts the same: words of 32, 48 and 64 bits may be added as they are
pub ones_shift : (m n : ℕ) → ones (65536 * m + n) ≡ ones (m + n)
ones_shift zero n = refl
ones_shift (suc m) n = ones-same (65536 * suc m + n) (suc m + n) (omega arith) (omega arith) (omega arith)

-- a sum of words whose bytes are exchanged is exchanged (RFC 1071, 2B)
pub ones-swapped : (n : ℕ) → swapped (ones n) ≡ ones (256 * n)
unfolding ones
ones-swapped zero = refl
ones-swapped (suc n) =
    let r : ℕ = n % 65535 + 1 in
    let h : ℕ = r / 256 in
    let l : ℕ = r % 256 in
    let k : ℕ = 256 * (n / 65535) + h in
    let small : l * 256 + h < 65536 = omega arith in
    let pos : 0 < l * 256 + h = omega arith in
    let e : 256 * suc n ≡ l * 256 + h + k * 65535 = omega arith in
    sym (ones-same (256 * suc n) (l * 256 + h) (omega arith) pos (ap (λ (x : ℕ). x % 65535) e ∙ add-mul-mod_self_right (l * 256 + h) k 65535)
    ∙ ones_small (l * 256 + h) small)

-- a sum with its complement in it is all ones: what a writer puts into the checksum field
pub ones-complement : (n : ℕ) → 0 < n → ones (n + (65535 - ones n)) ≡ 65535
ones-complement n h =
    let e : ones n ≡ (n - 1) % 65535 + 1 = ones_is n h in
    ones_is (n + (65535 - ones n)) (omega arith) ∙ omega arith

-- ---- joining two sums (RFC 1071, 2)

pub join : ℕ → ℕ → ℕ
join a b = ones (a + b)

pub join_comm : (a b : ℕ) → join a b ≡ join b a
unfolding join
join_comm a b = ap ones (add_comm a b)

pub join_assoc : (a b c : ℕ) → join (join a b) c ≡ join a (join b c)
unfolding join
join_assoc a b c =
    ones_join (a + b) c ∙ ap ones (omega arith) ∙ sym (ones_join (b + c) a) ∙ ap ones (add_comm (ones (b + c)) a)

pub join_zero : (a : ℕ) → a < 65536 → join a 0 ≡ a
unfolding join
join_zero a h = ap ones (add-zero a) ∙ ones_small a h

-- ---- the plain sum of a list

pub total-append : (a b : List ℕ) → length a % 2 ≡ 0 → total (a ++ b) ≡ total a + total b
unfolding total
total-append [] b h = sym (zero-add (total b))
total-append (x ∷ []) b h = let z : ◌≡◌ {A = ℕ} 0 1 = omega arith in absurd (omega arith)
total-append (x ∷ y ∷ a) b h =
    let ih : total (a ++ b) ≡ total a + total b = total-append a b (omega arith) in
    omega arith

-- the sum of two ranges is the joined sum, where the first is even
pub sum-append : (a b : List ℕ) → length a % 2 ≡ 0 → ones (total (a ++ b)) ≡ join (ones (total a)) (ones (total b))
unfolding join
sum-append a b h =
    ap ones (total-append a b h) ∙ sym (ones_join (total a) (total b)) ∙ ap ones (add_comm (ones (total a)) (total b))
    ∙ sym (ones_join (total b) (ones (total a))) ∙ ap ones (add_comm (ones (total b)) (ones (total a)))

-- ---- walking along a list two bytes at a time

pub total-two : (s : List ℕ) (i : ℕ) → i + 1 < length s → total (drop i s) ≡ be_at s i 2 + total (drop (i + 2) s)
unfolding total
total-two s i h =
    let e : drop i s ≡ slice_index s i ∷ drop (suc i) s = drop-cons s i 0 (omega arith) in
    let f : drop (suc i) s ≡ slice_index s (suc i) ∷ drop (suc (suc i)) s = drop-cons s (suc i) 0 (omega arith) in
    let p : i + 1 ≡ suc i = omega arith in
    let q : i + 2 ≡ suc (suc i) = omega arith in
    rw (be-two s i, p, q, e, f)

-- of fewer than four bytes, the first and the third stand a byte higher
pub total_few : (s : List ℕ) → length s < 4 → total s ≡ 256 * (slice_index_or s 0 0 + slice_index_or s 2 0) + slice_index_or s 1 0
unfolding total
total_few [] h = refl
total_few (a ∷ []) h = omega arith
total_few (a ∷ b ∷ []) h = omega arith
total_few (a ∷ b ∷ c ∷ []) h = omega arith
total_few (a ∷ b ∷ c ∷ d ∷ s) h = absurd (omega arith)

pub total-none : (s : List ℕ) (i : ℕ) → i ≡ length s → total (drop i s) ≡ 0
unfolding total
total-none s i h = rw (h, drop-length)

-- two words at a step: the first stands a word higher
pub total_four : (s : List ℕ) (i acc : ℕ) → i + 3 < length s → ones (acc + be_at s i 4 + total (drop (i + 4) s)) ≡ ones (acc + total (drop i s))
total_four s i acc h =
    let w : ℕ = be_at s (i + 2) 2 in
    let r : ℕ = total (drop (i + 4) s) in
    let p : i + 4 ≡ i + 2 + 2 = omega arith in
    let t : total (drop (i + 2) s) ≡ w + r = rw p (total-two s (i + 2) (omega arith)) in
    let e : acc + be_at s i 4 + r ≡ 65536 * be_at s i 2 + (acc + w + r) = omega (arith, be_split s i 2 2) in
    let f : be_at s i 2 + (acc + w + r) ≡ acc + total (drop i s) = omega (arith, total-two s i (omega arith)) in
    ap ones e ∙ ones_shift (be_at s i 2) (acc + w + r) ∙ ap ones f

-- ---- a number's part in the sum

pub total_be2 : (x : ℕ) (s : List ℕ) → x < 256 ^ 2 → total (be 2 x ++ s) ≡ x + total s
unfolding total be
total_be2 x s h = omega arith

be4_halves : (x : ℕ) → be 4 x ≡ be 2 (x / 65536) ++ be 2 (x % 65536)
unfolding be
be4_halves x =
    let e1 : x / 256 / 256 ≡ x / 65536 = omega arith in
    let e2 : x / 256 % 256 ≡ x % 65536 / 256 % 256 = omega arith in
    let e3 : x % 256 ≡ x % 65536 % 256 = omega arith in
    rw (e1, e2, e3)

pub total_be4 : (x : ℕ) (s : List ℕ) → x < 256 ^ 4 → total (be 4 x ++ s) ≡ x / 65536 + x % 65536 + total s
total_be4 x s h =
    ap (λ (l : List ℕ). total (l ++ s)) (be4_halves x) ∙ ap total (append_assoc (be 2 (x / 65536)) (be 2 (x % 65536)) s)
    ∙ omega (arith, total_be2 (x / 65536) (be 2 (x % 65536) ++ s) (omega arith), total_be2 (x % 65536) s (omega arith))

-- ---- a checksum field in a list

-- the field adds its number
pub total-field : (a : List ℕ) (c : ℕ) (b : List ℕ) → length a % 2 ≡ 0 → c < 256 ^ 2
    → total (a ++ (be 2 c ++ b)) ≡ total (a ++ (be 2 0 ++ b)) + c
total-field a c b even h =
    let p : total (a ++ (be 2 c ++ b)) ≡ total a + total (be 2 c ++ b) = total-append a (be 2 c ++ b) even in
    let q : total (a ++ (be 2 0 ++ b)) ≡ total a + total (be 2 0 ++ b) = total-append a (be 2 0 ++ b) even in
    omega (arith, total_be2 c b h, total_be2 0 b (omega arith))

pub complement-fits : (s : List ℕ) → complement s < 256 ^ 2
unfolding complement
complement-fits s = omega arith

pub sealed : (a b : List ℕ) → length a % 2 ≡ 0 → 0 < total (a ++ (be 2 0 ++ b))
    → ones (total (a ++ (be 2 (complement (a ++ (be 2 0 ++ b))) ++ b))) ≡ 65535
unfolding complement
sealed a b even pos =
    let s : List ℕ = a ++ (be 2 0 ++ b) in
    ap ones (total-field a (65535 - ones (total s)) b even (omega arith)) ∙ ones-complement (total s) pos

pub total_first : (a b : ℕ) (s : List ℕ) → a * 256 ≤ total (a ∷ b ∷ s)
unfolding total
total_first a b s = omega arith

-- ---- the pseudo header

added : (a b c d e f l2 l1 ld : ℕ) → l2 ≡ e + f → l1 ≡ d + l2 → ld ≡ b + c + l1 → a + ld ≡ a + b + c + d + e + f
added a b c d e f l2 l1 ld p q r = omega arith

-- the pseudo header's part in the sum, as a number
pub pseudo-total : (source destination protocol size : ℕ) (s : List ℕ)
    → source < 256 ^ 4 → destination < 256 ^ 4 → protocol < 256 → size < 256 ^ 2
    → total (pseudo source destination protocol size ++ s)
    ≡ source / 65536 + source % 65536 + destination / 65536 + destination % 65536 + protocol + size + total s
unfolding pseudo be total
pseudo-total source destination protocol size s h1 h2 h3 h4 =
    let l2 : List ℕ = be 2 size ++ s in
    let l1 : List ℕ = 0 ∷ protocol ∷ l2 in
    let ld : List ℕ = be 4 destination ++ l1 in
    let small : protocol % 256 ≡ protocol = omega arith in
    let t2 : total l2 ≡ size + total s = total_be2 size s h4 in
    let t1 : total l1 ≡ protocol + total l2 = omega arith in
    let td : total ld ≡ destination / 65536 + destination % 65536 + total l1 = total_be4 destination l1 h2 in
    rw small (total_be4 source ld h1 ∙ added (source / 65536 + source % 65536) (destination / 65536) (destination % 65536) protocol size (total s) (total l2)
    (total l1) (total ld) t2 t1 td)

-- its addresses may be added whole
pub pseudo-ones : (source destination protocol size : ℕ) (s : List ℕ)
    → source < 256 ^ 4 → destination < 256 ^ 4 → protocol < 256 → size < 256 ^ 2
    → ones (source + destination + protocol + size + total s) ≡ ones (total (pseudo source destination protocol size ++ s))
pseudo-ones source destination protocol size s h1 h2 h3 h4 =
    let m : ℕ = source / 65536 + destination / 65536 in
    let n : ℕ = source % 65536 + destination % 65536 + protocol + size + total s in
    let e : source + destination + protocol + size + total s ≡ 65536 * m + n = omega arith in
    let f : m + n ≡ total (pseudo source destination protocol size ++ s) = omega (arith, pseudo-total source destination protocol size s h1 h2 h3 h4) in
    ap ones e ∙ ones_shift m n ∙ ap ones f

-- ---- the same word by word (RFC 1071, 2): each sum's carry is added to it again

unfoldable pub carried : ℕ → ℕ → ℕ
carried a b = pick (nat_lt (a + b) 65536) (a + b) (a + b - 65536 + 1)

unfoldable pub wordwise : List ℕ → ℕ
wordwise [] = 0
wordwise (a ∷ []) = a * 256
wordwise (a ∷ b ∷ s) = carried (a * 256 + b) (wordwise s)

carried_is : (a b : ℕ) → a < 65536 → b < 65536 → carried a b ≡ ones (a + b)
unfolding carried
carried_is a b h k =
    case_b (nat_lt (a + b) 65536)
    (λ e. rw e (sym (ones_small (a + b) (ltb-true (a + b) 65536 e))))
    (λ e. let l : 65536 ≤ a + b = ltb-false (a + b) 65536 e in rw e (sym (ones_is (a + b) (omega arith) ∙ omega arith)))

pub wordwise_is : (s : List ℕ) → Bytes s → wordwise s ≡ ones (total s)
unfolding wordwise total
wordwise_is [] b = sym (ones_small 0 (omega arith))
wordwise_is (x ∷ []) b = sym (ones_small (x * 256) (omega (arith, b 0)))
wordwise_is (x ∷ y ∷ s) b =
    let ih : wordwise s ≡ ones (total s) = wordwise_is s (λ i. b (suc (suc i))) in
    let w : ℕ = x * 256 + y in
    let l : w < 65536 = omega (arith, b 0, b 1) in
    rw ih (
    carried_is w (ones (total s)) l (ones_lt (total s)) ∙ ap ones (add_comm w (ones (total s)))
    ∙ ones_join (total s) w ∙ ap ones (add_comm (total s) w))
