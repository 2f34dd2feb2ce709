-- The map a byte at a time: what a byte's mask does is what the single bits do.
use Rattle.std.specs.Prelude.{◌≡◌, refl, Bool, true, false, not, ◌&&◌, ◌||◌, ◌≢◌, eqb}
use Rattle.std.proofs.Math.Path.{sym, ap}
use Rattle.std.proofs.Common.{◌∙◌, zero-add, add-zero, add_comm, suc-mul, zero-mul, add-suc, add-one, one-mul, mod-lt, mod-eq_of_lt, pow-suc, one-add, pow_pos}
use Rattle.std.proofs.Common.{pow_mono, shr-shr, get_or-set_same, set-set, eq-eqb, ne_eqb, eqb-true}
use mathlib.Core.List.{List, map, ◌++◌, append-nil}
use Prim.Native.Nat.{ℕ, zero, suc, ◌+◌, ◌-◌, ◌*◌, ◌/◌, ◌%◌, ◌^◌, ◌<◌, ◌≤◌, max}
use native.Mathlib.Omega.{arith}
use Rattle.std.proofs.Math.Arith.{bin_ind}
use Rattle.std.proofs.Math.Dec.{eqb-suc-zero}
use Rattle.std.proofs.lemmas.Nat.{mod-pow-add, or_shr, and_mask, and_le_l, and_le_r}
use Rattle.std.specs.Int.Bits.{bit_and, bit_or, or_step, or_zero_l, or_zero_r, or_add_and, or_shifted_r}
use Rattle.std.proofs.lemmas.Nat.Bits.{and_high}
use Rattle.std.proofs.Math.ListN.{length, get_or, set, take, drop}
use Rattle.std.proofs.Math.Seq.{set-get_or, get_or-take, get_or-drop, paste}
use Rattle.std.proofs.lemmas.List.Edits.{paste_none, paste_more, drop-paste}
use Rattle.std.proofs.lemmas.Bool.{eqb-false}
use Rattle.std.proofs.lemmas.List.{get_or-map, length-map, length-drop, length-take-le, take_all, drop_all}
use Rattle.std.proofs.lemmas.Slice.{put_mid-paste}
use borrow.Rule.Slice.PartMut.{put_mid}
use Rattle.reassembly.proofs.Laws.Base.{case_b, same_test, and_l, and_r, some_below_ext, all_below_ext}
use Rattle.reassembly.specs.Base.{some_below, all_below}
use Rattle.reassembly.specs.Store.{is_on, set_bit, set_bits, bit_at}
use Rattle.reassembly.proofs.Laws.Store.{length-set_bits}

-- ---- bits of one number

-- either's bits
or_half : (a b : ℕ) → bit_or a b / 2 ≡ bit_or (a / 2) (b / 2)
or_half a b = or_shr a b 1

or_low : (a b : ℕ) → bit_or a b % 2 ≡ max (a % 2) (b % 2)
or_low a b = ap (λ (x : ℕ). x % 2) (or_step a b) ∙ omega arith

pub or_assoc : (a b c : ℕ) → bit_or (bit_or a b) c ≡ bit_or a (bit_or b c)
or_assoc a =
    bin_ind (λ (a : ℕ). (b c : ℕ) → bit_or (bit_or a b) c ≡ bit_or a (bit_or b c))
    (λ b c. ap (λ (x : ℕ). bit_or x c) (or_zero_l b) ∙ sym (or_zero_l (bit_or b c)))
    (λ n ih b c.
    or_step (bit_or n b) c
    ∙ ap (λ (x : ℕ). bit_or x (c / 2) * 2 + max (bit_or n b % 2) (c % 2)) (or_half n b)
    ∙ ap (λ (x : ℕ). x * 2 + max (bit_or n b % 2) (c % 2)) (ih (b / 2) (c / 2))
    ∙ ap (λ (x : ℕ). bit_or (n / 2) (bit_or (b / 2) (c / 2)) * 2 + x) (omega (arith, or_low n b, or_low b c))
    ∙ ap (λ (x : ℕ). bit_or (n / 2) x * 2 + max (n % 2) (bit_or b c % 2)) (sym (or_half b c))
    ∙ sym (or_step n (bit_or b c)))
    a

-- a mask and the bit above it
mask_more : (lo k : ℕ) → bit_or (2 ^ (lo + k) - 2 ^ lo) (2 ^ (lo + k)) ≡ 2 ^ (lo + suc k) - 2 ^ lo
mask_more lo k =
    let low : 2 ^ lo ≤ 2 ^ (lo + k) = pow_mono (omega arith) in
    let pos : 0 < 2 ^ lo = pow_pos lo in
    let less : 2 ^ (lo + k) - 2 ^ lo < 2 ^ (lo + k) = omega arith in
    let next : 2 ^ (lo + suc k) ≡ 2 ^ (lo + k) * 2 = ap (λ (x : ℕ). 2 ^ x) (add-suc lo k) ∙ pow-suc 2 (lo + k) in
    ap (λ (x : ℕ). bit_or (2 ^ (lo + k) - 2 ^ lo) x) (sym (one-mul (2 ^ (lo + k))))
    ∙ or_shifted_r 1 (lo + k) (2 ^ (lo + k) - 2 ^ lo) less
    ∙ omega arith

-- no bit of either
or_none_lem : (x y : ℕ) → eqb (bit_or x y) 0 ≡ (eqb x 0 && eqb y 0)
or_none_lem x y =
    case_b (eqb x 0)
    (λ e. rw e (ap (λ (t : ℕ). eqb (bit_or t y) 0) (eqb-true x 0 e) ∙ ap (λ (t : ℕ). eqb t 0) (or_zero_l y)))
    (λ e. rw e (ne_eqb (bit_or x y) 0 (λ z. eqb-false x 0 e (omega (arith, or_add_and x y, and_le_l x y, and_le_r x y)))))

-- every bit of both, of two bytes
and_all : (x y : ℕ) → x < 256 → y < 256 → eqb (bit_and x y) 255 ≡ (eqb x 255 && eqb y 255)
and_all x y lx ly =
    same_test (eqb (bit_and x y) 255) (eqb x 255 && eqb y 255)
    (λ e. let w : bit_and x y ≡ 255 = eqb-true (bit_and x y) 255 e in
    let p : eqb x 255 ≡ true = eq-eqb x 255 (omega (arith, and_le_l x y)) in
    let q : eqb y 255 ≡ true = eq-eqb y 255 (omega (arith, and_le_r x y)) in
    rw (p, q))
    (λ e. let p : x ≡ 255 = eqb-true x 255 (and_l (eqb x 255) (eqb y 255) e) in
    let q : y ≡ 255 = eqb-true y 255 (and_r (eqb x 255) (eqb y 255) e) in
    rw (p, q))

-- the lowest bits of y are its remainder
digit : (y k : ℕ) → y % 2 ^ suc k ≡ (y / 2 ^ k % 2) * 2 ^ k + y % 2 ^ k
digit y k = ap (λ (x : ℕ). y % 2 ^ x) (sym (one-add k)) ∙ mod-pow-add y 1 k

none_on : (y k : ℕ) → eqb (y % 2 ^ k) 0 ≡ not (some_below k (λ i. is_on y i))
unfolding is_on some_below
none_on y zero = eq-eqb (y % 1) 0 (omega arith)
none_on y (suc k) =
    let pos : 0 < 2 ^ k = pow_pos k in
    case_b (eqb (y / 2 ^ k % 2) 1)
    (λ e. let d : y / 2 ^ k % 2 ≡ 1 = eqb-true (y / 2 ^ k % 2) 1 e in
    rw e (ne_eqb (y % 2 ^ suc k) 0 (λ z. omega (arith, digit y k, ap (λ (t : ℕ). t * 2 ^ k) d))))
    (λ e. let d : y / 2 ^ k % 2 ≢ 1 = eqb-false (y / 2 ^ k % 2) 1 e in
    let d0 : y / 2 ^ k % 2 ≡ 0 = omega arith in
    let r : y % 2 ^ suc k ≡ y % 2 ^ k = digit y k ∙ omega (arith, ap (λ (t : ℕ). t * 2 ^ k) d0) in
    rw (e, r) (none_on y k))

all_on : (y k : ℕ) → eqb (y % 2 ^ k) (2 ^ k - 1) ≡ all_below k (λ i. is_on y i)
unfolding is_on all_below
all_on y zero = eq-eqb (y % 1) 0 (omega arith)
all_on y (suc k) =
    let pos : 0 < 2 ^ k = pow_pos k in
    let twice : 2 ^ suc k ≡ 2 ^ k * 2 = pow-suc 2 k in
    let less : y % 2 ^ k < 2 ^ k = mod-lt y pos in
    case_b (eqb (y / 2 ^ k % 2) 1)
    (λ e. let d : y / 2 ^ k % 2 ≡ 1 = eqb-true (y / 2 ^ k % 2) 1 e in
    let r : y % 2 ^ suc k ≡ 2 ^ k + y % 2 ^ k = digit y k ∙ omega (arith, ap (λ (t : ℕ). t * 2 ^ k) d) in
    rw e (same_test (eqb (y % 2 ^ suc k) (2 ^ suc k - 1)) (eqb (y % 2 ^ k) (2 ^ k - 1))
    (λ w. eq-eqb (y % 2 ^ k) (2 ^ k - 1) (omega (arith, eqb-true (y % 2 ^ suc k) (2 ^ suc k - 1) w)))
    (λ w. eq-eqb (y % 2 ^ suc k) (2 ^ suc k - 1) (omega (arith, eqb-true (y % 2 ^ k) (2 ^ k - 1) w)))
    ∙ all_on y k))
    (λ e. let d : y / 2 ^ k % 2 ≢ 1 = eqb-false (y / 2 ^ k % 2) 1 e in
    let d0 : y / 2 ^ k % 2 ≡ 0 = omega arith in
    let r : y % 2 ^ suc k ≡ y % 2 ^ k = digit y k ∙ omega (arith, ap (λ (t : ℕ). t * 2 ^ k) d0) in
    rw e (ne_eqb (y % 2 ^ suc k) (2 ^ suc k - 1) (λ z. omega arith)))

shifted_on : (x lo i : ℕ) → is_on (x / 2 ^ lo) i ≡ is_on x (lo + i)
unfolding is_on
shifted_on x lo i = ap (λ (t : ℕ). eqb (t % 2) 1) (shr-shr x lo i)

scaled_none : (z p : ℕ) → 0 < p → eqb (z * p) 0 ≡ eqb z 0
scaled_none zero p h = rw zero-mul
scaled_none (suc z) p h = ne_eqb (suc z * p) 0 (λ e. omega (arith, suc-mul z p)) ∙ sym (eqb-suc-zero z)

-- no bit of x is under the mask from lo to lo + k
none_under : (x lo k : ℕ) → eqb (bit_and x (2 ^ (lo + k) - 2 ^ lo)) 0 ≡ not (some_below k (λ i. is_on x (lo + i)))
none_under x lo k =
    ap (λ (t : ℕ). eqb (bit_and x (2 ^ t - 2 ^ lo)) 0) (add_comm lo k)
    ∙ ap (λ (t : ℕ). eqb t 0) (and_high x k lo)
    ∙ scaled_none (x / 2 ^ lo % 2 ^ k) (2 ^ lo) (pow_pos lo)
    ∙ none_on (x / 2 ^ lo) k
    ∙ ap not (some_below_ext k (λ i. is_on (x / 2 ^ lo) i) (λ i. is_on x (lo + i)) (λ i h. shifted_on x lo i))

-- ---- setting bits

-- k bits more, all in byte q: a single store
module _ (m : List ℕ) (b a n q lo : ℕ) (start : a + n ≡ q * 8 + lo) (inside : b + q < length m) where
  byte_more : (k : ℕ) → lo + k ≤ 8
      → set (set_bits m b a n) (b + q) (bit_or (get_or (set_bits m b a n) (b + q) 0) (2 ^ (lo + k) - 2 ^ lo)) ≡ set_bits m b a (n + k)
  unfolding set_bits set_bit
  byte_more zero f =
      let z : 2 ^ (lo + 0) - 2 ^ lo ≡ 0 = ap (λ (x : ℕ). 2 ^ x - 2 ^ lo) (add-zero lo) ∙ omega arith in
      ap (λ (x : ℕ). set (set_bits m b a n) (b + q) (bit_or (get_or (set_bits m b a n) (b + q) 0) x)) z
      ∙ ap (λ (x : ℕ). set (set_bits m b a n) (b + q) x) (or_zero_r (get_or (set_bits m b a n) (b + q) 0))
      ∙ set-get_or (set_bits m b a n) (b + q) 0
      ∙ ap (λ (x : ℕ). set_bits m b a x) (sym (add-zero n))
  byte_more (suc k) f =
      let M : List ℕ = set_bits m b a n in
      let x : ℕ = get_or M (b + q) 0 in
      let y : ℕ = 2 ^ (lo + k) - 2 ^ lo in
      let z : ℕ = 2 ^ (lo + k) in
      let lB : b + q < length M = omega (arith, length-set_bits m b a n) in
      let at : b + (a + (n + k)) / 8 ≡ b + q = omega arith in
      let bit : (a + (n + k)) % 8 ≡ lo + k = omega arith in
      ap (λ (t : ℕ). set M (b + q) (bit_or x t)) (sym (mask_more lo k))
      ∙ ap (λ (t : ℕ). set M (b + q) t) (sym (or_assoc x y z))
      ∙ sym (set-set M (b + q) (bit_or x y) (bit_or (bit_or x y) z))
      ∙ ap (λ (t : ℕ). set (set M (b + q) (bit_or x y)) (b + q) (bit_or t z)) (sym (get_or-set_same M (b + q) (bit_or x y) 0 lB))
      ∙ ap (λ (L : List ℕ). set L (b + q) (bit_or (get_or L (b + q) 0) z)) (byte_more k (omega arith))
      ∙ ap (λ (t : ℕ). set (set_bits m b a (n + k)) t (bit_or (get_or (set_bits m b a (n + k)) t 0) z)) (sym at)
      ∙ ap (λ (t : ℕ). set (set_bits m b a (n + k)) (b + (a + (n + k)) / 8) (bit_or (get_or (set_bits m b a (n + k)) (b + (a + (n + k)) / 8) 0) (2 ^ t))) (sym bit)
      ∙ ap (λ (t : ℕ). set_bits m b a t) (sym (add-suc n k))

-- A turn of the code: the bits up to bit lo of byte q are set, and those up to hi are next.
pub set-turn : (m M : List ℕ) (a q lo hi : ℕ) → a ≤ q * 8 + lo → lo ≤ hi → hi ≤ 8 → q < length m → M ≡ set_bits m 0 a (q * 8 + lo - a)
    → set M q (bit_or (get_or M q 0) (2 ^ hi - 2 ^ lo)) ≡ set_bits m 0 a (q * 8 + hi - a)
set-turn m M a q lo hi h1 h2 h3 l e =
    let z : 0 + q ≡ q = zero-add q in
    let s : a + (q * 8 + lo - a) ≡ q * 8 + lo = omega arith in
    let t : q * 8 + lo - a + (hi - lo) ≡ q * 8 + hi - a = omega arith in
    let u : lo + (hi - lo) ≡ hi = omega arith in
    ap (λ (L : List ℕ). set L q (bit_or (get_or L q 0) (2 ^ hi - 2 ^ lo))) e
    ∙ ap (λ (j : ℕ). set (set_bits m 0 a (q * 8 + lo - a)) j (bit_or (get_or (set_bits m 0 a (q * 8 + lo - a)) j 0) (2 ^ hi - 2 ^ lo))) (sym z)
    ∙ ap (λ (j : ℕ). set (set_bits m 0 a (q * 8 + lo - a)) (0 + q) (bit_or (get_or (set_bits m 0 a (q * 8 + lo - a)) (0 + q) 0) (2 ^ j - 2 ^ lo))) (sym u)
    ∙ byte_more m 0 a (q * 8 + lo - a) q lo s (omega arith) (hi - lo) (omega arith)
    ∙ ap (λ (j : ℕ). set_bits m 0 a j) t

-- bits set after others
pub set_bits_join : (m : List ℕ) (b a n k : ℕ) → set_bits (set_bits m b a n) b (a + n) k ≡ set_bits m b a (n + k)
unfolding set_bits
set_bits_join m b a n zero = ap (λ (t : ℕ). set_bits m b a t) (sym (add-zero n))
set_bits_join m b a n (suc k) =
    ap (λ (L : List ℕ). set_bit L b (a + n + k)) (set_bits_join m b a n k)
    ∙ ap (λ (t : ℕ). set_bit (set_bits m b a (n + k)) b t) (omega arith)
    ∙ ap (λ (t : ℕ). set_bits m b a t) (sym (add-suc n k))

-- from place to place: up to p, and from there up to e
pub set_on : (m M : List ℕ) (a p e : ℕ) → a ≤ p → p ≤ e → M ≡ set_bits m 0 a (p - a) → set_bits M 0 p (e - p) ≡ set_bits m 0 a (e - a)
set_on m M a p e h1 h2 q =
    let s : a + (p - a) ≡ p = omega arith in
    let t : p - a + (e - p) ≡ e - a = omega arith in
    ap (λ (L : List ℕ). set_bits L 0 p (e - p)) q
    ∙ ap (λ (j : ℕ). set_bits (set_bits m 0 a (p - a)) 0 j (e - p)) (sym s)
    ∙ set_bits_join m 0 a (p - a) (e - p)
    ∙ ap (λ (j : ℕ). set_bits m 0 a j) t

-- the first byte's bits: nothing is set before them
pub set_first : (m : List ℕ) (a q lo hi : ℕ) → a ≡ q * 8 + lo → lo ≤ hi → hi ≤ 8 → q < length m
    → set m q (bit_or (get_or m q 0) (2 ^ hi - 2 ^ lo)) ≡ set_bits m 0 a (q * 8 + hi - a)
unfolding set_bits
set_first m a q lo hi h1 h2 h3 l =
    let z : q * 8 + lo - a ≡ 0 = omega arith in
    set-turn m m a q lo hi (omega arith) h2 h3 l (rw z)

-- ---- testing bits

some-add : (n k : ℕ) (f : ℕ → Bool) → some_below (n + k) f ≡ (some_below n f || some_below k (λ i. f (n + i)))
unfolding some_below
some-add n zero f = ap (λ (t : ℕ). some_below t f) (add-zero n) ∙ or_none' (some_below n f)
  where
    or_none' : (x : Bool) → x ≡ (x || false)
    or_none' true = refl
    or_none' false = refl
some-add n (suc k) f = ap (λ (t : ℕ). some_below t f) (add-suc n k) ∙ rw (some-add n k f) (swap (f (n + k)) (some_below n f) (some_below k (λ i. f (n + i))))
  where
    swap : (x y z : Bool) → (x || (y || z)) ≡ (y || (x || z))
    swap true true z = refl
    swap true false z = refl
    swap false y z = refl

all-add : (n k : ℕ) (f : ℕ → Bool) → all_below (n + k) f ≡ (all_below n f && all_below k (λ i. f (n + i)))
unfolding all_below
all-add n zero f = ap (λ (t : ℕ). all_below t f) (add-zero n) ∙ and_all' (all_below n f)
  where
    and_all' : (x : Bool) → x ≡ (x && true)
    and_all' true = refl
    and_all' false = refl
all-add n (suc k) f = ap (λ (t : ℕ). all_below t f) (add-suc n k) ∙ rw (all-add n k f) (swap (f (n + k)) (all_below n f) (all_below k (λ i. f (n + i))))
  where
    swap : (x y z : Bool) → (x && (y && z)) ≡ (y && (x && z))
    swap true y z = refl
    swap false true z = refl
    swap false false z = refl

not_or : (x y : Bool) → (not x && not y) ≡ not (x || y)
not_or true y = refl
not_or false y = refl

-- the bits of byte q from lo on, seen from a
bits_of : (m : List ℕ) (a n q lo i : ℕ) → a + n ≡ q * 8 + lo → lo + i < 8 → bit_at m 0 (a + (n + i)) ≡ is_on (get_or m q 0) (lo + i)
unfolding bit_at
bits_of m a n q lo i s l =
    let p : 0 + (a + (n + i)) / 8 ≡ q = omega arith in
    let r : (a + (n + i)) % 8 ≡ lo + i = omega arith in
    rw (p, r)

-- A turn of the test whether some bit is set: `found` is 0 so long as none is.
any-turn : (m : List ℕ) (a q lo hi found y : ℕ) → a ≤ q * 8 + lo → lo ≤ hi → hi ≤ 8
    → eqb found 0 ≡ not (some_below (q * 8 + lo - a) (λ i. bit_at m 0 (a + i)))
    → eqb y 0 ≡ not (some_below (hi - lo) (λ i. is_on (get_or m q 0) (lo + i)))
    → eqb (bit_or found y) 0 ≡ not (some_below (q * 8 + hi - a) (λ i. bit_at m 0 (a + i)))
any-turn m a q lo hi found y h1 h2 h3 e d =
    let n : ℕ = q * 8 + lo - a in
    let s : a + (q * 8 + lo - a) ≡ q * 8 + lo = omega arith in
    let t : q * 8 + lo - a + (hi - lo) ≡ q * 8 + hi - a = omega arith in
    or_none_lem found y
    ∙ rw (e, d) (not_or (some_below (q * 8 + lo - a) (λ i. bit_at m 0 (a + i))) (some_below (hi - lo) (λ i. is_on (get_or m q 0) (lo + i))))
    ∙ ap (λ (b : Bool). not (some_below (q * 8 + lo - a) (λ i. bit_at m 0 (a + i)) || b))
    (some_below_ext (hi - lo) (λ i. is_on (get_or m q 0) (lo + i)) (λ i. bit_at m 0 (a + (q * 8 + lo - a + i)))
    (λ i l. sym (bits_of m a (q * 8 + lo - a) q lo i s (omega arith))))
    ∙ ap not (sym (some-add (q * 8 + lo - a) (hi - lo) (λ i. bit_at m 0 (a + i))))
    ∙ ap (λ (j : ℕ). not (some_below j (λ i. bit_at m 0 (a + i)))) t

pub any_masked : (m : List ℕ) (a q lo hi found : ℕ) → a ≤ q * 8 + lo → lo ≤ hi → hi ≤ 8
    → eqb found 0 ≡ not (some_below (q * 8 + lo - a) (λ i. bit_at m 0 (a + i)))
    → eqb (bit_or found (bit_and (get_or m q 0) (2 ^ hi - 2 ^ lo))) 0 ≡ not (some_below (q * 8 + hi - a) (λ i. bit_at m 0 (a + i)))
any_masked m a q lo hi found h1 h2 h3 e =
    let u : lo + (hi - lo) ≡ hi = omega arith in
    any-turn m a q lo hi found (bit_and (get_or m q 0) (2 ^ hi - 2 ^ lo)) h1 h2 h3 e
    (ap (λ (j : ℕ). eqb (bit_and (get_or m q 0) (2 ^ j - 2 ^ lo)) 0) (sym u) ∙ none_under (get_or m q 0) lo (hi - lo))

-- the first byte: nothing was found before it
pub any-first : (m : List ℕ) (a q lo hi : ℕ) → a ≡ q * 8 + lo → lo ≤ hi → hi ≤ 8
    → eqb (bit_and (get_or m q 0) (2 ^ hi - 2 ^ lo)) 0 ≡ not (some_below (q * 8 + hi - a) (λ i. bit_at m 0 (a + i)))
unfolding some_below
any-first m a q lo hi h1 h2 h3 =
    let z : q * 8 + lo - a ≡ 0 = omega arith in
    ap (λ (x : ℕ). eqb x 0) (sym (or_zero_l (bit_and (get_or m q 0) (2 ^ hi - 2 ^ lo))))
    ∙ any_masked m a q lo hi 0 (omega arith) h2 h3 (rw z)

-- a whole byte needs no mask
pub any-whole : (m : List ℕ) (a q found : ℕ) → a ≤ q * 8 → get_or m q 0 < 256
    → eqb found 0 ≡ not (some_below (q * 8 - a) (λ i. bit_at m 0 (a + i)))
    → eqb (bit_or found (get_or m q 0)) 0 ≡ not (some_below ((q + 1) * 8 - a) (λ i. bit_at m 0 (a + i)))
any-whole m a q found h l e =
    let z : q * 8 + 0 - a ≡ q * 8 - a = omega arith in
    let t : q * 8 + 8 - a ≡ (q + 1) * 8 - a = omega arith in
    let w : get_or m q 0 % 256 ≡ get_or m q 0 = mod-eq_of_lt l in
    any-turn m a q 0 8 found (get_or m q 0) (omega arith) (omega arith) (omega arith) (rw z e)
    (ap (λ (x : ℕ). eqb x 0) (sym w) ∙ none_on (get_or m q 0) 8
    ∙ ap not (some_below_ext 8 (λ i. is_on (get_or m q 0) i) (λ i. is_on (get_or m q 0) (0 + i)) (λ i _. ap (λ (j : ℕ). is_on (get_or m q 0) j) (sym (zero-add i)))))
    ∙ ap (λ (j : ℕ). not (some_below j (λ i. bit_at m 0 (a + i)))) t

-- byte i of the bytes from b on
pub byte_in : (m : List ℕ) (b k i : ℕ) → i < k → get_or (take k (drop b m)) i 0 ≡ get_or m (b + i) 0
byte_in m b k i l = get_or-take k (drop b m) i 0 l ∙ get_or-drop b m i 0

get_or-head : (n : ℕ) (l : List ℕ) → get_or (drop n l) 0 0 ≡ get_or l n 0
get_or-head n l = get_or-drop n l 0 0 ∙ ap (λ (k : ℕ). get_or l k 0) (add-zero n)

pub any-next : (m : List ℕ) (a b k i found : ℕ) → a ≤ b * 8 → i < k → get_or m (b + i) 0 < 256
    → eqb found 0 ≡ not (some_below ((b + i) * 8 - a) (λ i. bit_at m 0 (a + i)))
    → eqb (bit_or found (get_or (take k (drop b m)) i 0)) 0 ≡ not (some_below ((b + (i + 1)) * 8 - a) (λ i. bit_at m 0 (a + i)))
any-next m a b k i found h l w e =
    let t : (b + i + 1) * 8 - a ≡ (b + (i + 1)) * 8 - a = omega arith in
    ap (λ (x : ℕ). eqb (bit_or found x) 0) (byte_in m b k i l)
    ∙ any-whole m a (b + i) found (omega arith) w e
    ∙ ap (λ (j : ℕ). not (some_below j (λ i. bit_at m 0 (a + i)))) t

-- A turn of the test whether every bit is set: the first hi bits of byte q, all bits before it being set or not.
all-turn : (m : List ℕ) (q hi : ℕ) → hi ≤ 8
    → all_below (q * 8 + hi) (λ i. bit_at m 0 i) ≡ (all_below (q * 8) (λ i. bit_at m 0 i) && eqb (get_or m q 0 % 2 ^ hi) (2 ^ hi - 1))
unfolding bit_at
all-turn m q hi h =
    all-add (q * 8) hi (λ i. bit_at m 0 i)
    ∙ ap (λ (b : Bool). all_below (q * 8) (λ i. bit_at m 0 i) && b)
    (all_below_ext hi (λ i. bit_at m 0 (q * 8 + i)) (λ i. is_on (get_or m q 0) i)
    (λ i l. let p : 0 + (q * 8 + i) / 8 ≡ q = omega arith in let r : (q * 8 + i) % 8 ≡ i = omega arith in rw (p, r))
    ∙ sym (all_on (get_or m q 0) hi))

pub all_whole : (m : List ℕ) (q kept : ℕ) → kept < 256 → get_or m q 0 < 256 → eqb kept 255 ≡ all_below (q * 8) (λ i. bit_at m 0 i)
    → eqb (bit_and kept (get_or m q 0)) 255 ≡ all_below ((q + 1) * 8) (λ i. bit_at m 0 i)
all_whole m q kept lk l e =
    let t : q * 8 + 8 ≡ (q + 1) * 8 = omega arith in
    let w : get_or m q 0 % 256 ≡ get_or m q 0 = mod-eq_of_lt l in
    and_all kept (get_or m q 0) lk l
    ∙ ap (λ (b : Bool). b && eqb (get_or m q 0) 255) e
    ∙ ap (λ (x : ℕ). all_below (q * 8) (λ i. bit_at m 0 i) && eqb x 255) (sym w)
    ∙ sym (all-turn m q 8 (omega arith))
    ∙ ap (λ (j : ℕ). all_below j (λ i. bit_at m 0 i)) t

pub all-next : (m : List ℕ) (k i kept : ℕ) → i < k → kept < 256 → get_or m i 0 < 256 → eqb kept 255 ≡ all_below (i * 8) (λ i. bit_at m 0 i)
    → eqb (bit_and kept (get_or (take k m) i 0)) 255 ≡ all_below ((i + 1) * 8) (λ i. bit_at m 0 i)
all-next m k i kept l lk w e =
    ap (λ (x : ℕ). eqb (bit_and kept x) 255) (get_or-take k m i 0 l) ∙ all_whole m i kept lk w e

-- the last byte's mask, once all before it are set
pub all-last : (m : List ℕ) (q hi r : ℕ) → hi ≤ 8 → r ≡ 2 ^ hi - 2 ^ 0 → all_below (q * 8) (λ i. bit_at m 0 i) ≡ true
    → eqb (bit_and (get_or m q 0) r) r ≡ all_below (q * 8 + hi) (λ i. bit_at m 0 i)
all-last m q hi r h s e =
    ap (λ (x : ℕ). eqb (bit_and (get_or m q 0) x) x) s
    ∙ ap (λ (x : ℕ). eqb x (2 ^ hi - 1)) (and_mask (get_or m q 0) hi)
    ∙ ap (λ (b : Bool). b && eqb (get_or m q 0 % 2 ^ hi) (2 ^ hi - 1)) (sym e)
    ∙ sym (all-turn m q hi h)

-- ---- the code's own cases, with r the mask that it worked out

not_not : (x y : Bool) → x ≡ not y → not x ≡ y
not_not x true e = ap not e
not_not x false e = ap not e

module _ (m : List ℕ) (a n r : ℕ) where
  -- all in one byte
  pub set-only : a / 8 ≡ (a + n) / 8 → a / 8 < length m → r ≡ 2 ^ ((a + n) % 8) - 2 ^ (a % 8) → set m (a / 8) (bit_or (get_or m (a / 8) 0) r) ≡ set_bits m 0 a n
  set-only h l e =
      let t : a / 8 * 8 + (a + n) % 8 - a ≡ n = omega arith in
      rw e (set_first m a (a / 8) (a % 8) ((a + n) % 8) (omega arith) (omega arith) (omega arith) l ∙ ap (λ (j : ℕ). set_bits m 0 a j) t)

  pub any-only : a / 8 ≡ (a + n) / 8 → r ≡ 2 ^ ((a + n) % 8) - 2 ^ (a % 8) → not (eqb (bit_and (get_or m (a / 8) 0) r) 0) ≡ some_below n (λ i. bit_at m 0 (a + i))
  any-only h e =
      let t : a / 8 * 8 + (a + n) % 8 - a ≡ n = omega arith in
      not_not (eqb (bit_and (get_or m (a / 8) 0) r) 0) (some_below n (λ i. bit_at m 0 (a + i)))
      (rw e (any-first m a (a / 8) (a % 8) ((a + n) % 8) (omega arith) (omega arith) (omega arith))
      ∙ ap (λ (j : ℕ). not (some_below j (λ i. bit_at m 0 (a + i)))) t)

  -- the first of several bytes
  pub set-start : a / 8 < length m → r ≡ 2 ^ 8 - 2 ^ (a % 8) → set m (a / 8) (bit_or (get_or m (a / 8) 0) r) ≡ set_bits m 0 a ((a / 8 + 1) * 8 - a)
  set-start l e =
      let t : a / 8 * 8 + 8 - a ≡ (a / 8 + 1) * 8 - a = omega arith in
      rw e (set_first m a (a / 8) (a % 8) 8 (omega arith) (omega arith) (omega arith) l ∙ ap (λ (j : ℕ). set_bits m 0 a j) t)

  pub any-start : r ≡ 2 ^ 8 - 2 ^ (a % 8) → eqb (bit_and (get_or m (a / 8) 0) r) 0 ≡ not (some_below ((a / 8 + 1) * 8 - a) (λ i. bit_at m 0 (a + i)))
  any-start e =
      let t : a / 8 * 8 + 8 - a ≡ (a / 8 + 1) * 8 - a = omega arith in
      rw e (any-first m a (a / 8) (a % 8) 8 (omega arith) (omega arith) (omega arith)) ∙ ap (λ (j : ℕ). not (some_below j (λ i. bit_at m 0 (a + i)))) t

  -- the last of them
  pub set-end : (M₀ M : List ℕ) (b b₀ : ℕ) → a ≤ b₀ * 8 → b₀ ≤ b → b ≡ (a + n) / 8 → b < length M₀ → M₀ ≡ set_bits m 0 a (b₀ * 8 - a)
      → M ≡ set_bits M₀ 0 (b₀ * 8) (b * 8 - b₀ * 8) → r ≡ 2 ^ ((a + n) % 8) - 2 ^ 0
      → set M ((a + n) / 8) (bit_or (get_or M ((a + n) / 8) 0) r) ≡ set_bits m 0 a n
  set-end M₀ M b b₀ h1 h2 h3 l e₀ e er =
      let z : b * 8 + 0 - b₀ * 8 ≡ b * 8 - b₀ * 8 = omega arith in
      let t : b * 8 + (a + n) % 8 ≡ a + n = omega arith in
      let u : a + n - a ≡ n = omega arith in
      rw (er, ← h3)
      (set-turn M₀ M (b₀ * 8) b 0 ((a + n) % 8) (omega arith) (omega arith) (omega arith) l (rw z e)
      ∙ ap (λ (j : ℕ). set_bits M₀ 0 (b₀ * 8) (j - b₀ * 8)) t
      ∙ set_on m M₀ a (b₀ * 8) (a + n) h1 (omega arith) e₀
      ∙ ap (λ (j : ℕ). set_bits m 0 a j) u)

  pub any-end : (b found : ℕ) → a ≤ b * 8 → b ≡ (a + n) / 8 → eqb found 0 ≡ not (some_below (b * 8 - a) (λ i. bit_at m 0 (a + i))) → r ≡ 2 ^ ((a + n) % 8) - 2 ^ 0
      → not (eqb (bit_or found (bit_and (get_or m ((a + n) / 8) 0) r)) 0) ≡ some_below n (λ i. bit_at m 0 (a + i))
  any-end b found h1 h2 e er =
      let z : b * 8 + 0 - a ≡ b * 8 - a = omega arith in
      let t : b * 8 + (a + n) % 8 - a ≡ n = omega arith in
      not_not (eqb (bit_or found (bit_and (get_or m ((a + n) / 8) 0) r)) 0) (some_below n (λ i. bit_at m 0 (a + i)))
      (rw (er, ← h2) (any_masked m a b 0 ((a + n) % 8) found (omega arith) (omega arith) (omega arith) (rw z e)
      ∙ ap (λ (j : ℕ). not (some_below j (λ i. bit_at m 0 (a + i)))) t))

-- a whole byte between
pub set-whole : (m M : List ℕ) (b b₀ : ℕ) → b₀ ≤ b → b < length m → M ≡ set_bits m 0 (b₀ * 8) (b * 8 - b₀ * 8)
    → set M b (bit_or (get_or M b 0) 255) ≡ set_bits m 0 (b₀ * 8) ((b + 1) * 8 - b₀ * 8)
set-whole m M b b₀ h l e =
    let z : b * 8 + 0 - b₀ * 8 ≡ b * 8 - b₀ * 8 = omega arith in
    let t : b * 8 + 8 - b₀ * 8 ≡ (b + 1) * 8 - b₀ * 8 = omega arith in
    set-turn m M (b₀ * 8) b 0 8 (omega arith) (omega arith) (omega arith) l (rw z e) ∙ ap (λ (j : ℕ). set_bits m 0 (b₀ * 8) j) t

-- the whole bytes between, n of them from byte b on, each with every bit set
module _ (m : List ℕ) (b n : ℕ) (inside : b + n ≤ length m) where
  abbrev full : List ℕ
  full = map (λ x. bit_or x 255) (take n (drop b m))

  filled : (k : ℕ) → k ≤ n → paste m b full k ≡ set_bits m 0 (b * 8) (k * 8)
  unfolding set_bits
  filled zero l = sym (paste_none m b full)
  filled (suc k) l =
      let P : List ℕ = paste m b full k in
      let long : length (take n (drop b m)) ≡ n = length-take-le n (drop b m) (omega (arith, length-drop b m)) in
      let much : length full ≡ n = length-map (take n (drop b m)) (λ x. bit_or x 255) ∙ long in
      let here : get_or P (b + k) 0 ≡ get_or m (b + k) 0 =
      sym (get_or-head (b + k) P) ∙ ap (λ (t : List ℕ). get_or t 0 0) (drop-paste m b full k (omega arith) (omega arith)) ∙ get_or-head (b + k) m in
      let t : (b + k) * 8 - b * 8 ≡ k * 8 = omega arith in
      let u : (b + k + 1) * 8 - b * 8 ≡ suc k * 8 = omega arith in
      ap (λ (j : ℕ). paste m b full j) (sym (add-one k))
      ∙ sym (paste_more m b full k 0 (omega arith) (omega arith))
      ∙ ap (λ (x : ℕ). set P (b + k) x) (get_or-map (λ x. bit_or x 255) (take n (drop b m)) k 0 0 (omega arith)
      ∙ ap (λ (x : ℕ). bit_or x 255) (byte_in m b n k (omega arith) ∙ sym here))
      ∙ set-whole m P (b + k) b (omega arith) (omega arith) (filled k (omega arith) ∙ ap (λ (j : ℕ). set_bits m 0 (b * 8) j) (sym t))
      ∙ ap (λ (j : ℕ). set_bits m 0 (b * 8) j) u

  -- the part that a loop over them leaves, put back
  pub set-between : (i : ℕ) (items : List ℕ) → n ≤ i → items ≡ map (λ x. bit_or x 255) (take i (take n (drop b m))) ++ drop i (take n (drop b m))
      → put_mid b n m items ≡ set_bits m 0 (b * 8) (n * 8)
  set-between i items l e =
      let long : length (take n (drop b m)) ≡ n = length-take-le n (drop b m) (omega (arith, length-drop b m)) in
      let all : items ≡ full =
      e ∙ rw (take_all i (take n (drop b m)) (omega arith), drop_all i (take n (drop b m)) (omega arith)) (append-nil full) in
      put_mid-paste b n m items full n all refl (sym (length-map (take n (drop b m)) (λ x. bit_or x 255) ∙ long)) ∙ filled n (omega arith)

-- every bit below n, by the bytes before its last
module _ (m : List ℕ) (n b kept : ℕ) (at : b ≡ n / 8) (known : eqb kept 255 ≡ all_below (b * 8) (λ i. bit_at m 0 i)) where
  pub all_not : kept ≢ 255 → false ≡ all_below n (λ i. bit_at m 0 i)
  all_not ne =
      let t : b * 8 + n % 8 ≡ n = omega arith in
      let f : all_below (b * 8) (λ i. bit_at m 0 i) ≡ false = sym known ∙ ne_eqb kept 255 ne in
      sym (ap (λ (j : ℕ). all_below j (λ i. bit_at m 0 i)) (sym t) ∙ all-turn m b (n % 8) (omega arith)
      ∙ ap (λ (x : Bool). x && eqb (get_or m b 0 % 2 ^ (n % 8)) (2 ^ (n % 8) - 1)) f)

  pub all_end : (r : ℕ) → kept ≡ 255 → r ≡ 2 ^ (n % 8) - 2 ^ 0 → eqb (bit_and (get_or m (n / 8) 0) r) r ≡ all_below n (λ i. bit_at m 0 i)
  all_end r k er =
      let t : b * 8 + n % 8 ≡ n = omega arith in
      let f : all_below (b * 8) (λ i. bit_at m 0 i) ≡ true = sym known ∙ eq-eqb kept 255 k in
      rw (← at) (all-last m b (n % 8) r (omega arith) er f ∙ ap (λ (j : ℕ). all_below j (λ i. bit_at m 0 i)) t)
