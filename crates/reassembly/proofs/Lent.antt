-- A part of the memory from a place to the end, lent and put back: what the leaves leave in it is what the definitions of `Store` say of the whole.
use Prim.Native.Nat.{ℕ, ◌≤◌, ◌<◌, ◌+◌, ◌*◌, ◌-◌, ◌/◌, ◌%◌}
use mathlib.Core.Path.{◌≡◌, sym, ap, ◌∙◌}
use mathlib.Core.List.{List, ◌++◌, append-nil, append_assoc}
use native.Mathlib.Nat.{zero-add}
use native.Mathlib.Omega.{arith}
use lib.ListN.{length, take, drop, get_or, replicate, length-drop, length-replicate, take-append-drop}
use lib.Seq.{take_all, take-length, drop-length, drop-drop, sets, sets-eq, length-sets, length-take-le, get_or-drop}
use borrow.Rule.Slice.PartMut.{mid_of, put_mid, Post-is}
use Rattle.reassembly.specs.Base.{some_below, all_below}
use Rattle.reassembly.proofs.Laws.Base.{some_below_ext, all_below_ext}
use Rattle.reassembly.proofs.Laws.Store.{set_bits-behind}
use Rattle.reassembly.specs.Store.{is_on, bit_at, set_bits, slot_start, map_start, clear_at, put_at, received_at}

rest_mid : (a : ℕ) (m : List ℕ) → mid_of a (length m - a) m ≡ drop a m
rest_mid a m = take_all (length m - a) (drop a m) (omega (arith, length-drop a m))

rest_put : (a : ℕ) (m x : List ℕ) → a ≤ length m → put_mid a (length m - a) m x ≡ take a m ++ x
rest_put a m x l = rw (Post-is a (length m) m l, drop-length, append-nil)

-- the front of the part was written over
written : (a : ℕ) (m s : List ℕ) → a + length s ≤ length m → put_mid a (length m - a) m (s ++ drop (length s) (mid_of a (length m - a) m)) ≡ sets m a s
written a m s l =
    rest_put a m (s ++ drop (length s) (mid_of a (length m - a) m)) (omega arith)
    ∙ rw (rest_mid a m, drop-drop) (sym (append_assoc (take a m) s (drop (a + length s) m)) ∙ sym (sets-eq s m a l))

-- bits were set in the part
flagged : (b a n : ℕ) (m : List ℕ) → b ≤ length m → put_mid b (length m - b) m (set_bits (mid_of b (length m - b) m) 0 a n) ≡ set_bits m b a n
flagged b a n m l =
    rest_put b m (set_bits (mid_of b (length m - b) m) 0 a n) l
    ∙ rw (rest_mid b m)
    (sym (set_bits-behind (take b m) (drop b m) b a n (length-take-le b m l)) ∙ ap (λ (t : List ℕ). set_bits t b a n) (take-append-drop b m))

-- `memory::clear`: x is what the leaf left in the part
pub cleared : (m x : List ℕ) (k : ℕ) → k < 32 → 55296 ≤ length m
    → x ≡ replicate 192 0 ++ drop 192 (mid_of (k * 1728 + 1536) (length m - (k * 1728 + 1536)) m)
    → put_mid (k * 1728 + 1536) (length m - (k * 1728 + 1536)) m x ≡ clear_at m k
unfolding clear_at map_start
cleared m x k lk o e =
    let b : ℕ = k * 1728 + 1536 in
    let n : length {A = ℕ} (replicate 192 0) ≡ 192 = length-replicate {A = ℕ} 192 0 in
    ap (λ (t : List ℕ). put_mid b (length m - b) m t) e ∙ written b m (replicate 192 0) (omega arith)

-- `memory::put`: x is what the copying leaf left in its part, and y what the map's leaf left in its own
pub landed : (m x y s : List ℕ) (k at : ℕ) → k < 32 → at + length s ≤ 1532 → 55296 ≤ length m
    → x ≡ take (length s) s ++ drop (length s) (mid_of (k * 1728 + at) (length m - (k * 1728 + at)) m)
    → (m₁ : List ℕ) → m₁ ≡ put_mid (k * 1728 + at) (length m - (k * 1728 + at)) m x
    → y ≡ set_bits (mid_of (k * 1728 + 1536) (length m₁ - (k * 1728 + 1536)) m₁) 0 at (length s)
    → put_mid (k * 1728 + 1536) (length m₁ - (k * 1728 + 1536)) m₁ y ≡ put_at m k at s
unfolding put_at slot_start map_start
landed m x y s k at lk f o ex m₁ e₁ ey =
    let p : ℕ = k * 1728 + at in
    let b : ℕ = k * 1728 + 1536 in
    let z : m₁ ≡ sets m p s =
    e₁ ∙ ap (λ (t : List ℕ). put_mid p (length m - p) m t) (ex ∙ ap (λ (t : List ℕ). t ++ drop (length s) (mid_of p (length m - p) m)) (take-length s))
    ∙ written p m s (omega arith) in
    ap (λ (t : List ℕ). put_mid b (length m₁ - b) m₁ t) ey
    ∙ flagged b at (length s) m₁ (omega (arith, ap length z, length-sets m p s))
    ∙ ap (λ (t : List ℕ). set_bits t b at (length s)) z

-- a bit of the part is a bit of the whole
bit_of_lem : (m : List ℕ) (k i : ℕ) → bit_at (mid_of (k * 1728 + 1536) (length m - (k * 1728 + 1536)) m) 0 i ≡ received_at m k i
unfolding bit_at received_at map_start
bit_of_lem m k i =
    let b : ℕ = k * 1728 + 1536 in
    ap (λ (t : List ℕ). is_on (get_or t (0 + i / 8) 0) (i % 8)) (rest_mid b m)
    ∙ ap (λ (x : ℕ). is_on (get_or (drop b m) x 0) (i % 8)) (zero-add (i / 8))
    ∙ ap (λ (x : ℕ). is_on x (i % 8)) (get_or-drop b m (i / 8) 0)

pub some_of : (m : List ℕ) (k a n : ℕ)
    → some_below n (λ i. bit_at (mid_of (k * 1728 + 1536) (length m - (k * 1728 + 1536)) m) 0 (a + i)) ≡ some_below n (λ i. received_at m k (a + i))
some_of m k a n = some_below_ext n _ (λ i. received_at m k (a + i)) (λ i _. bit_of_lem m k (a + i))

pub all_of : (m : List ℕ) (k n : ℕ)
    → all_below n (λ i. bit_at (mid_of (k * 1728 + 1536) (length m - (k * 1728 + 1536)) m) 0 i) ≡ all_below n (λ i. received_at m k i)
all_of m k n = all_below_ext n _ (λ i. received_at m k i) (λ i _. bit_of_lem m k i)
