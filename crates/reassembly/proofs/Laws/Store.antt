-- The memory of bytes keeps the laws of `Laws`; and the frame of a slot as the view call hands it back.
use Rattle.std.specs.Prelude.{◌≡◌, refl, ◌⊎◌, ◌≢◌, Bool, true, false, not, ◌||◌, List, [], ◌∷◌, ◌++◌, ℕ, zero, suc, ◌+◌, ◌-◌, ◌/◌, ◌%◌, ◌^◌, ◌≤◌, ◌<◌, length}
use Rattle.std.specs.Prelude.{get_or, take, drop, set, ltb, eqb}
use Rattle.std.proofs.Common.{sym, ap, ◌∙◌, inl, inr, arith, zero-add, suc-add, length-set, length-drop, length-take, get_or-set_same, get_or-set_other}
use Rattle.std.proofs.Common.{ext_get_or, get_or-drop, get_or-take, get_or-append-add, ltb-true, ltb-false, eqb-true, lt-ltb, eq-eqb, ne_eqb, le-leb}
use Rattle.std.proofs.Math.Nat.{zero-div}
use Rattle.std.proofs.lemmas.List.{length-replicate, get_or-replicate}
use Rattle.std.proofs.lemmas.List.Edits.{sets}
use Rattle.std.proofs.Math.Seq.{length-sets}
use Rattle.std.specs.Int.Bits.{bit_or}
use Rattle.std.proofs.lemmas.Nat.{or_shr, or_mod}
use Rattle.std.proofs.lemmas.Bool.{eqb-false}
use Rattle.reassembly.proofs.Laws.Base.{case_b, either, clash, all_below-at, length-table, get_d_table, same_test, or_cases, or_true_r}
use Rattle.reassembly.specs.Base.{all_below, table, within}
use Rattle.reassembly.specs.Slots.{Peer, most_peers, most_slots}
use Rattle.reassembly.specs.Take.{slot_no, frame_in, Seg, take_segment}
use Rattle.reassembly.proofs.Laws.Memory.{Laws, within_low, within_high, within_is}
use Rattle.reassembly.specs.Store.{is_on, bit_at, set_bit, set_bits, slot_start, map_start, map_size, zeros, clear_at, put_at, received_at, byte_at, bytes_of}
use Rattle.reassembly.specs.Store.{has_slots, take_in}

-- ---- a run of stores, read back

pub sets_out : (vs l : List ℕ) (i j : ℕ) → (j < i) ⊎ (i + length vs ≤ j) → get_or (sets l i vs) j 0 ≡ get_or l j 0
sets_out [] l i j o = refl
sets_out (v ∷ vs) l i j o =
    sets_out vs (set l i v) (suc i) j (either o (λ h. inl (omega arith)) (λ h. inr (omega arith)))
    ∙ get_or-set_other l i j v 0 (λ q. either o (λ h. absurd (omega arith)) (λ h. absurd (omega arith)))

pub sets_in : (vs l : List ℕ) (i j : ℕ) → i + length vs ≤ length l → i ≤ j → j < i + length vs → get_or (sets l i vs) j 0 ≡ get_or vs (j - i) 0
sets_in [] l i j f a b = absurd (omega arith)
sets_in (v ∷ vs) l i j f a b =
    case_b (eqb j i)
    (λ e. let q : j ≡ i = eqb-true j i e in
    let z : i - i ≡ 0 = omega arith in
    rw (q, z) (sets_out vs (set l i v) (suc i) i (inl (omega arith)) ∙ get_or-set_same l i v 0 (omega arith)))
    (λ e. let n : j ≢ i = eqb-false j i e in
    let z : j - i ≡ suc (j - suc i) = omega arith in
    rw z (sets_in vs (set l i v) (suc i) j (omega (arith, length-set l i v)) (omega arith) (omega arith)))

-- ---- bits

-- of two digits
or_digit : (x y : ℕ) → x < 2 → y < 2 → eqb (bit_or x y) 1 ≡ (eqb x 1 || eqb y 1)
or_digit zero zero lx ly = refl
or_digit zero (suc zero) lx ly = refl
or_digit zero (suc (suc y)) lx ly = absurd (omega arith)
or_digit (suc zero) zero lx ly = refl
or_digit (suc zero) (suc zero) lx ly = refl
or_digit (suc zero) (suc (suc y)) lx ly = absurd (omega arith)
or_digit (suc (suc x)) y lx ly = absurd (omega arith)

on_or : (x y j : ℕ) → is_on (bit_or x y) j ≡ (is_on x j || is_on y j)
unfolding is_on
on_or x y j = rw (or_shr x y j) (rw (or_mod (x / 2 ^ j) (y / 2 ^ j) 1) (or_digit (x / 2 ^ j % 2) (y / 2 ^ j % 2) (omega arith) (omega arith)))

-- the single bits, by a table that antt computes
same_b : Bool → Bool → Bool
same_b true b = b
same_b false b = not b

same_b_eq : (a b : Bool) → same_b a b ≡ true → a ≡ b
unfolding same_b
same_b_eq true b e = sym e
same_b_eq false true e = e
same_b_eq false false e = refl

powers : all_below 8 (λ j. all_below 8 (λ k. same_b (is_on (2 ^ j) k) (eqb k j))) ≡ true
unfolding all_below is_on same_b
powers = refl

on_power : (j k : ℕ) → j < 8 → k < 8 → is_on (2 ^ j) k ≡ eqb k j
on_power j k lj lk = same_b_eq (is_on (2 ^ j) k) (eqb k j) (all_below-at 8 (λ k. same_b (is_on (2 ^ j) k) (eqb k j))
    (all_below-at 8 (λ j. all_below 8 (λ k. same_b (is_on (2 ^ j) k) (eqb k j))) powers j lj) k lk)

on_set : (x j k : ℕ) → j < 8 → k < 8 → is_on (bit_or x (2 ^ j)) k ≡ (is_on x k || eqb k j)
on_set x j k lj lk = cc (on_or x (2 ^ j) k, on_power j k lj lk)

-- ---- the map

or_comm' : (a b : Bool) → (a || b) ≡ (b || a)
or_comm' true true = refl
or_comm' true false = refl
or_comm' false true = refl
or_comm' false false = refl

pub bit_set : (m : List ℕ) (b i j : ℕ) → b + i / 8 < length m → bit_at (set_bit m b i) b j ≡ (eqb j i || bit_at m b j)
unfolding bit_at set_bit
bit_set m b i j l =
    case_b (eqb (j / 8) (i / 8))
    (λ e. let q : j / 8 ≡ i / 8 = eqb-true (j / 8) (i / 8) e in
    let g : get_or (set_bit m b i) (b + j / 8) 0 ≡ bit_or (get_or m (b + i / 8) 0) (2 ^ (i % 8)) = rw q (get_or-set_same m (b + i / 8) _ 0 l) in
    let t : eqb (j % 8) (i % 8) ≡ eqb j i = case_b (eqb j i)
    (λ y. rw y (eq-eqb (j % 8) (i % 8) (ap (λ (n : ℕ). n % 8) (eqb-true j i y))))
    (λ y. rw y (ne_eqb (j % 8) (i % 8) (λ z. eqb-false j i y (omega arith)))) in
    rw g (on_set (get_or m (b + i / 8) 0) (i % 8) (j % 8) (omega arith) (omega arith) ∙ rw (q, t) (or_comm' (is_on (get_or m (b + i / 8) 0) (j % 8)) (eqb j i))))
    (λ e. let n : j / 8 ≢ i / 8 = eqb-false (j / 8) (i / 8) e in
    let g : get_or (set_bit m b i) (b + j / 8) 0 ≡ get_or m (b + j / 8) 0 = get_or-set_other m (b + i / 8) (b + j / 8) _ 0 (λ z. n (omega arith)) in
    rw (g, ne_eqb j i (λ z. n (ap (λ (k : ℕ). k / 8) z))))

pub length-set_bits : (m : List ℕ) (b a n : ℕ) → length (set_bits m b a n) ≡ length m
unfolding set_bits set_bit
length-set_bits m b a zero = refl
length-set_bits m b a (suc n) = length-set (set_bits m b a n) _ _ ∙ length-set_bits m b a n

pub bits_set : (m : List ℕ) (b a n j : ℕ) → b + 192 ≤ length m → a + n ≤ 1536 → bit_at (set_bits m b a n) b j ≡ (within a n j || bit_at m b j)
unfolding set_bits
bits_set m b a zero j l f =
    let w : within a 0 j ≡ false = case_b (within a 0 j) (λ e. absurd (omega (arith, within_low a 0 j e, within_high a 0 j e))) (λ e. e) in
    rw w
bits_set m b a (suc n) j l f =
    let w : within a (suc n) j ≡ (eqb j (a + n) || within a n j) =
    same_test _ _
    (λ e. let lo : a ≤ j = within_low a (suc n) j e in
    let hi : j < a + suc n = within_high a (suc n) j e in
    case_b (eqb j (a + n)) (λ q. rw q) (λ q. let d : j ≢ a + n = eqb-false j (a + n) q in or_true_r (eqb j (a + n)) _ (within_is a n j lo (omega arith))))
    (λ e. either (or_cases (eqb j (a + n)) (within a n j) e)
    (λ q. let z : j ≡ a + n = eqb-true j (a + n) q in within_is a (suc n) j (omega arith) (omega arith))
    (λ q. within_is a (suc n) j (within_low a n j q) (omega (arith, within_high a n j q)))) in
    bit_set (set_bits m b a n) b (a + n) j (omega (arith, length-set_bits m b a n))
    ∙ rw (w, bits_set m b a n j l (omega arith)) (or_assoc' (eqb j (a + n)) (within a n j) (bit_at m b j))
  where
    or_assoc' : (x y z : Bool) → (x || (y || z)) ≡ ((x || y) || z)
    or_assoc' true y z = refl
    or_assoc' false y z = refl

pub bits_out : (m : List ℕ) (b a n j : ℕ) → a + n ≤ 1536 → (j < b) ⊎ (b + 192 ≤ j) → get_or (set_bits m b a n) j 0 ≡ get_or m j 0
unfolding set_bits set_bit
bits_out m b a zero j f o = refl
bits_out m b a (suc n) j f o =
    get_or-set_other (set_bits m b a n) (b + (a + n) / 8) j _ 0 (λ q. either o (λ h. absurd (omega arith)) (λ h. absurd (omega arith)))
    ∙ bits_out m b a n j (omega arith) o

-- ---- the laws

map_out : (m : List ℕ) (k j i : ℕ) → j ≢ k → i < 1532 → get_or (sets m (map_start k) zeros) (map_start j + i / 8) 0 ≡ get_or m (map_start j + i / 8) 0
unfolding map_start
map_out m k j i n l =
    sets_out zeros m (map_start k) (map_start j + i / 8)
    (case_b (ltb j k) (λ e. inl (omega (arith, ltb-true j k e))) (λ e. inr (omega (arith, ltb-false j k e, length-replicate {A = ℕ} map_size 0))))

pub bytes_laws : Laws bytes_of
unfolding bit_at slot_start map_start clear_at put_at received_at byte_at is_on
bytes_laws =
    record {
      ok_put = λ m k a bs o l f. omega (arith, length-set_bits (sets m (slot_start k + a) bs) (map_start k) a (length bs), length-sets m (slot_start k + a) bs);
      ok_clear = λ m k o l. omega (arith, length-sets m (map_start k) zeros);
      received_put = λ m k a bs o l f i h.
          bits_set (sets m (slot_start k + a) bs) (map_start k) a (length bs) i (omega (arith, length-sets m (slot_start k + a) bs)) (omega arith)
          ∙ ap (λ (x : ℕ). within a (length bs) i || is_on x (i % 8)) (sets_out bs m (slot_start k + a) (map_start k + i / 8) (inr (omega arith)));
      byte_put = λ m k a bs o l f i h.
          bits_out (sets m (slot_start k + a) bs) (map_start k) a (length bs) (slot_start k + i) (omega arith) (inl (omega arith))
          ∙ case_b (within a (length bs) i)
          (λ e. let lo : a ≤ i = within_low a (length bs) i e in
          let hi : i < a + length bs = within_high a (length bs) i e in
          let z : slot_start k + i - (slot_start k + a) ≡ i - a = omega arith in
          rw (e, ← z) (sets_in bs m (slot_start k + a) (slot_start k + i) (omega arith) (omega arith) (omega arith)))
          (λ e. rw e (sets_out bs m (slot_start k + a) (slot_start k + i)
          (case_b (ltb i a)
          (λ q. inl (omega (arith, ltb-true i a q)))
          (λ q. case_b (ltb i (a + length bs))
          (λ r. clash (cc (within_is a (length bs) i (ltb-false i a q) (ltb-true i (a + length bs) r))))
          (λ r. inr (omega (arith, ltb-false i (a + length bs) r)))))));
      received_put_other = λ m k a bs o l f j i n h.
          ap (λ (x : ℕ). is_on x (i % 8))
          (bits_out (sets m (slot_start k + a) bs) (map_start k) a (length bs) (map_start j + i / 8) (omega arith)
          (case_b (ltb j k) (λ e. inl (omega (arith, ltb-true j k e))) (λ e. inr (omega (arith, ltb-false j k e))))
          ∙ sets_out bs m (slot_start k + a) (map_start j + i / 8)
          (case_b (ltb j k) (λ e. inl (omega (arith, ltb-true j k e))) (λ e. inr (omega (arith, ltb-false j k e)))));
      byte_put_other = λ m k a bs o l f j i n h.
          bits_out (sets m (slot_start k + a) bs) (map_start k) a (length bs) (slot_start j + i) (omega arith)
          (case_b (ltb j k) (λ e. inl (omega (arith, ltb-true j k e))) (λ e. inr (omega (arith, ltb-false j k e))))
          ∙ sets_out bs m (slot_start k + a) (slot_start j + i)
          (case_b (ltb j k) (λ e. inl (omega (arith, ltb-true j k e))) (λ e. inr (omega (arith, ltb-false j k e))));
      received_clear = λ m k o l i h.
          let z : get_or (sets m (map_start k) zeros) (map_start k + i / 8) 0 ≡ 0 =
          sets_in zeros m (map_start k) (map_start k + i / 8) (omega (arith, length-replicate {A = ℕ} map_size 0)) (omega arith)
          (omega (arith, length-replicate {A = ℕ} map_size 0))
          ∙ get_or-replicate {A = ℕ} map_size (map_start k + i / 8 - (map_start k)) 0 0 (omega arith) in
          rw (z, zero-div (2 ^ (i % 8)));
      received_clear_other = λ m k o l j i n h. ap (λ (x : ℕ). is_on x (i % 8)) (map_out m k j i n h);
      byte_clear_other = λ m k o l j i n h.
          sets_out zeros m (map_start k) (slot_start j + i)
          (case_b (ltb j k) (λ e. inl (omega (arith, ltb-true j k e))) (λ e. inr (omega (arith, ltb-false j k e, length-replicate {A = ℕ} map_size 0))));
    }

-- the n bytes from place a on, those that the view call hands back: from byte 18 on
pub handed_at : (m : List ℕ) (a n : ℕ) → 18 ≤ n → a + n ≤ length m → drop 18 (table n (λ i. get_or m (a + i) 0)) ≡ take (n - 18) (drop (a + 18) m)
handed_at m a n l f =
    let lt : length (table n (λ i. get_or m (a + i) 0)) ≡ n = length-table n _ in
    ext_get_or 0 (drop 18 (table n (λ i. get_or m (a + i) 0))) (take (n - 18) (drop (a + 18) m))
    (length-drop 18 (table n (λ i. get_or m (a + i) 0)) ∙ omega (arith, lt, length-take (n - 18) (drop (a + 18) m), length-drop (a + 18) m))
    (λ i h. let li : i < n - 18 = omega (arith, lt, length-drop 18 (table n (λ i. get_or m (a + i) 0))) in
    let z : a + (18 + i) ≡ a + 18 + i = omega arith in
    get_or-drop 18 (table n (λ i. get_or m (a + i) 0)) i 0
    ∙ get_d_table n (λ i. get_or m (a + i) 0) 0 (18 + i) (omega arith)
    ∙ ap (λ (x : ℕ). get_or m x 0) z
    ∙ sym (get_or-take (n - 18) (drop (a + 18) m) i 0 li ∙ get_or-drop (a + 18) m i 0))

-- so with the frame of slot k
pub handed : (m : List ℕ) (k n : ℕ) → 18 ≤ n → slot_start k + n ≤ length m → drop 18 (frame_in bytes_of m k n) ≡ take (n - 18) (drop (slot_start k + 18) m)
unfolding byte_at frame_in
handed m k n l f = handed_at m (slot_start k) n l f

-- the slots of eight peers lie in a memory that is large enough
pub slot-inside : (m : List ℕ) (p s n : ℕ) → 55296 ≤ length m → p < most_peers → s < most_slots → n ≤ 1728 → slot_start (slot_no p s) + n ≤ length m
unfolding slot_start slot_no
slot-inside m p s n o lp ls ln = omega arith

-- ---- a part that is lent and comes back changed

pub set-behind : (p x : List ℕ) (i v n : ℕ) → length p ≡ n → set (p ++ x) (n + i) v ≡ p ++ set x i v
set-behind [] x i v zero l = rw zero-add
set-behind [] x i v (suc n) l = absurd (omega arith)
set-behind (y ∷ p) x i v zero l = absurd (omega arith)
set-behind (y ∷ p) x i v (suc n) l = rw (suc-add n i) (ap (λ (t : List ℕ). y ∷ t) (set-behind p x i v n (omega arith)))

pub get_d_behind : (p x : List ℕ) (i n : ℕ) → length p ≡ n → get_or (p ++ x) (n + i) 0 ≡ get_or x i 0
get_d_behind p x i n l = rw (← l) (get_or-append-add p x i 0)

pub set_bits-behind : (p x : List ℕ) (b a n : ℕ) → length p ≡ b → set_bits (p ++ x) b a n ≡ p ++ set_bits x 0 a n
unfolding set_bits set_bit
set_bits-behind p x b a zero l = refl
set_bits-behind p x b a (suc n) l =
    rw (set_bits-behind p x b a n l, get_d_behind p (set_bits x 0 a n) ((a + n) / 8) b l, zero-add)
    (set-behind p (set_bits x 0 a n) ((a + n) / 8) _ b l)

pub take_in_lem : (p : ℕ) (row : Peer) (m : List ℕ) (g : Seg) → p < most_peers → 55296 ≤ length m → take_in p row m g ≡ take_segment bytes_of p row m g
unfolding has_slots take_in
take_in_lem p row m g l o = rw (lt-ltb p most_peers l, le-leb 55296 (length m) o)
