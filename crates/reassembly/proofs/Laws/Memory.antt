-- What a memory of 32 slots keeps to. Nothing above this file speaks of bits.
use Rattle.std.specs.Prelude.{◌≡◌, refl, ◌≢◌, true, false, cond, ◌&&◌, ◌||◌, List, ℕ, ◌+◌, ◌-◌, ◌≤◌, ◌<◌, length, get_or, ltb, leb}
use Rattle.std.proofs.Common.{ltb-true, leb-true, lt-ltb, le-leb}
use Rattle.reassembly.proofs.Laws.Base.{and_l, and_r}
use Rattle.reassembly.specs.Take.{Ops}
pub use Rattle.reassembly.specs.Base.{within}

pub within-test : (a n i : ℕ) → within a n i ≡ (leb a i && ltb i (a + n))
unfolding within
within-test a n i = refl

pub within_low : (a n i : ℕ) → within a n i ≡ true → a ≤ i
unfolding within
within_low a n i e = leb-true a i (and_l (leb a i) (ltb i (a + n)) e)

pub within_high : (a n i : ℕ) → within a n i ≡ true → i < a + n
unfolding within
within_high a n i e = ltb-true i (a + n) (and_r (leb a i) (ltb i (a + n)) e)

pub within_is : (a n i : ℕ) → a ≤ i → i < a + n → within a n i ≡ true
unfolding within
within_is a n i l h = cc (le-leb a i l, lt-ltb i (a + n) h)

pub record Laws (O : Ops) : Type 1 where
  pub ok_put : (m : O.S) (k a : ℕ) (bs : List ℕ) → O.Ok m → k < 32 → a + length bs ≤ 1532 → O.Ok (O.put m k a bs)
  pub ok_clear : (m : O.S) (k : ℕ) → O.Ok m → k < 32 → O.Ok (O.clear m k)
  pub received_put : (m : O.S) (k a : ℕ) (bs : List ℕ) → O.Ok m → k < 32 → a + length bs ≤ 1532 → (i : ℕ) → i < 1532
      → O.received (O.put m k a bs) k i ≡ (within a (length bs) i || O.received m k i)
  pub byte_put : (m : O.S) (k a : ℕ) (bs : List ℕ) → O.Ok m → k < 32 → a + length bs ≤ 1532 → (i : ℕ) → i < 1532
      → O.byte (O.put m k a bs) k i ≡ cond (within a (length bs) i) (get_or bs (i - a) 0) (O.byte m k i)
  pub received_put_other : (m : O.S) (k a : ℕ) (bs : List ℕ) → O.Ok m → k < 32 → a + length bs ≤ 1532 → (j i : ℕ) → j ≢ k → i < 1532
      → O.received (O.put m k a bs) j i ≡ O.received m j i
  pub byte_put_other : (m : O.S) (k a : ℕ) (bs : List ℕ) → O.Ok m → k < 32 → a + length bs ≤ 1532 → (j i : ℕ) → j ≢ k → i < 1532
      → O.byte (O.put m k a bs) j i ≡ O.byte m j i
  pub received_clear : (m : O.S) (k : ℕ) → O.Ok m → k < 32 → (i : ℕ) → i < 1532 → O.received (O.clear m k) k i ≡ false
  pub received_clear_other : (m : O.S) (k : ℕ) → O.Ok m → k < 32 → (j i : ℕ) → j ≢ k → i < 1532 → O.received (O.clear m k) j i ≡ O.received m j i
  pub byte_clear_other : (m : O.S) (k : ℕ) → O.Ok m → k < 32 → (j i : ℕ) → j ≢ k → i < 1532 → O.byte (O.clear m k) j i ≡ O.byte m j i
