-- A field that lies in the bytes is read and written as any other; and it has its width.
use Rattle.std.specs.Prelude.{◌≡◌, ℕ, ◌+◌, ◌^◌, ◌<◌, ◌≤◌, Bool, true, false, List, length, nat_le}
use Rattle.std.proofs.Common.{sym, ap, arith, le-leb}
use Rattle.std.proofs.Math.Nat.{one-le-pow}
use Rattle.wire.specs.Bytes.{Bytes, be_at, laid}
use Rattle.wire.specs.Checks.{pick}
use Rattle.wire.specs.Field.{field, entered}
use Rattle.wire.proofs.Laws.Bytes.{be-lt}

-- ---- as the functions come to it

pub field_no : (s : List ℕ) (at n : ℕ) → nat_le (at + n) (length s) ≡ false → 0 ≡ field s at n
unfolding field
field_no s at n e = ap (λ (b : Bool). pick b (be_at s at n) 0) (sym e)

pub field_yes : (s : List ℕ) (at n : ℕ) → nat_le (at + n) (length s) ≡ true → be_at s at n ≡ field s at n
unfolding field
field_yes s at n e = ap (λ (b : Bool). pick b (be_at s at n) 0) (sym e)

pub entered_no : (m : List ℕ) (at : ℕ) (s : List ℕ) → nat_le (at + length s) (length m) ≡ false → m ≡ entered m at s
unfolding entered
entered_no m at s e = ap (λ (b : Bool). pick b (laid m at s) m) (sym e)

pub entered_yes : (m : List ℕ) (at : ℕ) (s : List ℕ) → nat_le (at + length s) (length m) ≡ true → laid m at s ≡ entered m at s
unfolding entered
entered_yes m at s e = ap (λ (b : Bool). pick b (laid m at s) m) (sym e)

-- ---- where there is room

pub field_in : (s : List ℕ) (at n : ℕ) → at + n ≤ length s → field s at n ≡ be_at s at n
field_in s at n h = sym (field_yes s at n (le-leb (at + n) (length s) h))

pub entered_in : (m : List ℕ) (at : ℕ) (s : List ℕ) → at + length s ≤ length m → entered m at s ≡ laid m at s
entered_in m at s h = sym (entered_yes m at s (le-leb (at + length s) (length m) h))

pub field_lt : (s : List ℕ) → Bytes s → (at n : ℕ) → field s at n < 256 ^ n
unfolding field
field_lt s b at n = picked (nat_le (at + n) (length s))
  where
    picked : (t : Bool) → pick t (be_at s at n) 0 < 256 ^ n
    picked true = be-lt s b at n
    picked false = one-le-pow n 256 (omega arith)
