-- A big-endian number at any place of any bytes. One that does not lie in the bytes whole reads as 0, and is not written.
use Rattle.std.specs.Prelude.{ℕ, ◌+◌, List, length, nat_le}
use Rattle.wire.specs.Bytes.{be_at, laid}
use Rattle.wire.specs.Checks.{pick}

-- ---- need not be believed: what the functions give; a statement that reads or writes a number says so with `be_at` and `be`

-- the number in the n bytes from a place on
unfoldable pub field : (s : List ℕ) (at n : ℕ) → ℕ
field s at n = pick (nat_le (at + n) (length s)) (be_at s at n) 0

-- m with the elements of s in place of those from a place on
unfoldable pub entered : (m : List ℕ) (at : ℕ) (s : List ℕ) → List ℕ
entered m at s = pick (nat_le (at + length s) (length m)) (laid m at s) m
