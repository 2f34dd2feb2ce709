-- A part of the memory that was lent to be written over as a whole, and was put back.
use mathlib.Core.Path.{◌≡◌, sym, ◌∙◌}
use mathlib.Core.List.{List, append_assoc}
use Prim.Native.Nat.{ℕ, ◌+◌, ◌-◌, ◌≤◌}
use native.Mathlib.Omega.{arith}
use lib.ListN.{length, take, drop}
use lib.Seq.{sets-eq}
use borrow.Author.Tests.{le-leb}
use borrow.Rule.Slice.PartMut.{put_mid, Post-is}
use Rattle.reference.specs.Layout.{stored}

-- x is what was left in the part, and that is s
pub laid : (m x s : List ℕ) (at : ℕ) → at + length s ≤ length m → x ≡ s → put_mid at (at + length s - at) m x ≡ stored m at s
unfolding stored
laid m x s at l z =
    rw (le-leb (at + length s) (length m) l, z, Post-is at (at + length s) m (omega arith))
    (sym (append_assoc (take at m) s (drop (at + length s) m)) ∙ sym (sets-eq s m at l))
