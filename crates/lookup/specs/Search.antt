-- The lowest number below a bound that passes a test (document 01, "Listing and numbers": the lowest-numbered one that matches is the answer).
use Rattle.std.specs.Prelude.{◌≡◌, Bool, true, false, cond, ℕ, zero, suc, ◌<◌, Some, None}
use Rattle.std.specs.Prelude as std
use Rattle.std.proofs.Math.Option.{Option, none, some}

module _ (test : ℕ → Bool) where
  -- from number i on, with k numbers left
  unfoldable pub from : ℕ → ℕ → Option ℕ
  from i zero = none
  from i (suc k) = cond (test i) (some i) (from (suc i) k)

  -- the lowest below n
  unfoldable pub lowest : ℕ → Option ℕ
  lowest n = from 0 n

  -- ---- need not be believed: what the search finds, for its laws

  -- what is found is below the bound, passes, and no lower one does
  pub record Lowest (n i : ℕ) : Type 0 where
    pub below : i < n
    pub passes : test i ≡ true
    pub least : (j : ℕ) → j < i → test j ≡ false

-- ---- what was found

-- what was found, or 0
unfoldable pub found : Option ℕ → ℕ
found none = 0
found (some i) = i

-- the same as std's `Option`, which a program answers
-- Open: a renaming of constructors
abbrev pub found_of : Option ℕ → std.Option ℕ
found_of none = None
found_of (some i) = Some i
