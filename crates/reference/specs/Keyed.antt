-- Lists whose entries are known by a number, their key.
use Rattle.std.specs.Prelude.{◌≡◌, cond, List, [], ◌∷◌, ℕ, eqb}
use Rattle.std.proofs.Math.Option.{Option, none, some}

module _ {A : Type 0} (key : A → ℕ) where
  -- the first entry with this key
  unfoldable pub find : ℕ → List A → Option A
  find k [] = none
  find k (x ∷ xs) = cond (eqb (key x) k) (some x) (find k xs)

  -- an entry in the place of the first one with its key, or at the end
  unfoldable pub put : A → List A → List A
  put a [] = a ∷ []
  put a (x ∷ xs) = cond (eqb (key x) (key a)) (a ∷ xs) (x ∷ put a xs)

  -- all entries but those with this key
  unfoldable pub without : ℕ → List A → List A
  without k [] = []
  without k (x ∷ xs) = cond (eqb (key x) k) (without k xs) (x ∷ without k xs)

  -- no two entries have one key
  abbrev pub Distinct : List A → Type 0
  Distinct [] = Unit {0}
  Distinct (x ∷ xs) = (find (key x) xs ≡ none) × Distinct xs
