-- Laws of the lookups: the code's loop finds the lowest number that passes.
use Rattle.std.specs.Prelude.{◌≡◌, true, false, ◌&&◌, List, ℕ, ◌<◌, ◌≤◌, get_or, length, position, Some, None, refl}
use Rattle.std.proofs.Common.{sym, ap, arith}
use Rattle.std.proofs.Math.Bool.{Bool}
use Rattle.std.proofs.Math.Dec.{eqb}
use borrow.Author.Tests.{eqb-true, eq-eqb, ne_eqb}
use Rattle.reassembly.proofs.Laws.Base.{and_l, and_r}
pub use Rattle.lookup.proofs.Laws.Search.{lowest-some, lowest-none, lowest_is, lowest_not}
use Rattle.lookup.proofs.Laws.Search.{position_is}
use Rattle.std.proofs.Math.Option.{none, some}
use Rattle.endpoint.specs.Search.{lowest, found_of}
use Rattle.endpoint.specs.Config.{has_address, binds}

module _ (test : ℕ → Bool) where
  -- ---- the code's loop: nothing below i passes

  pub found_at : (n i : ℕ) → i < n → ((j : ℕ) → j < i → test j ≡ false) → test i ≡ true → Some i ≡ found_of (lowest test n)
  found_at n i l h e = sym (ap found_of (lowest_is test n i (record { below = l; passes = e; least = h })))

  pub found_nothing : (n i : ℕ) → n ≤ i → ((j : ℕ) → j < i → test j ≡ false) → None ≡ found_of (lowest test n)
  found_nothing n i l h = sym (ap found_of (lowest_not test n (λ j b. h j (omega arith))))

-- ---- a search of more numbers than are asked for

module _ (test : ℕ → Bool) (n all : ℕ) where
  pub none_of_all : n ≤ all → lowest test all ≡ none → None ≡ found_of (lowest test n)
  none_of_all l h = sym (ap found_of (lowest_not test n (λ j b. lowest-none test all h j (omega arith))))

  pub one_of_all : (i : ℕ) → lowest test all ≡ some i → i < n → Some i ≡ found_of (lowest test n)
  one_of_all i h l =
      let w = lowest-some test all i h in
      sym (ap found_of (lowest_is test n i (record { below = l; passes = w.passes; least = w.least })))

  pub one_beyond : (i : ℕ) → lowest test all ≡ some i → n ≤ i → None ≡ found_of (lowest test n)
  one_beyond i h l = let w = lowest-some test all i h in sym (ap found_of (lowest_not test n (λ j b. w.least j (omega arith))))

-- std's search of the addresses
pub position-address : (l : List ℕ) (address : ℕ) → position (λ a. eqb a address) l ≡ found_of (lowest (has_address l address) (length l))
unfolding has_address
position-address l address = position_is (λ a. eqb a address) (has_address l address) l 0 (λ i h. refl)

-- ---- the tests, as the code makes them

pub has_address_lem : (l : List ℕ) (address i : ℕ) → get_or l i 0 ≡ address → has_address l address i ≡ true
unfolding has_address
has_address_lem l address i e = eq-eqb (get_or l i 0) address e

pub other-address : (l : List ℕ) (address i : ℕ) → (get_or l i 0 ≡ address → ⊥) → has_address l address i ≡ false
unfolding has_address
other-address l address i d = ne_eqb (get_or l i 0) address d

module _ (networks kinds owners : List ℕ) (peer kind network i : ℕ) where
  pub binds_hit : get_or networks i 0 ≡ network → get_or kinds i 0 ≡ kind → get_or owners i 0 ≡ peer → binds networks kinds owners peer kind network i ≡ true
  unfolding binds
  binds_hit a b c = rw (eq-eqb (get_or networks i 0) network a, eq-eqb (get_or kinds i 0) kind b) (eq-eqb (get_or owners i 0) peer c)

  pub binds-all : binds networks kinds owners peer kind network i ≡ true → (get_or networks i 0 ≡ network) × (get_or kinds i 0 ≡ kind) × (get_or owners i 0 ≡ peer)
  unfolding binds
  binds-all e =
      let n : Bool = eqb (get_or networks i 0) network in
      let k : Bool = eqb (get_or kinds i 0) kind in
      let o : Bool = eqb (get_or owners i 0) peer in (
        eqb-true (get_or networks i 0) network (and_l n (k && o) e),
        eqb-true (get_or kinds i 0) kind (and_l k o (and_r n (k && o) e)),
        eqb-true (get_or owners i 0) peer (and_r k o (and_r n (k && o) e)),
      )
