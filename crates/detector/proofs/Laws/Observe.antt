-- Observing, as the proofs of the code cite it.
use Rattle.std.specs.Prelude.{◌≡◌, Bool, true, List, ℕ, ◌<◌, ◌≤◌, length, get_or, take, eqb, position}
use Rattle.std.proofs.Common.{ap, ◌∙◌, arith}
use Rattle.std.proofs.Math.Option as maybe
use Rattle.std.proofs.lemmas.List.{get_or-take, length-take}
use Rattle.std.proofs.lemmas.Slice.Zip.{length-zip, get_or-zip}
use borrow.Author.Tests.{eqb-true, eq-eqb, ne_eqb, le-leb, lt-leb}
use Rattle.lookup.proofs.Laws.Cases.{and_l, and_r}
use Rattle.lookup.specs.Search.{lowest, found_of}
use Rattle.lookup.proofs.Laws.Search.{lowest-some, position_is}
use Rattle.detector.specs.Detector.{most_entries, observation_of, kept_of, is_entry, pairs_of, has, entry_for, judged, with_entry, given, observe_of}
use Rattle.detector.specs.declared.detector.Detector.{Detector}
use Rattle.detector.specs.declared.observe.Observed.TheVariants as O

-- ---- the test

module _ (addresses tenants : List ℕ) (tenant address i : ℕ) where
  pub is_entry_lem : get_or addresses i 0 ≡ address → get_or tenants i 0 ≡ tenant → is_entry addresses tenants tenant address i ≡ true
  unfolding is_entry
  is_entry_lem a t = rw (eq-eqb (get_or addresses i 0) address a) (eq-eqb (get_or tenants i 0) tenant t)

  pub entry_is : is_entry addresses tenants tenant address i ≡ true → (get_or addresses i 0 ≡ address) × (get_or tenants i 0 ≡ tenant)
  unfolding is_entry
  entry_is e =
      let a : Bool = eqb (get_or addresses i 0) address in
      let t : Bool = eqb (get_or tenants i 0) tenant in
      (eqb-true (get_or addresses i 0) address (and_l a t e), eqb-true (get_or tenants i 0) tenant (and_r a t e))

-- ---- how many are looked at

pub kept-all : (count : ℕ) → count ≤ most_entries → kept_of count ≡ count
kept-all count l = omega arith

-- ---- the search

module _ (d : Detector) (tenant address : ℕ) where
  has_is : (i : ℕ) → kept_of d.count ≤ length d.addresses → kept_of d.count ≤ length d.tenants → i < length (pairs_of d)
      → has tenant address (get_or (pairs_of d) i (0, 0)) ≡ is_entry d.addresses d.tenants tenant address i
  unfolding is_entry
  has_is i a t h =
      let n : ℕ = kept_of d.count in
      let l : i < n = omega (arith, length-zip (take n d.addresses) (take n d.tenants), length-take n d.addresses) in
      rw (
        get_or-zip (take n d.addresses) (take n d.tenants) i (0, 0) (omega (arith, length-take n d.addresses)) (omega (arith, length-take n d.tenants)),
        get_or-take n d.addresses i 0 l,
        get_or-take n d.tenants i 0 l,
      )

  -- std's position is the entry
  pub position_entry : kept_of d.count ≤ length d.addresses → kept_of d.count ≤ length d.tenants
      → position (has tenant address) (pairs_of d) ≡ found_of (entry_for d tenant address)
  unfolding entry_for
  position_entry a t =
      let n : ℕ = kept_of d.count in
      let size : length (pairs_of d) ≡ n = length-zip (take n d.addresses) (take n d.tenants) ∙ omega (arith, length-take n d.addresses, length-take n d.tenants) in
      position_is (has tenant address) (is_entry d.addresses d.tenants tenant address) (pairs_of d) (0, 0) (λ i h. has_is i a t h)
      ∙ ap (λ (k : ℕ). found_of (lowest (is_entry d.addresses d.tenants tenant address) k)) size

  -- what it found is below the limit
  pub entry_below : (i : ℕ) → entry_for d tenant address ≡ maybe.some i → i < most_entries
  unfolding entry_for
  entry_below i e =
      let b : i < kept_of d.count = (lowest-some (is_entry d.addresses d.tenants tenant address) (kept_of d.count) i e).below in
      omega arith

-- ---- what a listed one is answered

pub judged-known : (first peer : ℕ) → first ≡ peer → observation_of O.Known ≡ judged first peer
unfolding judged
judged-known first peer e = rw (eq-eqb first peer e)

pub judged-duplicate : (first peer : ℕ) → (first ≡ peer → ⊥) → observation_of (O.Duplicate first) ≡ judged first peer
unfolding judged
judged-duplicate first peer d = rw (ne_eqb first peer d)

-- ---- the three ways of a call

module _ (d : Detector) (tenant peer address : ℕ) where
  pub listed_is : (i : ℕ) → entry_for d tenant address ≡ maybe.some i
      → observe_of d tenant peer address ≡ record { detector = d; answer = judged (get_or d.peers i 0) peer }
  unfolding observe_of given
  listed_is i e = rw e

  pub full_is : entry_for d tenant address ≡ maybe.none → most_entries ≤ d.count
      → observe_of d tenant peer address ≡ record { detector = d; answer = observation_of O.Full }
  unfolding observe_of given
  full_is e l = rw (e, le-leb most_entries d.count l)

  pub new_is : entry_for d tenant address ≡ maybe.none → d.count < most_entries
      → observe_of d tenant peer address ≡ record { detector = with_entry d d.count tenant peer address; answer = observation_of O.New }
  unfolding observe_of given
  new_is e l = rw (e, lt-leb most_entries d.count l)
