-- The detector's promise: by induction over the calls, the detector holds the entries that they have made.
use Rattle.std.specs.Prelude.{ℕ, suc, ◌-◌, ◌<◌, ◌≤◌, ◌≡◌, refl, ◌≢◌, ◌⊎◌, Bool, true, false, length, get_or, set, replicate, ltb, eqb}
use Rattle.std.proofs.Common.{arith, ap, ◌∙◌, inl, inr}
use Rattle.std.proofs.Math.Path.{sym, subst⁻¹}
use mathlib.Core.List.{List, [], ◌∷◌, ◌++◌, map, map-append}
use Rattle.std.proofs.Math.Option.{none, some}
use Rattle.std.proofs.Math.ListN.{length-append, get_or-append, get_or-map}
use Rattle.std.proofs.lemmas.List.{length-map, get_or_at, set_at}
use Rattle.std.proofs.Math.Seq.{append_snoc}
use borrow.Author.Tests.{ltb-true, ltb-false, lt-ltb, le-ltb, eqb-true, eqb-false, eq-eqb}
use borrow.Table.Steps.{cases}
use Rattle.lookup.proofs.Laws.Cases.{case_o, either, clash, and_l, and_r, or_cases, or_true-l, or_true_r}
use Rattle.lookup.proofs.Laws.Search.{lowest-some, lowest-none}
use Rattle.detector.specs.Detector.{empty, kept_of, is_entry, entry_for, judged, with_entry, ObserveResult, observe_of}
use Rattle.detector.specs.Detects.{Call, left, answered, same, shown, entries, entry, Lists, new, known, duplicate, full, Told, column, Holds, Detects}
use Rattle.detector.proofs.Laws.Observe.{kept-all, is_entry_lem, entry_is, listed_is, full_is, new_is, judged-known, judged-duplicate}
use Rattle.detector.specs.declared.detector.Detector.{Detector}
use Rattle.detector.specs.declared.observe.Observation.{Observation}

-- ---- a column: one of its numbers, and one more

abbrev no_call : Call
no_call = record { tenant = 0; peer = 0; address = 0 }

column-at : (f : Call → ℕ) → f no_call ≡ 0 → (l : List Call) (i : ℕ) → i < length l → get_or (column (map f l)) i 0 ≡ f (entry l i)
column-at f z l i h =
    get_or-append (map f l) (replicate (128 - length (map f l)) 0) 0 i (omega (arith, length-map l f))
    ∙ ap (λ (d : ℕ). get_or (map f l) i d) (sym z) ∙ get_or-map f l i no_call

column-more : (m : List ℕ) (x n : ℕ) → length m ≡ n → n < 128 → set (column m) n x ≡ column (m ++ (x ∷ []))
column-more m x n e h =
    let k : ℕ = 127 - length m in
    let now : 128 - length m ≡ suc k = omega arith in
    let then : 128 - length (m ++ (x ∷ [])) ≡ k = omega (arith, length-append m (x ∷ [])) in
    rw (now, then) (set_at m 0 (replicate k 0) x n e ∙ sym (append_snoc m x (replicate k 0)))

-- ---- one tenant and address

same_is : (b c : Call) → same b c ≡ true → (b.tenant ≡ c.tenant) × (b.address ≡ c.address)
unfolding same
same_is b c e =
    let t : Bool = eqb b.tenant c.tenant in
    let a : Bool = eqb b.address c.address in
    (eqb-true b.tenant c.tenant (and_l t a e), eqb-true b.address c.address (and_r t a e))

is_same : (b c : Call) → b.tenant ≡ c.tenant → b.address ≡ c.address → same b c ≡ true
unfolding same
is_same b c t a = rw (eq-eqb b.tenant c.tenant t) (eq-eqb b.address c.address a)

lists_same : (l : List Call) (b c : Call) (i : ℕ) → same b c ≡ true → Lists l b i → Lists l c i
lists_same l b c i e w = let q = same_is b c e in record { below = w.below; tenant = w.tenant ∙ q.0; address = w.address ∙ q.1 }

same_sym : (b c : Call) → same b c ≡ true → same c b ≡ true
same_sym b c e = let q = same_is b c e in is_same c b (sym q.0) (sym q.1)

-- answers of different numbers
apart {ℓ} : {C : Type ℓ} (a b : Observation) → (a.answer ≡ b.answer → ⊥) → a ≡ b → C
apart a b d e = absurd (d (ap (λ (x : Observation). x.answer) e))

-- listed is never new
judged_not_new {ℓ} : {C : Type ℓ} (first peer : ℕ) → judged first peer ≡ new → C
judged_not_new first peer a =
    cases (eqb first peer)
    (λ q. apart _ new (λ z. omega arith) (judged-known first peer (eqb-true first peer q) ∙ a))
    (λ q. apart _ new (λ z. omega arith) (judged-duplicate first peer (eqb-false first peer q) ∙ a))

-- an entry more: those that are there stay, the new one is the last, and there is no other
entry_old : (l : List Call) (c : Call) (i : ℕ) → i < length l → entry (l ++ (c ∷ [])) i ≡ entry l i
entry_old l c i h = get_or-append l (c ∷ []) no_call i h

entry-last : (l : List Call) (c : Call) (i : ℕ) → i ≡ length l → entry (l ++ (c ∷ [])) i ≡ c
entry-last l c i e = get_or_at l c [] no_call i (sym e)

lists_more : (l : List Call) (b c : Call) (i : ℕ) → Lists l c i → Lists (l ++ (b ∷ [])) c i
lists_more l b c i w =
    let q = entry_old l b i w.below in
    let h : i < length l = w.below in
    record {
      below = omega (arith, length-append l (b ∷ []));
      tenant = ap (λ (x : Call). x.tenant) q ∙ w.tenant;
      address = ap (λ (x : Call). x.address) q ∙ w.address;
    }

lists_last : (l : List Call) (b c : Call) → same b c ≡ true → Lists (l ++ (b ∷ [])) c (length l)
lists_last l b c e =
    let q = entry-last l b (length l) refl in
    let s = same_is b c e in
    record {
      below = omega (arith, length-append l (b ∷ []));
      tenant = ap (λ (x : Call). x.tenant) q ∙ s.0;
      address = ap (λ (x : Call). x.address) q ∙ s.1;
    }

-- of an entry of the longer list: it is one of the old ones, or the last
less_lists {ℓ} : {C : Type ℓ} (l : List Call) (b c : Call) (i : ℕ) → Lists (l ++ (b ∷ [])) c i → (Lists l c i → C) → (i ≡ length l → same b c ≡ true → C) → C
less_lists l b c i w f g =
    let h : i < length (l ++ (b ∷ [])) = w.below in
    cases (ltb i (length l))
    (λ q.
    let old = entry_old l b i (ltb-true i (length l) q) in
    f (record {
      below = ltb-true i (length l) q;
      tenant = sym (ap (λ (x : Call). x.tenant) old) ∙ w.tenant;
      address = sym (ap (λ (x : Call). x.address) old) ∙ w.address;
    }))
    (λ q.
    let e : i ≡ length l = omega (arith, ltb-false i (length l) q, length-append l (b ∷ [])) in
    let last = entry-last l b i e in
    g e (is_same b c (sym (ap (λ (x : Call). x.tenant) last) ∙ w.tenant) (sym (ap (λ (x : Call). x.address) last) ∙ w.address)))

-- ---- the answers

module _ (l : List Call) (c : Call) where
  -- entry i has tenant and address, and it alone
  told-listed : (i : ℕ) → Lists l c i → ((j : ℕ) → Lists l c j → j ≡ i) → Told l c (judged (entry l i).peer c.peer)
  told-listed i w only =
      let first : ℕ = (entry l i).peer in
      cases (eqb first c.peer)
      (λ q.
      let e : first ≡ c.peer = eqb-true first c.peer q in
      let a : known ≡ judged first c.peer = judged-known first c.peer e in
      record {
        is_known = (λ _. (i, (w, e)), λ _. sym a);
        is_duplicate = λ p. (
          λ x. apart known (duplicate p) (λ z. omega arith) (a ∙ x),
          λ x. absurd (x.1.1.1 (sym x.1.1.0 ∙ ap (λ (j : ℕ). (entry l j).peer) (only x.0 x.1.0) ∙ e)),
        );
        is_full = (λ x. apart known full (λ z. omega arith) (a ∙ x), λ x. absurd (x.0 i w));
        is_new = (λ x. apart known new (λ z. omega arith) (a ∙ x), λ x. absurd (x.0 i w));
      })
      (λ q.
      let d : first ≢ c.peer = eqb-false first c.peer q in
      let a : duplicate first ≡ judged first c.peer = judged-duplicate first c.peer d in
      record {
        is_known = (
          λ x. apart (duplicate first) known (λ z. omega arith) (a ∙ x),
          λ x. absurd (d (sym (ap (λ (j : ℕ). (entry l j).peer) (only x.0 x.1.0)) ∙ x.1.1)),
        );
        is_duplicate = λ p. (
          λ x. let e : first ≡ p = ap (λ (o : Observation). o.peer) (a ∙ x) in (i, (w, (e, λ z. d (e ∙ z)))),
          λ x. sym a ∙ ap duplicate (sym (ap (λ (j : ℕ). (entry l j).peer) (only x.0 x.1.0)) ∙ x.1.1.0),
        );
        is_full = (λ x. apart (duplicate first) full (λ z. omega arith) (a ∙ x), λ x. absurd (x.0 i w));
        is_new = (λ x. apart (duplicate first) new (λ z. omega arith) (a ∙ x), λ x. absurd (x.0 i w));
      })

  told-full : ((i : ℕ) → Lists l c i → ⊥) → length l ≡ 128 → Told l c full
  told-full none_has n = record {
    is_known = (λ x. apart full known (λ z. omega arith) x, λ x. absurd (none_has x.0 x.1.0));
    is_duplicate = λ p. (λ x. apart full (duplicate p) (λ z. omega arith) x, λ x. absurd (none_has x.0 x.1.0));
    is_full = (λ _. (none_has, n), λ _. refl);
    is_new = (λ x. apart full new (λ z. omega arith) x, λ x. let h : length l < 128 = x.1 in absurd (omega arith));
  }

  told-new : ((i : ℕ) → Lists l c i → ⊥) → length l < 128 → Told l c new
  told-new none_has h = record {
    is_known = (λ x. apart new known (λ z. omega arith) x, λ x. absurd (none_has x.0 x.1.0));
    is_duplicate = λ p. (λ x. apart new (duplicate p) (λ z. omega arith) x, λ x. absurd (none_has x.0 x.1.0));
    is_full = (λ x. apart new full (λ z. omega arith) x, λ x. let n : length l ≡ 128 = x.1 in absurd (omega arith));
    is_new = (λ _. (none_has, h), λ _. refl);
  }

-- ---- the lookup: it finds the entry that has tenant and address

module _ (l : List Call) (d : Detector) (w : Holds l d) (c : Call) where
  abbrev test : ℕ → Bool
  test = is_entry d.addresses d.tenants c.tenant c.address

  address-at : (i : ℕ) → i < length l → get_or d.addresses i 0 ≡ (entry l i).address
  address-at i h = rw w.addresses (column-at (λ (x : Call). x.address) refl l i h)

  tenant_at : (i : ℕ) → i < length l → get_or d.tenants i 0 ≡ (entry l i).tenant
  tenant_at i h = rw w.tenants (column-at (λ (x : Call). x.tenant) refl l i h)

  peer-at : (i : ℕ) → i < length l → get_or d.peers i 0 ≡ (entry l i).peer
  peer-at i h = rw w.peers (column-at (λ (x : Call). x.peer) refl l i h)

  lists_passes : (i : ℕ) → Lists l c i → test i ≡ true
  lists_passes i v =
      is_entry_lem d.addresses d.tenants c.tenant c.address i (address-at i v.below ∙ v.address) (tenant_at i v.below ∙ v.tenant)

  passes_lists : (i : ℕ) → i < length l → test i ≡ true → Lists l c i
  passes_lists i h e =
      let q = entry_is d.addresses d.tenants c.tenant c.address i e in
      record { below = h; tenant = sym (tenant_at i h) ∙ q.1; address = sym (address-at i h) ∙ q.0 }

  module _ (small : length l ≤ 128) where
    found_lists : (i : ℕ) → entry_for d c.tenant c.address ≡ some i → Lists l c i
    unfolding entry_for
    found_lists i e =
        let v = lowest-some test (kept_of d.count) i e in
        let h : i < kept_of d.count = v.below in
        let n : d.count ≡ length l = w.count in
        passes_lists i (omega (arith, kept-all d.count (omega arith))) v.passes

    nothing_lists : entry_for d c.tenant c.address ≡ none → (i : ℕ) → Lists l c i → ⊥
    unfolding entry_for
    nothing_lists e i v =
        let h : i < length l = v.below in
        let n : d.count ≡ length l = w.count in
        let q : test i ≡ false = lowest-none test (kept_of d.count) e i (omega (arith, kept-all d.count (omega arith))) in
        clash (cc (q, lists_passes i v))

-- one entry more
holds_more : (l : List Call) (d : Detector) (c : Call) → Holds l d → length l < 128
    → Holds (l ++ (c ∷ [])) (with_entry d d.count c.tenant c.peer c.address)
unfolding with_entry
holds_more l d c w h =
    let n : d.count ≡ length l = w.count in
    let grows : (f : Call → ℕ) (m : List ℕ) → m ≡ column (map f l) → set m d.count (f c) ≡ column (map f (l ++ (c ∷ []))) =
    λ f m e. rw (e, map-append f l (c ∷ [])) (column-more (map f l) (f c) d.count (omega (arith, length-map l f)) (omega arith)) in
    record {
      addresses = grows (λ (x : Call). x.address) d.addresses w.addresses;
      tenants = grows (λ (x : Call). x.tenant) d.tenants w.tenants;
      peers = grows (λ (x : Call). x.peer) d.peers w.peers;
      count = omega (arith, length-append l (c ∷ []));
    }

-- ---- what every list of calls keeps

-- with the entries l of the detector d: as long as there is room, what was shown is listed; and what is listed was shown
record Kept (before : List Call) (l : List Call) (d : Detector) : Type 0 where
  pub holds : Holds l d
  pub small : length l ≤ 128
  pub distinct : (c : Call) (i j : ℕ) → Lists l c i → Lists l c j → i ≡ j
  pub listed : length l < 128 → (c : Call) → shown before c ≡ true → (i : ℕ) × Lists l c i
  pub was_shown : (c : Call) (i : ℕ) → Lists l c i → shown before c ≡ true

module _ (before : List Call) (l : List Call) (d : Detector) (k : Kept before l d) (c : Call) where
  -- a call that makes no entry
  kept_same : (length l < 128 → (i : ℕ) × Lists l c i) → Kept (c ∷ before) l d
  unfolding shown
  kept_same has = record {
    holds = k.holds;
    small = k.small;
    distinct = k.distinct;
    listed = λ h b e.
        either (or_cases (same c b) (shown before b) e)
        (λ q. ((has h).0, lists_same l c b (has h).0 q (has h).1))
        (λ q. k.listed h b q);
    was_shown = λ b i v. or_true_r (same c b) (shown before b) (k.was_shown b i v);
  }

  -- one that does
  kept_more : ((i : ℕ) → Lists l c i → ⊥) → length l < 128 → Kept (c ∷ before) (l ++ (c ∷ [])) (with_entry d d.count c.tenant c.peer c.address)
  unfolding shown
  kept_more none_has h = record {
    holds = holds_more l d c k.holds h;
    small = omega (arith, length-append l (c ∷ []));
    distinct = λ b i j v w.
        less_lists l c b i v
        (λ v'. less_lists l c b j w (λ w'. k.distinct b i j v' w') (λ _ q. absurd (none_has i (lists_same l b c i (same_sym c b q) v'))))
        (λ e q. less_lists l c b j w (λ w'. absurd (none_has j (lists_same l b c j (same_sym c b q) w'))) (λ e' _. e ∙ sym e'));
    listed = λ _ b e.
        either (or_cases (same c b) (shown before b) e)
        (λ q. (length l, lists_last l c b q))
        (λ q. let v = k.listed h b q in (v.0, lists_more l c b v.0 v.1));
    was_shown = λ b i v.
        less_lists l c b i v
        (λ v'. or_true_r (same c b) (shown before b) (k.was_shown b i v'))
        (λ _ q. or_true-l (same c b) (shown before b) q);
  }

-- a call on a detector that holds what the calls before have made: what it is answered and what it leaves
record Stepped (before : List Call) (c : Call) : Type 0 where
  pub told : Told (entries before) c (answered before c)
  pub kept : Kept (c ∷ before) (entries (c ∷ before)) (left (c ∷ before))
  pub made : answered before c ≡ new → entries (c ∷ before) ≡ entries before ++ (c ∷ [])

module _ (before : List Call) (k : Kept before (entries before) (left before)) (c : Call) where
  abbrev l : List Call
  l = entries before

  abbrev d : Detector
  d = left before

  abbrev step : ObserveResult
  step = observe_of d c.tenant c.peer c.address

  -- the entries of one call more
  no_more : (shown before c ≡ true) ⊎ (length l ≡ 128) → entries (c ∷ before) ≡ l
  unfolding entries
  no_more (inl e) = rw e
  no_more (inr e) = cases (shown before c) (λ q. rw q) (λ q. rw (q, le-ltb (length l) 128 (omega arith)))

  one_more : shown before c ≡ false → length l < 128 → entries (c ∷ before) ≡ l ++ (c ∷ [])
  unfolding entries
  one_more e h = rw (e, lt-ltb (length l) 128 h)

  -- what is left and answered, from what the call gives
  stepped : (o : ObserveResult) (m : List Call) → step ≡ o → entries (c ∷ before) ≡ m → Told l c o.answer → Kept (c ∷ before) m o.detector
      → (o.answer ≡ new → m ≡ l ++ (c ∷ [])) → Stepped before c
  unfolding left answered
  stepped o m e q t v n = record {
    told = subst⁻¹ (Told l c) (ap (λ (x : ObserveResult). x.answer) e) t;
    kept = subst⁻¹ (λ (x : List Call). Kept (c ∷ before) x (left (c ∷ before))) q
        (subst⁻¹ (Kept (c ∷ before) m) (ap (λ (x : ObserveResult). x.detector) e) v);
    made = λ a. q ∙ n (sym (ap (λ (x : ObserveResult). x.answer) e) ∙ a);
  }

  goes_on_lem : Stepped before c
  goes_on_lem =
      case_o (entry_for d c.tenant c.address)
      (λ nothing.
      let none_has = nothing_lists l d k.holds c k.small nothing in
      let small : length l ≤ 128 = k.small in
      let n : d.count ≡ length l = k.holds.count in
      cases (ltb (length l) 128)
      (λ q.
      let h : length l < 128 = ltb-true (length l) 128 q in
      stepped (record { detector = with_entry d d.count c.tenant c.peer c.address; answer = new }) (l ++ (c ∷ []))
      (new_is d c.tenant c.peer c.address nothing (omega arith))
      (one_more (not_shown none_has h) h)
      (told-new l c none_has h) (kept_more before l d k c none_has h) (λ _. refl))
      (λ q.
      let h : 128 ≤ length l = ltb-false (length l) 128 q in
      let e : length l ≡ 128 = omega arith in
      stepped (record { detector = d; answer = full }) l
      (full_is d c.tenant c.peer c.address nothing (omega arith))
      (no_more (inr e))
      (told-full l c none_has e) (kept_same before l d k c (λ h. absurd (omega arith))) (λ a. apart full new (λ z. omega arith) a)))
      (λ i found.
      let v = found_lists l d k.holds c k.small i found in
      let peer : get_or d.peers i 0 ≡ (entry l i).peer = peer-at l d k.holds c i v.below in
      stepped (record { detector = d; answer = judged (entry l i).peer c.peer }) l
      (listed_is d c.tenant c.peer c.address i found ∙ ap (λ (p : ℕ). record { detector = d; answer = judged p c.peer }) peer)
      (no_more (inl (k.was_shown c i v)))
      (told-listed l c i v (λ j w. k.distinct c j i w v)) (kept_same before l d k c (λ _. (i, v))) (λ a. judged_not_new (entry l i).peer c.peer a))
    where
      not_shown : ((i : ℕ) → Lists l c i → ⊥) → length l < 128 → shown before c ≡ false
      not_shown none_has h = cases (shown before c) (λ q. let v = k.listed h c q in absurd (none_has v.0 v.1)) (λ q. q)

-- ---- every list of calls

keeps : (before : List Call) → Kept before (entries before) (left before)
unfolding entries left shown empty
keeps [] = record {
  holds = record { addresses = refl; tenants = refl; peers = refl; count = refl };
  small = omega arith;
  distinct = λ c i j v w. let h : i < 0 = v.below in absurd (omega arith);
  listed = λ _ c e. clash (cc);
  was_shown = λ c i v. let h : i < 0 = v.below in absurd (omega arith);
}
keeps (c ∷ before) = (goes_on_lem before (keeps before) c).kept

-- a call that is not answered new changes nothing
unchanged_by : (d : Detector) (tenant peer address : ℕ) → (observe_of d tenant peer address).answer ≢ new → (observe_of d tenant peer address).detector ≡ d
unchanged_by d tenant peer address ne =
    case_o (entry_for d tenant address)
    (λ nothing.
    cases (ltb d.count 128)
    (λ q. absurd (ne (ap (λ (x : ObserveResult). x.answer) (new_is d tenant peer address nothing (ltb-true d.count 128 q)))))
    (λ q. ap (λ (x : ObserveResult). x.detector) (full_is d tenant peer address nothing (ltb-false d.count 128 q))))
    (λ i found. ap (λ (x : ObserveResult). x.detector) (listed_is d tenant peer address i found))

-- and one that keeps 128 is not answered new
full_not_new : (d : Detector) (tenant peer address : ℕ) → 128 ≤ d.count → (observe_of d tenant peer address).answer ≢ new
full_not_new d tenant peer address l a =
    case_o (entry_for d tenant address)
    (λ nothing. apart _ new (λ z. omega arith) (sym (ap (λ (x : ObserveResult). x.answer) (full_is d tenant peer address nothing l)) ∙ a))
    (λ i found.
    judged_not_new (get_or d.peers i 0) peer (sym (ap (λ (x : ObserveResult). x.answer) (listed_is d tenant peer address i found)) ∙ a))

pub detects : Detects
detects = record {
  answers = λ before c. (goes_on_lem before (keeps before) c).told;
  state = λ before. (keeps before).holds;
  few = λ before. (keeps before).small;
  distinct = λ before. (keeps before).distinct;
  made = λ before c. (goes_on_lem before (keeps before) c).made;
  unchanged = unchanged_by;
  overfull = full_not_new;
}
