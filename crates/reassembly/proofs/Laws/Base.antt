-- Laws of `Base`, and case analysis that keeps the equation (of a Bool: wire's; else lookup's).
use Rattle.std.specs.Prelude.{◌≡◌, refl, ◌⊎◌, Bool, true, false, ◌&&◌, List, [], ◌∷◌, ◌++◌, map, ℕ, zero, suc, ◌<◌, length, get_or, set, ltb}
use Rattle.std.proofs.Common.{sym, ap, ◌∙◌, inl, inr, arith, length-append, ltb-true, ltb-false}
use Rattle.std.proofs.Math.Option.{none, some}
use Rattle.std.proofs.Math.ListN.{get_or-append}
use Rattle.std.proofs.lemmas.List.{get_or_at}
pub use Rattle.wire.proofs.Laws.Bytes.{case_b}
pub use Rattle.wire.proofs.Laws.Checks.{or_false-l, or_false_r}
pub use Rattle.lookup.proofs.Laws.Cases.{case_o, either, clash, and_l, and_r, or_cases, or_true_r}
use Rattle.lookup.specs.Search.{lowest}
use Rattle.lookup.proofs.Laws.Search.{lowest-some, lowest-none}
use Rattle.reassembly.specs.Base.{some_below, all_below, table}

-- what is to be shown of each number below two
pub below_two : (P : ℕ → Type 0) → P 0 → P 1 → (j : ℕ) → j < 2 → P j
below_two P a b zero l = a
below_two P a b (suc zero) l = b
below_two P a b (suc (suc j)) l = absurd (omega arith)

-- lt is lt or equal
pub below_suc : {i n : ℕ} → i < suc n → (i < n) ⊎ (i ≡ n)
below_suc {i} {n} h = case_b (ltb i n) (λ e. inl (ltb-true i n e)) (λ e. inr (omega (arith, ltb-false i n e)))

-- a set element of a mapped list
pub map-set : {A B : Type 0} (f : A → B) (l : List A) (i : ℕ) (x : A) → map f (set l i x) ≡ set (map f l) i (f x)
map-set f [] i x = refl
map-set f (y ∷ l) zero x = refl
map-set {B = B} f (y ∷ l) (suc i) x = ap (λ (t : List B). f y ∷ t) (map-set f l i x)

pub some_below_ext : (n : ℕ) (f g : ℕ → Bool) → ((i : ℕ) → i < n → f i ≡ g i) → some_below n f ≡ some_below n g
unfolding some_below
some_below_ext zero f g h = refl
some_below_ext (suc n) f g h = cc (h n (omega arith), some_below_ext n f g (λ i l. h i (omega arith)))

pub all_below_ext : (n : ℕ) (f g : ℕ → Bool) → ((i : ℕ) → i < n → f i ≡ g i) → all_below n f ≡ all_below n g
unfolding all_below
all_below_ext zero f g h = refl
all_below_ext (suc n) f g h = cc (h n (omega arith), all_below_ext n f g (λ i l. h i (omega arith)))

pub table_none : {A : Type 0} (f : ℕ → A) → table 0 f ≡ []
unfolding table
table_none f = refl

pub table_more : {A : Type 0} (n : ℕ) (f : ℕ → A) → table (suc n) f ≡ table n f ++ (f n ∷ [])
unfolding table
table_more n f = refl

pub table_ext : {A : Type 0} (n : ℕ) (f g : ℕ → A) → ((i : ℕ) → i < n → f i ≡ g i) → table n f ≡ table n g
unfolding table
table_ext zero f g h = refl
table_ext (suc n) f g h = cc (h n (omega arith), table_ext n f g (λ i l. h i (omega arith)))

pub all_below-none : (f : ℕ → Bool) → all_below 0 f ≡ true
unfolding all_below
all_below-none f = refl

pub all_below-more : (n : ℕ) (f : ℕ → Bool) → all_below (suc n) f ≡ (f n && all_below n f)
unfolding all_below
all_below-more n f = refl

pub and_yes : (b : Bool) → (b && true) ≡ b
and_yes true = refl
and_yes false = refl

pub and_no : (b : Bool) → (b && false) ≡ false
and_no true = refl
and_no false = refl

pub all_below-at : (n : ℕ) (f : ℕ → Bool) → all_below n f ≡ true → (i : ℕ) → i < n → f i ≡ true
unfolding all_below
all_below-at zero f e i h = absurd (omega arith)
all_below-at (suc n) f e i h =
    either (below_suc h)
    (λ l. all_below-at n f (and_r (f n) (all_below n f) e) i l)
    (λ q. cc (and_l (f n) (all_below n f) e))

-- a test that does not pass at every number fails at one
pub all_below_fails : (n : ℕ) (f : ℕ → Bool) → all_below n f ≡ false → (i : ℕ) × ((i < n) × (f i ≡ false))
unfolding all_below
all_below_fails zero f e = clash (cc)
all_below_fails (suc n) f e =
    case_b (f n)
    (λ q. let r = all_below_fails n f (rw q at e) in (r.0, (omega (arith, r.1.0), r.1.1)))
    (λ q. (n, (omega arith, q)))

pub all_below_intro : (n : ℕ) (f : ℕ → Bool) → ((i : ℕ) → i < n → f i ≡ true) → all_below n f ≡ true
unfolding all_below
all_below_intro zero f h = refl
all_below_intro (suc n) f h = cc (h n (omega arith), all_below_intro n f (λ i l. h i (omega arith)))

pub some_below-none : (n : ℕ) (f : ℕ → Bool) → ((i : ℕ) → i < n → f i ≡ false) → some_below n f ≡ false
unfolding some_below
some_below-none zero f h = refl
some_below-none (suc n) f h = cc (h n (omega arith), some_below-none n f (λ i l. h i (omega arith)))

pub length-table : {A : Type 0} (n : ℕ) (f : ℕ → A) → length (table n f) ≡ n
unfolding table
length-table zero f = refl
length-table (suc n) f = length-append (table n f) (f n ∷ []) ∙ omega (arith, length-table n f)

pub get_d_table : {A : Type 0} (n : ℕ) (f : ℕ → A) (d : A) (i : ℕ) → i < n → get_or (table n f) i d ≡ f i
unfolding table
get_d_table zero f d i h = absurd (omega arith)
get_d_table (suc n) f d i h =
    either (below_suc h)
    (λ l. get_or-append (table n f) (f n ∷ []) d i (omega (arith, length-table n f)) ∙ get_d_table n f d i l)
    (λ q. rw q (get_or_at (table n f) (f n) [] d n (length-table n f)))

-- two tests that pass together are the same
pub same_test : (x y : Bool) → (x ≡ true → y ≡ true) → (y ≡ true → x ≡ true) → x ≡ y
same_test true true f g = refl
same_test true false f g = sym (f refl)
same_test false true f g = g refl
same_test false false f g = refl

pub some_below-some : (n : ℕ) (f : ℕ → Bool) (i : ℕ) → i < n → f i ≡ true → some_below n f ≡ true
unfolding some_below
some_below-some zero f i l e = absurd (omega arith)
some_below-some (suc n) f i l e =
    either (below_suc l)
    (λ h. or_true_r (f n) (some_below n f) (some_below-some n f i h e))
    (λ q. rw (← q, e))

-- what a search finds is there, and where it finds nothing, there is none
pub found_some : (f : ℕ → Bool) (n i : ℕ) → lowest f n ≡ some i → some_below n f ≡ true
found_some f n i e = let w = lowest-some f n i e in some_below-some n f i w.below w.passes

pub found_none : (f : ℕ → Bool) (n : ℕ) → lowest f n ≡ none → some_below n f ≡ false
found_none f n e = some_below-none n f (lowest-none f n e)
