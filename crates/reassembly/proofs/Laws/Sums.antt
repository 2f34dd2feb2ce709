-- Sums and counts (Account.antt, Mix.antt): below a number, over the slots, and along a run.
use Rattle.std.specs.Prelude.{◌≡◌, refl, ◌⊎◌, ◌≢◌, Bool, true, false, ◌||◌, List, [], ◌∷◌, ◌++◌, ℕ, zero, suc, ◌+◌, ◌-◌, ◌≤◌, ◌<◌, ltb}
use Rattle.std.proofs.Common.{sym, ap, subst, ◌∙◌, inl, inr, append_assoc, append-nil, arith, ltb-true, ltb-false}
use Rattle.reassembly.specs.Base.{within}
use Rattle.reassembly.proofs.Laws.Base.{case_b, either, clash, below_suc}
use Rattle.reassembly.proofs.Laws.Memory.{within_low, within_high, within_is}
use Rattle.reassembly.specs.Receive.{Event}
use Rattle.reassembly.specs.Mix.{how_many}
use Rattle.reassembly.specs.Account.{sum_below, over_slots, along}

-- ---- sums

sum_ext : (n : ℕ) (f g : ℕ → ℕ) → ((t : ℕ) → t < n → f t ≡ g t) → sum_below n f ≡ sum_below n g
unfolding sum_below
sum_ext zero f g h = refl
sum_ext (suc n) f g h = omega (arith, h n (omega arith), sum_ext n f g (λ t l. h t (omega arith)))

-- one place changes
sum_one : (n : ℕ) (f g : ℕ → ℕ) (s : ℕ) → s < n → ((t : ℕ) → t < n → t ≢ s → f t ≡ g t) → sum_below n f + g s ≡ sum_below n g + f s
unfolding sum_below
sum_one zero f g s l h = absurd (omega arith)
sum_one (suc n) f g s l h =
    either (below_suc l)
    (λ k. omega (arith, h n (omega arith) (λ z. omega arith), sum_one n f g s k (λ t lt d. h t (omega arith) d)))
    (λ z. rw z (omega (arith, sum_ext n f g (λ t lt. h t (omega arith) (λ y. omega arith)))))

sum-add : (n : ℕ) (f g h : ℕ → ℕ) → ((t : ℕ) → t < n → f t + g t ≡ h t) → sum_below n f + sum_below n g ≡ sum_below n h
unfolding sum_below
sum-add zero f g h e = refl
sum-add (suc n) f g h e = omega (arith, e n (omega arith), sum-add n f g h (λ t l. e t (omega arith)))

sum-none : (n : ℕ) (f : ℕ → ℕ) → ((t : ℕ) → t < n → f t ≡ 0) → sum_below n f ≡ 0
unfolding sum_below
sum-none zero f h = refl
sum-none (suc n) f h = omega (arith, h n (omega arith), sum-none n f (λ t l. h t (omega arith)))

pub slots_ext : (f g : ℕ → ℕ → ℕ) → ((p s : ℕ) → p < 8 → s < 4 → f p s ≡ g p s) → over_slots f ≡ over_slots g
unfolding over_slots
slots_ext f g h = sum_ext 8 (λ p. sum_below 4 (λ s. f p s)) (λ p. sum_below 4 (λ s. g p s)) (λ p lp. sum_ext 4 (λ s. f p s) (λ s. g p s) (λ s ls. h p s lp ls))

pub slots-none : (f : ℕ → ℕ → ℕ) → ((p s : ℕ) → p < 8 → s < 4 → f p s ≡ 0) → over_slots f ≡ 0
unfolding over_slots
slots-none f h = sum-none 8 (λ p. sum_below 4 (λ s. f p s)) (λ p lp. sum-none 4 (λ s. f p s) (λ s ls. h p s lp ls))

pub slots-add : (f g h : ℕ → ℕ → ℕ) → ((p s : ℕ) → p < 8 → s < 4 → f p s + g p s ≡ h p s) → over_slots f + over_slots g ≡ over_slots h
unfolding over_slots
slots-add f g h e =
    sum-add 8 (λ p. sum_below 4 (λ s. f p s)) (λ p. sum_below 4 (λ s. g p s)) (λ p. sum_below 4 (λ s. h p s))
    (λ p lp. sum-add 4 (λ s. f p s) (λ s. g p s) (λ s. h p s) (λ s ls. e p s lp ls))

-- what one slot gains all of them gain
gained : (a b x y f g f' g' : ℕ) → x + g ≡ y + f → f + g' ≡ g + f' → a + g' ≡ b + f' → a + y ≡ b + x
gained a b x y f g f' g' h k l = omega arith

pub slots_one : (f g : ℕ → ℕ → ℕ) (q s a b : ℕ) → q < 8 → s < 4 → ((p t : ℕ) → p < 8 → t < 4 → (p ≢ q) ⊎ (t ≢ s) → f p t ≡ g p t)
    → a + g q s ≡ b + f q s → a + over_slots g ≡ b + over_slots f
unfolding over_slots
slots_one f g q s a b lq ls h e =
    gained a b (sum_below 8 (λ p. sum_below 4 (λ t. f p t))) (sum_below 8 (λ p. sum_below 4 (λ t. g p t))) (sum_below 4 (λ t. f q t)) (sum_below 4 (λ t. g q t))
    (f q s) (g q s)
    (sum_one 8 (λ p. sum_below 4 (λ t. f p t)) (λ p. sum_below 4 (λ t. g p t)) q lq
    (λ p lp d. sum_ext 4 (λ t. f p t) (λ t. g p t) (λ t lt. h p t lp lt (inl d))))
    (sum_one 4 (λ t. f q t) (λ t. g q t) s ls (λ t lt d. h q t lq lt (inr d)))
    e

-- ---- sums along a run

pub along_by : {S T : Type 0} (next : S → Event → S) (next' : T → Event → T) (to : S → T) (f : S → Event → ℕ) (g : T → Event → ℕ)
    → ((w : S) (e : Event) → to (next w e) ≡ next' (to w) e) → ((w : S) (e : Event) → f w e ≡ g (to w) e)
    → (es : List Event) (w : S) → along next f w es ≡ along next' g (to w) es
unfolding along
along_by next next' to f g n h [] w = refl
along_by {T = T} next next' to f g n h (e ∷ es) w =
    ap (λ (x : ℕ). x + along next f (next w e) es) (h w e)
    ∙ ap (λ (x : ℕ). g (to w) e + x) (along_by next next' to f g n h es (next w e) ∙ ap (λ (x : T). along next' g x es) (n w e))

pub along-none : {S : Type 0} (next : S → Event → S) (f : S → Event → ℕ) (w : S) → along next f w [] ≡ 0
unfolding along
along-none next f w = refl

-- one event more
pub along_snoc : {S : Type 0} (next : S → Event → S) (run : S → List Event → S) (f : S → Event → ℕ) → ((w : S) → run w [] ≡ w)
    → ((w : S) (e : Event) (es : List Event) → run w (e ∷ es) ≡ run (next w e) es)
    → (es : List Event) (w : S) (v : Event) → along next f w (es ++ (v ∷ [])) ≡ along next f w es + f (run w es) v
unfolding along
along_snoc {S} next run f none more [] w v = ap (λ (x : S). f x v + 0) (sym (none w)) ∙ omega arith
along_snoc {S} next run f none more (e ∷ es) w v =
    ap (λ (x : ℕ). f w e + x) (along_snoc next run f none more es (next w e) v ∙ ap (λ (x : S). along next f (next w e) es + f x v) (sym (more w e es)))
    ∙ omega arith

-- what holds at first, and of a list with one event more if it does of the list, holds of every list
pub from_past : (P : List Event → Type 0) → ((es : List Event) (v : Event) → P es → P (es ++ (v ∷ []))) → (es past : List Event) → P past → P (past ++ es)
from_past P step [] past h = subst P (sym (append-nil past)) h
from_past P step (v ∷ es) past h = subst P (append_assoc past (v ∷ []) es) (from_past P step es (past ++ (v ∷ [])) (step past v h))

-- ---- counts

pub count_ext : (n : ℕ) (f g : ℕ → Bool) → ((i : ℕ) → i < n → f i ≡ g i) → how_many n f ≡ how_many n g
count_ext zero f g h = refl
count_ext (suc n) f g h = rw (h n (omega arith)) (omega (arith, count_ext n f g (λ i l. h i (omega arith))))

pub count_none : (n : ℕ) (f : ℕ → Bool) → ((i : ℕ) → i < n → f i ≡ false) → how_many n f ≡ 0
count_none zero f h = refl
count_none (suc n) f h = rw (h n (omega arith)) (omega (arith, count_none n f (λ i l. h i (omega arith))))

pub count_all : (n : ℕ) (f : ℕ → Bool) → ((i : ℕ) → i < n → f i ≡ true) → how_many n f ≡ n
count_all zero f h = refl
count_all (suc n) f h = rw (h n (omega arith)) (omega (arith, count_all n f (λ i l. h i (omega arith))))

pub count_most : (n : ℕ) (f : ℕ → Bool) → how_many n f ≤ n
count_most zero f = omega arith
count_most (suc n) f = case_b (f n) (λ e. rw e (omega (arith, count_most n f))) (λ e. rw e (omega (arith, count_most n f)))

-- not all pass
pub count_less : (n : ℕ) (f : ℕ → Bool) (s : ℕ) → s < n → f s ≡ false → how_many n f < n
count_less zero f s l e = absurd (omega arith)
count_less (suc n) f s l e =
    either (below_suc l)
    (λ k. let r : how_many n f < n = count_less n f s k e in case_b (f n) (λ y. rw y (omega arith)) (λ y. rw y (omega arith)))
    (λ z. rw (rw z at e) (omega (arith, count_most n f)))

-- one that passed does not any more
pub count_one : (n : ℕ) (f g : ℕ → Bool) (s : ℕ) → s < n → f s ≡ true → g s ≡ false → ((i : ℕ) → i < n → i ≢ s → f i ≡ g i)
    → how_many n f ≡ suc (how_many n g)
count_one zero f g s l a b h = absurd (omega arith)
count_one (suc n) f g s l a b h =
    either (below_suc l)
    (λ k. let r : how_many n f ≡ suc (how_many n g) = count_one n f g s k a b (λ i q y. h i (omega arith) y) in
    let w : f n ≡ g n = h n (omega arith) (λ y. absurd (omega arith)) in
    rw w (omega arith))
    (λ z. let r : how_many n f ≡ how_many n g = count_ext n f g (λ i k. h i (omega arith) (λ y. absurd (omega arith))) in
    rw (rw z at a, rw z at b) (omega arith))

-- two tests that never pass together
pub count_or : (n : ℕ) (f g : ℕ → Bool) → ((i : ℕ) → f i ≡ true → g i ≡ false) → how_many n (λ i. f i || g i) ≡ how_many n f + how_many n g
count_or zero f g h = refl
count_or (suc n) f g h =
    let ih : how_many n (λ i. f i || g i) ≡ how_many n f + how_many n g = count_or n f g h in
    case_b (f n)
    (λ e. rw (e, h n e) (omega (arith, ih)))
    (λ e. rw e (omega (arith, ih)))

pub count_within : (n a l : ℕ) → how_many n (within a l) ≡ (n - a) - (n - (a + l))
count_within zero a l = omega arith
count_within (suc n) a l =
    case_b (within a l n)
    (λ e. rw e (omega (arith, count_within n a l, within_low a l n e, within_high a l n e)))
    (λ e. rw e (either (outside e) (λ q. omega (arith, count_within n a l)) (λ q. omega (arith, count_within n a l))))
  where
    outside : within a l n ≡ false → (n < a) ⊎ (a + l ≤ n)
    outside e =
        case_b (ltb n a)
        (λ q. inl (ltb-true n a q))
        (λ q. case_b (ltb n (a + l))
        (λ r. clash (cc (within_is a l n (omega (arith, ltb-false n a q)) (ltb-true n (a + l) r))))
        (λ r. inr (omega (arith, ltb-false n (a + l) r))))
