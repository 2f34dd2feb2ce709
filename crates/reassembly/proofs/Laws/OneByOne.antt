-- One after another is possible for any frames: the list that gives frame 0's segments, then frame 1's, and so on.
use Rattle.std.specs.Prelude.{◌≡◌, refl, ◌≢◌, Bool, true, cond, ◌&&◌, List, [], ◌∷◌, ◌++◌, ℕ, zero, suc, ◌-◌, ◌≤◌, ◌<◌, length, get_or, ltb, eqb}
use Rattle.std.proofs.Common.{sym, ap, subst, ◌∙◌, append_assoc, arith, zero-add, ltb-true, ltb-false, eqb-true, lt-ltb, le-ltb, ne_eqb}
use Rattle.std.proofs.Math.Nat.{sub-zero}
use Rattle.std.proofs.Math.Dec.{leb-suc-suc}
use Rattle.std.proofs.lemmas.Bool.{eqb-false}
use Rattle.reassembly.proofs.Laws.Base.{case_b, and_l, and_r}
use Rattle.reassembly.specs.Base.{table}
use Rattle.reassembly.specs.Receive.{Event}
use Rattle.reassembly.specs.Mix.{Frame, no_frame, Item, given, other, times, segments_of, pending_at, InTurn, Only}
use Rattle.reassembly.proofs.Laws.MixFacts.{times-append, of_append}

abbrev pub block : ℕ → ℕ → List Item
block f n = table n (λ j. given f j)

unfoldable pub turns : ℕ → List Frame → List Item
turns lo [] = []
turns lo (fr ∷ frs) = block lo (length fr.parts) ++ turns (suc lo) frs

-- ---- each segment once

block-times : (g n f j : ℕ) → times f j (block g n) ≡ cond (eqb g f && ltb j n) 1 0
unfolding table
block-times g zero f j = case_b (eqb g f) (λ e. rw (e, le-ltb j 0 (omega arith))) (λ e. rw e)
block-times g (suc n) f j =
    times-append f j (block g n) (given g n ∷ [])
    ∙ rw (block-times g n f j)
    (case_b (eqb g f)
    (λ e. rw e
    (case_b (eqb n j)
    (λ q. rw (q, le-ltb j n (omega (arith, eqb-true n j q)), lt-ltb j (suc n) (omega (arith, eqb-true n j q))))
    (λ q. let d : n ≢ j = eqb-false n j q in
    case_b (ltb j n)
    (λ r. rw (q, r, lt-ltb j (suc n) (omega (arith, ltb-true j n r))))
    (λ r. rw (q, r, le-ltb j (suc n) (omega (arith, ltb-false j n r)))))))
    (λ e. rw e))

turns-times : (frs : List Frame) (lo f j : ℕ) → lo ≤ f
    → times f j (turns lo frs) ≡ cond (ltb (f - lo) (length frs) && ltb j (length (get_or frs (f - lo) no_frame).parts)) 1 0
unfolding turns
turns-times [] lo f j l = rw (le-ltb (f - lo) 0 (omega arith))
turns-times (fr ∷ frs) lo f j l =
    times-append f j (block lo (length fr.parts)) (turns (suc lo) frs)
    ∙ rw (block-times lo (length fr.parts) f j)
    (case_b (eqb lo f)
    (λ e. let q : lo ≡ f = eqb-true lo f e in
    let z : f - lo ≡ 0 = omega arith in
    rw (e, z, lt-ltb 0 (suc (length frs)) (omega arith)) (omega (arith, turns_low frs (suc lo) f j (omega arith))))
    (λ e. let d : lo ≢ f = eqb-false lo f e in
    let z : f - lo ≡ suc (f - suc lo) = omega arith in
    rw (e, z, leb-suc-suc (suc (f - suc lo)) (length frs)) (zero-add (times f j (turns (suc lo) frs)) ∙ turns-times frs (suc lo) f j (omega arith))))
  where
    turns_low : (frs : List Frame) (lo f j : ℕ) → f < lo → times f j (turns lo frs) ≡ 0
    turns_low [] lo f j l = refl
    turns_low (fr ∷ frs) lo f j l =
        times-append f j (block lo (length fr.parts)) (turns (suc lo) frs)
        ∙ rw (block-times lo (length fr.parts) f j, ne_eqb lo f (λ q. absurd (omega arith))) (omega (arith, turns_low frs (suc lo) f j (omega arith)))

-- ---- whole frame by whole frame: the frames' numbers never fall

abbrev Rising : ℕ → List Item → Type 0
Rising lo [] = Unit {0}
Rising lo (given f j ∷ xs) = (lo ≤ f) × Rising f xs
Rising lo (other e ∷ xs) = ⊥

rising_weaken : (lo hi : ℕ) (xs : List Item) → lo ≤ hi → Rising hi xs → Rising lo xs
rising_weaken lo hi [] l r = tt
rising_weaken lo hi (given f j ∷ xs) l r = (omega (arith, r.0), r.1)
rising_weaken lo hi (other e ∷ xs) l r = absurd r

rising_low : (lo f : ℕ) (xs : List Item) → f < lo → Rising lo xs → segments_of f xs ≡ 0
rising_low lo f [] l r = refl
rising_low lo f (given g j ∷ xs) l r = rw (ne_eqb g f (λ q. absurd (omega (arith, r.0)))) (omega (arith, rising_low g f xs (omega (arith, r.0)) r.1))
rising_low lo f (other e ∷ xs) l r = absurd r

-- what stands before a segment of frame h has no later frame, and what stands after it no earlier one
record At (h : ℕ) (before after : List Item) : Type 0 where
  early : (f : ℕ) → h < f → segments_of f before ≡ 0
  late : (f : ℕ) → f < h → segments_of f after ≡ 0

rising_at : (lo h j : ℕ) (before after : List Item) → Rising lo (before ++ (given h j ∷ after)) → (lo ≤ h) × At h before after
rising_at lo h j [] after r = (r.0, record { early = λ f l. refl; late = λ f l. rising_low h f after l r.1 })
rising_at lo h j (given g k ∷ before) after r =
    let i = rising_at g h j before after r.1 in (
      omega (arith, r.0, i.0),
      record {
        early = λ f l. rw (ne_eqb g f (λ q. absurd (omega (arith, i.0)))) (omega (arith, i.1.early f l));
        late = i.1.late;
      },
    )
rising_at lo h j (other e ∷ before) after r = absurd r

rising_other : (lo : ℕ) (before after : List Item) (e : Event) → Rising lo (before ++ (other e ∷ after)) → ⊥
rising_other lo [] after e r = r
rising_other lo (given g k ∷ before) after e r = rising_other g before after e r.1
rising_other lo (other e' ∷ before) after e r = r

rising_block : (lo n : ℕ) (xs : List Item) → Rising lo xs → Rising lo (block lo n ++ xs)
unfolding table
rising_block lo zero xs r = r
rising_block lo (suc n) xs r = rw append_assoc (rising_block lo n (given lo n ∷ xs) (omega arith, r))

rising_turns : (lo : ℕ) (frs : List Frame) → Rising lo (turns lo frs)
unfolding turns
rising_turns lo [] = tt
rising_turns lo (fr ∷ frs) = rising_block lo (length fr.parts) (turns (suc lo) frs)
    (rising_weaken lo (suc lo) (turns (suc lo) frs) (omega arith) (rising_turns (suc lo) frs))

rising_only : (lo : ℕ) (xs : List Item) → Rising lo xs → Only xs
rising_only lo [] r = tt
rising_only lo (given f j ∷ xs) r = (tt, rising_only f xs r.1)
rising_only lo (other e ∷ xs) r = absurd r

-- a frame pending at a segment of frame h is h
under_is : (h j : ℕ) (before after : List Item) → At h before after → (f : ℕ) → pending_at before (given h j) after f ≡ true → f ≡ h
under_is h j before after a f w =
    let b : 0 < segments_of f (before ++ (given h j ∷ [])) =
    ltb-true _ _ (and_l (ltb 0 (segments_of f (before ++ (given h j ∷ [])))) (ltb 0 (segments_of f (given h j ∷ after))) w) in
    let c : 0 < segments_of f (given h j ∷ after) = ltb-true _ _
    (and_r (ltb 0 (segments_of f (before ++ (given h j ∷ [])))) (ltb 0 (segments_of f (given h j ∷ after))) w) in
    case_b (eqb h f)
    (λ e. sym (eqb-true h f e))
    (λ e. let d : h ≢ f = eqb-false h f e in
    case_b (ltb h f)
    (λ q. absurd (omega (arith, of_append f before (given h j ∷ []), a.early f (ltb-true h f q), ap {B = ℕ} (λ (t : Bool). cond t 1 0) e)))
    (λ q. absurd (omega (arith, a.late f (omega (arith, ltb-false h f q)), ap {B = ℕ} (λ (t : Bool). cond t 1 0) e))))

pub turns-in_turn : (frames : List Frame) → InTurn frames (turns 0 frames)
turns-in_turn frames =
    record {
      once = λ f j. turns-times frames 0 f j (omega arith) ∙ ap {B = ℕ}
          (λ (n : ℕ). cond (ltb n (length frames) && ltb j (length (get_or frames n no_frame).parts)) 1 0) (sub-zero f);
      only = rising_only 0 (turns 0 frames) (rising_turns 0 frames);
      one = λ before now after is f g lf lg wf wg. alone before now after (subst (λ (t : List Item). Rising 0 t) is (rising_turns 0 frames)) f g wf wg;
    }
  where
    alone : (before : List Item) (now : Item) (after : List Item) → Rising 0 (before ++ (now ∷ after)) → (f g : ℕ) → pending_at before now after f ≡ true
        → pending_at before now after g ≡ true → f ≡ g
    alone before (given h j) after r f g wf wg = let a = (rising_at 0 h j before after r).1 in under_is h j before after a f wf
        ∙ sym (under_is h j before after a g wg)
    alone before (other e) after r f g wf wg = absurd (rising_other 0 before after e r)
