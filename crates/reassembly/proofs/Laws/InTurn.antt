-- One after another (document 01, "Whose packet it is"): a run of the same segment packets alone, whole frame by whole frame. It is a mixing.
use Rattle.std.specs.Prelude.{◌≡◌, refl, Bool, true, List, [], ◌∷◌, ◌++◌, ℕ, zero, suc, ◌≤◌, ◌<◌, length}
use Rattle.std.proofs.Common.{ap, arith}
use Rattle.reassembly.proofs.Laws.Base.{case_b}
use Rattle.reassembly.specs.Receive.{Answers, Reading}
use Rattle.reassembly.specs.Mix.{Frame, Item, given, other, ticks, pending_at, how_many, AllFree, Mixing, InTurn, Only}
use Rattle.reassembly.proofs.Laws.MixFacts.{ticks-append}
use Rattle.reassembly.proofs.Laws.Sums.{count_none}

-- a test that holds at one number below n at most
at_most_one : (n : ℕ) (t : ℕ → Bool) → ((f g : ℕ) → f < n → g < n → t f ≡ true → t g ≡ true → f ≡ g) → how_many n t ≤ 1
at_most_one zero t u = omega arith
at_most_one (suc n) t u =
    case_b (t n)
    (λ e. rw e (omega (arith, count_none n t (λ f l. case_b (t f) (λ q. absurd (omega (arith, u f n (omega arith) (omega arith) q e))) (λ q. q)))))
    (λ e. rw e (omega (arith, at_most_one n t (λ f g lf lg. u f g (omega arith) (omega arith)))))

only-ticks : (xs : List Item) → Only xs → ticks xs ≡ 0
only-ticks [] o = refl
only-ticks (given f j ∷ xs) o = omega (arith, only-ticks xs o.1)
only-ticks (other e ∷ xs) o = absurd o.0

only-free : (W : Answers) (header : List ℕ → Reading W) (p : ℕ) (xs : List Item) → Only xs → AllFree W header p xs
only-free W header p [] o = tt
only-free W header p (given f j ∷ xs) o = (tt, only-free W header p xs o.1)
only-free W header p (other e ∷ xs) o = absurd o.0

pub in_turn_lem : (W : Answers) (header : List ℕ → Reading W) (p : ℕ) (frames : List Frame) (items : List Item) → InTurn frames items
    → Mixing W header p frames items
in_turn_lem W header p frames items h =
    record {
      once = h.once;
      rest = only-free W header p items h.only;
      apart = λ before now after is f g lf lg wf wg q. h.one before now after is f g lf lg wf wg;
      four = λ before now after is. omega (
        arith,
        at_most_one (length frames) (pending_at before now after)
            (λ f g lf lg wf wg. h.one before now after is f g lf lg wf wg),
      );
      soon = λ before middle after f j k is.
          omega (
            arith,
            only-ticks items h.only,
            ap ticks is,
            ticks-append before (given f j ∷ (middle ++ (given f k ∷ after))),
            ticks-append middle (given f k ∷ after),
          );
    }
