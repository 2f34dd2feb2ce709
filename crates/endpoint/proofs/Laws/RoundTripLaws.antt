-- What the round trip's proof uses: orders of segments; a run of one frame's segments, by demand 3's delivery; and an answer of a run as an answer of the call.
use Rattle.std.specs.Prelude.{ℕ, zero, suc, ◌+◌, ◌<◌, ◌≤◌, ◌≡◌, refl, Bool, true, cond, List, [], ◌∷◌, ◌++◌, map, length, drop, ltb, eqb, Result}
use Rattle.std.proofs.Common.{sym, ap, ap₂, ◌∙◌, arith, zero-add, ltb-true, eq-eqb, ne_eqb, lt-ltb, le-ltb}
use Rattle.reassembly.proofs.Laws.Base.{case_b}
use Rattle.reassembly.specs.Receive.{Event, receive, Answer, view_of}
use Rattle.reassembly.specs.Mix as M
use Rattle.reassembly.specs.Mix.{Right, InTurn, Only}
use Rattle.reassembly.proofs.Laws.InTurn.{in_turn_lem}
use Rattle.reassembly.proofs.Laws.MixFacts.{event-given}
use Rattle.reassembly.proofs.Laws.SetUp.{answer_reply, answer-bytes, answer_in_lem}
use Rattle.reassembly.specs.SetUp.{Replied, receives, runs, answer_of}
use Rattle.reassembly.specs.Claim.{Cuts}
use Rattle.endpoint.specs.Answer.{place_of, values_of}
use Rattle.endpoint.specs.Config.{Config, config_of}
use Rattle.endpoint.specs.Receive.{answers, layers, header_of, judge_of, step_of, world_of, in_lent_memory}
use Rattle.endpoint.specs.Run.{Left, ends_of}
use Rattle.endpoint.proofs.Laws.Calls.{receive_is}
use Rattle.endpoint.specs.Demand2.{Delivers}
use Rattle.reassembly.specs.Claim.{Claim}
use Rattle.endpoint.specs.RoundTrip.{times_in, Order, arrivals, Answered}
use Rattle.endpoint.specs.declared.answer.Target.{Target}
use Rattle.endpoint.specs.declared.answer.Place.{Place}
use Rattle.endpoint.specs.declared.answer.Received.{Received}
use Rattle.endpoint.specs.declared.config.Endpoint.{Endpoint}
use Rattle.endpoint.specs.declared.answer.Drop.{Drop}

-- ---- orders

times-append : (k : ℕ) (xs ys : List ℕ) → times_in k (xs ++ ys) ≡ times_in k xs + times_in k ys
unfolding times_in
times-append k [] ys = omega arith
times-append k (x ∷ xs) ys = omega (arith, times-append k xs ys)

times-here : (k : ℕ) (xs : List ℕ) → times_in k (k ∷ xs) ≡ 1 + times_in k xs
unfolding times_in
times-here k xs = rw (eq-eqb k k refl)

times_more : (k x : ℕ) (xs : List ℕ) → times_in k xs ≤ times_in k (x ∷ xs)
unfolding times_in
times_more k x xs = omega arith

counted : (count : ℕ) (order : List ℕ) → Order count order → (k : ℕ) → 0 < times_in k order → k < count
counted count order o k h =
    case_b (ltb k count)
    (λ q. ltb-true k count q)
    (λ q. let z : times_in k order ≡ 0 = o.once k ∙ ap {B = ℕ} (λ (t : Bool). cond t 1 0) q in absurd (omega arith))

-- every number of the list is below n
abbrev pub Below : ℕ → List ℕ → Type 0
Below n [] = Unit {0}
Below n (x ∷ xs) = (x < n) × Below n xs

all_below_lem : (n : ℕ) (xs : List ℕ) → ((k : ℕ) → 0 < times_in k xs → k < n) → Below n xs
all_below_lem n [] f = tt
all_below_lem n (x ∷ xs) f = (f x (omega (arith, times-here x xs)), all_below_lem n xs (λ k h. f k (omega (arith, times_more k x xs))))

module _ (count : ℕ) (order : List ℕ) (o : Order count order) (before : List ℕ) (k : ℕ) (after : List ℕ) (is : order ≡ before ++ (k ∷ after)) where
  split : (j : ℕ) → times_in j order ≡ times_in j before + times_in j (k ∷ after)
  split j = ap (times_in j) is ∙ times-append j before (k ∷ after)

  pub now_below : k < count
  now_below = counted count order o k (omega (arith, split k, times-here k after))

  pub before_below : Below count before
  before_below = all_below_lem count before (λ j h. counted count order o j (omega (arith, split j)))

  pub after_below : Below count after
  after_below = all_below_lem count after (λ j h. counted count order o j (omega (arith, split j, times_more j k after)))

-- one segment: it is the first and the last
pub only_one : (order : List ℕ) → Order 1 order → (before : List ℕ) (k : ℕ) (after : List ℕ) → order ≡ before ++ (k ∷ after) → (before ≡ []) × (k ≡ 0)
    × (after ≡ [])
only_one order o before k after is =
    let z : k ≡ 0 = omega (arith, now_below 1 order o before k after is) in
    let one : times_in k order ≡ 1 = o.once k ∙ rw (lt-ltb k 1 (omega arith)) in
    let all : times_in k before + times_in k after ≡ 0 = omega (arith, split 1 order o before k after is k, times-here k after) in
    (none before (before_below 1 order o before k after is) (omega arith), z, none after (after_below 1 order o before k after is) (omega arith))
  where
    none : (xs : List ℕ) → Below 1 xs → times_in k xs ≡ 0 → xs ≡ []
    none [] b t = refl
    none (x ∷ xs) b t =
        let q : x ≡ k = omega (arith, b.0, now_below 1 order o before k after is) in
        absurd (omega (arith, times-here k xs, ap (λ (y : ℕ). times_in k (y ∷ xs)) q))

pub same-arrivals : (packets packets' : ℕ → List ℕ) (n : ℕ) → ((k : ℕ) → k < n → packets k ≡ packets' k) → (xs : List ℕ) → Below n xs → arrivals packets xs
    ≡ arrivals packets' xs
same-arrivals packets packets' n f [] b = refl
same-arrivals packets packets' n f (x ∷ xs) b = ap₂ (λ (k : List ℕ) (r : List Event). receive k ∷ r) (f x b.0) (same-arrivals packets packets' n f xs b.1)

-- ---- the segments of one frame, given in an order, are a mixing of that frame alone

abbrev labels : List ℕ → List M.Item
labels order = map (λ (k : ℕ). M.given 0 k) order

labels-only : (order : List ℕ) → Only (labels order)
labels-only [] = tt
labels-only (x ∷ xs) = (tt, labels-only xs)

labels-times : (f j : ℕ) (order : List ℕ) → M.times f j (labels order) ≡ cond (eqb 0 f) (times_in j order) 0
unfolding times_in
labels-times f j [] = case_b (eqb 0 f) (λ q. rw q) (λ q. rw q)
labels-times f j (x ∷ xs) =
    case_b (eqb 0 f)
    (λ q. rw q (ap (λ (n : ℕ). cond (eqb x j) 1 0 + n) (labels-times f j xs ∙ rw q)))
    (λ q. rw q (zero-add (M.times f j (labels xs)) ∙ labels-times f j xs ∙ rw q))

labels-segments : (order : List ℕ) → M.segments_of 0 (labels order) ≡ length order
labels-segments [] = refl
labels-segments (x ∷ xs) = omega (arith, labels-segments xs)

labels_append : (xs ys : List ℕ) → labels (xs ++ ys) ≡ labels xs ++ labels ys
labels_append [] ys = refl
labels_append (x ∷ xs) ys = ap (λ (l : List M.Item). M.given 0 x ∷ l) (labels_append xs ys)

module _ (fr : M.Frame) (order : List ℕ) (o : Order (length fr.parts) order) where
  labels-turn : InTurn (fr ∷ []) (labels order)
  labels-turn = record {
    once = λ f j. labels-times f j order ∙ at f j;
    only = labels-only order;
    one = λ before now after is f g lf lg wf wg. omega arith;
  }
    where
      at : (f j : ℕ) → cond (eqb 0 f) (times_in j order) 0 ≡ cond (M.is_segment (fr ∷ []) f j) 1 0
      at zero j = o.once j
      at (suc f) j = rw (ne_eqb 0 (suc f) (λ q. absurd (omega arith)), le-ltb (suc f) 1 (omega arith))

  labels_events : (xs : List ℕ) → map (M.event (fr ∷ [])) (labels xs) ≡ arrivals (λ k. (M.part_of fr k).packet) xs
  labels_events [] = refl
  labels_events (x ∷ xs) =
      ap (λ (r : List Event). M.event (fr ∷ []) (M.given 0 x) ∷ r) (labels_events xs)
      ∙ ap (λ (v : Event). v ∷ arrivals (λ k. (M.part_of fr k).packet) xs) (event-given (fr ∷ []) 0 x)

-- what holds of the only number below one
abbrev below_one : (P : ℕ → Type 0) → P 0 → (j : ℕ) → j < 1 → P j
below_one P a zero l = a
below_one P a (suc j) l = absurd (omega arith)

-- by demand 3, each of them is answered as it should be
pub one_frame : (e : Endpoint) (p : ℕ) → Claim answers Config layers (ends_of e) p
    → (fr : M.Frame) (cut : M.Cut answers (header_of (config_of e)) (judge_of (config_of e)) p fr)
    → (order : List ℕ) → Order (length fr.parts) order → (m : List ℕ) → 55296 ≤ length m → (before : List ℕ) (k : ℕ) (after : List ℕ) → order ≡ before
    ++ (k ∷ after)
    → Right answers p fr cut.verdict (length after)
    (answer_of answers Config layers (runs answers Config layers (world_of e m) (arrivals (λ j. (M.part_of fr j).packet) before)) (M.part_of fr k).packet)
one_frame e p claims fr cut order o m enough before k after is =
    let cuts : Cuts answers Config layers (config_of e) p (fr ∷ []) =
    below_one (λ f. M.Cut answers (header_of (config_of e)) (judge_of (config_of e)) p (M.frame_of (fr ∷ []) f)) cut in
    let right = claims.delivers (fr ∷ []) cuts (labels order)
    (in_turn_lem answers (header_of (config_of e)) p (fr ∷ []) (labels order) (labels-turn fr order o)) m enough
    (labels before) (labels after) 0 k (omega arith) (ap labels is ∙ labels_append before (k ∷ after)) in
    rw (answer_in_lem answers Config layers (world_of e m) (fr ∷ []) (labels before) 0 k, labels-segments after, labels_events fr order o before) at right

-- ---- an answer of a run, as the call gives it

abbrev answer_by : Left → List ℕ → Answer answers
answer_by w k = answer_of answers Config layers (world_of w.endpoint w.mem) k

module _ (w : Left) (k : List ℕ) where
  reply_is : (step_of w.endpoint w.mem k).answer ≡ (answer_by w k).reply
  reply_is =
      ap (λ (s : Replied answers Config layers). s.reply) (receive_is w.endpoint w.mem k)
      ∙ sym (answer_reply answers Config layers (world_of w.endpoint w.mem) k)

  mem_is : (step_of w.endpoint w.mem k).mem ≡ (receives answers Config layers (world_of w.endpoint w.mem) k).world.mem
  mem_is = ap (λ (s : Replied answers Config layers). s.world.mem) (receive_is w.endpoint w.mem k)

  answer-delivers : (t : Target) (start n : ℕ) (frame : List ℕ) → (answer_by w k).reply ≡ in_lent_memory t start n → (answer_by w k).bytes ≡ frame
      → Delivers w.endpoint w.mem k t frame
  answer-delivers t start n frame r b =
      let place : Place = record { start = start; length = n; in_memory = true } in
      record {
        place = place;
        answer = reply_is ∙ r;
        views =
            ap (λ (m : List ℕ). view_of k m (place_of place)) mem_is
            ∙ ap (λ (a : Result Received Drop). view_of k (receives answers Config layers (world_of w.endpoint w.mem) k).world.mem (values_of a).place)
            (sym (sym (answer_reply answers Config layers (world_of w.endpoint w.mem) k) ∙ r))
            ∙ sym (answer-bytes answers Config layers (world_of w.endpoint w.mem) k)
            ∙ b;
      }

pub right_answered : (w : Left) (k : List ℕ) (p : ℕ) (fr : M.Frame) (t : Target) (frame : List ℕ) (later : ℕ) → drop 18 fr.content ≡ frame
    → Right answers p fr t later (answer_by w k) → Answered w k t frame later
right_answered w k p fr t frame later inner right = record {
  waits = λ l. reply_is w k ∙ ap (λ (a : Answer answers). a.reply) (right.waits l);
  delivers = λ l. answer-delivers w k t _ _ frame (right.delivers l) (right.bytes l ∙ inner);
}
