-- The account, tried on the shortest runs, so that no term of it is empty: a part of a frame is taken, and pending; four ticks later it has aged out; and a
-- frame that comes in one segment is completed.
use Rattle.std.specs.Prelude.{◌≡◌, Bool, ℕ, ◌+◌, ◌≤◌, ◌<◌}
use Rattle.std.proofs.Math.Path.{refl, ap}
use Rattle.std.proofs.Common.{◌∙◌}
use Rattle.std.proofs.Math.Bool.{true, false, cond}
use mathlib.Core.List.{List, [], ◌∷◌}
use native.Mathlib.Omega.{arith}
use Rattle.std.proofs.Math.ListN.{length}
use Rattle.reassembly.proofs.Laws.Base.{clash}
use Rattle.reassembly.specs.Take.{Seg, Fits, Complete}
use Rattle.reassembly.specs.Receive.{Answers, segment, Event, receive, tick}
use Rattle.reassembly.specs.SetUp.{Layers, Kept, Endpoint, World, receives, next, runs}
use Rattle.reassembly.specs.History.{frame_complete, taking}
use Rattle.reassembly.specs.EveryRun.{EveryRun}
use Rattle.reassembly.specs.Account.{along, takes, completes, bytes_taken, bytes_completed, marked, bytes_pending, is_pending, taken_at, completed_at, aged_at}
use Rattle.reassembly.proofs.Laws.EveryRun.{given_up}
use Rattle.reassembly.proofs.Laws.RulesTake.{nothing-pending}
use Rattle.reassembly.proofs.Laws.RulesTried as T
use Rattle.reassembly.proofs.Laws.Sums.{slots-none}
use Rattle.reassembly.proofs.Laws.Account.{Numbered, pending-takes, completes-takes, pending-number, complete-number, accounting}

module _ (W : Answers) (Config : Type 0) (U : Layers W Config) (number : W.A → ℕ) (e : Endpoint Config) (rules : (p : ℕ) → p < 8 → EveryRun W Config U p e)
    (kept : (k : List ℕ) → Kept W (U.header e.config k)) (numbered : Numbered W Config U number e.config) (m : List ℕ) (enough : 55296 ≤ length m)
    (p : ℕ) (p< : p < 8) (k : List ℕ) (g : Seg) (sound : U.header e.config k ≡ segment p g) (f : Fits g) where
  abbrev world : World Config
  world = record { ends = e; mem = m }

  abbrev taken : List Event → ℕ
  taken es = along (next W Config U) (taken_at W Config U number e.config) world es

  abbrev completed : List Event → ℕ
  completed es = along (next W Config U) (completed_at W Config U number e.config) world es

  abbrev aged_out : List Event → ℕ
  aged_out es = along (next W Config U) (aged_at W Config U number e.config) world es

  abbrev pending_now : List Event → ℕ
  pending_now es = bytes_pending (is_pending (runs W Config U world es)) (runs W Config U world es).mem

  abbrev n : ℕ
  n = number (receives W Config U world k).reply

  taken-first : takes n ≡ true → bytes_taken W n (U.header e.config k) ≡ length g.bytes
  unfolding bytes_taken
  taken-first t = rw (sound, t) refl

  completed-first : (b : Bool) → completes n ≡ b → bytes_completed W n (U.header e.config k) ≡ cond b g.frame_length 0
  unfolding bytes_completed
  completed-first b c = rw (sound, c) refl

  abbrev balance : (es : List Event) → taken es ≡ completed es + aged_out es + pending_now es
  balance es = accounting W Config U number e rules kept numbered m enough es

  -- ---- a part of a frame

  module _ (a-part : frame_complete (g ∷ []) ≡ false) where
    abbrev later : List Event
    later = receive k ∷ tick ∷ tick ∷ tick ∷ tick ∷ []

    is_one : n ≡ 1
    unfolding runs
    is_one =
        pending-number W Config U number e rules kept numbered m enough [] k p p< g sound
        (T.first W Config U p e (rules p p<) m enough k g sound f a-part).0

    its_bytes : bytes_taken W n (U.header e.config k) ≡ length g.bytes
    its_bytes = taken-first (ap takes is_one ∙ pending-takes.0)

    no_length : bytes_completed W n (U.header e.config k) ≡ 0
    no_length = completed-first false (ap completes is_one ∙ pending-takes.1)

    -- it is pending
    pub first-pending : (taken (receive k ∷ []) ≡ length g.bytes) × (pending_now (receive k ∷ []) ≡ length g.bytes)
    unfolding along
    first-pending =
        let t : taken (receive k ∷ []) ≡ length g.bytes = ap (λ (x : ℕ). x + 0) its_bytes ∙ omega arith in
        let c : completed (receive k ∷ []) ≡ 0 = ap (λ (x : ℕ). x + 0) no_length in
        let a : aged_out (receive k ∷ []) ≡ 0 = refl in
        (t, omega (arith, t, c, a, balance (receive k ∷ [])))

    -- no slot of any peer's is pending after four ticks
    none_left : pending_now later ≡ 0
    unfolding bytes_pending
    none_left =
        slots-none (λ q s. cond (is_pending (runs W Config U world later) q s) (marked (runs W Config U world later).mem q s) 0)
        (λ q s lq ls. let z : is_pending (runs W Config U world later) q s ≡ false = given_up _ _ _ ((rules q lq).stands m enough later s ls) (omega arith) in
        rw z refl)

    -- it has aged out
    pub four_ticks-later : (taken later ≡ length g.bytes) × ((aged_out later ≡ length g.bytes) × (pending_now later ≡ 0))
    unfolding along
    four_ticks-later =
        let t : taken later ≡ length g.bytes = ap (λ (x : ℕ). x + (0 + (0 + (0 + (0 + 0))))) its_bytes ∙ omega arith in
        let c : completed later ≡ 0 = ap (λ (x : ℕ). x + (0 + (0 + (0 + (0 + 0))))) no_length in
        (t, (omega (arith, t, c, none_left, balance later), none_left))

  -- ---- a frame in one segment

  pub at_once : frame_complete (g ∷ []) ≡ true → (taken (receive k ∷ []) ≡ length g.bytes) × (completed (receive k ∷ []) ≡ g.frame_length)
  unfolding along runs
  at_once c =
      let o : (taking W Config U p (runs W Config U world []) g).outcome ≡ Complete 0 =
      (((rules p p<).ruled m enough [] k g sound f).opens 0
      (record {
        none_bears = λ s w. clash (cc (nothing-pending 0, w.pending));
        lowest = record { is_slot = omega arith; idle = nothing-pending 0; below = λ t l. absurd (omega arith) };
      })).outcome
      ∙ rw c in
      let w : completes n ≡ true = complete-number W Config U number e rules kept numbered m enough [] k p p< g sound 0 f o in (
        ap (λ (x : ℕ). x + 0) (taken-first (completes-takes n w)) ∙ omega arith,
        ap (λ (x : ℕ). x + 0) (completed-first true w) ∙ omega arith,
      )
