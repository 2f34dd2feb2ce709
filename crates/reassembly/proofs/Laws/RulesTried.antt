-- The slot rules, tried on the shortest runs, so that no clause of them is empty: from a set-up any part of a frame opens slot 0; the same packet again is
-- 16; three ticks later the frame is still pending; after a fourth it is not, and the same packet opens slot 0 anew.
use Rattle.std.specs.Prelude.{◌≡◌, refl, true, false, List, [], ◌∷◌, ℕ, zero, suc, ◌≤◌, ◌<◌, length, eqb}
use Rattle.std.proofs.Common.{◌∙◌, arith, eqb-true}
use Rattle.std.proofs.lemmas.Bool.{eqb-false}
use Rattle.reassembly.proofs.Laws.Base.{case_b, clash}
use Rattle.reassembly.specs.Take.{Seg, Outcome, Rejected, Pending, AlreadyReceived, Fits}
use Rattle.reassembly.proofs.Laws.Memory.{within_is}
use Rattle.reassembly.specs.Receive.{Answers, segment, Event, receive, tick}
use Rattle.reassembly.specs.SetUp.{Layers, Endpoint, World, runs}
use Rattle.reassembly.specs.History.{carries, taking, frame_complete, frame_pending, History, pending_in, Opens, history_of}
use Rattle.reassembly.specs.EveryRun.{EveryRun}
use Rattle.reassembly.proofs.Laws.RulesTake.{nothing-pending}
use Rattle.reassembly.specs.Slots.{most_slots}

-- segments alone, t ticks after the first
alone : (g : Seg) (t : ℕ) → frame_complete (g ∷ []) ≡ false → t < most_slots → frame_pending (g ∷ []) t ≡ true
unfolding frame_pending
alone g zero e l = rw e
alone g (suc zero) e l = rw e
alone g (suc (suc zero)) e l = rw e
alone g (suc (suc (suc zero))) e l = rw e
alone g (suc (suc (suc (suc t)))) e l = absurd (omega arith)

too_old : (gs : List Seg) → frame_pending gs 4 ≡ false
unfolding frame_pending
too_old gs = refl

module _ (W : Answers) (Config : Type 0) (U : Layers W Config) (p : ℕ) (e : Endpoint Config) (rules : EveryRun W Config U p e) (m : List ℕ)
    (enough : 55296 ≤ length m) (k : List ℕ) (g : Seg) (sound : U.header e.config k ≡ segment p g) (f : Fits g)
    (a-part : frame_complete (g ∷ []) ≡ false) where
  abbrev world : World Config
  world = record { ends = e; mem = m }

  abbrev take_answer : List Event → History
  take_answer es = history_of W Config U p world es

  abbrev outcome : List Event → Outcome
  outcome es = (taking W Config U p (runs W Config U world es) g).outcome

  -- it opens slot 0
  pub opens_first : Opens (take_answer []) g 0
  opens_first =
      record {
        none_bears = λ s w. clash (cc (nothing-pending 0, w.pending));
        lowest = record { is_slot = omega arith; idle = nothing-pending 0; below = λ t l. absurd (omega arith) };
      }

  pub first : (outcome [] ≡ Pending) × (((take_answer (receive k ∷ [])).taken 0 ≡ g ∷ []) × ((take_answer (receive k ∷ [])).ticks 0 ≡ 0))
  first = let t = (rules.ruled m enough [] k g sound f).opens 0 opens_first in (t.outcome ∙ rw a-part, (t.segments, t.clock))

  -- and again: 16
  pub again : outcome (receive k ∷ []) ≡ Rejected AlreadyReceived
  again =
      let s : (take_answer (receive k ∷ [])).taken 0 ≡ g ∷ [] = first.1.0 in
      let c : (take_answer (receive k ∷ [])).ticks 0 ≡ 0 = first.1.1 in
      let b : carries g g.offset ≡ true = within_is g.offset (length g.bytes) g.offset (omega arith) (omega (arith, f.some_byte)) in
      (rules.ruled m enough (receive k ∷ []) k g sound f).sixteen.all
      (record {
        slot = 0;
        bears = record { is_slot = omega arith; pending = rw (s, c) (alone g 0 a-part (omega arith)); identifier = rw s };
        same = rw s;
        byte = g.offset;
        its = b;
        already = rw s (rw b);
      })

  -- three ticks later it is pending; four, and it is not
  pub third : pending_in (take_answer (receive k ∷ tick ∷ tick ∷ tick ∷ [])) 0 ≡ true
  third = rw (first.1.0, first.1.1) (alone g 3 a-part (omega arith))

  pub fourth : pending_in (take_answer (receive k ∷ tick ∷ tick ∷ tick ∷ tick ∷ [])) 0 ≡ false
  fourth = rw (first.1.0, first.1.1) (too_old (g ∷ []))

  -- and the same packet opens slot 0 anew
  pub anew : Opens (take_answer (receive k ∷ tick ∷ tick ∷ tick ∷ tick ∷ [])) g 0
  anew =
      record {
        none_bears = λ s w. clash (cc (idle s, w.pending));
        lowest = record { is_slot = omega arith; idle = fourth; below = λ t l. absurd (omega arith) };
      }
    where
      idle : (s : ℕ) → pending_in (take_answer (receive k ∷ tick ∷ tick ∷ tick ∷ tick ∷ [])) s ≡ false
      idle s =
          let t = (rules.ruled m enough [] k g sound f).opens 0 opens_first in
          case_b (eqb s 0)
          (λ q. rw (eqb-true s 0 q) fourth)
          (λ q. let o = t.others s (eqb-false s 0 q) in rw o.0 (nothing-pending ((take_answer (receive k ∷ tick ∷ tick ∷ tick ∷ tick ∷ [])).ticks s)))
