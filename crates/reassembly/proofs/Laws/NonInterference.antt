-- Demand 3, first half: two runs alike for a peer give that peer the same answers, whatever the other senders sent and whatever the two memories held at first.
use Rattle.std.specs.Prelude.{◌≡◌, refl, List, [], ℕ, ◌<◌, get_or}
use Rattle.std.proofs.Common.{ap}
use Rattle.std.proofs.lemmas.List.{get_or-replicate}
use Rattle.reassembly.proofs.Laws.Base.{clash}
use Rattle.reassembly.specs.Slots.{Note, no_row, free, empty_rows, empty_row, most_peers, most_slots}
use Rattle.reassembly.proofs.Laws.Slots.{slots_of}
use Rattle.reassembly.specs.Take.{Ops}
use Rattle.reassembly.proofs.Laws.Memory.{Laws}
use Rattle.reassembly.specs.Receive.{Answers, Event, Verdict, Reading}
use Rattle.reassembly.proofs.Laws.Runs.{State, Listed, own, answers, Sim, answers_sim}
use Rattle.reassembly.proofs.Laws.Sim.{RowOk}
use Rattle.reassembly.specs.SetUp.{strike}
use Rattle.reassembly.proofs.Laws.Ghost.{ghost, ghost_laws}

pub empty-at : (q : ℕ) → q < most_peers → (get_or empty_rows q no_row).slots ≡ empty_row
empty-at q l = ap slots_of (get_or-replicate most_peers q (record { slots = empty_row }) no_row l)

pub empty-free : (s : ℕ) → s < most_slots → get_or empty_row s free ≡ free
empty-free s l = get_or-replicate most_slots s free free l

-- the state that a set-up leaves: every slot free, over a memory of any contents
-- Open: only data
abbrev pub start : (O : Ops) → O.S → State O
start O m = record { peers = empty_rows; mem = m }

-- Open: only data
abbrev pub ghost_start : State ghost
ghost_start = record { peers = empty_rows; mem = λ k. [] }

empty-row : RowOk empty_row
empty-row = record { four = refl; sizes = λ s l t. let z : get_or empty_row s free ≡ free = empty-free s l in clash (cc) }

pub start_sim : (O : Ops) (p : ℕ) → p < most_peers → (m : O.S) → O.Ok m → Sim O ghost p (start O m) ghost_start
start_sim O p p< m o =
    record {
      rows_ok = λ q l. rw (empty-at q l) empty-row;
      eight_a = refl;
      eight_b = refl;
      row = refl;
      same = rw (empty-at p p<) (record {
        row_ok = empty-row;
        ok_a = o;
        ok_b = tt;
        agree = λ s l t. let z : get_or empty_row s free ≡ free = empty-free s l in
            clash (cc);
      });
    }

module _ (W : Answers) (judge : ℕ → Note → List ℕ → Verdict W) (O : Ops) (L : Laws O) (header : List ℕ → Reading W)
    (listed : (k : List ℕ) → Listed W (header k)) (p : ℕ) (p< : p < most_peers) where
  pub non_interference : (m m' : O.S) → O.Ok m → O.Ok m' → (es es' : List Event) → strike (own W header p) es ≡ strike (own W header p) es'
      → answers W header p judge O (start O m) es ≡ answers W header p judge O (start O m') es'
  non_interference m m' o o' es es' alike =
      cc (
        answers_sim W judge O ghost L ghost_laws header listed p p< es (start O m) ghost_start (start_sim O p p< m o),
        answers_sim W judge O ghost L ghost_laws header listed p p< es' (start O m') ghost_start (start_sim O p p< m' o'),
      )
