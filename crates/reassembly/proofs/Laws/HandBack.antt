-- The bytes of an answer are those that the second call (the view) hands back: the part of the memory, as the receive left it, that the answer's place names.
use Rattle.std.specs.Prelude.{◌≡◌, Bool, ℕ, ◌+◌, ◌-◌, ◌≤◌, ◌<◌, length, leb}
use Rattle.std.proofs.Math.Path.{refl, ap}
use Rattle.std.proofs.Common.{sym, arith}
use Rattle.std.proofs.Math.Bool.{true, false, cond}
use mathlib.Core.List.{List, []}
use borrow.Author.Tests.{le-leb}
use Rattle.reassembly.proofs.Laws.Base.{case_b}
use Rattle.reassembly.specs.Slots.{Peer, Note, most_peers, most_slots}
use Rattle.reassembly.specs.Take.{slot_no, Seg, Outcome, Rejected, Pending, Complete, NoMemory, Effect, frame_in, take_segment, Fits}
use Rattle.reassembly.proofs.Laws.TakeFacts.{take-complete}
use Rattle.reassembly.proofs.Laws.Sim.{RowOk, take_apart}
use Rattle.reassembly.specs.Store.{slot_start, bytes_of}
use Rattle.reassembly.proofs.Laws.Store.{bytes_laws, handed, slot-inside}
use Rattle.reassembly.specs.Receive.{Place, nowhere, view_of, Answers, Answer, bare, Verdict, bad, good, frame_answer, take_answer, part_of_slice}
use Rattle.reassembly.proofs.Laws.Runs.{fill}

-- the empty place gives nothing
pub nowhere_back : (packet m : List ℕ) (a : Place) → a ≡ nowhere → view_of packet m a ≡ []
unfolding part_of_slice view_of
nowhere_back packet m a e = rw e (case_b (leb 0 (length packet)) (λ q. rw q) (λ q. rw q))

module _ (W : Answers) (judge : ℕ → Note → List ℕ → Verdict W) where
  -- an answer's bytes are what the view hands back
  pub record Backs (packet m : List ℕ) (a : Answer W) : Type 0 where
    pub is : view_of packet m (W.place a.reply) ≡ a.bytes

  bare_back : (packet m : List ℕ) (a : W.A) → W.place a ≡ nowhere → Backs packet m (bare W a)
  bare_back packet m a e = record { is = nowhere_back packet m (W.place a) e }

  verdict_back : (v : Verdict W) (packet m : List ℕ) (k n : ℕ) → 18 ≤ n → slot_start k + n ≤ length m
      → Backs packet m (frame_answer W v k n (frame_in bytes_of m k n))
  unfolding frame_answer part_of_slice view_of
  verdict_back (bad b) packet m k n l f = bare_back packet m (W.refused b) (W.refused_place b)
  verdict_back (good v) packet m k n l f =
      record { is = rw (W.gives_place v (slot_start k + 18) (n - 18), le-leb (slot_start k + 18 + (n - 18)) (length m) (omega arith)) (sym (handed m k n l f)) }

  outcome_back : (p : ℕ) (packet : List ℕ) (g : Seg) (o : Effect bytes_of) (x : Outcome) → p < most_peers → bytes_of.Ok o.mem
      → ((s : ℕ) → x ≡ Complete s → (s < most_slots) × Fits g) → Backs packet o.mem (take_answer W judge bytes_of p g o x)
  unfolding take_answer
  outcome_back p packet g o (Rejected r) lp ok f = bare_back packet o.mem (W.rejected r) (W.rejected_place r)
  outcome_back p packet g o Pending lp ok f = bare_back packet o.mem W.pending W.pending_place
  outcome_back p packet g o (Complete s) lp ok f =
      let q = f s refl in
      verdict_back (judge p o.note (frame_in bytes_of o.mem (slot_no p s) g.frame_length)) packet o.mem (slot_no p s) g.frame_length
      (omega (arith, q.1.least)) (slot-inside o.mem p s g.frame_length ok lp q.0 (omega (arith, q.1.most)))
  outcome_back p packet g o NoMemory lp ok f = bare_back packet o.mem W.too_small W.too_small_place

  pub take_back : (p : ℕ) (row : Peer) (packet m : List ℕ) (g : Seg) → p < most_peers → RowOk row.slots → bytes_of.Ok m
      → Backs packet (take_segment bytes_of p row m g).mem (take_answer W judge bytes_of p g (take_segment bytes_of p row m g)
      (take_segment bytes_of p row m g).outcome)
  take_back p row packet m g lp r o =
      outcome_back p packet g (take_segment bytes_of p row m g) (take_segment bytes_of p row m g).outcome lp
      (take_apart bytes_of bytes_laws p lp row m g r o).0.ok
      (λ s e. take-complete bytes_of p s row m g e)

  -- so what a run's answer has of the packet changes nothing of it
  pub backs_fill : (packet m : List ℕ) (a : Answer W) → Backs packet m a → fill W packet a ≡ a
  unfolding view_of
  backs_fill packet m a b = pick (W.place a.reply).in_lent_memory a _ _ b.is
    where
      pick : (b : Bool) (a : Answer W) (x y : List ℕ) → cond b x y ≡ a.bytes → cond b a (record { reply = a.reply; bytes = y }) ≡ a
      pick true a x y e = refl
      pick false a x y e = ap (λ (t : List ℕ). record { reply = a.reply; bytes = t }) e
