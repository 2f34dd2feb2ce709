-- `view::part` meets its contract: at each way out, the tests that led there say whether the sum of start and length is within the slice.
use mathlib.Core.Path.{◌≡◌, ap}
use Prim.Native.Nat.{ℕ, ◌+◌, ◌-◌, ◌<◌, ◌≤◌}
use native.Mathlib.Nat.{add_comm}
use native.Mathlib.Omega.{arith}
use borrow.Author.Tests.{lt-leb, le-leb}
use lib.ListN.{length}
use Rattle.reassembly.proofs.Laws.Answers.{part-fits, part_past}
use Rattle.endpoint.proofs.view.part.Goals as goal

pub returns-then-s-length : goal.returns-then-s-length
returns-then-s-length c =
    let a = c.args in
    let past : length a.s.now < a.start + a.length = omega arith in
    record { bytes = simp (part_past a.s.now a.start a.length past); begins = simp (lt-leb _ _ past) }

pub returns-then-s-length-2 : goal.returns-then-s-length-2
returns-then-s-length-2 c =
    let a = c.args in
    let past : length a.s.now < a.start + a.length = omega arith in
    record { bytes = simp (part_past a.s.now a.start a.length past); begins = simp (lt-leb _ _ past) }

pub returns : goal.returns
returns c =
    let a = c.args in
    let fits : a.start + a.length ≤ length a.s.now = omega arith in
    let n : a.start + a.length - a.start ≡ a.length = omega arith in
    record {
      bytes = simp (part-fits a.s.now a.start a.length fits, n);
      begins = simp (le-leb _ _ fits) (ap (λ (o : ℕ). (a.s.ref_ptr.0, o)) (add_comm a.start a.s.ref_ptr.1));
    }
