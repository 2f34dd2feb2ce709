-- `rerun::main` lends what `start` asks for.
use Prim.Native.Nat.{ℕ, ◌≤◌}
use mathlib.Core.Path.{sym, subst}
use native.Mathlib.Nat.{le_refl}
use lib.ListN.{length-replicate}
use Rattle.rerun.proofs.main.Goals as goal

pub slice_bounds-start-end-2 : goal.slice_bounds-start-end-2
slice_bounds-start-end-2 c = sym (length-replicate {A = ℕ} 2097152 0)

pub start-requires : goal.start-requires
start-requires c = subst (λ (k : ℕ). 2097152 ≤ k) (sym (length-replicate {A = ℕ} 2097152 0)) (le_refl 2097152)
