-- `rerun::line::put_number` meets its contract.
use Prim.Native.Nat.{ℕ}
use mathlib.Core.Path.{ap, ◌∙◌}
use mathlib.Core.List.{List, ◌++◌, append_assoc}
use native.Mathlib.Omega.{arith}
use lib.ListN.{take}
use Rattle.rerun.specs.Rerun.{decimal}
use Rattle.rerun.proofs.Laws.Decimal.{decimal_is}
use Rattle.rerun.proofs.line.put_number.Goals as goal

pub returns-clause-out_after : goal.returns-clause-out_after
returns-clause-out_after c =
    let a = c.args in
    let spelt = decimal_is a.n c.decimal-k.result (omega (arith, c.ranges.n)) c.decimal-k.ensures.len in
    c.put.ensures.out_after
    ∙ ap (λ (l : List ℕ). l ++ a.word.now)
    (c.put-end.ensures.out_after ∙ ap (λ (l : List ℕ). take a.at a.out.now ++ l) (c.decimal-k.ensures.digits ∙ spelt.1))
    ∙ append_assoc (take a.at a.out.now) (decimal a.n) a.word.now
