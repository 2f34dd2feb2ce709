-- `rerun::line::put_answer` meets its contract.
use Prim.Native.Nat.{ℕ}
use Rattle.std.specs.Prelude.{Ok}
use Rattle.std.proofs.Common.{rules}
use Rattle.endpoint.specs.declared.answer.Received.TheVariants as R
use mathlib.Core.Path.{◌≡◌, ap, ◌∙◌}
use mathlib.Core.List.{◌++◌}
use mathlib.Core.Option.{none, some}
use lib.ListN.{take}
use Rattle.rerun.specs.Rerun.{answered, line_text}
use Rattle.rerun.proofs.Laws.Line.{delivered_line, pending_line, dropped_line}
use Rattle.rerun.proofs.line.put_answer.Goals as goal

pub returns-in-Ok-Delivered-clause-out_after : goal.returns-in-Ok-Delivered-clause-out_after
returns-in-Ok-Delivered-clause-out_after c =
    let a = c.args in
    let is : a.answer ≡ Ok (R.Delivered c.in-Ok-Delivered.target c.in-Ok-Delivered.field-0-1) = search rules in
    rw is
    (delivered_line (take a.at a.out.now) a.number _ c.put_number-said.ensures.out_after _ _ _ c.put-tenant.ensures.out_after
    c.put_number.ensures.out_after
    ∙ ap (λ (k : ℕ). take a.at a.out.now ++ line_text a.number (answered 0 (some k))) c.from.ensures)

pub returns-in-Ok-Pending-clause-out_after : goal.returns-in-Ok-Pending-clause-out_after
returns-in-Ok-Pending-clause-out_after c =
    let a = c.args in
    let is : a.answer ≡ Ok R.Pending = search rules in
    rw is
    (pending_line (take a.at a.out.now) a.number _ c.put_number-said.ensures.out_after _ c.put.ensures.out_after)

pub returns-in-Err-clause-out_after : goal.returns-in-Err-clause-out_after
returns-in-Err-clause-out_after c =
    let a = c.args in
    rw c.in-Err.is
    (dropped_line (take a.at a.out.now) a.number _ c.put_number-said.ensures.out_after _ _ c.put_number-in-Err.ensures.out_after
    ∙ ap (λ (k : ℕ). take a.at a.out.now ++ line_text a.number (answered k none)) (c.from-in-Err.ensures ∙ c.code.ensures))
