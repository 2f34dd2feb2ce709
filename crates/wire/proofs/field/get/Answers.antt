-- `wire::field::get` meets its contract.
use Rattle.std.proofs.Common.{sym, ◌∙◌, arith}
use Rattle.std.proofs.Math.Nat.{one-le-pow}
use Rattle.wire.proofs.Laws.Field.{field_no, field_yes}
use Rattle.wire.proofs.field.get.Goals.{then-this-gt8-via-then-this-gt8, then-this-gt8-via-else-this-gt8+then-not-lies}
use Rattle.wire.proofs.field.get.Goals as goal

pub returns-then-this-gt8-clause-value : goal.returns-then-this-gt8-clause-value
returns-then-this-gt8-clause-value g c = λ h. elim c.then-this-gt8.branch [
  | then-this-gt8-via-then-this-gt8 w ↦ absurd (omega arith)
  | then-this-gt8-via-else-this-gt8+then-not-lies w ↦ field_no c.args.s.now c.args.at g.row.N (sym w.lies.ensures ∙ w.if-not-lies.true)
]

pub returns-then-this-gt8-clause-bound : goal.returns-then-this-gt8-clause-bound
returns-then-this-gt8-clause-bound g c = one-le-pow g.row.N 256 (omega arith)

pub returns-clause-value : goal.returns-clause-value
returns-clause-value g c = λ h. c.be.ensures.value ∙ field_yes c.args.s.now c.args.at g.row.N (sym c.lies.ensures ∙ c.if-not-lies.false)
