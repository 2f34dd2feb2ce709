-- `wire::field::set` meets its contract.
use Rattle.std.proofs.Common.{sym, ap, ◌∙◌, arith}
use Rattle.wire.specs.Bytes.{be, laid}
use Rattle.wire.proofs.Laws.Bytes.{be-length, be_of_word}
use Rattle.wire.proofs.Laws.Field.{entered_no, entered_yes}
use Rattle.wire.proofs.field.set.Goals.{then-this-gt8-via-then-this-gt8, then-this-gt8-via-else-this-gt8+then-not-lies}
use Rattle.wire.proofs.field.set.Goals as goal

pub returns-then-this-gt8 : goal.returns-then-this-gt8
returns-then-this-gt8 g c =
    let a = c.args in
    λ h. elim c.then-this-gt8.branch [
      | then-this-gt8-via-then-this-gt8 w ↦ absurd (omega arith)
      | then-this-gt8-via-else-this-gt8+then-not-lies w ↦ entered_no a.out.now a.at (be g.row.N a.x) (rw be-length (sym w.lies.ensures ∙ w.if-not-lies.true))
    ]

pub returns : goal.returns
returns g c =
    let a = c.args in
    λ h. c.put.ensures ∙ ap (laid a.out.now a.at) (be_of_word g.row.N a.x _ h c.to_be_bytes.ensures)
    ∙ entered_yes a.out.now a.at (be g.row.N a.x) (rw be-length (sym c.lies.ensures ∙ c.if-not-lies.false))
