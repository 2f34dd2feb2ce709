-- `program::number::hash` meets its contract.
use Rattle.std.proofs.Common.{rules, ap, ◌∙◌}
use Rattle.program.proofs.Laws.Hash.{behind, behind_none}
use Rattle.program.specs.Hash.{hashed}
use Rattle.std.specs.Prelude.{ℕ}
use Rattle.program.proofs.number.hash.Goals as goal

pub returns-then-is_empty : goal.returns-then-is_empty
returns-then-is_empty c = behind_none c.args.first c.args.bytes.now (search rules)

pub returns : goal.returns
returns c = c.from.ensures ∙ (c.finish.ensures ∙ (c.write.ensures ∙ (ap (λ (x : ℕ). hashed x c.args.bytes.now) c.low32.ensures ∙ behind c.args.first c.args.bytes.now (search rules))))
