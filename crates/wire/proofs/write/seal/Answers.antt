-- `wire::write::seal` meets its contract.
use Rattle.std.proofs.Common.{ℕ, ◌-◌, ap, ◌∙◌}
use Rattle.wire.specs.Bytes.{be, laid}
use Rattle.wire.specs.Sum.{complement}
use Rattle.wire.proofs.Laws.Bytes.{be_bytes}
use Rattle.wire.proofs.write.seal.Goals as goal

pub returns : goal.returns
unfolding complement
returns c = c.put.ensures
    ∙ ap (laid c.args.s.now 16) (c.to_be_bytes-field.ensures ∙ be_bytes 2 _ ∙ ap (λ (x : ℕ). be 2 (65535 - x)) c.sum_behind-sum.ensures)
