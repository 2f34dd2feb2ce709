-- `wire::sum::sum_behind` meets its contract.
use Rattle.std.proofs.Common.{◌≡◌, length, ap, ◌∙◌, arith, rules}
use Rattle.wire.specs.Sum.{swapped}
use Rattle.wire.proofs.Laws.Sum.{pseudo-ones}
use Rattle.wire.proofs.Laws.Le.{rest-none}
use Rattle.wire.proofs.sum.sum_behind.Goals as goal

pub returns : goal.returns
returns c = let a = c.args in
    let s = a.s.now in
    let e : c.swap_bytes.result ≡ swapped c.fold.result = omega arith in
    e ∙ ap swapped c.fold.ensures ∙ rest-none _ _ s c.wide.ensures
    ∙ pseudo-ones a.source a.destination a.protocol (length s) s (search rules) (search rules) (search rules) (omega arith)
