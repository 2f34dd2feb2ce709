-- `rerun::line::put_bad_trace` meets its contract.
use mathlib.Core.Path.{◌∙◌}
use Rattle.rerun.proofs.Laws.Line.{bad-trace_text}
use Rattle.rerun.proofs.line.put_bad_trace.Goals as goal

pub returns-clause-out_after : goal.returns-clause-out_after
returns-clause-out_after c = c.put.ensures.out_after ∙ bad-trace_text
