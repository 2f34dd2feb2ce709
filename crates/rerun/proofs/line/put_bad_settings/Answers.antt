-- `rerun::line::put_bad_settings` meets its contract.
use mathlib.Core.Path.{◌∙◌}
use Rattle.rerun.proofs.Laws.Line.{bad_settings_text}
use Rattle.rerun.proofs.line.put_bad_settings.Goals as goal

pub returns-clause-out_after : goal.returns-clause-out_after
returns-clause-out_after c = c.put.ensures.out_after ∙ bad_settings_text
