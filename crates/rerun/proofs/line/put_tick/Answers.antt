-- `rerun::line::put_tick` meets its contract.
use lib.ListN.{take}
use Rattle.rerun.proofs.Laws.Line.{tick_line}
use Rattle.rerun.proofs.line.put_tick.Goals as goal

pub returns-clause-out_after : goal.returns-clause-out_after
returns-clause-out_after c =
    let a = c.args in
    tick_line (take a.at a.out.now) a.number _ c.put_number.ensures.out_after
