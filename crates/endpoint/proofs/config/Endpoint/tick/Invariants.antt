-- `endpoint::config::Endpoint::tick` meets its contract. The loop's invariant: the rows before this one are older, and the others are as they came.
use Rattle.std.proofs.Common.{◌≡◌}
use Rattle.reassembly.specs.Slots.{older_row}
use Rattle.endpoint.proofs.Laws.Changed.{changed_before}
use Rattle.endpoint.proofs.config.Endpoint.tick.Given as goal

abbrev pub invariant-loop-row : goal.invariant-loop-row
invariant-loop-row l = l.row-items ≡ changed_before older_row l.initial.row-items l.row-index
