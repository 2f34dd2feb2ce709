-- `wire::write::source_port` meets its contract.
use Rattle.std.proofs.Common.{arith}
use Rattle.wire.proofs.Laws.Write.{port_from}
use Rattle.wire.proofs.write.source_port.Goals as goal

pub returns : goal.returns
returns c = port_from _ _ (omega arith) (omega arith)
