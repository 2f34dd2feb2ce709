-- `wire::write::packet` meets its contract.
use Rattle.std.proofs.Common.{arith}
use Rattle.wire.proofs.Laws.Write.{packet-written}
use Rattle.wire.proofs.write.packet.Goals as goal

pub returns-clause-out_after : goal.returns-clause-out_after
returns-clause-out_after g c = packet-written _ _ _ _ _ _ _ _ _ _ _ (omega arith) c.ipv4-ip.ensures c.put.ensures c.put-2.ensures c.put-3.ensures
