-- `wire::write::Piece::put_packet` meets its contract.
use Rattle.std.proofs.Common.{refl, arith}
use Rattle.wire.proofs.Laws.Write.{segment_landed}
use Rattle.wire.proofs.write.Piece.put_packet.Goals as goal

pub returns : goal.returns
returns c = segment_landed _ _ _ _ _ _ _ _ _ _ _ _ _ _ refl (omega arith) (omega arith) c.ipv4-ip.ensures c.put.ensures c.put_body.ensures
