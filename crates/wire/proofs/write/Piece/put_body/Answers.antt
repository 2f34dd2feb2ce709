-- `wire::write::Piece::put_body` meets its contract.
use Rattle.std.proofs.Common.{arith}
use Rattle.wire.proofs.Laws.Write.{segment_sealed}
use Rattle.wire.proofs.write.Piece.put_body.Goals as goal

pub returns : goal.returns
returns c = segment_sealed _ _ _ _ _ _ _ _ _ _ _ _ _ _ _ _ (omega arith) (omega arith) c.source_port.ensures c.flags.ensures c.segment-header.ensures
    c.put.ensures c.put_bytes.ensures c.seal.ensures
