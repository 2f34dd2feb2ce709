-- `wire::write::Piece::put_bytes` meets its contract.
use Rattle.std.proofs.Common.{arith}
use Rattle.wire.specs.Bytes.{part}
use Rattle.wire.proofs.Laws.Write.{segment-pieces}
use Rattle.wire.proofs.write.Piece.put_bytes.Goals as goal

pub returns : goal.returns
unfolding part
returns c = segment-pieces _ _ _ _ _ _ _ _ _ _ _ _ _ c.hints_of-hints.ensures c.stt-header.ensures (omega (arith, c.requires.2)) (omega arith)
    (omega arith) (omega arith) (omega arith) c.put.ensures c.put-2.ensures
