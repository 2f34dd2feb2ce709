-- `wire::write::Piece::flags` meets its contract.
use Rattle.wire.specs.Write.{flags_of}
use Rattle.wire.proofs.write.Piece.flags.Goals as goal

pub returns-then-self : goal.returns-then-self
unfolding flags_of
returns-then-self c = rw c.if-self.true

pub returns-else-self : goal.returns-else-self
unfolding flags_of
returns-else-self c = rw c.if-self.false
