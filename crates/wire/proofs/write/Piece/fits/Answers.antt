-- `wire::write::Piece::fits` meets its contract.
use Rattle.std.proofs.Common.{arith}
use Rattle.wire.proofs.Laws.Write.{segment-fits_not, segment-fits_room}
use Rattle.wire.proofs.write.Piece.fits.Goals.{then-n-lt-FRAME_MIN-via-then-n-lt-FRAME_MIN, then-n-lt-FRAME_MIN-via-else-n-lt-FRAME_MIN+then-n}
use Rattle.wire.proofs.write.Piece.fits.Goals.{then-n-lt-FRAME_MIN-via-else-n-lt-FRAME_MIN+else-n+then-n-self}
use Rattle.wire.proofs.write.Piece.fits.Goals.{then-n-lt-FRAME_MIN-via-else-n-lt-FRAME_MIN+else-n+else-n-self+then-n-self-2}
use Rattle.wire.proofs.write.Piece.fits.Goals.{then-n-lt-FRAME_MIN-via-else-n-lt-FRAME_MIN+else-n+else-n-self+else-n-self-2+then-self-gt-PAYLOAD_MAX}
use Rattle.wire.proofs.write.Piece.fits.Goals as goal

pub returns-then-n-lt-FRAME_MIN : goal.returns-then-n-lt-FRAME_MIN
returns-then-n-lt-FRAME_MIN c = segment-fits_not _ _ _ _ (λ g. elim c.then-n-lt-FRAME_MIN.branch [
  | then-n-lt-FRAME_MIN-via-then-n-lt-FRAME_MIN w ↦ omega arith
  | then-n-lt-FRAME_MIN-via-else-n-lt-FRAME_MIN+then-n w ↦ omega arith
  | then-n-lt-FRAME_MIN-via-else-n-lt-FRAME_MIN+else-n+then-n-self w ↦ omega arith
  | then-n-lt-FRAME_MIN-via-else-n-lt-FRAME_MIN+else-n+else-n-self+then-n-self-2 w ↦ omega arith
  | then-n-lt-FRAME_MIN-via-else-n-lt-FRAME_MIN+else-n+else-n-self+else-n-self-2+then-self-gt-PAYLOAD_MAX w ↦ omega arith
])

pub returns : goal.returns
returns c =
    let p = c.args.self.now in
    segment-fits_room c.args.n p.offset p.count c.args.room (omega arith) (omega arith) (omega arith) (omega arith)
