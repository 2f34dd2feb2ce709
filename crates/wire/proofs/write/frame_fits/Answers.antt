-- `wire::write::frame_fits` meets its contract.
use Rattle.std.proofs.Common.{arith}
use Rattle.wire.proofs.Laws.Write.{fits_not, fits_room}
use Rattle.wire.proofs.write.frame_fits.Goals.{then-n-lt-FRAME_MIN-via-then-n-lt-FRAME_MIN, then-n-lt-FRAME_MIN-via-else-n-lt-FRAME_MIN+then-n-gt-PAYLOAD_MAX}
use Rattle.wire.proofs.write.frame_fits.Goals.{then-n-lt-FRAME_MIN-via-else-n-lt-FRAME_MIN+else-n-gt-PAYLOAD_MAX+then-headers-n-gt-PAYLOAD_MAX}
use Rattle.wire.proofs.write.frame_fits.Goals as goal

pub returns-then-n-lt-FRAME_MIN : goal.returns-then-n-lt-FRAME_MIN
returns-then-n-lt-FRAME_MIN c = fits_not _ _ _ (λ g. elim c.then-n-lt-FRAME_MIN.branch [
  | then-n-lt-FRAME_MIN-via-then-n-lt-FRAME_MIN w ↦ omega arith
  | then-n-lt-FRAME_MIN-via-else-n-lt-FRAME_MIN+then-n-gt-PAYLOAD_MAX w ↦ omega arith
  | then-n-lt-FRAME_MIN-via-else-n-lt-FRAME_MIN+else-n-gt-PAYLOAD_MAX+then-headers-n-gt-PAYLOAD_MAX w ↦ omega arith
])

pub returns : goal.returns
returns c = fits_room c.args.headers c.args.n c.args.room (omega arith) (omega arith)
