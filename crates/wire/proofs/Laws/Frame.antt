-- The reader of an inner frame accepts exactly the good ones.
use Rattle.std.specs.Prelude.{◌≡◌, ℕ, List, Ok, Err}
use Rattle.std.proofs.Common.{arith}
use Rattle.std.proofs.lemmas.Bool.{eqb-false}
use Rattle.wire.specs.Bytes.{be_at}
use Rattle.wire.proofs.Laws.Checks.{pass, through, tests, passing}
use Rattle.wire.specs.Frame.{IsFrame, frame_checks, frame_of, ReadsFrame}

pub complete : (s : List ℕ) → IsFrame s → frame_of s ≡ Ok tt
unfolding frame_of frame_checks
complete s w = pass Err (frame_checks s) (Ok tt) (omega (arith, passing))

pub sound : (s : List ℕ) → frame_of s ≡ Ok tt → IsFrame s
unfolding frame_of frame_checks
sound s eq =
    let p = through (frame_checks s) (Ok tt) tt eq in
    record {
      least = omega (arith, tests);
      most = omega (arith, tests);
      no_tag = eqb-false (be_at s 12 2) 0x8100 p.0.1.1.0;
      no_service_tag = eqb-false (be_at s 12 2) 0x88A8 p.0.1.1.1.0;
    }

pub reads-frame : ReadsFrame
reads-frame = record { complete = complete; sound = sound }
