-- The 65th segment, worked (Worked.antt): the definition computes, so each line is `refl`.
use Rattle.std.specs.Prelude.{◌≡◌, refl, []}
use Rattle.std.proofs.Math.Option.{some}
use Rattle.reassembly.specs.Base.{some_below, table}
use Rattle.reference.specs.Keyed.{find, put, without}
use Rattle.reference.specs.Reassembler.{has, byte_at, rebuilt, repeats, notes, older, too_many, taken}
use Rattle.endpoint.specs.Receive.{answers}
use Rattle.reference.specs.Run.{start, hears, replies}
use Rattle.reference.specs.Worked.{one_byte, after, completed, in_one, worked_run, worked_replies, WorkedMany}
use Rattle.reference.proofs.Laws.Room.{many_only}

the_65th : (taken (after 65 64 []) (one_byte 65 0)).result ≡ too_many
unfolding taken has byte_at rebuilt repeats find put without notes some_below
the_65th = refl

the_64th : completed (taken (after 64 63 []) (one_byte 64 0)).result ≡ some (table 64 (λ k. k))
unfolding taken has byte_at rebuilt repeats find put without notes some_below table
the_64th = refl

gone : (taken (after 64 63 []) (one_byte 64 0)).frames ≡ []
unfolding taken has byte_at rebuilt repeats find put without notes some_below
gone = refl

delivered : replies answers (Unit {0}) in_one 50688 (start answers (Unit {0}) in_one tt) worked_run ≡ worked_replies
unfolding hears taken older has byte_at rebuilt repeats find put without notes some_below table
delivered = refl

pub worked-many : WorkedMany
worked-many =
    record {
      the_65th = the_65th;
      unchanged = (many_only (after 65 64 []) (one_byte 65 0) the_65th).1;
      the_64th = the_64th;
      gone = gone;
      delivered = delivered;
    }
