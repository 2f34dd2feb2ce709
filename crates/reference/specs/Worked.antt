-- THE 65TH SEGMENT, worked through the definition: segments of one byte each, from the last byte of the frame down, so that byte 0 comes last and would
-- complete the frame. And a run, whole, in which 32 is not answered and frames are delivered. Proved by computing in Laws/Worked.antt.
use Rattle.std.specs.Prelude.{◌≡◌, true, List, [], ◌∷◌, ℕ, zero, suc, ◌+◌, length, Ok, Err}
use Rattle.std.proofs.Math.Option.{Option, none, some}
use Rattle.reassembly.specs.Base.{table}
use Rattle.reassembly.specs.Slots.{no_mark}
use Rattle.reassembly.specs.Take.{Seg}
use Rattle.reassembly.specs.Receive.{bare, good, segment, Event, receive, tick}
use Rattle.reassembly.specs.SetUp.{Layers}
use Rattle.reassembly.specs.declared.take.Rejection.TheVariants.{Empty}
use Rattle.endpoint.specs.Receive.{answers}
use Rattle.endpoint.specs.declared.answer.Drop.TheVariants as D
use Rattle.endpoint.specs.declared.answer.Received.TheVariants as R
use Rattle.endpoint.specs.declared.answer.Target.{Target}
use Rattle.reference.specs.Reassembler.{Frame, Result, rejects, too_many, waits, complete, taken}
use Rattle.reference.specs.Run.{start, Reply, said, replies}

-- byte k, which is k, of a frame of n bytes
abbrev pub one_byte : ℕ → ℕ → Seg
one_byte n k = record { identifier = 7; frame_length = n; offset = k; bytes = k ∷ []; mark = no_mark }

-- the frames that are pending after bytes k down to 1 of it
abbrev pub after : ℕ → ℕ → List Frame → List Frame
after n zero fs = fs
after n (suc k) fs = after n k (taken fs (one_byte n (suc k))).frames

-- the bytes of a frame that is complete
abbrev pub completed : Result → Option (List ℕ)
completed (rejects r) = none
completed too_many = none
completed waits = none
completed (complete note bytes) = some bytes

-- a header layer that takes every packet for a frame of peer 0's in one segment; every frame is for this target
abbrev pub target : Target
target = record { tenant = 5; binding = 2 }

abbrev pub in_one : Layers answers (Unit {0})
in_one =
    record {
      header = λ c k. segment 0 (record { identifier = 7; frame_length = length k; offset = 0; bytes = k; mark = no_mark });
      judge = λ c p note frame. good target;
      source = λ c k. some 0;
    }

-- frames of 32 and of 33 bytes are delivered, from byte 18 on; a tick and an empty segment (14) come between them
abbrev pub worked_run : List Event
worked_run = receive (table 32 (λ k. k)) ∷ tick ∷ receive [] ∷ receive (table 33 (λ k. k)) ∷ []

abbrev pub worked_replies : List (Reply answers (Unit {0}) in_one)
worked_replies =
    said (record { reply = Ok (R.Delivered target (record { start = 49170; length = 14; in_memory = true })); bytes = table 14 (λ k. 18 + k) })
    ∷ said (bare answers (Err (D.Segment Empty)))
    ∷ said (record { reply = Ok (R.Delivered target (record { start = 49170; length = 15; in_memory = true })); bytes = table 15 (λ k. 18 + k) })
    ∷ []

pub record WorkedMany : Type 0 where
  -- 64 segments of a frame of 65 bytes are kept: the 65th, which would complete it, is answered with 32, and nothing changes
  pub the_65th : (taken (after 65 64 []) (one_byte 65 0)).result ≡ too_many
  pub unchanged : (taken (after 65 64 []) (one_byte 65 0)).frames ≡ after 65 64 []
  -- a frame of 64 bytes, in 64 segments, is completed by the last, and goes
  pub the_64th : completed (taken (after 64 63 []) (one_byte 64 0)).result ≡ some (table 64 (λ k. k))
  pub gone : (taken (after 64 63 []) (one_byte 64 0)).frames ≡ []
  -- a run in which nothing is answered with 32
  pub delivered : replies answers (Unit {0}) in_one 50688 (start answers (Unit {0}) in_one tt) worked_run ≡ worked_replies
