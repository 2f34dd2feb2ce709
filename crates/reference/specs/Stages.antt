-- A receive in stages, as the code makes it: the endpoint opens a packet, the segment is taken, and what comes of it is answered. `Laws/Receive` says that they
-- add up to `Calls.hears_in`.
use Rattle.std.specs.Prelude.{◌≡◌, List, ℕ, Result, Ok, Err}
use Rattle.reassembly.specs.Receive.{part_of_slice}
use Rattle.endpoint.specs.Config.{Config}
use Rattle.endpoint.specs.Receive.{answers, layers}
use Rattle.endpoint.specs.Stages.{offer_at, delivered_by}
use Rattle.endpoint.specs.declared.answer.Received.{Received}
use Rattle.endpoint.specs.declared.answer.Received.TheVariants as R
use Rattle.endpoint.specs.declared.config.Endpoint.{Endpoint}
use Rattle.reference.specs.Run.{rebuilt_at}
use Rattle.reference.specs.Calls.{HeardIn, passed, left_of, reply_of}
use Rattle.reference.specs.declared.answer.Refusal.{Refusal}
use Rattle.reference.specs.declared.reassembler.Reassembler.{Reassembler}
use Rattle.reference.specs.declared.take.Progress.{Progress}
use Rattle.reference.specs.declared.take.Progress.TheVariants as P

-- ---- need not be believed: the answer, by what came of a segment whose frame has this size: a complete one is offered where it lies

unfoldable pub settled_as : Endpoint → (peer : ℕ) → Result Progress Refusal → (size : ℕ) → (packet memory : List ℕ) → Result Received Refusal
settled_as e p (Err why) size k m = Err why
settled_as e p (Ok P.Pending) size k m = Ok R.Pending
settled_as e p (Ok P.Complete) size k m = passed (delivered_by e p (offer_at rebuilt_at (part_of_slice m rebuilt_at size)) k m)

-- ---- need not be believed: what a receive answers, and the reassembler and the memory that it leaves

pub record HeardAs (x : HeardIn answers Config layers) (old new : Reassembler) (a : Result Received Refusal) (m : List ℕ) : Type 0 where
  pub reply : a ≡ reply_of x.reply
  pub left : left_of new m ≡ x.left
  pub endpoint : new.endpoint ≡ old.endpoint
