-- A reply of the reference reassembler as it crosses to C: the receipt that the library gives of the same answer, and of 32 one that delivers nothing.
use Rattle.std.specs.Prelude.{Result, Ok, Err}
use Rattle.endpoint.specs.Answer.{values_of}
use Rattle.endpoint.specs.declared.answer.Received.{Received}
use Rattle.niulassenc.specs.Answer.{flat_of, empty_of}
use Rattle.niulassenc.specs.declared.answer.Receipt.{Receipt}
use Rattle.reference.specs.declared.answer.Refusal.{Refusal}
use Rattle.reference.specs.declared.answer.Refusal.TheVariants.{Dropped, TooManySegments}

-- ---- need not be believed: the tests alone use it

abbrev pub receipt_of : Result Received Refusal → Receipt
receipt_of (Ok received) = flat_of (values_of (Ok received))
receipt_of (Err (Dropped why)) = flat_of (values_of (Err why))
receipt_of (Err TooManySegments) = empty_of 32 0
