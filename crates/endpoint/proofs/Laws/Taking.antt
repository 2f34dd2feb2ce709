-- Laws of a receive: its three stages, over an endpoint that is changed where it lies, add up.
use Rattle.std.specs.Prelude.{ℕ, ◌≡◌, false, List, length, Result}
use Rattle.std.proofs.Common.{sym, ap, ◌∙◌}
use Rattle.endpoint.specs.Receive.{Step, row_at, step_of, with_row, receipt_of}
use Rattle.endpoint.specs.Stages.{Change, Offer, brings_segment, untaken_of, opened_by, taken_by, delivered_by}
use Rattle.endpoint.proofs.Laws.Receive.{nothing-taken, turn_is}
use Rattle.endpoint.proofs.Laws.Demand1Receive.{same_row}
use Rattle.endpoint.proofs.Laws.Calls.{receipt_left}
use Rattle.endpoint.specs.declared.answer.Drop.{Drop}
use Rattle.endpoint.specs.declared.answer.Received.{Received}
use Rattle.endpoint.specs.declared.config.Endpoint.{Endpoint}
use Rattle.endpoint.specs.declared.receive.Arrival.{Arrival}

-- what is taken: what there is to deliver, the endpoint with the sender's row, and the memory
abbrev pub Took : Endpoint → Arrival → (packet memory : List ℕ) → Offer → Endpoint → List ℕ → Type 0
Took e x k m o e' m' = (o ≡ (taken_by e x k m).offer) × ((e' ≡ with_row e x.peer (taken_by e x k m).row) × (m' ≡ (taken_by e x k m).mem))

-- where there is no segment, the endpoint and the memory stay
pub untaken_out : (e : Endpoint) (x : Arrival) (k m : List ℕ) → brings_segment x.content ≡ false → (o : Offer) → o ≡ untaken_of x.content
    → Took e x k m o e m
untaken_out e x k m none o is =
    let same = nothing-taken (row_at e x.peer) x k m none in (
      is ∙ sym (ap (λ (c : Change). c.offer) same),
      (sym (same_row e x.peer) ∙ sym (ap (λ (c : Change). with_row e x.peer c.row) same), sym (ap (λ (c : Change). c.mem) same)),
    )

-- what `open` gave, what `take` left and what `deliver` answered are the receive's
pub received_out : (e : Endpoint) (m k : List ℕ) (x : Arrival) → x ≡ opened_by e k (length m) → (o : Offer) (e' : Endpoint) (m' : List ℕ) → Took e x k m o e' m'
    → (a : Result Received Drop) → a ≡ delivered_by e' x.peer o k m'
    → (a ≡ (step_of e m k).answer) × ((e' ≡ (receipt_of e (step_of e m k)).endpoint) × (m' ≡ (step_of e m k).mem))
received_out e m k x is o e' m' took a gave =
    let same = turn_is e k m x is in (
      rw (took.0, took.1.0, took.1.1) at gave ∙ ap (λ (s : Step). s.answer) same,
      (
        took.1.0 ∙ (ap (λ (s : Step). with_row e s.peer s.row) same ∙ sym (receipt_left e (step_of e m k))),
        took.1.1 ∙ ap (λ (s : Step). s.mem) same,
      ),
    )
