-- What the contracts of the calls say beside the equality with their definitions follows from that equality: the table's number, and demand 1.
use Rattle.std.specs.Prelude.{ℕ, ◌≡◌, refl, List, Result, Ok, Err}
use Rattle.std.proofs.Common.{◌∙◌, ap}
use Rattle.wire.specs.Bytes.{Bytes}
use Rattle.endpoint.specs.Answer.{values_of, told_by, start_code, added_code, added_values_of, tick_code, wrap_values_of}
use Rattle.endpoint.specs.Config.{start_of, add_peer_of, add_binding_of, tick_of, AddResult}
use Rattle.endpoint.specs.Receive.{step_of, receipt_of}
use Rattle.endpoint.specs.Wrap.{wrap_of}
use Rattle.endpoint.specs.Reached.{Reached}
use Rattle.wire.specs.Table.{told, numbered}
use Rattle.endpoint.specs.Table.{start_rows, add_peer_rows, add_binding_rows, receive_rows, wrap_rows}
use Rattle.endpoint.proofs.Laws.Table.{document_table}
use Rattle.endpoint.specs.Demand1.{StartRule, PeerAdded, BindingAdded, AddRule, ReceiveRule, TickRule, WrapRule}
use Rattle.endpoint.proofs.Laws.Demand1.{start_rule, add-peer_rule, add_binding_rule, tick_rule, wrap_rule}
use Rattle.endpoint.proofs.Laws.Demand1Receive.{receive_rule}
use Rattle.endpoint.specs.declared.config.Endpoint.{Endpoint}
use Rattle.endpoint.specs.declared.config.StartResult.{StartResult}
use Rattle.endpoint.specs.declared.answer.ConfigRefusal.{ConfigRefusal}
use Rattle.endpoint.specs.declared.answer.Packet.{Packet}
use Rattle.endpoint.specs.declared.answer.WrapRefusal.{WrapRefusal}
use Rattle.endpoint.specs.declared.answer.Received.{Received}
use Rattle.endpoint.specs.declared.answer.Drop.{Drop}

-- ---- start

pub start_promised : (own port mtu : ℕ) (r : StartResult) → r ≡ start_of own port mtu
    → (r ≡ start_of own port mtu) × ((start_code r.answer ≡ numbered (start_rows own port mtu)) × StartRule own port mtu r)
start_promised own port mtu r is = (is, (rw is (document_table.start own port mtu), rw is (start_rule own port mtu)))

-- ---- adding

added-number : (a : Result ℕ ConfigRefusal) → (added_values_of a).number ≡ added_code a
unfolding added_code
added-number (Ok n) = refl
added-number (Err r) = refl

module _ (e x : Endpoint) (a : Result ℕ ConfigRefusal) where
  abbrev left : AddResult
  left = record { endpoint = x; answer = a }

  pub add-peer_promised : (address : ℕ) → left ≡ add_peer_of e address
      → (a ≡ (add_peer_of e address).answer)
      × (x ≡ (add_peer_of e address).endpoint)
      × ((added_values_of a).number ≡ numbered (add_peer_rows e address))
      × AddRule e (PeerAdded e address) left
  add-peer_promised address is = (
    ap (λ (r : AddResult). r.answer) is,
    ap (λ (r : AddResult). r.endpoint) is,
    added-number a ∙ ap (λ (r : AddResult). added_code r.answer) is ∙ document_table.add_peer_lem e address,
    rw is (add-peer_rule e address),
  )

  pub add_binding_promised : (peer kind network tenant : ℕ) → left ≡ add_binding_of e peer kind network tenant
      → (a ≡ (add_binding_of e peer kind network tenant).answer)
      × (x ≡ (add_binding_of e peer kind network tenant).endpoint)
      × ((added_values_of a).number ≡ numbered (add_binding_rows e peer kind network tenant))
      × AddRule e (BindingAdded e peer kind network tenant) left
  add_binding_promised peer kind network tenant is = (
    ap (λ (r : AddResult). r.answer) is,
    ap (λ (r : AddResult). r.endpoint) is,
    added-number a ∙ ap (λ (r : AddResult). added_code r.answer) is ∙ document_table.add_binding_lem e peer kind network tenant,
    rw is (add_binding_rule e peer kind network tenant),
  )

-- ---- receive

pub receive_promised : (e : Endpoint) (m k : List ℕ) (a : Result Received Drop) (x : Endpoint) (m' : List ℕ)
    → a ≡ (step_of e m k).answer → x ≡ (receipt_of e (step_of e m k)).endpoint → m' ≡ (step_of e m k).mem
    → (Bytes k → told_by (values_of a) ≡ told (receive_rows e m k)) × ReceiveRule e m k (values_of a) x m'
unfolding receipt_of
receive_promised e m k a x m' is kept memory = (λ b. rw is (document_table.receive e m k b), rw (is, kept, memory) (receive_rule e m k))

-- ---- a tick

pub tick_promised : (e x : Endpoint) → x ≡ (tick_of e).endpoint → TickRule e (tick_code (tick_of e).answer) x
tick_promised e x is = rw is (tick_rule e)

-- ---- wrap

pub wrap_promised : (e : Endpoint) (b : ℕ) (frame : List ℕ) (segment identifier : ℕ) (output : List ℕ) (r : Result Packet WrapRefusal) (output' : List ℕ)
    → r ≡ (wrap_of e b frame segment identifier output).answer → output' ≡ (wrap_of e b frame segment identifier output).output
    → (r ≡ (wrap_of e b frame segment identifier output).answer)
    × ((output' ≡ (wrap_of e b frame segment identifier output).output)
    × ((Reached e → (wrap_values_of r).number ≡ numbered (wrap_rows e b frame segment output)) × WrapRule output (wrap_values_of r) output'))
wrap_promised e b frame segment identifier output r output' is left =
    let rule : WrapRule output (wrap_values_of r) output' = rw (is, left) (wrap_rule e b frame segment identifier output) in
    (is, (left, (λ reached. rw is (document_table.wrap e reached b frame segment identifier output), rule)))
