-- `endpoint::config::Endpoint::receive` meets its contract.
use Rattle.std.proofs.Common.{◌<◌, length, ap, arith}
use Rattle.endpoint.specs.Receive.{with_row}
use Rattle.endpoint.proofs.Laws.Promises.{receive_promised}
use Rattle.endpoint.proofs.Laws.Receive.{open_below}
use Rattle.endpoint.proofs.Laws.Taking.{Took, received_out}
use Rattle.reassembly.specs.Slots.{most_peers}
use Rattle.endpoint.proofs.config.Endpoint.receive.Goals as goal
use Rattle.endpoint.proofs.config.Endpoint.receive.Goals.{After-open-arrival}

below : (c : After-open-arrival) → c.open-arrival.result.peer < most_peers
below c = let a = c.args in rw c.open-arrival.ensures (open_below a.self.now a.packet.now (length a.memory.now))

pub offset_bounds-self-peer : goal.offset_bounds-self-peer
offset_bounds-self-peer c = omega (arith, below (goal.at.offset_bounds-self-peer c).After-open-arrival)

pub bounds-self-peer : goal.bounds-self-peer
bounds-self-peer c = omega (arith, below (goal.at.bounds-self-peer c).After-open-arrival)

pub returns : goal.returns
returns c =
    let e = c.args.self.now in
    let took : Took e _ _ _ c.take-offer.result (with_row e _ c.take-offer.new.row) c.take-offer.new.memory =
    (c.take-offer.ensures.value, (ap (with_row e _) c.take-offer.ensures.row_after, c.take-offer.ensures.memory_after)) in
    let (value, (endpoint_after, memory_after)) = received_out e _ _ _ c.open-arrival.ensures _ _ _ took _ c.deliver.ensures in
    let (answer_value, receive_rule) = receive_promised e _ _ _ _ _ value endpoint_after memory_after in
    record { value = value; endpoint_after = endpoint_after; memory_after = memory_after; answer_value = answer_value; receive_rule = receive_rule }
