-- The three demands, proved.
use Rattle.std.proofs.Common.{ap}
use Rattle.reassembly.specs.SetUp.{Replied}
use Rattle.endpoint.specs.Config.{Config}
use Rattle.endpoint.specs.Receive.{answers, layers, receipt_of}
use Rattle.endpoint.proofs.Laws.View.{view_rule}
use Rattle.endpoint.proofs.Laws.Calls.{calls_are, receive_is}
use Rattle.endpoint.proofs.Laws.Table.{document_table}
use Rattle.endpoint.proofs.Laws.Offset.{offsets}
use Rattle.endpoint.proofs.Laws.Demand1.{start_rule, add-peer_rule, add_binding_rule, tick_rule, wrap_rule}
use Rattle.endpoint.proofs.Laws.Demand1Receive.{receive_rule}
use Rattle.endpoint.proofs.Laws.Configured.{set_up_configured, set_up-free, reached_configured}
use Rattle.endpoint.proofs.Laws.Demand2.{receiving}
use Rattle.endpoint.proofs.Laws.Demand2Writing.{demand_two_writing}
use Rattle.endpoint.proofs.Laws.RoundTrip as T
use Rattle.endpoint.proofs.Laws.Demand3.{set_up_claims, set_up_every, words_mean}
use Rattle.endpoint.specs.Demands.{Demand1, Demand2, Demand3}

pub demand_one : Demand1
unfolding receipt_of
demand_one = record {
  start = start_rule;
  add_peer_lem = add-peer_rule;
  add_binding_lem = add_binding_rule;
  receive = receive_rule;
  tick = tick_rule;
  view = view_rule;
  wrap = wrap_rule;
  table = document_table;
  offsets = offsets;
  set_up_from = set_up_configured;
  all_free = set_up-free;
  reached = reached_configured;
}

pub demand_two : Demand2
demand_two = record {
  receiving = receiving;
  writing = λ e reached b listed frame. demand_two_writing e b frame reached listed;
  round_trip = λ e reached b listed frame bytes identifier fits packets wraps e' b' match.
      T.round_trip e b frame identifier packets e' b' reached listed bytes fits wraps match;
}

pub demand_three : Demand3
demand_three = record {
  claims = set_up_claims;
  every = set_up_every;
  calls_are_runs = λ e m es. calls_are (record { endpoint = e; mem = m }) es;
  answers_are = λ w k. ap (λ (s : Replied answers Config layers). s.reply) (receive_is w.endpoint w.mem k);
  words = words_mean;
}
