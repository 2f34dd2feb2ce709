-- `trace::reader::Reader::read_record` meets its contract.
use Rattle.std.proofs.Common.{arith}
use Rattle.trace.proofs.Laws.Held.{exit_nothing, exit_tick, exit_other, exit_short, exit_large, exit_cut, exit_packet}
use Rattle.trace.proofs.reader.Reader.read_record.Goals as goal

pub returns-then-self-lt-LENGTH_AT-clause-value : goal.returns-then-self-lt-LENGTH_AT-clause-value
returns-then-self-lt-LENGTH_AT-clause-value c = (exit_nothing c.fill.ensures (omega arith) (omega arith)).0

pub returns-then-self-lt-LENGTH_AT-clause-fed : goal.returns-then-self-lt-LENGTH_AT-clause-fed
returns-then-self-lt-LENGTH_AT-clause-fed c = (exit_nothing c.fill.ensures (omega arith) (omega arith)).1

pub returns-in-1-clause-value : goal.returns-in-1-clause-value
returns-in-1-clause-value c = (exit_tick c.fill.ensures (omega arith) (omega arith) (omega arith) (omega arith)).0

pub returns-in-1-clause-fed : goal.returns-in-1-clause-fed
returns-in-1-clause-fed c = (exit_tick c.fill.ensures (omega arith) (omega arith) (omega arith) (omega arith)).1

pub returns-in_default-clause-value : goal.returns-in_default-clause-value
returns-in_default-clause-value c = (exit_other c.fill.ensures (omega arith) (omega arith) (omega arith) (λ e. omega arith) (λ e. omega arith)).0

pub returns-in_default-clause-fed : goal.returns-in_default-clause-fed
returns-in_default-clause-fed c = (exit_other c.fill.ensures (omega arith) (omega arith) (omega arith) (λ e. omega arith) (λ e. omega arith)).1

pub returns-then-self-lt-PACKET_AT-clause-value : goal.returns-then-self-lt-PACKET_AT-clause-value
returns-then-self-lt-PACKET_AT-clause-value c = (exit_short c.fill.ensures (omega arith) (omega arith) (omega arith) (omega arith) c.fill-2.ensures (omega arith)).0

pub returns-then-self-lt-PACKET_AT-clause-fed : goal.returns-then-self-lt-PACKET_AT-clause-fed
returns-then-self-lt-PACKET_AT-clause-fed c = (exit_short c.fill.ensures (omega arith) (omega arith) (omega arith) (omega arith) c.fill-2.ensures (omega arith)).1

pub returns-then-length-gt-PACKET_MAX-clause-value : goal.returns-then-length-gt-PACKET_MAX-clause-value
returns-then-length-gt-PACKET_MAX-clause-value c = (exit_large c.fill.ensures (omega arith) (omega arith) (omega arith) (omega arith) c.fill-2.ensures (omega arith) (omega arith) c.get-length.result (c.get-length.ensures.value (omega arith)) (omega arith)).0

pub returns-then-length-gt-PACKET_MAX-clause-fed : goal.returns-then-length-gt-PACKET_MAX-clause-fed
returns-then-length-gt-PACKET_MAX-clause-fed c = (exit_large c.fill.ensures (omega arith) (omega arith) (omega arith) (omega arith) c.fill-2.ensures (omega arith) (omega arith) c.get-length.result (c.get-length.ensures.value (omega arith)) (omega arith)).1

pub returns-then-self-length-clause-value : goal.returns-then-self-length-clause-value
returns-then-self-length-clause-value c = (exit_cut c.fill.ensures (omega arith) (omega arith) (omega arith) (omega arith) c.fill-2.ensures (omega arith) (omega arith) c.get-length.result (c.get-length.ensures.value (omega arith)) (omega arith) c.fill-3.ensures (omega arith)).0

pub returns-then-self-length-clause-fed : goal.returns-then-self-length-clause-fed
returns-then-self-length-clause-fed c = (exit_cut c.fill.ensures (omega arith) (omega arith) (omega arith) (omega arith) c.fill-2.ensures (omega arith) (omega arith) c.get-length.result (c.get-length.ensures.value (omega arith)) (omega arith) c.fill-3.ensures (omega arith)).1

pub returns-clause-value : goal.returns-clause-value
returns-clause-value c = (exit_packet c.fill.ensures (omega arith) (omega arith) (omega arith) (omega arith) c.fill-2.ensures (omega arith) (omega arith) c.get-length.result (c.get-length.ensures.value (omega arith)) (omega arith) c.fill-3.ensures (omega arith)).0

pub returns-clause-fed : goal.returns-clause-fed
returns-clause-fed c = (exit_packet c.fill.ensures (omega arith) (omega arith) (omega arith) (omega arith) c.fill-2.ensures (omega arith) (omega arith) c.get-length.result (c.get-length.ensures.value (omega arith)) (omega arith) c.fill-3.ensures (omega arith)).1
