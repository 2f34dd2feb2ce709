-- `trace::reader::Reader::read_header` meets its contract.
use Rattle.std.proofs.Common.{arith}
use Rattle.trace.proofs.Laws.Held.{header_exit_short, header_exit_letters, header_exit_version, header_exit}
use Rattle.trace.proofs.reader.Reader.read_header.Goals as goal

pub returns-then-self-lt-HEADER_BYTES-clause-value : goal.returns-then-self-lt-HEADER_BYTES-clause-value
returns-then-self-lt-HEADER_BYTES-clause-value c = (header_exit_short c.fill.ensures (omega arith) (omega arith)).0

pub returns-then-self-lt-HEADER_BYTES-clause-fed : goal.returns-then-self-lt-HEADER_BYTES-clause-fed
returns-then-self-lt-HEADER_BYTES-clause-fed c = (header_exit_short c.fill.ensures (omega arith) (omega arith)).1

pub returns-then-get-ne-LETTERS-clause-value : goal.returns-then-get-ne-LETTERS-clause-value
returns-then-get-ne-LETTERS-clause-value c = (header_exit_letters c.fill.ensures (omega arith) (omega arith) (omega arith) (λ e. omega (arith, c.get.ensures.value (omega arith)))).0

pub returns-then-get-ne-LETTERS-clause-fed : goal.returns-then-get-ne-LETTERS-clause-fed
returns-then-get-ne-LETTERS-clause-fed c = (header_exit_letters c.fill.ensures (omega arith) (omega arith) (omega arith) (λ e. omega (arith, c.get.ensures.value (omega arith)))).1

pub returns-then-get-ne-VERSION-clause-value : goal.returns-then-get-ne-VERSION-clause-value
returns-then-get-ne-VERSION-clause-value c = (header_exit_version c.fill.ensures (omega arith) (omega arith) (omega arith) (omega (arith, c.get.ensures.value (omega arith))) (λ e. omega (arith, c.get-2.ensures.value (omega arith)))).0

pub returns-then-get-ne-VERSION-clause-fed : goal.returns-then-get-ne-VERSION-clause-fed
returns-then-get-ne-VERSION-clause-fed c = (header_exit_version c.fill.ensures (omega arith) (omega arith) (omega arith) (omega (arith, c.get.ensures.value (omega arith))) (λ e. omega (arith, c.get-2.ensures.value (omega arith)))).1

pub returns-clause-value : goal.returns-clause-value
returns-clause-value c = (header_exit c.fill.ensures (omega arith) (omega arith) (omega arith) (omega (arith, c.get.ensures.value (omega arith))) (omega (arith, c.get-2.ensures.value (omega arith)))).0

pub returns-clause-fed : goal.returns-clause-fed
returns-clause-fed c = (header_exit c.fill.ensures (omega arith) (omega arith) (omega arith) (omega (arith, c.get.ensures.value (omega arith))) (omega (arith, c.get-2.ensures.value (omega arith)))).1
