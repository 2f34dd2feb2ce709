-- `reference::buffer::Buffer::admits` meets its contract: each way out cites its law.
use Rattle.std.proofs.Common.{sym, ◌∙◌, leb-true, leb-false}
use Rattle.reassembly.specs.Take.{seg_of}
use Rattle.reference.specs.Layout.{kept}
use Rattle.reference.proofs.Laws.Take.{excludes-repeated, excludes-many, admits}
use Rattle.reference.proofs.buffer.Buffer.admits.Goals as goal

pub returns-then-repeats-clause-refused : goal.returns-then-repeats-clause-refused
returns-then-repeats-clause-refused c =
    rw c.into-then-repeats.ensures
    (excludes-repeated c.args.self.now (seg_of c.args.segment c.args.bytes.now) c.if-self-segment.false c.repeats.result c.repeats.ensures c.if-repeats.true)

pub returns-then-is_full-clause-refused : goal.returns-then-is_full-clause-refused
returns-then-is_full-clause-refused c =
    excludes-many c.args.self.now (seg_of c.args.segment c.args.bytes.now) c.if-self-segment.false c.repeats.result c.repeats.ensures c.if-repeats.false
    (leb-true 64 (kept c.args.self.now) (sym c.is_full.ensures ∙ c.if-is_full.true))

pub returns-clause-joins : goal.returns-clause-joins
returns-clause-joins c =
    admits c.args.self.now (seg_of c.args.segment c.args.bytes.now) c.if-self-segment.false c.repeats.result c.repeats.ensures c.if-repeats.false
    (leb-false 64 (kept c.args.self.now) (sym c.is_full.ensures ∙ c.if-is_full.false))
