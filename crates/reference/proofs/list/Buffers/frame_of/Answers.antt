-- `reference::list::Buffers::frame_of` meets its contract: each way out cites its law.
use Rattle.std.proofs.Common.{sym, ◌∙◌}
use Rattle.std.proofs.lemmas.Result.{err_from_is_err_and}
use Rattle.reassembly.specs.Take.{seg_of}
use Rattle.reference.specs.Layout.{buffers_of, identifier_in, no_buffer}
use Rattle.reference.proofs.Laws.Lists.{pending-at, place_within}
use Rattle.reference.proofs.Laws.Take.{unfit-refuses, new-refuses, new-joins, further-refuses, further-joins}
use Rattle.reference.proofs.list.Buffers.frame_of.Goals as goal

pub returns-in_err-fits-clause-refused : goal.returns-in_err-fits-clause-refused
returns-in_err-fits-clause-refused c =
    let p = err_from_is_err_and c.from_residual.result c.from_residual.ensures.1 in
    rw (p.1, p.2) (unfit-refuses (buffers_of c.args.self.now) (seg_of c.args.segment c.args.bytes.now) _ c.in_err-fits.ensures.unfit)

pub returns-in_err-open-in-None-clause-refused : goal.returns-in_err-open-in-None-clause-refused
returns-in_err-open-in-None-clause-refused c =
    let p = err_from_is_err_and c.from_residual-in_err-open-in-None.result c.from_residual-in_err-open-in-None.ensures.1 in
    rw (p.1, p.2)
    (new-refuses (buffers_of c.args.self.now) (seg_of c.args.segment c.args.bytes.now) c.in_ok-fits.ensures.fit (sym c.find.ensures ∙ c.in-None.is) _
    c.in_err-open-in-None.ensures.full)

pub returns-in_ok-open-in-None-clause-joins : goal.returns-in_ok-open-in-None-clause-joins
returns-in_ok-open-in-None-clause-joins c =
    new-joins (buffers_of c.args.self.now) (seg_of c.args.segment c.args.bytes.now) c.in_ok-fits.ensures.fit (sym c.find.ensures ∙ c.in-None.is) _
    c.in_ok-open-in-None.ensures.new

pub returns-in_err-admits-in-Some-clause-refused : goal.returns-in_err-admits-in-Some-clause-refused
returns-in_err-admits-in-Some-clause-refused c =
    let a = c.args in
    let found = sym c.find.ensures ∙ c.in-Some.is in
    let is = pending-at a.self.now c.in-Some.i (place_within identifier_in no_buffer a.segment.identifier (buffers_of a.self.now) c.in-Some.i found) in
    let p = err_from_is_err_and c.from_residual-in_err-admits-in-Some.result c.from_residual-in_err-admits-in-Some.ensures.1 in
    rw (p.1, p.2)
    (further-refuses (buffers_of a.self.now) (seg_of a.segment a.bytes.now) c.in_ok-fits.ensures.fit c.in-Some.i found _
    (rw is c.in_err-admits-in-Some.ensures.refused))

pub returns-in_ok-admits-in-Some-clause-joins : goal.returns-in_ok-admits-in-Some-clause-joins
returns-in_ok-admits-in-Some-clause-joins c =
    let a = c.args in
    let found = sym c.find.ensures ∙ c.in-Some.is in
    let is = pending-at a.self.now c.in-Some.i (place_within identifier_in no_buffer a.segment.identifier (buffers_of a.self.now) c.in-Some.i found) in
    rw is at (further-joins (buffers_of a.self.now) (seg_of a.segment a.bytes.now) c.in_ok-fits.ensures.fit c.in-Some.i found
    (rw is c.in_ok-admits-in-Some.ensures.joins))
