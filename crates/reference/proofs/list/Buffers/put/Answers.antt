-- `reference::list::Buffers::put` meets its contract.
use Rattle.std.proofs.Common.{sym, ◌∙◌}
use Rattle.reference.specs.Layout.{no_buffer, identifier_in, buffers_of}
use Rattle.reference.proofs.Laws.Lists.{find_absent, put_absent, put-at, set_pending, place_within}
use Rattle.reference.proofs.list.Buffers.put.Goals as goal

pub push-requires : goal.push-requires
push-requires c =
    c.requires (find_absent identifier_in no_buffer c.args.b.identifier (buffers_of c.args.self.now) (sym c.find.ensures ∙ c.in-None.is))

pub returns-in-Some : goal.returns-in-Some
returns-in-Some c =
    let a = c.args in
    let at = sym c.find.ensures ∙ c.in-Some.is in
    set_pending a.self.now c.in-Some.i a.b (place_within identifier_in no_buffer a.b.identifier (buffers_of a.self.now) c.in-Some.i at)
    ∙ sym (put-at identifier_in no_buffer a.b (buffers_of a.self.now) c.in-Some.i at)

pub returns-in-None : goal.returns-in-None
returns-in-None c =
    let a = c.args in
    c.push.ensures ∙ sym (put_absent identifier_in no_buffer a.b (buffers_of a.self.now) (sym c.find.ensures ∙ c.in-None.is))
