-- `rerun::input::Input::next` meets its contract: what the reader took and found is the step.
use Rattle.std.specs.Prelude.{Ok}
use Rattle.std.proofs.Common.{sym, ◌∙◌, ap}
use Rattle.rerun.proofs.Laws.Standing.{header-incomplete, header-complete, header-bad, record-read, record-bad, nothing-read}
use Rattle.rerun.proofs.input.Input.next.Goals as goal

pub returns-in-Ok-true : goal.returns-in-Ok-true
returns-in-Ok-true c =
    header-complete c.args.self.now c.args.piece.now.now c.read_header.new.self c.read_header.new.piece.now c.requires.held_len c.requires.piece_nonzero
    c.in-Header.is c.requires.waits c.read_header.ensures.fed (sym c.read_header.ensures.value ∙ c.in-Ok-true.is ∙ ap Ok c.in-Ok-true.field-0-test)

pub returns-in-Ok-false : goal.returns-in-Ok-false
returns-in-Ok-false c =
    header-incomplete c.args.self.now c.args.piece.now.now c.read_header.new.self c.read_header.new.piece.now c.requires.held_len c.requires.piece_nonzero
    c.in-Header.is c.requires.waits c.read_header.ensures.fed (sym c.read_header.ensures.value ∙ c.in-Ok-false.is ∙ ap Ok c.in-Ok-false.field-0-test)

pub returns-in-Err : goal.returns-in-Err
returns-in-Err c =
    header-bad c.args.self.now c.args.piece.now.now c.read_header.new.self c.read_header.new.piece.now c.requires.held_len c.requires.piece_nonzero
    c.in-Header.is c.requires.waits c.read_header.ensures.fed (sym c.read_header.ensures.value ∙ c.in-Err.is)

pub returns-in-Ok : goal.returns-in-Ok
returns-in-Ok c =
    record-read c.args.self.now c.args.piece.now.now c.read_record.new.self c.read_record.new.piece.now c.requires.held_len c.requires.piece_nonzero
    c.in-Records.is c.requires.waits c.read_record.ensures.fed c.in-Ok.complete (sym c.read_record.ensures.value ∙ c.in-Ok.is)

pub returns-in-Err-read_record : goal.returns-in-Err-read_record
returns-in-Err-read_record c =
    record-bad c.args.self.now c.args.piece.now.now c.read_record.new.self c.read_record.new.piece.now c.requires.held_len c.requires.piece_nonzero
    c.in-Records.is c.requires.waits c.read_record.ensures.fed (sym c.read_record.ensures.value ∙ c.in-Err-read_record.is)

pub returns-in-Broken : goal.returns-in-Broken
returns-in-Broken c =
    nothing-read c.args.self.now c.args.piece.now.now c.args.self.now.reader c.args.piece.now.now c.requires.held_len c.requires.piece_nonzero c.in-Broken.is
