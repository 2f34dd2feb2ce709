-- `rerun::run::Run::ends_badly` meets its contract.
use borrow.Author.Tests.{eqb-true, eqb-false}
use Rattle.wire.proofs.Laws.Bytes.{case_b}
use lib.Dec.{eqb}
use Rattle.rerun.proofs.Laws.Standing.{ends-header, ends-broken, ends-between, ends-within}
use Rattle.rerun.proofs.run.Run.ends_badly.Goals as goal

pub returns-in-Header : goal.returns-in-Header
returns-in-Header c m ready size = ends-header c.args.self.now m ready c.in-Header.is

pub returns-in-Broken : goal.returns-in-Broken
returns-in-Broken c m ready size = ends-broken c.args.self.now m ready c.in-Broken.is

pub returns-in-Records : goal.returns-in-Records
returns-in-Records c m ready size =
    let run = c.args.self.now in
    case_b (eqb run.input.reader.count 0)
    (λ e. rw e (ends-between run m ready c.in-Records.is (eqb-true run.input.reader.count 0 e)))
    (λ e. rw e (ends-within run m ready c.in-Records.is size (eqb-false run.input.reader.count 0 e)))
