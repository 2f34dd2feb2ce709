-- `rerun::run::Run::begin` meets its contract.
use Rattle.std.specs.Prelude.{refl}
use Rattle.rerun.specs.declared.input.Phase.TheVariants as P
use Rattle.rerun.proofs.Laws.Standing.{begin_ready, begin_goes}
use Rattle.rerun.proofs.run.Run.begin.Goals as goal

pub returns-clause-ready : goal.returns-clause-ready
returns-clause-ready c m =
    begin_ready (record { endpoint = c.args.endpoint; input = record { reader = c.start.result; phase = P.Header }; number = 0 }) m refl c.start.ensures

pub returns-clause-goes : goal.returns-clause-goes
returns-clause-goes c m t =
    begin_goes (record { endpoint = c.args.endpoint; input = record { reader = c.start.result; phase = P.Header }; number = 0 }) m refl c.start.ensures refl t
