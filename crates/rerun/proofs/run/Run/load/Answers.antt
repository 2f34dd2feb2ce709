-- `rerun::run::Run::load` meets its contract.
use Rattle.std.proofs.Common.{sym, ◌∙◌, ap}
use Rattle.image.specs.Answer.{load_code}
use Rattle.image.specs.declared.answer.LoadResult.{LoadResult}
use Rattle.image.proofs.Laws.Answer.{loaded_code}
use Rattle.image.proofs.Laws.Loaded.{accepted}
use Rattle.lookup.proofs.Laws.Cases.{clash}
use Rattle.rerun.proofs.Laws.Standing.{started-good, started-bad}
use Rattle.rerun.proofs.run.Run.load.Goals as goal

pub returns-in-Ok-clause-started : goal.returns-in-Ok-clause-started
returns-in-Ok-clause-started c =
    started-good c.args.settings.now c.load-loaded.result c.load-loaded.ensures.value c.args.out.now (ap load_code c.in-Ok.is ∙ loaded_code _) c.begin.result
    c.begin.ensures.ready c.begin.ensures.goes

pub returns-in-Err-clause-started : goal.returns-in-Err-clause-started
returns-in-Err-clause-started c =
    started-bad c.args.settings.now c.load-loaded.result c.load-loaded.ensures.value c.put_bad_settings.new.out
    (λ z.
    let is = c.load-loaded.ensures.value in
    let good = (accepted c.args.settings.now (ap (λ (x : LoadResult). load_code x.answer) (sym is) ∙ z)).is in
    let both = sym (ap (λ (x : LoadResult). x.answer) (is ∙ good)) ∙ c.in-Err.is in
    clash (cc (both)))
    c.put_bad_settings.result c.put_bad_settings.ensures.out_after
