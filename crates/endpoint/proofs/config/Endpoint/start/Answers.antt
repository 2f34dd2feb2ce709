-- `endpoint::config::Endpoint::start` meets its contract: each exit gives what the definition gives.
use Rattle.std.proofs.Common.{◌≡◌, false, ap, sym, ◌∙◌, Ok, Err}
use Rattle.std.proofs.lemmas.Bool.{not-false, not-true}
use Rattle.endpoint.specs.declared.answer.ConfigRefusal.TheVariants as C
use Rattle.endpoint.specs.declared.config.Endpoint.{Endpoint}
use Rattle.endpoint.specs.declared.config.StartResult.{StartResult}
use Rattle.endpoint.specs.Config.{start_checks, any_met}
use Rattle.endpoint.proofs.Laws.ConfigExits.{start_refused, start_done, settings_fit_lem}
use Rattle.endpoint.proofs.Laws.Promises.{start_promised}
use Rattle.endpoint.proofs.config.Endpoint.start.Goals as goal
use Rattle.endpoint.proofs.config.Endpoint.start.Goals.{Else-not-settings_fit}

good : (c : Else-not-settings_fit) → any_met (start_checks c.args.own c.args.port c.args.mtu) ≡ false
good c = not-true _ (sym c.settings_fit.ensures ∙ c.if-not-settings_fit.false)

abbrev refused : Endpoint → StartResult
refused e = record { endpoint = e; answer = Err C.OutOfRange }

abbrev started : Endpoint → StartResult
started e = record { endpoint = e; answer = Ok tt }

pub returns-then-not-settings_fit : goal.returns-then-not-settings_fit
returns-then-not-settings_fit c =
    let bad = not-false _ (sym c.settings_fit.ensures ∙ c.if-not-settings_fit.true) in
    let (value, (answer_value, start_rule)) = start_promised _ _ _ _ (ap refused c.blank.ensures ∙ start_refused _ _ _ bad) in
    record { value = value; answer_value = answer_value; start_rule = start_rule }

pub overflow_cast-port : goal.overflow_cast-port
overflow_cast-port c = record { fits = (settings_fit_lem _ _ _ (good (goal.at.overflow_cast-port c).Else-not-settings_fit)).0 }

pub overflow_cast-mtu : goal.overflow_cast-mtu
overflow_cast-mtu c = record { fits = (settings_fit_lem _ _ _ (good (goal.at.overflow_cast-mtu c).Else-not-settings_fit)).1 }

pub returns : goal.returns
returns c =
    let (value, (answer_value, start_rule)) = start_promised _ _ _ _
    (ap started c.blank-2.ensures ∙ start_done _ _ _ (good (goal.at.returns c).Else-not-settings_fit)) in
    record { value = value; answer_value = answer_value; start_rule = start_rule }
