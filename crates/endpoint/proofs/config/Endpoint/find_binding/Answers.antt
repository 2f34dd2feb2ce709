-- `endpoint::config::Endpoint::find_binding` meets its contract.
use Rattle.std.proofs.Common.{◌∙◌, sym, arith}
use Rattle.endpoint.specs.Config.{find_binding, config_of}
use Rattle.endpoint.proofs.Laws.Search.{found_at, found_nothing}
use Rattle.endpoint.proofs.config.Endpoint.find_binding.Goals as goal

pub returns-then-self-eq0 : goal.returns-then-self-eq0
unfolding find_binding config_of
returns-then-self-eq0 c = found_nothing _ _ 0 (omega arith) (λ j below. absurd (omega arith))

pub returns-then-binds : goal.returns-then-binds
unfolding find_binding config_of
returns-then-binds c = found_at _ _ 0 (omega arith) (λ j below. absurd (omega arith)) (sym c.binds.ensures ∙ c.if-binds.true)
