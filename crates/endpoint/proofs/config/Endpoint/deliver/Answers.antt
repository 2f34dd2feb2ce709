-- `endpoint::config::Endpoint::deliver` meets its contract: the binding that is found is listed.
use Rattle.std.proofs.Common.{◌<◌, min, ◌∙◌, sym, arith}
use Rattle.lookup.proofs.Laws.Search.{found_some}
use Rattle.endpoint.specs.Config.{find_binding, config_of, most_bindings}
use Rattle.endpoint.proofs.Laws.Search.{lowest-some}
use Rattle.endpoint.proofs.config.Endpoint.deliver.Goals as goal
use Rattle.endpoint.proofs.config.Endpoint.deliver.Goals.{In-Some-find_binding}

below : (c : In-Some-find_binding) → c.in-Some-find_binding.b < most_bindings
unfolding find_binding config_of
below c =
    let h : c.in-Some-find_binding.b < min c.args.self.now.binding_count most_bindings =
    (lowest-some _ _ _ (found_some _ _ (sym c.find_binding.ensures ∙ c.in-Some-find_binding.is))).below in
    omega arith

pub offset_bounds-self-b : goal.offset_bounds-self-b
offset_bounds-self-b c = omega (arith, below (goal.at.offset_bounds-self-b c).In-Some-find_binding)

pub bounds-self-b : goal.bounds-self-b
bounds-self-b c = omega (arith, below (goal.at.bounds-self-b c).In-Some-find_binding)

pub overflow_cast-target : goal.overflow_cast-target
overflow_cast-target c = omega (arith, below (goal.at.overflow_cast-target c).In-Some-find_binding)
