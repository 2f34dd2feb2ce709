-- `endpoint::config::Endpoint::add_binding` meets its contract: each exit gives what the definition gives.
use Rattle.std.proofs.Common.{◌≡◌, false, true, sym, ◌∙◌}
use Rattle.std.proofs.lemmas.Bool.{not-false, not-true}
use Rattle.endpoint.specs.Config.{bad_binding, with_binding, is_some, find_binding, config_of}
use Rattle.endpoint.proofs.Laws.ConfigExits.{binding_fits, binding_out_of_range, binding_listed, bindings_full, binding_taken, binding_found}
use Rattle.endpoint.proofs.Laws.Promises.{add_binding_promised}
use Rattle.endpoint.proofs.config.Endpoint.add_binding.Goals as goal
use Rattle.endpoint.proofs.config.Endpoint.add_binding.Goals.{Else-not-may_bind, Then-is_some, Else-is_some}

good : (c : Else-not-may_bind) → bad_binding c.args.self.now c.args.peer c.args.kind c.args.network c.args.tenant ≡ false
good c = not-true _ (sym c.may_bind.ensures ∙ c.if-not-may_bind.false)

listed : (c : Then-is_some) → is_some (find_binding (config_of c.args.self.now) c.args.peer c.args.kind c.args.network) ≡ true
listed c = binding_found _ _ _ _ _ _ c.search.ensures c.is_some.ensures ∙ c.if-is_some.true

unlisted : (c : Else-is_some) → is_some (find_binding (config_of c.args.self.now) c.args.peer c.args.kind c.args.network) ≡ false
unlisted c = binding_found _ _ _ _ _ _ c.search.ensures c.is_some.ensures ∙ c.if-is_some.false

pub returns-then-not-may_bind : goal.returns-then-not-may_bind
returns-then-not-may_bind c =
    let (value, endpoint_after, answer_value, add_rule) = add_binding_promised _ _ _ _ _ _ _ (binding_out_of_range _ _ _ _ _ (not-false _ (sym c.may_bind.ensures ∙ c.if-not-may_bind.true))) in
    record { value = value; endpoint_after = endpoint_after; answer_value = answer_value; add_rule = add_rule }

pub overflow_cast-kind : goal.overflow_cast-kind
overflow_cast-kind c = record { fits = (binding_fits _ _ _ _ _ (good (goal.at.overflow_cast-kind c).Else-not-may_bind)).1 }

pub returns-then-is_some : goal.returns-then-is_some
returns-then-is_some c =
    let at = goal.at.returns-then-is_some c in
    let (value, endpoint_after, answer_value, add_rule) = add_binding_promised _ _ _ _ _ _ _ (binding_listed _ _ _ _ _ (good at.Else-not-may_bind) (listed at.Then-is_some)) in
    record { value = value; endpoint_after = endpoint_after; answer_value = answer_value; add_rule = add_rule }

pub returns-then-n-ge-BINDINGS : goal.returns-then-n-ge-BINDINGS
returns-then-n-ge-BINDINGS c =
    let at = goal.at.returns-then-n-ge-BINDINGS c in
    let (value, endpoint_after, answer_value, add_rule) = add_binding_promised _ _ _ _ _ _ _ (bindings_full _ _ _ _ _ (good at.Else-not-may_bind) (unlisted at.Else-is_some) c.if-n-ge-BINDINGS.true) in
    record { value = value; endpoint_after = endpoint_after; answer_value = answer_value; add_rule = add_rule }

pub overflow_cast-self : goal.overflow_cast-self
overflow_cast-self c = record { fits = (binding_fits _ _ _ _ _ (good (goal.at.overflow_cast-self c).Else-not-may_bind)).0 }

pub overflow_cast-self-2 : goal.overflow_cast-self-2
overflow_cast-self-2 c = record { fits = (binding_fits _ _ _ _ _ (good (goal.at.overflow_cast-self-2 c).Else-not-may_bind)).2 }

pub returns : goal.returns
unfolding with_binding
returns c =
    let at = goal.at.returns c in
    let (value, endpoint_after, answer_value, add_rule) = add_binding_promised _ _ _ _ _ _ _ (binding_taken _ _ _ _ _ (good at.Else-not-may_bind) (unlisted at.Else-is_some) c.if-n-ge-BINDINGS.false) in
    record { value = value; endpoint_after = endpoint_after; answer_value = answer_value; add_rule = add_rule }
