-- `endpoint::config::Endpoint::search` meets its contract. The loop's invariant: no binding before the two of this turn matches.
use Rattle.std.proofs.Common.{◌≡◌, ◌∙◌, ℕ, ◌+◌, ◌*◌, ◌<◌, false, sym, arith}
use Rattle.lookup.proofs.Laws.Search.{more_not}
use Rattle.endpoint.specs.Config.{find_binding, config_of, binds}
use Rattle.endpoint.proofs.Laws.Search.{found_at, found_nothing}
use Rattle.endpoint.proofs.config.Endpoint.search.Goals as goal
use Rattle.endpoint.proofs.config.Endpoint.search.Goals.{Then-binds-2}

-- not the first of the two
passed : (c : Then-binds-2) →
    let e = c.args.self.now in
    (j : ℕ) → j < 2 * c.loop-k.k + 1 → binds e.networks e.kinds e.owners c.args.peer c.args.kind c.args.network j ≡ false
passed c = more_not _ (2 * c.loop-k.k) c.loop-k.invariant.passed (sym c.binds.ensures ∙ c.if-binds.false)

pub returns-then-binds : goal.returns-then-binds
unfolding find_binding config_of
returns-then-binds c =
    found_at _ _ (2 * c.loop-k.k) (omega (arith, c.bindings_listed-n.ensures)) c.loop-k.invariant.passed (sym c.binds.ensures ∙ c.if-binds.true)

pub returns-then-i-n : goal.returns-then-i-n
unfolding find_binding config_of
returns-then-i-n c =
    found_at _ _ (2 * c.loop-k.k + 1) (omega (arith, c.bindings_listed-n.ensures)) (passed (goal.at.returns-then-i-n c).Then-binds-2)
    (sym c.binds-in-loop-k.ensures ∙ c.if-binds-2.true)

pub returns-else-i-n : goal.returns-else-i-n
unfolding find_binding config_of
returns-else-i-n c =
    found_nothing _ _ (2 * c.loop-k.k + 1) (omega (arith, c.bindings_listed-n.ensures)) (passed (goal.at.returns-else-i-n c).Then-binds-2)

pub returns : goal.returns
unfolding find_binding config_of
returns c = found_nothing _ _ (2 * c.loop-k.k) (omega (arith, c.bindings_listed-n.ensures)) c.loop-k.invariant.passed
