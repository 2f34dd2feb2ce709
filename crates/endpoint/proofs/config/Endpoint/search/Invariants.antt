-- `endpoint::config::Endpoint::search` meets its contract. The loop's invariant: no binding before the two of this turn matches.
use Rattle.std.proofs.Common.{◌≡◌, ℕ, ◌*◌, ◌<◌, ◌≤◌, false}
use Rattle.endpoint.specs.Config.{binds, most_bindings}
use Rattle.endpoint.proofs.config.Endpoint.search.Given as goal

abbrev pub invariant-loop-k : goal.invariant-loop-k
invariant-loop-k l = record {
  few : l.n ≤ most_bindings;
  passed : (j : ℕ) → j < 2 * l.k → binds l.self.networks l.self.kinds l.self.owners l.peer l.kind l.network j ≡ false;
}
