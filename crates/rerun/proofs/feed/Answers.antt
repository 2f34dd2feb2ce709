-- `rerun::feed` meets its contract.
use Rattle.std.specs.Prelude.{◌≡◌, ◌≤◌, length, take}
use Rattle.std.proofs.Common.{refl, arith, length-take}
use Rattle.rerun.specs.Standing.{standing, Ready}
use Rattle.rerun.proofs.feed.Goals as goal
use Rattle.rerun.proofs.feed.Goals.{in-Ok, in-Err}

pub returns-then-n-eq0-clause-ready_2 : goal.returns-then-n-eq0-clause-ready_2
unfolding standing Ready
returns-then-n-eq0-clause-ready_2 g c m = elim c.match-read_some.branch [ in-Ok b ↦ rw b.run-is (c.requires.ready m) | in-Err b ↦ rw b.run-is tt ]

pub returns-clause-ready_2 : goal.returns-clause-ready_2
unfolding standing Ready
returns-clause-ready_2 g c m = c.advance-length.ensures.fed.ready

pub returns-clause-number_bound_2 : goal.returns-clause-number_bound_2
unfolding standing
returns-clause-number_bound_2 g c =
    let same : c.match-read_some.run.number ≡ c.args.run.now.number =
    elim c.match-read_some.branch [ in-Ok b ↦ rw b.run-is refl | in-Err b ↦ rw b.run-is refl ] in
    let few : length (take c.match-read_some.n c.read_some.new.buf) ≤ 32768 =
    simp length-take (omega (arith, c.requires.piece_len_bound, c.read_some.auto.buf)) in
    omega (arith, c.advance-length.ensures.fed.told, same, few)
