-- `wire::ones::Accumulator::add` meets its contract.
use Rattle.std.proofs.Common.{refl, arith}
use Rattle.wire.proofs.Laws.Ones.{add_carry}
use Rattle.wire.proofs.ones.Accumulator.add.Goals as goal

pub returns : goal.returns
returns c =
    let self = c.self.inside in
    let (bound, value) = add_carry self.low self.carry c.args.word _ _ _ (omega arith) c.self.invariant refl refl refl in
    rw (← c.self.view_is) value
