-- `wire::put::put` meets its contract.
use Rattle.std.proofs.Common.{arith, length, length-take, drop, ◌+◌, ◌-◌}
use Rattle.wire.proofs.Laws.Bytes.{laid_part}
use Rattle.wire.proofs.put.put.Goals as goal

pub returns : goal.returns
returns c = laid_part c.args.out.now c.args.at c.args.src.now _ _ (omega arith) (c.copy.ensures.room (omega (arith, length-take (c.args.at + length c.args.src.now - c.args.at) (drop c.args.at c.args.out.now))))
