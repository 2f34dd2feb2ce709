-- `wire::ones::fold` meets its contract.
use Rattle.std.proofs.Common.{refl, arith}
use Rattle.wire.proofs.Laws.Ones.{fold_rotated}
use Rattle.wire.proofs.ones.fold.Goals as goal

pub returns : goal.returns
returns c = fold_rotated c.args.n _ _ _ _ (omega arith) c.rotate_left.ensures refl c.rotate_left-2.ensures refl
