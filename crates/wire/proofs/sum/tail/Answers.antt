-- `wire::sum::tail` meets its contract.
use Rattle.std.proofs.Common.{◌≡◌, arith, slice_index_or}
use Rattle.std.proofs.Math.ListN.{get_or-eq_default}
use Rattle.wire.proofs.Laws.Sum.{total_few}
use Rattle.wire.proofs.sum.tail.Goals as goal

pub returns-in-empty-clause-value : goal.returns-in-empty-clause-value
returns-in-empty-clause-value c =
    let s = c.args.s.now in
    let x : slice_index_or s 0 0 ≡ 0 = get_or-eq_default s 0 (omega arith) in
    let y : slice_index_or s 1 0 ≡ 0 = get_or-eq_default s 0 (omega arith) in
    let z : slice_index_or s 2 0 ≡ 0 = get_or-eq_default s 0 (omega arith) in
    omega (arith, total_few s c.requires)

pub returns-in-len1-clause-value : goal.returns-in-len1-clause-value
returns-in-len1-clause-value c =
    let s = c.args.s.now in
    let y : slice_index_or s 1 0 ≡ 0 = get_or-eq_default s 0 (omega arith) in
    let z : slice_index_or s 2 0 ≡ 0 = get_or-eq_default s 0 (omega arith) in
    omega (arith, total_few s c.requires)

pub returns-in-len2-clause-value : goal.returns-in-len2-clause-value
returns-in-len2-clause-value c =
    let s = c.args.s.now in
    let z : slice_index_or s 2 0 ≡ 0 = get_or-eq_default s 0 (omega arith) in
    omega (arith, total_few s c.requires)

pub returns-in-len3-up-clause-value : goal.returns-in-len3-up-clause-value
returns-in-len3-up-clause-value c = omega (arith, total_few c.args.s.now c.requires)
