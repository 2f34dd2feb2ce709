-- `wire::le::le` meets its contract.
use Rattle.std.proofs.Common.{◌≡◌, ◌+◌, ◌^◌, ◌≤◌, ap, ◌∙◌, arith}
use Rattle.std.proofs.Math.Nat.{pow-le-pow_right}
use Rattle.wire.specs.Bytes.{Bytes}
use Rattle.wire.specs.Sum.{le_at}
use Rattle.wire.proofs.Laws.Le.{le-lt, le_upward}
use Rattle.wire.proofs.le.le.Goals as goal

pub overflow_add-x-in-loop-i : goal.overflow_add-x-in-loop-i
overflow_add-x-in-loop-i g c =
    let s = c.args.s.now in
    let b : Bytes s = λ i. omega (arith, c.type_inv.s i) in
    let h : c.loop-i.i + 1 ≤ 8 = omega arith in
    let k : 256 ^ (c.loop-i.i + 1) ≤ 256 ^ 8 = pow-le-pow_right (omega arith) h in
    let l = le-lt s b c.args.at (c.loop-i.i + 1) in
    omega (arith, le_upward s b c.args.at c.loop-i.i c.loop-i.x (omega arith) c.loop-i.invariant.1)

pub loop-i-init : goal.loop-i-init
unfolding le_at
loop-i-init g c = omega arith

pub loop-i-preserved : goal.loop-i-preserved
loop-i-preserved g c =
    let b : Bytes c.args.s.now = λ i. omega (arith, c.type_inv.s i) in
    (omega arith, le_upward c.args.s.now b c.args.at c.loop-i.i c.loop-i.x (omega arith) c.loop-i.invariant.1)

pub returns : goal.returns
returns g c =
    let i : c.loop-i.i ≡ g.row.N = omega arith in
    c.loop-i.invariant.1 ∙ ap (le_at c.args.s.now c.args.at) i
