-- `wire::be::be` meets its contract.
use Rattle.std.proofs.Common.{◌≡◌, ◌+◌, ◌-◌, ◌^◌, ◌≤◌, ℕ, ap, ◌∙◌, arith}
use Rattle.std.proofs.Math.Nat.{pow-le-pow_right}
use Rattle.wire.specs.Bytes.{Bytes, be_at}
use Rattle.wire.proofs.Laws.Bytes.{be-lt, be_upward}
use Rattle.wire.proofs.be.be.Goals as goal

pub overflow_add-x-in-loop-i : goal.overflow_add-x-in-loop-i
overflow_add-x-in-loop-i g c =
    let s = c.args.s.now in
    let b : Bytes s = λ i. omega (arith, c.type_inv.s i) in
    let p = c.args.at + (g.row.N - (c.loop-i.i + 1)) in
    let h : c.loop-i.i + 1 ≤ 8 = omega arith in
    let k : 256 ^ (c.loop-i.i + 1) ≤ 256 ^ 8 = pow-le-pow_right (omega arith) h in
    let l = be-lt s b p (c.loop-i.i + 1) in
    omega (arith, be_upward s b c.args.at g.row.N c.loop-i.i c.loop-i.x (omega arith) (omega arith) c.loop-i.invariant.1)

pub loop-i-init : goal.loop-i-init
unfolding be_at
loop-i-init g c = omega arith

pub loop-i-preserved : goal.loop-i-preserved
loop-i-preserved g c =
    let b : Bytes c.args.s.now = λ i. omega (arith, c.type_inv.s i) in
    (omega arith, be_upward c.args.s.now b c.args.at g.row.N c.loop-i.i c.loop-i.x (omega arith) (omega arith) c.loop-i.invariant.1)

pub returns : goal.returns
returns g c =
    let a = c.args in
    let b : Bytes a.s.now = λ i. omega (arith, c.type_inv.s i) in
    let i : c.loop-i.i ≡ g.row.N = omega arith in
    let p : a.at + (g.row.N - c.loop-i.i) ≡ a.at = omega arith in
    let e : c.loop-i.x ≡ be_at a.s.now a.at g.row.N =
    c.loop-i.invariant.1 ∙ ap (λ (q : ℕ). be_at a.s.now q c.loop-i.i) p ∙ ap (be_at a.s.now a.at) i in
    record { value = e; bound = rw e (be-lt a.s.now b a.at g.row.N) }
