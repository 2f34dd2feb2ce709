-- `reassembly::map::any_bit` meets its contract.
use Rattle.std.proofs.Common.{arith, ◌+◌, ◌-◌, ◌/◌, add-zero}
use Rattle.reassembly.proofs.Laws.Map.{any-only, any-start, any-next, any-end}
use Rattle.reassembly.proofs.map.any_bit.Goals as goal

pub returns-then-first-last : goal.returns-then-first-last
returns-then-first-last c = any-only c.args.map.now c.args.a c.args.n c.mask.result (omega arith) c.mask.ensures

pub loop-byte-init : goal.loop-byte-init
loop-byte-init c = rw (add-zero (c.args.a / 8 + 1)) (any-start c.args.map.now c.args.a c.args.n c.mask-2.result c.mask-2.ensures)

pub loop-byte-preserved : goal.loop-byte-preserved
loop-byte-preserved c = let a = c.args in
    any-next a.map.now a.a (a.a / 8 + 1) ((a.a + a.n) / 8 - (a.a / 8 + 1)) c.loop-byte.byte-index c.loop-byte.found (omega arith) (omega arith)
    (c.type_inv.map (a.a / 8 + 1 + c.loop-byte.byte-index)).fits c.loop-byte.invariant

pub returns : goal.returns
returns c = any-end c.args.map.now c.args.a c.args.n c.mask-3.result (c.args.a / 8 + 1 + c.loop-byte.byte-index) c.loop-byte.found (omega arith) (omega arith)
    c.loop-byte.invariant c.mask-3.ensures
