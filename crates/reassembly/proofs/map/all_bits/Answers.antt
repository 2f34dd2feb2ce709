-- `reassembly::map::all_bits` meets its contract.
use Rattle.std.proofs.Common.{arith, refl, get_or, take, length-take, ◌/◌}
use Rattle.std.proofs.lemmas.Nat.{and_le_l}
use Rattle.reassembly.specs.Base.{all_below}
use Rattle.reassembly.proofs.Laws.Map.{all-next, all_not, all_end}
use Rattle.reassembly.proofs.map.all_bits.Goals as goal

pub loop-byte-init : goal.loop-byte-init
unfolding all_below
loop-byte-init c = (omega arith, refl)

pub loop-byte-preserved : goal.loop-byte-preserved
loop-byte-preserved c = let at = c.loop-byte in
    let m = c.args.map.now in (
      omega (arith, and_le_l at.kept (get_or (take (c.args.n / 8) m) at.byte-index 0)),
      all-next m (c.args.n / 8) at.byte-index at.kept (omega (arith, length-take (c.args.n / 8) m)) (omega arith) (c.type_inv.map at.byte-index).fits at.invariant.1,
    )

pub returns-then-kept : goal.returns-then-kept
returns-then-kept c = let at = c.loop-byte in
    all_not c.args.map.now c.args.n at.byte-index at.kept (omega (arith, length-take (c.args.n / 8) c.args.map.now)) at.invariant.1 c.if-kept.true

pub returns : goal.returns
returns c = all_end c.args.map.now c.args.n c.loop-byte.byte-index c.loop-byte.kept (omega (arith, length-take (c.args.n / 8) c.args.map.now)) c.loop-byte.invariant.1 c.mask-rest.result c.if-kept.false
    c.mask-rest.ensures
