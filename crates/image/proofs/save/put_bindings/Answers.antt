-- `image::save::put_bindings` meets its contract. The loop's invariant: behind the count, the first i bindings are laid.
use Rattle.std.proofs.Common.{◌+◌, refl, arith}
use Rattle.image.specs.Image.{binding_row}
use Rattle.image.specs.Save.{binding_entry}
use Rattle.image.proofs.Laws.Save.{rows-begun, binding_row-put, rows-put}
use Rattle.image.proofs.save.put_bindings.Goals as goal

pub loop-i-init : goal.loop-i-init
loop-i-init c =
    let a = c.args in
    let e = a.e.now in
    (refl, rows-begun binding_row (binding_entry e.networks e.kinds e.owners e.tenants) a.at a.out.now _ a.n (omega arith) (c.set.ensures (omega arith)))

pub loop-i-preserved : goal.loop-i-preserved
loop-i-preserved c =
    let a = c.args in
    let e = a.e.now in
    (omega arith, binding_row-put e.networks e.kinds e.owners e.tenants _ _ _ (a.at + 1) c.loop-i.i (omega arith) c.loop-i.invariant.1 c.put_binding.ensures)

pub returns : goal.returns
returns c =
    let a = c.args in
    let e = a.e.now in
    rows-put binding_row (binding_entry e.networks e.kinds e.owners e.tenants) a.at a.out.now _ a.n (omega arith)
    (c.set.ensures (omega arith)) c.loop-i.out c.loop-i.i (omega arith) c.loop-i.invariant.1
