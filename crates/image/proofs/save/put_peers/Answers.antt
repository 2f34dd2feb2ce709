-- `image::save::put_peers` meets its contract. The loop's invariant: behind the count, the first i peers are laid.
use Rattle.std.proofs.Common.{ℕ, refl, get_or, arith}
use Rattle.image.specs.Image.{peer_row}
use Rattle.image.proofs.Laws.Save.{rows-begun, peer-put, rows-put}
use Rattle.image.proofs.save.put_peers.Goals as goal

pub loop-i-init : goal.loop-i-init
loop-i-init c =
    let a = c.args in
    (refl, rows-begun peer_row (λ (j : ℕ). get_or a.addresses.now j 0) 13 a.out.now _ a.n (omega arith) (c.set.ensures (omega arith)))

pub loop-i-preserved : goal.loop-i-preserved
loop-i-preserved c =
    let a = c.args in
    (omega arith, peer-put a.addresses.now _ _ _ c.loop-i.i (omega arith) c.loop-i.invariant.0 c.loop-i.invariant.1 (c.set-in-loop-i.ensures (omega arith)))

pub returns : goal.returns
returns c =
    let a = c.args in
    rows-put peer_row (λ (j : ℕ). get_or a.addresses.now j 0) 13 a.out.now _ a.n (omega arith) (c.set.ensures (omega arith)) c.loop-i.out c.loop-i.i
    (omega arith) c.loop-i.invariant.1
