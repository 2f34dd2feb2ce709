-- `wire::write::vxlan` meets its contract.
use Rattle.std.proofs.Common.{arith}
use Rattle.wire.proofs.Laws.Write.{fits_facts, refused, vxlan-done}
use Rattle.wire.proofs.write.vxlan.Goals as goal

pub returns-then-not-frame_fits : goal.returns-then-not-frame_fits
returns-then-not-frame_fits c = refused _ _ _ _ c.frame_fits.ensures (c.if-not-frame_fits.true)

pub source_port-requires : goal.source_port-requires
source_port-requires c = (fits_facts _ _ _ _ c.frame_fits.ensures (c.if-not-frame_fits.false)).least

pub overflow_cast-size : goal.overflow_cast-size
overflow_cast-size c = let g = fits_facts _ _ _ _ c.frame_fits.ensures (c.if-not-frame_fits.false) in
    omega arith

pub packet-requires : goal.packet-requires
packet-requires c = let g = fits_facts _ _ _ _ c.frame_fits.ensures (c.if-not-frame_fits.false) in
    (omega arith, omega arith)

pub returns : goal.returns
returns c = vxlan-done _ _ _ _ _ _ _ _ _ _ c.frame_fits.ensures (c.if-not-frame_fits.false) c.source_port.ensures c.vxlan-tunnel.ensures
    c.packet.ensures.size_value c.packet.ensures.out_after
