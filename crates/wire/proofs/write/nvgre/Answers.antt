-- `wire::write::nvgre` meets its contract.
use Rattle.std.proofs.Common.{arith}
use Rattle.wire.proofs.Laws.Write.{fits_facts, refused, nvgre-done}
use Rattle.wire.proofs.write.nvgre.Goals as goal

pub returns-then-not-frame_fits : goal.returns-then-not-frame_fits
returns-then-not-frame_fits c = refused _ _ _ _ c.frame_fits.ensures (c.if-not-frame_fits.true)

pub packet-requires : goal.packet-requires
packet-requires c = let g = fits_facts _ _ _ _ c.frame_fits.ensures (c.if-not-frame_fits.false) in
    (omega arith, omega arith)

pub returns : goal.returns
returns c = nvgre-done _ _ _ _ _ _ _ _ _ c.frame_fits.ensures (c.if-not-frame_fits.false) c.nvgre-tunnel.ensures
    c.packet.ensures.size_value c.packet.ensures.out_after
