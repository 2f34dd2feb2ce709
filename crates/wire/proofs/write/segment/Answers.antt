-- `wire::write::segment` meets its contract.
use Rattle.std.proofs.Common.{arith}
use Rattle.wire.proofs.Laws.Write.{segment-fits_facts, refused, segment-done}
use Rattle.wire.proofs.write.segment.Goals as goal

pub returns-then-not-fits : goal.returns-then-not-fits
returns-then-not-fits c = refused _ _ _ _ c.fits.ensures (c.if-not-fits.true)

pub put_packet-requires : goal.put_packet-requires
put_packet-requires c = let g = segment-fits_facts _ _ _ _ _ c.fits.ensures (c.if-not-fits.false) in
    (g.least, omega arith, g.within, g.short, g.room_is)

pub overflow_add-result : goal.overflow_add-result
overflow_add-result c = let g = segment-fits_facts _ _ _ _ _ c.fits.ensures (c.if-not-fits.false) in
    omega arith

pub returns : goal.returns
returns c = segment-done _ _ _ _ _ _ _ _ _ _ _ _ c.fits.ensures (c.if-not-fits.false) c.put_packet.ensures
