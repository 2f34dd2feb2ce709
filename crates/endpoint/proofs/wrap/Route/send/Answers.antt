-- `endpoint::wrap::Route::send` meets its contract: its exit number n gives what check number n gives.
use Prim.Native.Nat.{◌<◌, ◌≤◌}
use mathlib.Core.Path.{◌≡◌, ◌∙◌, sym}
use lib.ListN.{length}
use native.Mathlib.Omega.{arith}
use Rattle.wire.specs.Frame.{IsFrame}
use Rattle.wire.proofs.Laws.Frame.{sound}
use Rattle.endpoint.specs.Wrap.{segments_of}
use Rattle.endpoint.proofs.Laws.WrapExits.{send_frame, send_mtu, send_segment, send_output, send_written}
use Rattle.endpoint.proofs.wrap.Route.send.Goals as goal

pub returns-in_default : goal.returns-in_default
returns-in_default c =
    let a = c.args in
    let (value, output_after) = send_frame a.self.now a.frame.now a.segment a.identifier a.output.now _ (sym c.read.ensures ∙ c.in_default.is) in
    record { value = value; output_after = output_after }

pub exceeds-requires : goal.exceeds-requires
exceeds-requires c =
    let a = c.args in
    let w : IsFrame a.frame.now = sound a.frame.now (sym c.read.ensures ∙ c.in-Ok.is) in
    w.most

pub returns-then-exceeds : goal.returns-then-exceeds
returns-then-exceeds c =
    let a = c.args in
    let (value, output_after) = send_mtu a.self.now a.frame.now a.segment a.identifier a.output.now (sym c.read.ensures ∙ c.in-Ok.is)
    (sym c.exceeds.ensures ∙ c.if-exceeds.true) in
    record { value = value; output_after = output_after }

pub segments-segments-requires : goal.segments-segments-requires
segments-segments-requires c =
    let a = c.args in
    let w : IsFrame a.frame.now = sound a.frame.now (sym c.read.ensures ∙ c.in-Ok.is) in
    w.most

pub returns-then-segments-segment : goal.returns-then-segments-segment
returns-then-segments-segment c =
    let a = c.args in
    let n : c.segments-segments.result ≡ segments_of a.self.now.kind (length a.frame.now) a.self.now.mtu = c.segments-segments.ensures in
    let h : segments_of a.self.now.kind (length a.frame.now) a.self.now.mtu ≤ a.segment = omega arith in
    let (value, output_after) = send_segment a.self.now a.frame.now a.segment a.identifier a.output.now (sym c.read.ensures ∙ c.in-Ok.is)
    (sym c.exceeds.ensures ∙ c.if-exceeds.false) h in
    record { value = value; output_after = output_after }

pub put_packet-requires : goal.put_packet-requires
put_packet-requires c =
    let a = c.args in
    let w : IsFrame a.frame.now = sound a.frame.now (sym c.read.ensures ∙ c.in-Ok.is) in
    (w.least, w.most, c.segments-segments.ensures, omega arith)

pub returns-in_default-put_packet : goal.returns-in_default-put_packet
returns-in_default-put_packet c =
    let a = c.args in
    let n : c.segments-segments.result ≡ segments_of a.self.now.kind (length a.frame.now) a.self.now.mtu = c.segments-segments.ensures in
    let h : a.segment < segments_of a.self.now.kind (length a.frame.now) a.self.now.mtu = omega arith in
    let (value, output_after) = send_output a.self.now a.frame.now a.segment a.identifier a.output.now (sym c.read.ensures ∙ c.in-Ok.is)
    (sym c.exceeds.ensures ∙ c.if-exceeds.false) h _ _ c.put_packet.ensures c.in_default-put_packet.is in
    record { value = value; output_after = output_after }

pub returns : goal.returns
returns c =
    let a = c.args in
    let n : c.segments-segments.result ≡ segments_of a.self.now.kind (length a.frame.now) a.self.now.mtu = c.segments-segments.ensures in
    let h : a.segment < segments_of a.self.now.kind (length a.frame.now) a.self.now.mtu = omega arith in
    let (value, output_after) = send_written a.self.now a.frame.now a.segment a.identifier a.output.now (sym c.read.ensures ∙ c.in-Ok.is)
    (sym c.exceeds.ensures ∙ c.if-exceeds.false) h _ _ c.put_packet.ensures _ _ c.in-Some.is n in
    record { value = value; output_after = output_after }
