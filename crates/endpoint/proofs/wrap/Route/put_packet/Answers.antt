-- `endpoint::wrap::Route::put_packet` meets its contract, by kind.
use Prim.Native.Nat.{◌<◌}
use lib.ListN.{length}
use Rattle.std.proofs.Common.{rules, arith, ◌≡◌}
use Rattle.endpoint.specs.Wrap.{segments_of}
use Rattle.endpoint.proofs.Laws.WrapExits.{stt_room, stt-begins, put-vxlan, put-nvgre, put-stt}
use Rattle.endpoint.proofs.wrap.Route.put_packet.Goals as goal

pub returns-in-1 : goal.returns-in-1
returns-in-1 c =
    let a = c.args in
    put-vxlan a.self.now a.frame.now a.segment a.identifier _ _ _ c.in-1.is c.requires.0 c.requires.1 c.vxlan.ensures

pub returns-in-2 : goal.returns-in-2
returns-in-2 c =
    let a = c.args in
    put-nvgre a.self.now a.frame.now a.segment a.identifier _ _ _ c.in-2.is c.requires.0 c.requires.1 c.nvgre.ensures

pub put_segment-requires : goal.put_segment-requires
put_segment-requires c =
    let a = c.args in
    let t = a.self.now in
    let not_vxlan : t.kind ≡ 1 → ⊥ = search rules in
    let not_nvgre : t.kind ≡ 2 → ⊥ = search rules in
    let h : a.segment < segments_of t.kind (length a.frame.now) t.mtu = omega arith in
    let r : 40 < t.mtu = stt_room t.kind (length a.frame.now) t.mtu a.segment not_vxlan not_nvgre h in
    (c.requires.0, c.requires.1, omega arith, stt-begins t.kind (length a.frame.now) t.mtu a.segment not_vxlan not_nvgre h)

pub returns-in_default : goal.returns-in_default
returns-in_default c =
    let a = c.args in
    let not_vxlan : a.self.now.kind ≡ 1 → ⊥ = search rules in
    let not_nvgre : a.self.now.kind ≡ 2 → ⊥ = search rules in
    put-stt a.self.now a.frame.now a.segment a.identifier _ _ _ not_vxlan not_nvgre a.segments c.requires.2
    c.put_segment.ensures
