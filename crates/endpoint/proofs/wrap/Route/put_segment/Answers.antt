-- `endpoint::wrap::Route::put_segment` meets its contract.
use mathlib.Core.Path.{ap}
use Prim.Native.Nat.{ℕ, ◌*◌, ◌-◌}
use Rattle.endpoint.proofs.Laws.WrapExits.{put-piece}
use Rattle.endpoint.proofs.wrap.Route.put_segment.Goals as goal

pub returns : goal.returns
returns c =
    let a = c.args in
    let r = a.self.now in
    put-piece r.own r.peer r.port r.network a.identifier (r.mtu - 40) a.segment _ a.last a.frame.now _ _ _ c.requires.0 c.requires.1
    c.requires.3
    (ap (λ (x : ℕ). x - a.segment * (r.mtu - 40)) c.min-end.ensures) c.segment.ensures
