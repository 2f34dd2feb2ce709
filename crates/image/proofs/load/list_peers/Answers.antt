-- `image::load::list_peers` meets its contract. The loop's invariant: the peers before i are listed.
use Rattle.std.proofs.Common.{◌∙◌, arith}
use Rattle.endpoint.proofs.Laws.Relist.{relisted-none}
use Rattle.image.proofs.Laws.Load.{peer_listed, peer_refused, refused, all-peers}
use Rattle.image.proofs.load.list_peers.Goals as goal

pub loop-i-init : goal.loop-i-init
loop-i-init c = relisted-none _ _

pub returns-in_err-add_peer : goal.returns-in_err-add_peer
returns-in_err-add_peer c =
    peer_refused _ _ _ c.loop-i.i c.loop-i.invariant _ (c.get-address.ensures.value (omega arith)) _ c.add_peer.ensures.value _ (omega (arith, c.peers_in-i-end.ensures.value)) _
    c.in_err-add_peer.was
    ∙ refused _ _ c.from_residual.ensures.0

pub loop-i-preserved : goal.loop-i-preserved
loop-i-preserved c =
    peer_listed _ _ _ c.loop-i.i c.loop-i.invariant _ (c.get-address.ensures.value (omega arith)) _ c.add_peer.ensures.value _ c.add_peer.ensures.endpoint_after _
    c.in_ok-add_peer.was

pub returns : goal.returns
returns c = all-peers _ _ _ c.loop-i.i _ c.loop-i.invariant (omega (arith, c.peers_in-i-end.ensures.value))
