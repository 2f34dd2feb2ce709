-- `image::load::relist` meets its contract.
use Rattle.std.proofs.Common.{◌∙◌}
use Rattle.image.proofs.Laws.Load.{peers_refused, then_bindings, refused}
use Rattle.image.proofs.load.relist.Goals as goal

pub returns-in_err-list_peers : goal.returns-in_err-list_peers
returns-in_err-list_peers c = peers_refused _ _ _ _ c.list_peers.ensures _ c.in_err-list_peers.was ∙ refused _ _ c.from_residual.ensures.0

pub returns : goal.returns
returns c = then_bindings _ _ _ _ c.list_peers.ensures c.in_ok-list_peers.was _ c.list_bindings.ensures
