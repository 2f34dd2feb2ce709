-- `image::save::save` meets its contract.
use Rattle.std.proofs.Common.{arith}
use Rattle.image.proofs.Laws.Images.{save_promised}
use Rattle.image.proofs.Laws.Save.{not_started, too_short, written}
use Rattle.image.proofs.save.save.Goals as goal

pub returns-then-e-eq0 : goal.returns-then-e-eq0
returns-then-e-eq0 c =
    let (value, (output_after, save_rule)) = save_promised _ _ _ _ (not_started c.args.e.now c.args.output.now c.if-e-eq0.true) in
    record { value = value; output_after = output_after; save_rule = save_rule }

pub returns-then-output-size : goal.returns-then-output-size
returns-then-output-size c =
    let (value, (output_after, save_rule)) = save_promised _ _ _ _
    (too_short c.args.e.now c.args.output.now _ _ c.peers_listed-peers.ensures c.bindings_listed-bindings.ensures c.if-e-eq0.false c.if-output-size.true) in
    record { value = value; output_after = output_after; save_rule = save_rule }

pub returns : goal.returns
returns c =
    let (value, (output_after, save_rule)) = save_promised _ _ _ _
    (written c.args.e.now c.args.output.now _ _ c.peers_listed-peers.ensures c.bindings_listed-bindings.ensures c.if-e-eq0.false (omega arith) _ _ _
    c.put_settings.ensures c.put_peers.ensures c.put_bindings.ensures) in
    record { value = value; output_after = output_after; save_rule = save_rule }
