-- `endpoint::config::Endpoint::tick` meets its contract. The loop's invariant: the rows before this one are older, and the others are as they came.
use Rattle.std.proofs.Common.{◌≡◌, ◌∙◌, ap, sym, arith, rules, length}
use Rattle.reassembly.specs.Slots.{older_row}
use Rattle.endpoint.specs.Config.{with_rows, tick_of}
use Rattle.endpoint.proofs.Laws.Changed.{changed_before, before_turn, before-none, before-all}
use Rattle.endpoint.proofs.Laws.Promises.{tick_promised}
use Rattle.endpoint.proofs.config.Endpoint.tick.Goals as goal

pub loop-row-init : goal.loop-row-init
loop-row-init c = sym (before-none older_row _)

pub loop-row-preserved : goal.loop-row-preserved
loop-row-preserved c =
    let n : length c.args.self.now.peers ≡ 8 = search rules in
    before_turn older_row c.args.self.now.peers _ _ _ _ (omega arith) c.loop-row.invariant c.tick.ensures

pub returns : goal.returns
unfolding tick_of
returns c =
    let n : length c.args.self.now.peers ≡ 8 = search rules in
    let i : c.loop-row.row-index ≡ length c.args.self.now.peers = omega arith in
    let value = ap (with_rows c.args.self.now) (c.loop-row.invariant ∙ ap (changed_before older_row c.args.self.now.peers) i ∙ before-all older_row _) in
    record { value = value; tick_rule = tick_promised _ _ value }
