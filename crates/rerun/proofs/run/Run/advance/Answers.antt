-- `rerun::run::Run::advance` meets its contract: what was written and what will be is together the same at every turn, and each turn uses some of the piece.
use Rattle.std.specs.Prelude.{ℕ, ◌-◌, List, take, drop, Some}
use Rattle.std.proofs.Common.{◌∙◌, ap, refl, subst, arith}
use Rattle.wire.proofs.Laws.Bytes.{drop-take}
use Rattle.endpoint.specs.Run.{Left}
use Rattle.trace.specs.Trace.{packet}
use Rattle.rerun.specs.Standing.{standing, Ready, Completes}
use Rattle.rerun.proofs.Laws.Standing.{quietly, with_tick, with_packet}
use Rattle.rerun.proofs.run.Run.advance.Goals as goal
use Rattle.rerun.proofs.run.Run.advance.Goals.{in-Tick, in-Packet}

pub next-requires-clause-waits : goal.next-requires-clause-waits
unfolding Ready standing
next-requires-clause-waits c = c.loop-rest.invariant.0.ready

pub loop-rest-preserved-in_default : goal.loop-rest-preserved-in_default
unfolding standing
loop-rest-preserved-in_default c =
    let l = c.loop-rest in
    let w : Left = record { endpoint = l.self.endpoint; mem = l.memory } in (
      quietly (standing c.args.self.now c.args.memory.now) c.args.piece.now l.self.input c.next.new.self l.self.number w l.rest.now c.next.new.piece.now l.end
          l.out l.invariant.0 c.next.ensures.less (c.next.ensures.quiet c.in_default.is),
      c.next.ensures.held,
    )

pub overflow_add-self : goal.overflow_add-self
unfolding standing
overflow_add-self c = omega (arith, c.loop-rest.invariant.0.told, c.next.ensures.less, c.requires.piece_bound)

pub loop-rest-preserved : goal.loop-rest-preserved
unfolding standing
loop-rest-preserved c =
    let l = c.loop-rest in
    let w : Left = record { endpoint = l.self.endpoint; mem = l.memory } in
    elim c.match-complete.branch [
      | in-Tick b ↦ rw (b.self-is, b.memory-is, b.out-is, b.end-is) (
        with_tick (standing c.args.self.now c.args.memory.now) c.args.piece.now l.self.input c.next.new.self l.self.number w l.rest.now c.next.new.piece.now
            l.end l.out l.invariant.0 c.next.ensures.less _ _ b.put_tick-end.ensures.upper_bound (c.next.ensures.ticks (c.in-Some.is ∙ ap Some b.in-Tick.is))
            b.put_tick-end.ensures.out_after _ b.tick.ensures.value,
        refl,
      )
      | in-Packet b ↦
          let found = c.next.ensures.packets (c.in-Some.is ∙ ap Some b.in-Packet.is) in
          let reader = c.next.new.self.reader in
          let k : List ℕ = take (reader.count - 3) (drop 3 reader.held) in
          rw (b.self-is, b.memory-is, b.out-is, b.end-is) (
            with_packet (standing c.args.self.now c.args.memory.now) c.args.piece.now l.self.input c.next.new.self l.self.number w l.rest.now c.next.new.piece.now
                l.end l.out l.invariant.0 c.next.ensures.less _ _ b.put_answer-end.ensures.upper_bound k
                (subst (λ (s : List ℕ). Completes (packet s) l.self.input l.rest.now c.next.new.self c.next.new.piece.now) (drop-take 3 reader.count reader.held) found.0)
                b.receive-answer.result b.put_answer-end.ensures.out_after _ _ b.receive-answer.ensures.value b.receive-answer.ensures.endpoint_after
                b.receive-answer.ensures.memory_after,
            refl,
          )
    ]
