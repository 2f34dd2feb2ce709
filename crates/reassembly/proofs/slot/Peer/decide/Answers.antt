-- `reassembly::slot::Peer::decide` meets its contract: each way out cites its law.
use Rattle.std.proofs.Common.{rules, sym, ◌∙◌, arith, List, ◌<◌}
use Rattle.reassembly.specs.Slots.{Slot, bears, most_slots}
use Rattle.reassembly.specs.Take.{Seg, seg_of, Fits}
use Rattle.reassembly.proofs.Laws.Take.{decide_empty, decide_length, decide_past, decide_other, decide_further, decide_full, decide_open, found-slot}
use Rattle.reassembly.proofs.slot.Peer.decide.Goals as goal
use Rattle.reassembly.proofs.slot.Peer.decide.Goals.{Else-segment-end_of}

-- what is known once the checks of 14 are passed
abbrev row_at : Else-segment-end_of → List Slot
row_at c = c.args.self.now.slots

abbrev seg_at : Else-segment-end_of → Seg
seg_at c = seg_of c.args.segment c.args.bytes.now

passed : (c : Else-segment-end_of) → Fits (seg_at c)
passed c = record { some_byte = search rules; least = search rules; most = search rules; inside = omega (arith, c.end_of.ensures) }

pub returns-then-is_empty : goal.returns-then-is_empty
returns-then-is_empty c = decide_empty c.args.self.now.slots (seg_of c.args.segment c.args.bytes.now) (search rules)

pub returns-then-not-contains : goal.returns-then-not-contains
returns-then-not-contains c = decide_length c.args.self.now.slots (seg_of c.args.segment c.args.bytes.now) (search rules) (search rules)

pub returns-then-segment-end_of : goal.returns-then-segment-end_of
returns-then-segment-end_of c =
    decide_past c.args.self.now.slots (seg_of c.args.segment c.args.bytes.now) (search rules) (search rules) (search rules) (omega (arith, c.end_of.ensures))

pub offset_bounds-self-s : goal.offset_bounds-self-s
offset_bounds-self-s c =
    let l : c.in-Some.s < most_slots = found-slot (bears c.args.segment.identifier) c.args.self.now.slots c.in-Some.s (sym c.find_pending.ensures ∙ c.in-Some.is) in
    omega arith

pub bounds-self-s : goal.bounds-self-s
bounds-self-s c = found-slot (bears c.args.segment.identifier) c.args.self.now.slots c.in-Some.s (sym c.find_pending.ensures ∙ c.in-Some.is)

pub returns-then-self-s : goal.returns-then-self-s
returns-then-self-s c =
    let p = (goal.at.returns-then-self-s c).Else-segment-end_of in
    decide_other (row_at p) (seg_at p) (passed p) c.in-Some.s (sym c.find_pending.ensures ∙ c.in-Some.is) c.if-self-s.true

pub returns-in-Some : goal.returns-in-Some
returns-in-Some c =
    let p = (goal.at.returns-in-Some c).Else-segment-end_of in
    decide_further (row_at p) (seg_at p) (passed p) c.in-Some.s (sym c.find_pending.ensures ∙ c.in-Some.is) c.if-self-s.false

pub returns-in_default-find_free : goal.returns-in_default-find_free
returns-in_default-find_free c =
    let p = (goal.at.returns-in_default-find_free c).Else-segment-end_of in
    decide_full (row_at p) (seg_at p) (passed p) (sym c.find_pending.ensures ∙ c.in_default.is) (sym c.find_free.ensures ∙ c.in_default-find_free.is)

pub returns : goal.returns
returns c =
    let p = (goal.at.returns c).Else-segment-end_of in
    decide_open (row_at p) (seg_at p) (passed p) (sym c.find_pending.ensures ∙ c.in_default.is) c.in-Some-find_free.lowest (sym c.find_free.ensures ∙ c.in-Some-find_free.is)
