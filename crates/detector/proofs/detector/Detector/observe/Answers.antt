-- `detector::detector::Detector::observe` meets its contract: each exit is one of the three ways of a call.
use Rattle.std.proofs.Common.{◌≡◌, ℕ, Some, None, sym, ◌∙◌, arith, rules}
use Rattle.std.proofs.Math.Option.{some, none}
use Rattle.lookup.specs.Search.{found_of}
use Rattle.lookup.proofs.Laws.Search.{found_some, found_none}
use Rattle.detector.specs.Detector.{entry_for, with_entry}
use Rattle.detector.proofs.Laws.Observe.{position_entry, entry_below, judged-known, judged-duplicate, listed_is, full_is, new_is}
use Rattle.detector.proofs.detector.Detector.observe.Goals as goal
use Rattle.detector.proofs.detector.Detector.observe.Goals.{After-find}

-- what was looked up
entry : (c : After-find) → c.find.result ≡ found_of (entry_for c.args.self.now c.args.tenant c.args.address)
entry c = c.find.ensures ∙ position_entry _ _ _ (search rules) (search rules)

listed : (c : After-find) (i : ℕ) → c.find.result ≡ Some i → entry_for c.args.self.now c.args.tenant c.args.address ≡ some i
listed c i e = found_some _ i (sym (entry c) ∙ e)

nothing : (c : After-find) → c.find.result ≡ None → entry_for c.args.self.now c.args.tenant c.args.address ≡ none
nothing c e = found_none _ (sym (entry c) ∙ e)

pub offset_bounds-self-i : goal.offset_bounds-self-i
offset_bounds-self-i c = omega (arith, entry_below _ _ _ _ (listed (goal.at.offset_bounds-self-i c).After-find _ c.in-Some.is))

pub bounds-self-i : goal.bounds-self-i
bounds-self-i c = omega (arith, entry_below _ _ _ _ (listed (goal.at.bounds-self-i c).After-find _ c.in-Some.is))

pub returns-then-first-peer-clause-value : goal.returns-then-first-peer-clause-value
returns-then-first-peer-clause-value c =
    rw (listed_is _ _ _ _ _ (listed (goal.at.returns-then-first-peer-clause-value c).After-find _ c.in-Some.is)) (judged-known _ _ c.if-first-peer.true)

pub returns-then-first-peer-clause-after : goal.returns-then-first-peer-clause-after
returns-then-first-peer-clause-after c = rw (listed_is _ _ c.args.peer _ _ (listed (goal.at.returns-then-first-peer-clause-after c).After-find _ c.in-Some.is))

pub returns-in-Some-clause-value : goal.returns-in-Some-clause-value
returns-in-Some-clause-value c =
    rw (listed_is _ _ c.args.peer _ _ (listed (goal.at.returns-in-Some-clause-value c).After-find _ c.in-Some.is)) (judged-duplicate _ _ c.if-first-peer.false)

pub returns-in-Some-clause-after : goal.returns-in-Some-clause-after
returns-in-Some-clause-after c = rw (listed_is _ _ c.args.peer _ _ (listed (goal.at.returns-in-Some-clause-after c).After-find _ c.in-Some.is))

pub returns-then-n-ge-ENTRIES-clause-value : goal.returns-then-n-ge-ENTRIES-clause-value
returns-then-n-ge-ENTRIES-clause-value c = rw (full_is _ _ c.args.peer _ (nothing (goal.at.returns-then-n-ge-ENTRIES-clause-value c).After-find c.in_default.is) (omega arith))

pub returns-then-n-ge-ENTRIES-clause-after : goal.returns-then-n-ge-ENTRIES-clause-after
returns-then-n-ge-ENTRIES-clause-after c = rw (full_is _ _ c.args.peer _ (nothing (goal.at.returns-then-n-ge-ENTRIES-clause-after c).After-find c.in_default.is) (omega arith))

pub returns-clause-value : goal.returns-clause-value
returns-clause-value c = rw (new_is _ _ c.args.peer _ (nothing (goal.at.returns-clause-value c).After-find c.in_default.is) (omega arith))

pub returns-clause-after : goal.returns-clause-after
unfolding with_entry
returns-clause-after c = rw (new_is _ _ c.args.peer _ (nothing (goal.at.returns-clause-after c).After-find c.in_default.is) (omega arith)) (rw c.from-n.ensures)
