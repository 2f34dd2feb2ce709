-- What taking a segment gives, by document 01's rows (Table.antt).
use Prim.Native.Nat.{ℕ, ◌+◌, ◌<◌, ◌≤◌}
use Rattle.std.specs.Prelude.{◌≡◌, not, cond, ◌&&◌, ◌||◌, List, get_or, set}
use Rattle.std.proofs.Math.Path.{refl, sym, ap}
use Rattle.std.proofs.Common.{◌∙◌}
use Rattle.std.proofs.Math.Bool.{Bool, true, false}
use Rattle.std.proofs.Math.Option.{Option, none, some}
use native.Mathlib.Omega.{arith}
use Rattle.std.proofs.Math.ListN.{length}
use Rattle.std.proofs.Math.Dec.{ltb, eqb}
use borrow.Author.Tests.{ltb-false, not-true, not-false}
use Rattle.wire.specs.Checks.{Passed, pick}
use Rattle.wire.specs.Refusal.{Finding, only}
use Rattle.wire.proofs.Laws.Checks.{choices, unless}
use Rattle.wire.specs.Table.{◌otherwise◌}
use Rattle.wire.proofs.Laws.Table.{under, row4}
use Rattle.wire.proofs.Laws.Offset.{Low}
use Rattle.reassembly.proofs.Laws.Base.{case_b, case_o, clash, or_false-l, or_false_r, all_below_ext, all_below-at, all_below_intro, table_ext, length-table}
use Rattle.reassembly.specs.Base.{some_below, all_below, within}
use Rattle.lookup.specs.Search.{lowest}
use Rattle.lookup.proofs.Laws.Search.{lowest-some, found_is}
use Rattle.reassembly.proofs.Laws.Base.{found_some, found_none}
use Rattle.reassembly.specs.Slots.{Slot, Peer, Note, no_note, note_of, free, first, bears, is_free_slot, most_peers, most_slots}
use Rattle.reassembly.proofs.Laws.Slots.{first_some, first-none, slots-lowest}
use Rattle.reassembly.specs.Take.{Seg, Effect, Choice, reject, old, chosen, choose_new, choose, slot_no, further_slot, opened_slot, note_after, overlaps}
use Rattle.reassembly.specs.Take.{rejection_code}
use Rattle.reassembly.specs.Take.{frame_in, finish, placed, take_segment}
use Rattle.reassembly.specs.Take as K
use Rattle.reassembly.specs.Store.{is_on, bit_at, slot_start, map_start, clear_at, put_at, received_at, byte_at, bytes_of, take_in}
use Rattle.reassembly.proofs.Laws.Store.{take_in_lem, bytes_laws}
use Rattle.reassembly.specs.Table.{segment_rows, complete_frame, taken_tells, Table}
use Rattle.reassembly.specs.Table as T

cond-true : {A : Type 0} (b : Bool) (x y : A) → b ≡ true → cond b x y ≡ x
cond-true b x y q = rw q

or_no : (a b w : Bool) → w ≡ false → (a || w && b) ≡ true → a ≡ true
or_no true b w q r = refl
or_no false b true q r = sym q
or_no false b false q r = r

-- the rows 15 to 17 of a new identifier, and of one that is pending
new_row : {A : Type 0} (i j k : A) (w a b c : Bool) (x : A) → w ≡ false → pick (w && a) i (pick (w && b) j (pick (not w && c) k x)) ≡ pick c k x
new_row i j k true a b c x q = clash (cc (q))
new_row i j k false a b c x q = refl

old_row : {A : Type 0} (i j k : A) (w a b c : Bool) (x : A) → w ≡ true → pick (w && a) i (pick (w && b) j (pick (not w && c) k x)) ≡ pick a i (pick b j x)
old_row i j k true a b c x q = refl
old_row i j k false a b c x q = clash (cc (q))

-- 14, and what follows
pub chosen_is : {A : Type 0} (h : Choice → A) (row : List Slot) (g : Seg) → h (chosen row g)
    ≡ pick (eqb (length g.bytes) 0) (h (reject K.Empty))
    (pick (ltb g.frame_length 32) (h (reject K.FrameLength))
    (pick (ltb 1532 g.frame_length) (h (reject K.FrameLength))
    (pick (ltb g.frame_length (g.offset + length g.bytes)) (h (reject K.PastEnd))
    (h (choose row g (first (bears g.identifier) row))))))
unfolding chosen
chosen_is h row g =
    case_b (eqb (length g.bytes) 0) (λ a. rw a) (λ a.
    case_b (ltb g.frame_length 32) (λ b. rw (a, b)) (λ b.
    case_b (ltb 1532 g.frame_length) (λ c. rw (a, b, c)) (λ c.
    case_b (ltb g.frame_length (g.offset + length g.bytes)) (λ d. rw (a, b, c, d)) (λ d. rw (a, b, c, d)))))

module _ (f : List ℕ → Finding) (p : ℕ) (row : Peer) (m : List ℕ) (g : Seg) where
  -- the words of the page, of this segment
  abbrev slots : List Slot
  slots = row.slots

  abbrev frame_length_at : ℕ
  frame_length_at = g.frame_length

  abbrev pending : Bool
  pending = T.pending p row m g

  abbrev at : ℕ
  at = T.at p row m g

  abbrev received : ℕ → Bool
  received = T.received p row m g

  abbrev carried : ℕ → Bool
  carried = T.carried p row m g

  abbrev complete : Bool
  complete = T.complete p row m g

  abbrev overlap : Bool
  overlap = some_below (length g.bytes) (λ (i : ℕ). received (g.offset + i))

  abbrev full : Bool
  full = all_below most_slots (λ (s : ℕ). (get_or slots s free).pending)

  effect_tells : Effect bytes_of → Finding
  effect_tells o = taken_tells f p g o o.outcome

  -- what follows 17
  abbrev last : Finding
  last = pick (not complete) (only 1) (f (complete_frame p row m g))

  finish-told : (s : ℕ) (row' : List Slot) (after : List ℕ) (note : Note)
      → K.complete bytes_of after (slot_no p s) frame_length_at ≡ complete
      → (complete ≡ true → frame_in bytes_of after (slot_no p s) frame_length_at ≡ complete_frame p row m g)
      → effect_tells (finish bytes_of p s row' after g note) ≡ last
  unfolding effect_tells taken_tells
  finish-told s row' after note r h =
      case_b (K.complete bytes_of after (slot_no p s) frame_length_at)
      (λ c. let w : complete ≡ true = sym r ∙ c in rw (c, w) (ap f (h w)))
      (λ c. let w : complete ≡ false = sym r ∙ c in rw (c, w))

  module _ (enough : 55296 ≤ length m) (small : p < most_peers) (most : frame_length_at ≤ 1532) (inside : g.offset + length g.bytes ≤ frame_length_at) where
    -- the segment of a frame that is pending, in its slot
    abbrev stored : List ℕ
    stored = put_at m (slot_no p at) g.offset g.bytes

    module _ (way : pending ≡ true) (slot : at < most_slots) where
      old-complete : K.complete bytes_of stored (slot_no p at) frame_length_at ≡ complete
      unfolding K.complete received_at bit_at is_on map_start within slot_no
      old-complete =
          all_below_ext frame_length_at _ _ (λ i (l : i < frame_length_at).
          bytes_laws.received_put m (slot_no p at) g.offset g.bytes enough (omega arith) (omega arith) i (omega arith)
          ∙ ap (λ (b : Bool). carried i || b && received i) (sym way))

      old-frame : frame_in bytes_of stored (slot_no p at) frame_length_at ≡ complete_frame p row m g
      unfolding frame_in byte_at slot_start within complete_frame slot_no
      old-frame =
          table_ext frame_length_at _ _ (λ i (l : i < frame_length_at).
          bytes_laws.byte_put m (slot_no p at) g.offset g.bytes enough (omega arith) (omega arith) i (omega arith))

    -- the segment of a new frame, in a free slot s
    module _ (way : pending ≡ false) (s : ℕ) (slot : s < most_slots) where
      abbrev opened : List ℕ
      opened = put_at (clear_at m (slot_no p s)) (slot_no p s) g.offset g.bytes

      new-complete : K.complete bytes_of opened (slot_no p s) frame_length_at ≡ complete
      unfolding K.complete within slot_no
      new-complete =
          let κ : ℕ = slot_no p s in
          all_below_ext frame_length_at _ _ (λ i (l : i < frame_length_at).
          bytes_laws.received_put (clear_at m κ) κ g.offset g.bytes
          (bytes_laws.ok_clear m κ enough (omega arith)) (omega arith) (omega arith) i (omega arith)
          ∙ ap (λ (b : Bool). carried i || b) (bytes_laws.received_clear m κ enough (omega arith) i (omega arith))
          ∙ ap (λ (b : Bool). carried i || b && received i) (sym way))

      new-frame : complete ≡ true → frame_in bytes_of opened (slot_no p s) frame_length_at ≡ complete_frame p row m g
      unfolding frame_in within complete_frame slot_no
      new-frame w =
          let κ : ℕ = slot_no p s in
          table_ext frame_length_at _ _ (λ i (l : i < frame_length_at).
          let c : carried i ≡ true =
          or_no (carried i) (received i) pending way (all_below-at frame_length_at (λ i. carried i || pending && received i) w i l) in
          bytes_laws.byte_put (clear_at m κ) κ g.offset g.bytes
          (bytes_laws.ok_clear m κ enough (omega arith)) (omega arith) (omega arith) i (omega arith)
          ∙ cond-true (carried i) _ _ c ∙ sym (cond-true (carried i) _ _ c))

    -- 15 and 16, or 17
    placed_tells : Choice → Finding
    placed_tells c = effect_tells (placed bytes_of p slots m g c)

    is_full : first is_free_slot slots ≡ none → full ≡ true
    unfolding is_free_slot
    is_full r = all_below_intro most_slots (λ (s : ℕ). (get_or slots s free).pending) (λ i l. not-false (get_or slots i free).pending (first-none is_free_slot slots r i l))

    not_full : (s : ℕ) → first is_free_slot slots ≡ some s → full ≡ false
    unfolding is_free_slot
    not_full s r =
        let w = first_some is_free_slot slots s r in
        case_b full
        (λ h. clash (cc (all_below-at most_slots (λ (s : ℕ). (get_or slots s free).pending) h s w.is_slot, not-true (get_or slots s free).pending w.passes)))
        (λ h. h)

    new_told : pending ≡ false → placed_tells (choose_new (first is_free_slot slots)) ≡ pick full (only 17) last
    unfolding placed_tells effect_tells rejection_code taken_tells
    new_told way =
        case_o (first is_free_slot slots)
        (λ r. ap (λ (o : Option ℕ). placed_tells (choose_new o)) r ∙ sym (ap (λ (b : Bool). pick b (only 17) last) (is_full r)))
        (λ s r.
        let slot : s < most_slots = (first_some is_free_slot slots s r).is_slot in
        ap (λ (o : Option ℕ). placed_tells (choose_new o)) r
        ∙ finish-told s (set slots s (opened_slot g)) (opened way s slot) (note_after no_note g) (new-complete way s slot) (new-frame way s slot)
        ∙ sym (ap (λ (b : Bool). pick b (only 17) last) (not_full s r)))

    same-overlap : overlaps bytes_of m (slot_no p at) g ≡ overlap
    unfolding overlaps received_at bit_at is_on map_start slot_no
    same-overlap = refl

    old-told : pending ≡ true → at < most_slots
        → placed_tells (choose slots g (some at)) ≡ pick (not (eqb (get_or slots at free).frame_length frame_length_at)) (only 15) (pick overlap (only 16) last)
    unfolding placed_tells effect_tells slot_no taken_tells rejection_code
    old-told way slot = by_length (eqb (get_or slots at free).frame_length frame_length_at)
      where
        by_overlap : (b : Bool) → overlaps bytes_of m (slot_no p at) g ≡ b → placed_tells (old at) ≡ pick b (only 16) last
        by_overlap true q = rw q
        by_overlap false q =
            rw q (finish-told at (set slots at (further_slot (get_or slots at free) g)) stored (note_after (note_of (get_or slots at free)) g)
            (old-complete way slot) (λ _. old-frame way slot))

        by_length : (b : Bool) → placed_tells (cond b (old at) (reject K.LengthDiffers)) ≡ pick (not b) (only 15) (pick overlap (only 16) last)
        by_length true = by_overlap overlap same-overlap
        by_length false = refl

    abbrev chosen_tells : Finding
    chosen_tells =
        pick (pending && not (eqb (get_or slots at free).frame_length frame_length_at)) (only 15)
        (pick (pending && overlap) (only 16) (pick (not pending && full) (only 17) last))

    choose-told : placed_tells (choose slots g (first (bears g.identifier) slots)) ≡ chosen_tells
    unfolding bears
    choose-told =
        let same : first (bears g.identifier) slots ≡ lowest (T.pending_in p row m g) most_slots = slots-lowest (bears g.identifier) slots in
        case_o (lowest (T.pending_in p row m g) most_slots)
        (λ q. let way : pending ≡ false = found_none (T.pending_in p row m g) most_slots q in
        ap (λ (o : Option ℕ). placed_tells (choose slots g o)) (same ∙ q) ∙ new_told way ∙ sym (new_row (only 15) (only 16) (only 17) pending _ _ full last way))
        (λ s q.
        let r : lowest (T.pending_in p row m g) most_slots ≡ some at = found_is (lowest (T.pending_in p row m g) most_slots) s q in
        let way : pending ≡ true = found_some (T.pending_in p row m g) most_slots s q in
        ap (λ (o : Option ℕ). placed_tells (choose slots g o)) (same ∙ r)
        ∙ old-told way (lowest-some (T.pending_in p row m g) most_slots at r).below
        ∙ sym (old_row (only 15) (only 16) (only 17) pending _ overlap full last way))

  segment-told : p < most_peers → 55296 ≤ length m → effect_tells (take_segment bytes_of p row m g) ≡ (segment_rows p row m g otherwise f
      (complete_frame p row m g))
  unfolding effect_tells placed_tells take_segment segment_rows rejection_code taken_tells
  segment-told small enough =
      simp choices
      (chosen_is (λ (c : Choice). effect_tells (placed bytes_of p slots m g c)) slots g
      ∙ unless (eqb (length g.bytes) 0) (only 14) _ _ (λ _.
      unless (ltb frame_length_at 32) (only 14) _ _ (λ _.
      unless (ltb 1532 frame_length_at) (only 14) _ _ (λ most.
      unless (ltb frame_length_at (g.offset + length g.bytes)) (only 14) _ _ (λ inside.
      choose-told enough small (ltb-false 1532 frame_length_at most) (ltb-false frame_length_at (g.offset + length g.bytes) inside)))))
      ∙ row4 (only 14) (eqb (length g.bytes) 0) (ltb frame_length_at 32) (ltb 1532 frame_length_at) (ltb frame_length_at (g.offset + length g.bytes)) _)

  taken-told : p < most_peers → 55296 ≤ length m → effect_tells (take_in p row m g) ≡ (segment_rows p row m g otherwise f (complete_frame p row m g))
  taken-told small enough = ap effect_tells (take_in_lem p row m g small enough) ∙ segment-told small enough

pub reassembly_table : Table
unfolding effect_tells
reassembly_table = record { segment = λ f p row m g small enough. taken-told f p row m g small enough }

-- ---- for what is made of a complete frame: behind these rows it has at least 32 bytes

module _ (p : ℕ) (row : Peer) (m : List ℕ) (g : Seg) where
  pub complete-length : length (complete_frame p row m g) ≡ g.frame_length
  unfolding complete_frame
  complete-length = length-table g.frame_length _

  -- they name no byte
  pub segment_low : Low (segment_rows p row m g)
  unfolding segment_rows
  segment_low = (omega arith, (omega arith, (omega arith, (omega arith, (omega arith, tt)))))

  pub long_segment : Passed (segment_rows p row m g) → 32 ≤ length (complete_frame p row m g)
  unfolding segment_rows
  long_segment q =
      let a : Bool = eqb (length g.bytes) 0 in
      let b : Bool = ltb g.frame_length 32 in
      let c : Bool = ltb 1532 g.frame_length in
      let d : Bool = ltb g.frame_length (g.offset + length g.bytes) in
      let r : (a || b) ≡ false = or_false-l (a || b) c (or_false-l (a || b || c) d q.0) in
      let s : 32 ≤ g.frame_length = ltb-false g.frame_length 32 (or_false_r a b r) in
      omega (arith, complete-length)

  pub under_segment : (x y : Finding) → (32 ≤ length (complete_frame p row m g) → x ≡ y)
      → (segment_rows p row m g otherwise x) ≡ (segment_rows p row m g otherwise y)
  under_segment x y h = under (λ (z : Finding). z) (segment_rows p row m g) x y (λ q. h (long_segment q))
