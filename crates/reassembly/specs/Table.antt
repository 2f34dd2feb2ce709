-- DOCUMENT 01's TABLE ("The numbered answers"), the rows of an STT segment: 14, then 15 and 16 if a frame with its identifier is pending, otherwise 17; then 1.
-- A condition speaks of the peer's four slots, the memory before the call and the segment.
-- The endpoint's page (crate endpoint, specs/Table.antt) joins these rows with its own.
-- `Table` is THE STATEMENT: what taking gives is told by the first row that applies, and where none does, the frame is complete and has
-- the bytes named here. Laws/Table.antt proves it (`reassembly_table`).
use Rattle.std.specs.Prelude.{ℕ, ◌+◌, ◌-◌, ◌*◌, ◌/◌, ◌%◌, ◌^◌, ◌<◌, ◌≤◌, ◌≡◌, Bool, not, cond, ◌&&◌, ◌||◌, List, [], ◌∷◌, length, get_or}
use Rattle.wire.specs.Refusal.{Finding, only}
use Rattle.wire.specs.Table.{Rows, ◌⇒◌, ◌otherwise◌, ◌is◌, ◌isnt◌, ◌below◌, ◌above◌, ◌at_least◌}
use Rattle.reassembly.specs.Base.{some_below, all_below, table}
use Rattle.lookup.specs.Search.{lowest, found}
use Rattle.reassembly.specs.Slots.{Slot, Peer, free}
use Rattle.reassembly.specs.Take.{Seg, Outcome, Rejected, Pending, Complete, NoMemory, Effect, rejection_code, slot_no, frame_in}
use Rattle.reassembly.specs.Store.{bytes_of, take_in}

module _ (peer : ℕ) (row : Peer) (memory : List ℕ) (g : Seg) where
  -- slot s of the peer; a frame with the segment's identifier is pending in it; in one of the four; in which
  abbrev pub slot : ℕ → Slot
  slot s = get_or row.slots s free

  abbrev pub pending_in : ℕ → Bool
  pending_in s = (slot s).pending && (slot s).identifier is g.identifier

  abbrev pub pending : Bool
  pending = some_below 4 pending_in

  abbrev pub at : ℕ
  at = found (lowest pending_in 4)

  -- where that slot starts; byte i of its frame is received; byte i is carried by the segment
  abbrev pub start : ℕ
  start = (4 * peer + at) * 1728

  abbrev pub received : ℕ → Bool
  received i = get_or memory (start + 1536 + i / 8) 0 / 2 ^ (i % 8) % 2 is 1

  abbrev pub carried : ℕ → Bool
  carried i = i at_least g.offset && i below g.offset + length g.bytes

  -- every byte of the frame is carried, or was received
  abbrev pub complete : Bool
  complete = all_below g.frame_length (λ i. carried i || pending && received i)

  unfoldable pub segment_rows : Rows
  segment_rows =
      (length g.bytes is 0 || g.frame_length below 32 || g.frame_length above 1532 || g.offset + length g.bytes above g.frame_length ⇒ 14)
      ∷ (pending && (slot at).frame_length isnt g.frame_length ⇒ 15)
      ∷ (pending && some_below (length g.bytes) (λ i. received (g.offset + i)) ⇒ 16)
      ∷ (not pending && all_below 4 (λ s. (slot s).pending) ⇒ 17)
      ∷ (not complete ⇒ 1)
      ∷ []

  -- the complete frame: each byte is the segment's, or is in the memory
  unfoldable pub complete_frame : List ℕ
  complete_frame = table g.frame_length (λ i. cond (carried i) (get_or g.bytes (i - g.offset) 0) (get_or memory (start + i) 0))

-- ---- need not be believed: THE STATEMENT of taking, and its words

-- what taking tells: a rejection's number, 1 of a pending frame, and what is made of a complete one, by its bytes in the memory
unfoldable pub taken_tells : (List ℕ → Finding) → (peer : ℕ) → Seg → Effect bytes_of → Outcome → Finding
taken_tells f peer g o (Rejected r) = only (rejection_code r)
taken_tells f peer g o Pending = only 1
taken_tells f peer g o (Complete s) = f (frame_in bytes_of o.mem (slot_no peer s) g.frame_length)
taken_tells f peer g o NoMemory = only 2

pub record Table : Type 0 where
  pub segment : (f : List ℕ → Finding) (peer : ℕ) (row : Peer) (memory : List ℕ) (g : Seg) → peer < 8 → 55296 ≤ length memory
      → let o : Effect bytes_of = take_in peer row memory g in
      taken_tells f peer g o o.outcome ≡ (segment_rows peer row memory g otherwise f (complete_frame peer row memory g))
