-- Taking a segment (document 01, "The numbered answers" and "Reassembly memory"): 14, then 15 and 16 if the identifier is pending, otherwise 17; then the
-- segment is taken. No judgement of a frame is known here. What is asked of the memory is a parameter (`Ops`).
use Rattle.std.specs.Prelude.{◌≡◌, Bool, true, false, cond, ◌||◌, List, ℕ, ◌+◌, ◌*◌, ◌≤◌, ◌<◌, length, get_or, set, ltb, eqb, Result, Ok, Err}
use Rattle.std.proofs.Math.Option.{Option, none, some}
use Rattle.wire.specs.declared.segment.Segment.{Segment}
pub use Rattle.reassembly.specs.declared.take.Rejection.{Rejection}
pub use Rattle.reassembly.specs.declared.take.Rejection.TheVariants.{Empty, FrameLength, PastEnd, LengthDiffers, AlreadyReceived, NoSlot}
pub use Rattle.reassembly.specs.declared.take.Outcome.{Outcome}
pub use Rattle.reassembly.specs.declared.take.Outcome.TheVariants.{Rejected, Pending, Complete, NoMemory}
use Rattle.reassembly.specs.Base.{some_below, all_below, table}
use Rattle.reassembly.specs.Slots.{Slot, Peer, most_slots, Note, Mark, no_note, no_mark, noted, note_of, free, pending_slot, first, bears, is_free_slot}
use Rattle.reassembly.specs.declared.take.Decision.{Decision}
use Rattle.reassembly.specs.declared.take.Decision.TheVariants.{Further, Open}

-- a segment: what its header states, the bytes that it carries, and its mark
pub record Seg : Type 0 where
  pub identifier : ℕ
  pub frame_length : ℕ
  pub offset : ℕ
  pub bytes : List ℕ
  pub mark : Mark

-- Open: only data: the fields of the header, and the bytes
abbrev pub seg_of : Segment → List ℕ → Seg
seg_of h bs = record { identifier = h.identifier; frame_length = h.frame_length; offset = h.offset; bytes = bs; mark = no_mark }

-- document 01's number of each rejection
unfoldable pub rejection_code : Rejection → ℕ
rejection_code Empty = 14
rejection_code FrameLength = 14
rejection_code PastEnd = 14
rejection_code LengthDiffers = 15
rejection_code AlreadyReceived = 16
rejection_code NoSlot = 17

-- a frame's bounds
abbrev pub least_length : ℕ
least_length = 32

abbrev pub most_length : ℕ
most_length = 1532

-- check 14 passes
pub record Fits (g : Seg) : Type 0 where
  pub some_byte : 0 < length g.bytes
  pub least : 32 ≤ g.frame_length
  pub most : g.frame_length ≤ 1532
  pub inside : g.offset + length g.bytes ≤ g.frame_length

-- what is asked of the reassembly memory: is byte i of slot k received, and which is it; the slot with its map cleared; a segment put to its place
-- (`Ok`: it is large enough)
pub record Ops : Type 1 where
  pub S : Type 0
  pub Ok : S → Type 0
  pub received : S → ℕ → ℕ → Bool
  pub byte : S → ℕ → ℕ → ℕ
  pub clear : S → ℕ → S
  pub put : S → ℕ → ℕ → List ℕ → S

-- ---- need not be believed: the decision: rejected, or for the frame pending in a slot, or for a new frame in a slot

pub data Choice : Type 0 where
  reject : Rejection → Choice
  old : ℕ → Choice
  fresh : ℕ → Choice

-- Open: two cases of a search; with `placed`, the reference is compared with it case by case
abbrev pub choose_new : Option ℕ → Choice
choose_new none = reject NoSlot
choose_new (some s) = fresh s

-- Open: likewise
abbrev pub choose : List Slot → Seg → Option ℕ → Choice
choose row g none = choose_new (first is_free_slot row)
choose row g (some s) = cond (eqb (get_or row s free).frame_length g.frame_length) (old s) (reject LengthDiffers)

-- 14 in its three causes, then 15 or 17
unfoldable pub chosen : List Slot → Seg → Choice
chosen row g =
    cond (eqb (length g.bytes) 0) (reject Empty)
    (cond (ltb g.frame_length least_length || ltb most_length g.frame_length) (reject FrameLength)
    (cond (ltb g.frame_length (g.offset + length g.bytes)) (reject PastEnd)
    (choose row g (first (bears g.identifier) row))))

-- the segment's frame is pending in slot s
pub record Old (row : List Slot) (g : Seg) (s : ℕ) : Type 0 where
  pub fits : Fits g
  pub is_slot : s < most_slots
  pub pending : (get_or row s free).pending ≡ true
  pub identifier : (get_or row s free).identifier ≡ g.identifier
  pub size : (get_or row s free).frame_length ≡ g.frame_length

-- no pending frame bears the segment's identifier, and slot s is free
pub record Fresh (row : List Slot) (g : Seg) (s : ℕ) : Type 0 where
  pub fits : Fits g
  pub is_slot : s < most_slots
  pub is_free : (get_or row s free).pending ≡ false
  pub no_bearer : (t : ℕ) → t < most_slots → bears g.identifier (get_or row t free) ≡ false

-- the code's words for a decision
unfoldable pub decision_of : Choice → Result Decision Rejection
decision_of (reject r) = Err r
decision_of (old s) = Ok (Further s)
decision_of (fresh s) = Ok (Open s)

-- ---- a slot's number

-- slot s of peer p, among the 32
unfoldable pub slot_no : ℕ → ℕ → ℕ
slot_no p s = most_slots * p + s

-- ---- need not be believed: the effect

-- how many bytes of a segment check 16 looks at: all
abbrev pub tested_bytes : Seg → ℕ
tested_bytes g = length g.bytes

-- what a further segment of a pending frame stores: all its bytes
abbrev pub stored_bytes : Seg → List ℕ
stored_bytes g = g.bytes

-- ---- the note once a segment is taken

-- Open: short for `noted`
abbrev pub note_after : Note → Seg → Note
note_after t g = noted t g.offset g.mark

-- ---- need not be believed: the effect, further

-- what a slot holds once its first segment is taken; and once a further one is: only its note changes
-- Open: only data
abbrev pub opened_slot : Seg → Slot
opened_slot g = pending_slot g.identifier g.frame_length 0 (note_after no_note g)

-- Open: only data
abbrev pub further_slot : Slot → Seg → Slot
further_slot v g = pending_slot v.identifier v.frame_length v.age (note_after (note_of v) g)

module _ (O : Ops) where
  -- the row, the outcome, the note of a frame that is complete, and the memory
  pub record Effect : Type 0 where
    pub row : Peer
    pub outcome : Outcome
    pub note : Note
    pub mem : O.S

  -- Open: only data
  abbrev pub rejects : Rejection → List Slot → O.S → Effect
  rejects r row m = record { row = record { slots = row }; outcome = Rejected r; note = no_note; mem = m }

  -- is every byte of a frame of length n received; is some byte of the segment received already
  unfoldable pub complete : O.S → ℕ → ℕ → Bool
  complete m k n = all_below n (λ i. O.received m k i)

  unfoldable pub overlaps : O.S → ℕ → Seg → Bool
  overlaps m k g = some_below (tested_bytes g) (λ i. O.received m k (g.offset + i))

  -- the bytes of the frame in slot k, of length n
  unfoldable pub frame_in : O.S → ℕ → ℕ → List ℕ
  frame_in m k n = table n (λ i. O.byte m k i)

  -- the segment has been put into slot s: complete, and the slot is free again; or pending
  -- Open: one test, and data
  abbrev pub finish : ℕ → ℕ → List Slot → O.S → Seg → Note → Effect
  finish p s row m g note =
      cond (complete m (slot_no p s) g.frame_length)
      (record { row = record { slots = set row s free }; outcome = Complete s; note = note; mem = m })
      (record { row = record { slots = row }; outcome = Pending; note = no_note; mem = m })

  -- Open: one case for each choice
  abbrev pub placed : ℕ → List Slot → O.S → Seg → Choice → Effect
  placed p row m g (reject r) = rejects r row m
  placed p row m g (old s) =
      cond (overlaps m (slot_no p s) g)
      (rejects AlreadyReceived row m)
      (finish p s (set row s (further_slot (get_or row s free) g)) (O.put m (slot_no p s) g.offset (stored_bytes g)) g (note_after (note_of (get_or row s free)) g))
  placed p row m g (fresh s) =
      finish p s (set row s (opened_slot g))
      (O.put (O.clear m (slot_no p s)) (slot_no p s) g.offset g.bytes) g (note_after no_note g)

  -- peer p's segment
  unfoldable pub take_segment : ℕ → Peer → O.S → Seg → Effect
  take_segment p row m g = placed p row.slots m g (chosen row.slots g)
