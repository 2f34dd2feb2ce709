-- Slots and rows (document 01, "Reassembly memory"): a free slot, a slot with a pending frame, ageing, the search of a row; and the note that a slot keeps of
-- its segments.
use Rattle.std.specs.Prelude.{Bool, true, false, cond, not, ◌&&◌, List, [], map, ℕ, ◌+◌, get_or, replicate, ltb, eqb}
use Rattle.std.proofs.Math.Option.{Option, none, some}
pub use Rattle.reassembly.specs.declared.slot.Slot.{Slot}
pub use Rattle.reassembly.specs.declared.slot.Peer.{Peer}

-- ---- the note: what a slot keeps of its frame's segments beside their bytes, and the mark that a segment brings for it. Nothing in the base.
-- A later request that has slots remember something (document 02, §9) changes this section and `pending_slot`; no proof above looks into it.

unfoldable pub Note : Type 0
Note = Unit {0}

unfoldable pub Mark : Type 0
Mark = Unit {0}

unfoldable pub no_note : Note
unfolding Note
no_note = tt

unfoldable pub no_mark : Mark
unfolding Mark
no_mark = tt

-- a segment at this offset, with this mark, is taken
unfoldable pub noted : Note → ℕ → Mark → Note
noted n at k = n

-- ---- slots

-- a free slot: every number 0 (document 01 leaves them free)
-- Open: only data
abbrev pub free : Slot
free = record { identifier = 0; frame_length = 0; age = 0; pending = false }

-- ---- need not be believed: a slot with a pending frame

-- a slot with a pending frame: its identifier, its length, its age, and what is noted of its segments
-- Open: only data
abbrev pub pending_slot : ℕ → ℕ → ℕ → Note → Slot
pending_slot identifier size age note = record { identifier = identifier; frame_length = size; age = age; pending = true }

unfoldable pub note_of : Slot → Note
note_of s = no_note

-- ---- no row, and how many there are

-- no row: what a list of rows has past its end
-- Open: only data
abbrev pub no_row : Peer
no_row = record { slots = [] }

-- how many peers may be listed, and how many frames of a peer may be pending
-- Open: a numeral
abbrev pub most_peers : ℕ
most_peers = 8

-- Open: a numeral
abbrev pub most_slots : ℕ
most_slots = 4

-- ---- need not be believed: rows with every slot free, and ageing

-- a row with every slot free, a peer record with it, and the eight of them that a set-up leaves
-- Open: only data
abbrev pub empty_row : List Slot
empty_row = replicate most_slots free

-- Open: only data
abbrev pub free_peer : Peer
free_peer = record { slots = empty_row }

-- Open: only data
abbrev pub empty_rows : List Peer
empty_rows = replicate most_peers free_peer

-- the age at which a pending frame is given up
abbrev pub lifetime : ℕ
lifetime = 4

-- one tick for one slot: its age grows by 1, and it is freed when that reaches its lifetime
unfoldable pub older : Slot → Slot
older s = cond s.pending (cond (ltb (s.age + 1) lifetime) (pending_slot s.identifier s.frame_length (s.age + 1) (note_of s)) free) s

unfoldable pub older_row : Peer → Peer
older_row r = record { slots = map older r.slots }

-- ---- need not be believed: the search of a row, by number, lowest first

unfoldable pub first : (Slot → Bool) → List Slot → Option ℕ
first f l =
    cond (f (get_or l 0 free)) (some 0)
    (cond (f (get_or l 1 free)) (some 1)
    (cond (f (get_or l 2 free)) (some 2)
    (cond (f (get_or l 3 free)) (some 3) none)))

-- a frame is pending in the slot under this identifier; the slot is free
unfoldable pub bears : ℕ → Slot → Bool
bears id s = s.pending && eqb s.identifier id

unfoldable pub is_free_slot : Slot → Bool
is_free_slot s = not s.pending
