-- The reassembly memory as bytes (document 01, "Reassembly memory"): slot k starts at byte 1,728 k, with 1,536 bytes of frame and a map of 192 bytes,
-- whose bit i mod 8, lowest first, of byte i div 8 says that byte i is received. And what `take` gives over it.
use Rattle.std.specs.Prelude.{Bool, cond, ◌&&◌, List, ℕ, zero, suc, ◌+◌, ◌*◌, ◌/◌, ◌%◌, ◌^◌, ◌≤◌, length, get_or, set, replicate, ltb, leb, eqb}
use Rattle.std.proofs.lemmas.List.Edits.{sets}
use Rattle.std.specs.Int.Bits.{bit_or}
use Rattle.reassembly.specs.Slots.{Peer, no_note, most_peers}
use Rattle.reassembly.specs.Take.{Ops, Seg, NoMemory, Effect, take_segment}

-- ---- need not be believed: the map's bits

-- bit j of the number x
unfoldable pub is_on : ℕ → ℕ → Bool
is_on x j = eqb (x / 2 ^ j % 2) 1

-- bit i of the map that starts at byte b; it is set; n bits from a on are set
unfoldable pub bit_at : List ℕ → ℕ → ℕ → Bool
bit_at m b i = is_on (get_or m (b + i / 8) 0) (i % 8)

unfoldable pub set_bit : List ℕ → ℕ → ℕ → List ℕ
set_bit m b i = set m (b + i / 8) (bit_or (get_or m (b + i / 8) 0) (2 ^ (i % 8)))

unfoldable pub set_bits : List ℕ → ℕ → ℕ → ℕ → List ℕ
set_bits m b a zero = m
set_bits m b a (suc n) = set_bit (set_bits m b a n) b (a + n)

-- ---- the bytes of a slot

abbrev pub slot_size : ℕ
slot_size = 1728

-- ---- need not be believed: the bytes of the frame in it, of its map, and of the slots of all peers

abbrev pub frame_size : ℕ
frame_size = 1536

abbrev pub map_size : ℕ
map_size = 192

abbrev pub memory_size : ℕ
memory_size = 55296

-- ---- where a slot starts

-- slot k: its first byte, and its map's
unfoldable pub slot_start : ℕ → ℕ
slot_start k = k * slot_size

-- ---- need not be believed: the memory as taking asks it, and what `take` gives over it

unfoldable pub map_start : ℕ → ℕ
map_start k = k * slot_size + frame_size

-- a map that is cleared: all of it (document 01: "with its map cleared")
abbrev pub zeros : List ℕ
zeros = replicate map_size 0

unfoldable pub clear_at : List ℕ → ℕ → List ℕ
clear_at m k = sets m (map_start k) zeros

-- a segment's bytes at their place in slot k, and their bits
unfoldable pub put_at : List ℕ → ℕ → ℕ → List ℕ → List ℕ
put_at m k a bs = set_bits (sets m (slot_start k + a) bs) (map_start k) a (length bs)

unfoldable pub received_at : List ℕ → ℕ → ℕ → Bool
received_at m k i = bit_at m (map_start k) i

unfoldable pub byte_at : List ℕ → ℕ → ℕ → ℕ
byte_at m k i = get_or m (slot_start k + i) 0

-- Open: a record of definitions that are shut; signatures compute with its types
abbrev pub bytes_of : Ops
bytes_of = record { S = List ℕ; Ok = λ m. memory_size ≤ length m; received = received_at; byte = byte_at; clear = clear_at; put = put_at }

-- the slots of this peer lie in the memory
unfoldable pub has_slots : ℕ → List ℕ → Bool
has_slots p m = ltb p most_peers && leb memory_size (length m)

-- what `take` gives for any row, peer, memory and segment. Where the peer's slots do not lie in the memory nothing is touched
unfoldable pub take_in : ℕ → Peer → List ℕ → Seg → Effect bytes_of
take_in p row m g = cond (has_slots p m) (take_segment bytes_of p row m g) (record { row = row; outcome = NoMemory; note = no_note; mem = m })
