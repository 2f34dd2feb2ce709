-- The view of a place (document 01, "Reassembly memory", last paragraph): which bytes are handed back, and where they lie. `ViewRule` says it one byte at a
-- time.
use Rattle.std.specs.Prelude.{ℕ, ◌+◌, ◌<◌, ◌≤◌, ◌≡◌, true, false, cond, List, leb, length, get_or}
use Rattle.std.specs.Borrow.{Bor}
use Rattle.reassembly.specs.Receive.{Place, part_of_slice}
use Rattle.endpoint.specs.declared.answer.Place as E
-- the bytes of a view: passed on, so that a caller's contract can name them
pub use Rattle.reassembly.specs.Receive.{view_of}

-- Where the part begins, a block and an offset in it: at `start` of the slice, or, where the part does not fit, at the packet's start. Numbers
-- here do not wrap.
abbrev pub part_start : Bor (List ℕ) → Bor (List ℕ) → ℕ → ℕ → ℕ × ℕ
part_start packet s start len = cond (leb (start + len) (length s.now)) (s.ref_ptr.0, s.ref_ptr.1 + start) packet.ref_ptr

-- the slice is the one that the place names
abbrev pub start_of : Bor (List ℕ) → Bor (List ℕ) → Place → ℕ × ℕ
start_of packet memory p = cond p.in_lent_memory (part_start packet memory p.start p.len) (part_start packet packet p.start p.len)

-- `r` is the part of one slice: its bytes, and where they lie.
pub record Part (packet s : Bor (List ℕ)) (start len : ℕ) (r : Bor (List ℕ)) : Type 0 where
  pub bytes : r.now ≡ part_of_slice s.now start len
  pub begins : r.ref_ptr ≡ part_start packet s start len

-- `r` is the view of the place. Its bytes are what the theory of runs says is handed back. That they are bytes of the lent slice itself, and not
-- equal ones of another, is the second field.
pub record Viewed (packet memory : Bor (List ℕ)) (p : Place) (r : Bor (List ℕ)) : Type 0 where
  pub bytes : r.now ≡ view_of packet.now memory.now p
  pub begins : r.ref_ptr ≡ start_of packet memory p

-- ---- the part to cut, for a packet and a memory of these lengths: which of the two, from where, and how many bytes

unfoldable pub cut_within : (room : ℕ) → E.Place → E.Place
cut_within room p = cond (leb (p.start + p.length) room) p (record { start = 0; length = 0; in_memory = false })

unfoldable pub cut_of : (packet_length memory_length : ℕ) → E.Place → E.Place
cut_of packet_length memory_length p = cond p.in_memory (cut_within memory_length p) (cut_within packet_length p)

-- ---- THE RULE

-- `r` is the `len` bytes of `s` from `start` on: byte by byte, and where they lie
pub record Shows (s : Bor (List ℕ)) (start len : ℕ) (r : Bor (List ℕ)) : Type 0 where
  pub size : length r.now ≡ len
  pub bytes : (i : ℕ) → i < len → get_or r.now i 0 ≡ get_or s.now (start + i) 0
  pub begins : r.ref_ptr ≡ (s.ref_ptr.0, s.ref_ptr.1 + start)

-- a place that fits its slice gives those bytes; one that does not gives the empty part at the packet's start; and the part is the one to cut
pub record ViewRule (packet memory : Bor (List ℕ)) (p : E.Place) (r : Bor (List ℕ)) : Type 0 where
  pub in_packet : p.in_memory ≡ false → p.start + p.length ≤ length packet.now → Shows packet p.start p.length r
  pub in_memory_lem : p.in_memory ≡ true → p.start + p.length ≤ length memory.now → Shows memory p.start p.length r
  pub past_packet : p.in_memory ≡ false → length packet.now < p.start + p.length → Shows packet 0 0 r
  pub past_memory : p.in_memory ≡ true → length memory.now < p.start + p.length → Shows packet 0 0 r
  pub cut :
      let c : E.Place = cut_of (length packet.now) (length memory.now) p in
      Shows (cond c.in_memory memory packet) c.start c.length r × (c.start + c.length ≤ length (cond c.in_memory memory packet).now)
