-- A memory of bytes stays one: taking a segment of bytes stores bytes.
use Rattle.std.specs.Prelude.{List, [], ◌∷◌, ℕ, zero, suc, ◌+◌, ◌/◌, ◌%◌, ◌^◌, ◌<◌, length, get_or, set, replicate}
use Rattle.std.proofs.Common.{arith}
use Rattle.std.proofs.lemmas.List.Edits.{sets}
use Rattle.std.proofs.Math.Pow.{pow-lt}
use Rattle.std.specs.Int.Bits.{bit_or}
use Rattle.std.proofs.lemmas.Nat.{or_lt}
use Rattle.wire.specs.Bytes.{Bytes}
use Rattle.reassembly.proofs.Laws.Base.{case_b}
use Rattle.reassembly.specs.Slots.{Slot, Peer, free, no_note, note_of}
use Rattle.reassembly.specs.Take.{slot_no, Seg, Choice, reject, old, fresh, chosen, note_after, opened_slot, further_slot, overlaps, placed, take_segment}
use Rattle.reassembly.proofs.Laws.TakeFacts.{finish_mem}
use Rattle.reassembly.specs.Store.{set_bit, set_bits, slot_start, map_start, zeros, clear_at, put_at, bytes_of, has_slots, take_in}

bytes-set : (l : List ℕ) (i v : ℕ) → Bytes l → v < 256 → Bytes (set l i v)
bytes-set [] i v b h j = b j
bytes-set (x ∷ l) zero v b h zero = h
bytes-set (x ∷ l) zero v b h (suc j) = b (suc j)
bytes-set (x ∷ l) (suc i) v b h zero = b 0
bytes-set (x ∷ l) (suc i) v b h (suc j) = bytes-set l i v (λ n. b (suc n)) h j

bytes_sets : (vs l : List ℕ) (i : ℕ) → Bytes l → Bytes vs → Bytes (sets l i vs)
bytes_sets [] l i b h = b
bytes_sets (v ∷ vs) l i b h = bytes_sets vs (set l i v) (suc i) (bytes-set l i v b (h 0)) (λ n. h (suc n))

bytes-zeros : (n : ℕ) → Bytes (replicate n 0)
bytes-zeros zero zero = omega arith
bytes-zeros zero (suc j) = omega arith
bytes-zeros (suc n) zero = omega arith
bytes-zeros (suc n) (suc j) = bytes-zeros n j

power : (i : ℕ) → i < 8 → 2 ^ i < 2 ^ 8
power i l = pow-lt l

bytes_bits : (m : List ℕ) (b a n : ℕ) → Bytes m → Bytes (set_bits m b a n)
unfolding set_bits set_bit
bytes_bits m b a zero h = h
bytes_bits m b a (suc n) h =
    let r : Bytes (set_bits m b a n) = bytes_bits m b a n h in
    bytes-set (set_bits m b a n) (b + (a + n) / 8) (bit_or (get_or (set_bits m b a n) (b + (a + n) / 8) 0) (2 ^ ((a + n) % 8))) r
    (or_lt 8 (get_or (set_bits m b a n) (b + (a + n) / 8) 0) (2 ^ ((a + n) % 8)) (r (b + (a + n) / 8)) (power ((a + n) % 8) (omega arith)))

bytes_clear : (m : List ℕ) (k : ℕ) → Bytes m → Bytes (clear_at m k)
unfolding clear_at
bytes_clear m k b = bytes_sets zeros m (map_start k) b (bytes-zeros 192)

bytes-put : (m : List ℕ) (k a : ℕ) (bs : List ℕ) → Bytes m → Bytes bs → Bytes (put_at m k a bs)
unfolding put_at
bytes-put m k a bs b h = bytes_bits (sets m (slot_start k + a) bs) (map_start k) a (length bs) (bytes_sets bs m (slot_start k + a) b h)

bytes-placed : (p : ℕ) (row : List Slot) (m : List ℕ) (g : Seg) (c : Choice) → Bytes m → Bytes g.bytes → Bytes (placed bytes_of p row m g c).mem
bytes-placed p row m g (reject r) b h = b
bytes-placed p row m g (old s) b h =
    case_b (overlaps bytes_of m (slot_no p s) g)
    (λ e. rw e b)
    (λ e. rw (
      e,
      finish_mem bytes_of p s (set row s (further_slot (get_or row s free) g)) (put_at m (slot_no p s) g.offset g.bytes) g
          (note_after (note_of (get_or row s free)) g),
    ) (bytes-put m (slot_no p s) g.offset g.bytes b h))
bytes-placed p row m g (fresh s) b h =
    rw (finish_mem bytes_of p s (set row s (opened_slot g)) (put_at (clear_at m (slot_no p s)) (slot_no p s) g.offset g.bytes) g (note_after no_note g))
    (bytes-put (clear_at m (slot_no p s)) (slot_no p s) g.offset g.bytes (bytes_clear m (slot_no p s) b) h)

pub take-bytes : (p : ℕ) (row : Peer) (m : List ℕ) (g : Seg) → Bytes m → Bytes g.bytes → Bytes (take_in p row m g).mem
unfolding take_in take_segment
take-bytes p row m g b h = case_b (has_slots p m) (λ e. rw e (bytes-placed p row.slots m g (chosen row.slots g) b h)) (λ e. rw e b)
