-- What a user of `take` needs of its outcome: the memory keeps its length, and a complete frame lies in it, in one of the peer's four slots.
use Rattle.std.specs.Prelude.{◌≡◌, refl, true, List, ℕ, ◌+◌, ◌*◌, ◌≤◌, ◌<◌, length, get_or, set, take, drop, replicate, ltb, leb}
use Rattle.std.proofs.Common.{sym, ◌∙◌, arith, length-drop, length-take, ext_get_or, get_or-drop, get_or-take, ltb-true, leb-true}
use Rattle.std.proofs.lemmas.List.Edits.{sets}
use Rattle.std.proofs.Math.Seq.{length-sets}
use Rattle.reassembly.proofs.Laws.Base.{case_b, and_l, and_r, length-table, get_d_table}
use Rattle.reassembly.specs.Base.{table}
use Rattle.reassembly.specs.Slots.{Slot, Peer, Note, no_note, note_of, free, most_peers, most_slots}
use Rattle.reassembly.specs.Take.{Seg, slot_no, stored_bytes, AlreadyReceived, Rejection, Rejected, Pending, Complete, NoMemory, Choice, reject, old, fresh}
use Rattle.reassembly.specs.Take.{chosen, complete, overlaps, frame_in, finish, placed, further_slot, opened_slot, note_after, take_segment, Fits}
use Rattle.reassembly.proofs.Laws.TakeFacts.{not_complete, take-complete, take-rejects}
use Rattle.reassembly.specs.Store.{bytes_of, has_slots, take_in, put_at, clear_at, slot_start, map_start, byte_at}
use Rattle.reassembly.proofs.Laws.Store.{length-set_bits}

-- ---- the memory keeps its length

length-put : (m : List ℕ) (k a : ℕ) (bs : List ℕ) → length (put_at m k a bs) ≡ length m
unfolding put_at
length-put m k a bs = length-set_bits (sets m (slot_start k + a) bs) (map_start k) a (length bs) ∙ length-sets m (slot_start k + a) bs

length_clear : (m : List ℕ) (k : ℕ) → length (clear_at m k) ≡ length m
unfolding clear_at
length_clear m k = length-sets m (map_start k) (replicate 192 0)

placed-length : (p : ℕ) (row : List Slot) (m : List ℕ) (g : Seg) (c : Choice) → length (placed bytes_of p row m g c).mem ≡ length m
unfolding slot_no
placed-length p row m g (reject r) = refl
placed-length p row m g (old s) =
    case_b (overlaps bytes_of m (slot_no p s) g)
    (λ e. rw e)
    (λ e. rw e (case_b (complete bytes_of (put_at m (slot_no p s) g.offset g.bytes) (slot_no p s) g.frame_length)
    (λ d. rw d (length-put m (slot_no p s) g.offset g.bytes))
    (λ d. rw d (length-put m (slot_no p s) g.offset g.bytes))))
placed-length p row m g (fresh s) =
    let k = slot_no p s in
    let l : length (put_at (clear_at m k) k g.offset g.bytes) ≡ length m = length-put (clear_at m k) k g.offset g.bytes ∙ length_clear m k in
    case_b (complete bytes_of (put_at (clear_at m k) k g.offset g.bytes) k g.frame_length) (λ d. rw d l) (λ d. rw d l)

pub take-length : (p : ℕ) (row : Peer) (m : List ℕ) (g : Seg) → length (take_in p row m g).mem ≡ length m
unfolding take_in take_segment
take-length p row m g =
    case_b (has_slots p m)
    (λ e. rw e (placed-length p row.slots m g (chosen row.slots g)))
    (λ e. rw e)

-- ---- a complete frame

pub record Whole (p s : ℕ) (m : List ℕ) (g : Seg) : Type 0 where
  pub is_peer_lem : p < most_peers
  pub is_slot : s < most_slots
  pub fits : Fits g
  pub memory : 55296 ≤ length m

pub has-slots : (p : ℕ) (m : List ℕ) → has_slots p m ≡ true → (p < most_peers) × (55296 ≤ length m)
unfolding has_slots
has-slots p m d = (
  ltb-true p most_peers (and_l (ltb p most_peers) (leb 55296 (length m)) d),
  leb-true 55296 (length m) (and_r (ltb p most_peers) (leb 55296 (length m)) d),
)

pub take_whole : (p s : ℕ) (row : Peer) (m : List ℕ) (g : Seg) → (take_in p row m g).outcome ≡ Complete s → Whole p s m g
unfolding take_in
take_whole p s row m g e =
    case_b (has_slots p m)
    (λ d.
    let t = take-complete bytes_of p s row m g (rw d at e) in
    let w = has-slots p m d in
    record { is_peer_lem = w.0; is_slot = t.0; fits = t.1; memory = w.1 })
    (λ d. not_complete NoMemory s refl (rw d at e))

pub slot-start : (k : ℕ) → slot_start k ≡ k * 1728
unfolding slot_start
slot-start k = refl

-- n bytes of the memory, one at a time, are a part of it
pub table-part : (m : List ℕ) (a n : ℕ) → a + n ≤ length m → table n (λ i. get_or m (a + i) 0) ≡ take n (drop a m)
table-part m a n h =
    let lt : length (table n (λ i. get_or m (a + i) 0)) ≡ n = length-table n (λ i. get_or m (a + i) 0) in
    ext_get_or 0 (table n (λ i. get_or m (a + i) 0)) (take n (drop a m))
    (lt ∙ omega (arith, length-take n (drop a m), length-drop a m))
    (λ i l. let li : i < n = omega (arith, lt) in
    get_d_table n (λ i. get_or m (a + i) 0) 0 i li
    ∙ sym (get_or-take n (drop a m) i 0 li ∙ get_or-drop a m i 0))

-- so is the frame of slot k
pub frame-part : (m : List ℕ) (k n : ℕ) → slot_start k + n ≤ length m → frame_in bytes_of m k n ≡ take n (drop (slot_start k) m)
unfolding frame_in byte_at
frame-part m k n h = table-part m (slot_start k) n h

-- ---- what is not taken changes nothing

pub take_refused : (p : ℕ) (row : Peer) (m : List ℕ) (g : Seg) (r : Rejection) → (take_in p row m g).outcome ≡ Rejected r
    → ((take_in p row m g).row ≡ row) × ((take_in p row m g).mem ≡ m)
unfolding take_in
take_refused p row m g r e =
    case_b (has_slots p m)
    (λ d. rw d (take-rejects bytes_of p row m g r (rw d at e)))
    (λ d. rw d (refl, refl))

some-finish : (p s : ℕ) (row : List Slot) (m : List ℕ) (g : Seg) (t : Note) → (finish bytes_of p s row m g t).outcome ≡ NoMemory → ⊥
some-finish p s row m g t e =
    case_b (complete bytes_of m (slot_no p s) g.frame_length)
    (λ d. let z : Complete s ≡ NoMemory = rw d at e in let y : ◌≡◌ {A = ℕ} 0 1 = cc (z) in omega arith)
    (λ d. let z : Pending ≡ NoMemory = rw d at e in let y : ◌≡◌ {A = ℕ} 0 1 = cc (z) in omega arith)

some-placed : (p : ℕ) (row : List Slot) (m : List ℕ) (g : Seg) (c : Choice) → (placed bytes_of p row m g c).outcome ≡ NoMemory → ⊥
some-placed p row m g (reject r) e = let y : ◌≡◌ {A = ℕ} 0 1 = cc in omega arith
some-placed p row m g (old s) e =
    case_b (overlaps bytes_of m (slot_no p s) g)
    (λ d. let z : Rejected AlreadyReceived ≡ NoMemory = rw d at e in let y : ◌≡◌ {A = ℕ} 0 1 = cc (z) in omega arith)
    (λ d. some-finish p s (set row s (further_slot (get_or row s free) g)) (put_at m (slot_no p s) g.offset (stored_bytes g)) g
    (note_after (note_of (get_or row s free)) g) (rw d at e))
some-placed p row m g (fresh s) e =
    some-finish p s (set row s (opened_slot g)) (put_at (clear_at m (slot_no p s)) (slot_no p s) g.offset g.bytes) g (note_after no_note g) e

pub take_no_memory : (p : ℕ) (row : Peer) (m : List ℕ) (g : Seg) → (take_in p row m g).outcome ≡ NoMemory
    → ((take_in p row m g).row ≡ row) × ((take_in p row m g).mem ≡ m)
unfolding take_in take_segment
take_no_memory p row m g e =
    case_b (has_slots p m)
    (λ d. absurd (some-placed p row.slots m g (chosen row.slots g) (rw d at e)))
    (λ d. rw d (refl, refl))
