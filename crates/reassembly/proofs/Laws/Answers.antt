-- What is answered to a segment, and which bytes a place names, case by case: what the crates above know of both.
use Rattle.std.specs.Prelude.{ℕ, ◌+◌, ◌-◌, ◌*◌, ◌<◌, ◌≤◌, ◌≡◌, true, false, List, [], length, take, drop}
use Rattle.std.proofs.Math.Path.{refl}
use Rattle.std.proofs.Common.{le-leb}
use Rattle.std.proofs.lemmas.Bool.{lt-leb}
use Rattle.reassembly.specs.Slots.{Note}
use Rattle.reassembly.specs.Take.{Seg, Ops, Rejection, rejection_code, Rejected, Pending, Complete, NoMemory, Effect, slot_no, frame_in}
use Rattle.reassembly.specs.Store.{bytes_of, slot_start}
use Rattle.reassembly.specs.Receive.{Place, part_of_slice, view_of, Answers, Verdict, bad, good, frame_answer, take_answer}
use Rattle.wire.specs.Refusal.{Finding, only}
use Rattle.reassembly.specs.Table.{taken_tells}

-- ---- which bytes a place names

pub part-fits : (s : List ℕ) (start len : ℕ) → start + len ≤ length s → part_of_slice s start len ≡ take len (drop start s)
unfolding part_of_slice
part-fits s start len h = rw (le-leb (start + len) (length s) h)

pub part_past : (s : List ℕ) (start len : ℕ) → length s < start + len → part_of_slice s start len ≡ []
unfolding part_of_slice
part_past s start len h = rw (lt-leb (start + len) (length s) h)

pub view_packet : (packet m : List ℕ) (a : Place) → a.in_lent_memory ≡ false → view_of packet m a ≡ part_of_slice packet a.start a.len
unfolding view_of
view_packet packet m a q = rw q

pub view_memory : (packet m : List ℕ) (a : Place) → a.in_lent_memory ≡ true → view_of packet m a ≡ part_of_slice m a.start a.len
unfolding view_of
view_memory packet m a q = rw q

-- ---- the answer to a segment

-- slot s of peer p has this number
pub slot_no_lem : (p s : ℕ) → slot_no p s ≡ 4 * p + s
unfolding slot_no
slot_no_lem p s = refl

module _ (W : Answers) where
  pub bad_reply : (b : W.Bad) (k n : ℕ) (frame : List ℕ) → (frame_answer W (bad b) k n frame).reply ≡ W.refused b
  unfolding frame_answer
  bad_reply b k n frame = refl

  pub bad-bytes : (b : W.Bad) (k n : ℕ) (frame : List ℕ) → (frame_answer W (bad b) k n frame).bytes ≡ []
  unfolding frame_answer
  bad-bytes b k n frame = refl

  pub good_reply : (v : W.Good) (k n : ℕ) (frame : List ℕ) → (frame_answer W (good v) k n frame).reply ≡ W.gives v (slot_start k + 18) (n - 18)
  unfolding frame_answer
  good_reply v k n frame = refl

  pub good-bytes : (v : W.Good) (k n : ℕ) (frame : List ℕ) → (frame_answer W (good v) k n frame).bytes ≡ drop 18 frame
  unfolding frame_answer
  good-bytes v k n frame = refl

  module _ (judge : ℕ → Note → List ℕ → Verdict W) (O : Ops) (p : ℕ) (g : Seg) (o : Effect O) where
    pub rejected_reply : (r : Rejection) → (take_answer W judge O p g o (Rejected r)).reply ≡ W.rejected r
    unfolding take_answer
    rejected_reply r = refl

    pub rejected-bytes : (r : Rejection) → (take_answer W judge O p g o (Rejected r)).bytes ≡ []
    unfolding take_answer
    rejected-bytes r = refl

    pub pending_reply : (take_answer W judge O p g o Pending).reply ≡ W.pending
    unfolding take_answer
    pending_reply = refl

    pub pending-bytes : (take_answer W judge O p g o Pending).bytes ≡ []
    unfolding take_answer
    pending-bytes = refl

    pub no_memory_reply : (take_answer W judge O p g o NoMemory).reply ≡ W.too_small
    unfolding take_answer
    no_memory_reply = refl

    pub complete_reply : (s : ℕ)
        → let frame : List ℕ = frame_in O o.mem (slot_no p s) g.frame_length in
        take_answer W judge O p g o (Complete s) ≡ frame_answer W (judge p o.note frame) (slot_no p s) g.frame_length frame
    unfolding take_answer
    complete_reply s = refl

-- what taking tells
module _ (f : List ℕ → Finding) (p : ℕ) (g : Seg) (o : Effect bytes_of) where
  pub rejected-told : (r : Rejection) → taken_tells f p g o (Rejected r) ≡ only (rejection_code r)
  unfolding taken_tells
  rejected-told r = refl

  pub pending-told : taken_tells f p g o Pending ≡ only 1
  unfolding taken_tells
  pending-told = refl

  pub complete-told : (s : ℕ) → taken_tells f p g o (Complete s) ≡ f (frame_in bytes_of o.mem (slot_no p s) g.frame_length)
  unfolding taken_tells
  complete-told s = refl

  pub no_memory_told : taken_tells f p g o NoMemory ≡ only 2
  unfolding taken_tells
  no_memory_told = refl
