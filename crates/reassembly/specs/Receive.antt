-- What an answer is and what is answered to a segment, over any memory that is asked as `Ops` says; a receive, a tick and a run stand in SetUp.antt.
-- Parameters: what an answer is and carries (`Answers`); the header layer, which says whose packet it is and what it carries; and the judgement of a
-- complete frame, which is applied here, above taking.
use Rattle.std.specs.Prelude.{◌≡◌, Bool, true, false, cond, List, [], ℕ, ◌+◌, ◌-◌, length, take, drop, leb}
use Rattle.reassembly.specs.Slots.{Note}
use Rattle.reassembly.specs.Take.{slot_no, Seg, Ops, Rejection, Outcome, Rejected, Pending, Complete, NoMemory, Effect, frame_in}
use Rattle.reassembly.specs.Store.{slot_start}

-- where an inner frame lies: a part of the packet or of the reassembly memory
pub record Place : Type 0 where
  pub in_lent_memory : Bool
  pub start : ℕ
  pub len : ℕ

-- the empty place, which a refusal and answer 1 carry
-- Open: only data
abbrev pub nowhere : Place
nowhere = record { in_lent_memory = false; start = 0; len = 0 }

-- the second call: the part of the packet or of the memory that a place names; a place that does not fit its slice gives the empty part
unfoldable pub part_of_slice : List ℕ → ℕ → ℕ → List ℕ
part_of_slice s start len = cond (leb (start + len) (length s)) (take len (drop start s)) []

unfoldable pub view_of : List ℕ → List ℕ → Place → List ℕ
view_of packet m a = cond a.in_lent_memory (part_of_slice m a.start a.len) (part_of_slice packet a.start a.len)

-- what a receive answers, as far as the theory of runs looks: what a refusal and a delivery carry is the user's
pub record Answers : Type 1 where
  -- an answer; what a bad frame's verdict carries (28, 29, 12, 13); what a good one's does (tenant, binding)
  pub A : Type 0
  pub Bad : Type 0
  pub Good : Type 0
  -- the place that an answer names; is it answer 0
  pub place : A → Place
  pub delivered : A → Bool
  -- 2; 1; 14 to 17; a bad frame's; a good frame's, with the start and the length of its inner frame in the memory
  pub too_small : A
  pub pending : A
  pub rejected : Rejection → A
  pub refused : Bad → A
  pub gives : Good → ℕ → ℕ → A
  -- all but the last carry the empty place and are not answer 0
  pub too_small_place : place too_small ≡ nowhere
  pub pending_place : place pending ≡ nowhere
  pub rejected_place : (r : Rejection) → place (rejected r) ≡ nowhere
  pub refused_place : (b : Bad) → place (refused b) ≡ nowhere
  pub gives_place : (v : Good) (start len : ℕ) → place (gives v start len) ≡ record { in_lent_memory = true; start = start; len = len }
  pub too_small_not : delivered too_small ≡ false
  pub pending_not : delivered pending ≡ false
  pub rejected_not : (r : Rejection) → delivered (rejected r) ≡ false
  pub refused_not : (b : Bad) → delivered (refused b) ≡ false
  pub gives_is : (v : Good) (start len : ℕ) → delivered (gives v start len) ≡ true

pub data Event : Type 0 where
  receive : List ℕ → Event
  tick : Event

-- ---- need not be believed: peer p's row, as taking finds it

-- peer p's row, among the eight: a frame's key is its peer and its identifier
abbrev pub row_of : ℕ → ℕ
row_of p = p

-- ---- answers, and what is answered to a segment

module _ (W : Answers) where
  -- an answer, as demand 3 has it: what the receive gives back, and the bytes handed back before the next receive
  pub record Answer : Type 0 where
    pub reply : W.A
    pub bytes : List ℕ

  -- Open: only data
  abbrev pub bare : W.A → Answer
  bare a = record { reply = a; bytes = [] }

  -- what the checks of a complete frame (28, 29, 12, 13) say of it
  pub data Verdict : Type 0 where
    bad : W.Bad → Verdict
    good : W.Good → Verdict

  -- what the header layer makes of a packet, with the memory large enough:
  -- another sender's, refused by one of the checks 3 to 7; a listed peer's that never comes to reassembly (refused by 8 to 10, or of another kind than
  -- STT), with its answer; or a listed peer's STT packet that passes 3 to 10, with the segment that it carries
  pub data Reading : Type 0 where
    other_sender : W.A → Reading
    direct : ℕ → W.A → Reading
    segment : ℕ → Seg → Reading

  -- the answer on the complete frame of slot k, of length n: its bytes from 18 on, where they lie in the memory
  unfoldable pub frame_answer : Verdict → ℕ → ℕ → List ℕ → Answer
  frame_answer (bad b) k n frame = bare (W.refused b)
  frame_answer (good v) k n frame = record { reply = W.gives v (slot_start k + 18) (n - 18); bytes = drop 18 frame }

  module _ (judge : ℕ → Note → List ℕ → Verdict) (O : Ops) where
    -- the answer to peer p's segment g, of which taking had this effect
    unfoldable pub take_answer : ℕ → Seg → Effect O → Outcome → Answer
    take_answer p g o (Rejected r) = bare (W.rejected r)
    take_answer p g o Pending = bare W.pending
    take_answer p g o (Complete s) =
        let frame : List ℕ = frame_in O o.mem (slot_no p s) g.frame_length in
        frame_answer (judge p o.note frame) (slot_no p s) g.frame_length frame
    take_answer p g o NoMemory = bare W.too_small
