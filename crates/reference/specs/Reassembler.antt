-- THE REFERENCE REASSEMBLER (document 02, §7: a slow reassembler we can read). For each peer it keeps the frames that are pending, and for each frame the
-- segments that were taken for it; at each segment it rebuilds the frame from nothing. There are no slots and there is no map.
-- How to read it: `cond b x y` is x where the test b passes, and y where not; `eqb`, `ltb`, `leb` test =, < and ≤; `get_or l i 0` is entry i of l; `find`,
-- `put` and `without` (Keyed.antt) look an entry up, put it in its place or at the end, and leave it out. The numbers are those of document 01's table.
-- Only definitions. Promises.antt states what holds of it, first that it answers as the first reassembler does.
use Rattle.std.specs.Prelude.{Bool, true, false, cond, not, ◌&&◌, ◌||◌, List, [], ◌∷◌, ◌++◌, ℕ, zero, suc, ◌+◌, ◌-◌, length, get_or, ltb, leb, eqb}
use Rattle.std.proofs.Math.Option.{Option, none, some}
use Rattle.reassembly.specs.Base.{some_below}
use Rattle.reassembly.specs.Slots.{Note, Mark, no_note, noted}
use Rattle.reassembly.specs.Take.{Seg}
use Rattle.reassembly.specs.declared.take.Rejection.{Rejection}
use Rattle.reassembly.specs.declared.take.Rejection.TheVariants.{Empty, FrameLength, PastEnd, LengthDiffers, AlreadyReceived, NoSlot}
use Rattle.reference.specs.Keyed.{find, put, without}

-- ---- a frame

-- what is kept of a segment: where in its frame it begins, its bytes, and its mark: what a segment brings beside its bytes, which is nothing so far
pub record Part : Type 0 where
  pub offset : ℕ
  pub bytes : List ℕ
  pub mark : Mark

-- a pending frame: its identifier, its length, its age in ticks, and the segments taken for it, latest first
pub record Frame : Type 0 where
  pub identifier : ℕ
  pub size : ℕ
  pub age : ℕ
  pub parts : List Part

-- does this segment have byte i of the frame
unfoldable pub has : Part → ℕ → Bool
has g i = leb g.offset i && ltb i (g.offset + length g.bytes)

-- byte i of the frame, if a segment has it
unfoldable pub byte_at : List Part → ℕ → Option ℕ
byte_at [] i = none
byte_at (g ∷ gs) i = cond (has g i) (some (get_or g.bytes (i - g.offset) 0)) (byte_at gs i)

-- bytes with one more, if all are there
abbrev pub followed_by : Option (List ℕ) → Option ℕ → Option (List ℕ)
followed_by none b = none
followed_by (some bs) none = none
followed_by (some bs) (some b) = some (bs ++ (b ∷ []))

-- THE FRAME REBUILT: its first n bytes, if the segments have them all
unfoldable pub rebuilt : List Part → ℕ → Option (List ℕ)
rebuilt gs zero = some []
rebuilt gs (suc n) = followed_by (rebuilt gs n) (byte_at gs n)

-- is there one
abbrev pub is_some : {A : Type 0} → Option A → Bool
is_some none = false
is_some (some a) = true

-- does a segment have some byte that is there already
unfoldable pub repeats : List Part → Part → Bool
repeats gs g = some_below (length g.bytes) (λ i. is_some (byte_at gs (g.offset + i)))

-- what is noted of the segments, in the order in which they came
unfoldable pub notes : List Part → Note
notes [] = no_note
notes (g ∷ gs) = noted (notes gs) g.offset g.mark

-- ---- a tick: a peer's frames are older by 1, and those that reach 4 are given up

abbrev pub aged : Frame → Frame
aged f = record { identifier = f.identifier; size = f.size; age = f.age + 1; parts = f.parts }

unfoldable pub older : List Frame → List Frame
older [] = []
older (f ∷ fs) = cond (ltb (f.age + 1) 4) (aged f ∷ older fs) (older fs)

-- ---- a segment of a peer with these frames

-- at most so many segments of a frame are kept
abbrev pub most_segments : ℕ
most_segments = 64

-- what comes of it: 14 to 17; 32; 1; or its frame is complete: what was noted of its segments, and its bytes
pub data Result : Type 0 where
  rejects : Rejection → Result
  too_many : Result
  waits : Result
  complete : Note → List ℕ → Result

-- and the frames that are pending then
pub record Taken : Type 0 where
  pub result : Result
  pub frames : List Frame

abbrev pub identifier_of : Frame → ℕ
identifier_of f = f.identifier

-- nothing changes
abbrev pub refuses : List Frame → Result → Taken
refuses fs r = record { result = r; frames = fs }

-- a frame has its newest segment, and this is what it is rebuilt to: it waits for more, or it is complete and goes
abbrev pub settled : List Frame → Frame → Option (List ℕ) → Taken
settled fs f none = record { result = waits; frames = put identifier_of f fs }
settled fs f (some bytes) = record { result = complete (notes f.parts) bytes; frames = without identifier_of f.identifier fs }

abbrev pub takes : List Frame → Frame → Taken
takes fs f = settled fs f (rebuilt f.parts f.size)

abbrev pub part_of : Seg → Part
part_of g = record { offset = g.offset; bytes = g.bytes; mark = g.mark }

-- a segment's frame where it is new, and where it is one of them
abbrev pub opened : Seg → Frame
opened g = record { identifier = g.identifier; size = g.frame_length; age = 0; parts = part_of g ∷ [] }

abbrev pub further : Frame → Seg → Frame
further f g = record { identifier = f.identifier; size = f.size; age = f.age; parts = part_of g ∷ f.parts }

-- new: 17 where four frames are pending. One of them: 15 for another length, 16 for a byte that is there, 32 for the 65th segment
abbrev pub looked : List Frame → Seg → Option Frame → Taken
looked fs g none =
    cond (leb 4 (length fs)) (refuses fs (rejects NoSlot))
    (takes fs (opened g))
looked fs g (some f) =
    cond (not (eqb f.size g.frame_length)) (refuses fs (rejects LengthDiffers))
    (cond (repeats f.parts (part_of g)) (refuses fs (rejects AlreadyReceived))
    (cond (leb most_segments (length f.parts)) (refuses fs too_many)
    (takes fs (further f g))))

-- TAKING: 14 first, in its three causes
unfoldable pub taken : List Frame → Seg → Taken
taken fs g =
    cond (eqb (length g.bytes) 0) (refuses fs (rejects Empty))
    (cond (ltb g.frame_length 32 || ltb 1532 g.frame_length) (refuses fs (rejects FrameLength))
    (cond (ltb g.frame_length (g.offset + length g.bytes)) (refuses fs (rejects PastEnd))
    (looked fs g (find identifier_of g.identifier fs))))
