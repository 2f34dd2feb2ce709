-- Demand 3, second half, its words (document 01, "Whose packet it is"): a cut, a mixing, pending, ticks. Only definitions.
use Rattle.std.specs.Prelude.{◌≡◌, Bool, true, cond, ◌&&◌, List, [], ◌∷◌, ◌++◌, ◌-◌, ℕ, zero, suc, ◌+◌, ◌≤◌, ◌<◌, length, get_or, take, drop, ltb, eqb}
use Rattle.reassembly.specs.Slots.{Note, Mark, no_note, no_mark}
use Rattle.reassembly.specs.Take.{Seg, note_after, slot_no}
use Rattle.reassembly.specs.Receive.{Answers, Verdict, good, Reading, other_sender, direct, segment, Event, receive, tick, Answer, bare}
use Rattle.reassembly.specs.Store.{slot_start}

-- one segment of a cut: the packet that carries it, its bytes of the frame, and its mark
pub record Part : Type 0 where
  pub packet : List ℕ
  pub bytes : List ℕ
  pub mark : Mark

-- an STT frame (its header and the inner frame), under its identifier, and its cut: the parts in the order of their offsets
pub record Frame : Type 0 where
  pub identifier : ℕ
  pub content : List ℕ
  pub parts : List Part

-- Open: only data
abbrev pub no_part : Part
no_part = record { packet = []; bytes = []; mark = no_mark }

abbrev pub no_frame : Frame
no_frame = record { identifier = 0; content = []; parts = [] }

-- the parts' bytes one after another; where part j begins
-- Open: `map` and concatenation of a list that the crates above write out
abbrev pub joined : List Part → List ℕ
joined [] = []
joined (x ∷ ps) = x.bytes ++ joined ps

-- Open: short for the length of what is joined so far
abbrev pub offset_of : List Part → ℕ → ℕ
offset_of ps j = length (joined (take j ps))

-- Open: entry j of a list
abbrev pub part_of : Frame → ℕ → Part
part_of f j = get_or f.parts j no_part

-- what part j states of itself
unfoldable pub states : Frame → ℕ → Seg
states f j =
    record {
      identifier = f.identifier;
      frame_length = length f.content;
      offset = offset_of f.parts j;
      bytes = (part_of f j).bytes;
      mark = (part_of f j).mark;
    }

-- what is noted of the frame's first n parts, in the order of their offsets; of all
unfoldable pub note_to : Frame → ℕ → Note
note_to f zero = no_note
note_to f (suc n) = note_after (note_to f n) (states f n)

unfoldable pub frame_note : Frame → Note
frame_note f = note_to f (length f.parts)

-- the frame is good for the peer (its verdict names what a delivery carries); its parts are a cut of it: each byte once, unchanged, none empty;
-- and each part's packet is the peer's, sound, and states the frame's length, its own offset and the one identifier
pub record Cut (W : Answers) (header : List ℕ → Reading W) (judge : ℕ → Note → List ℕ → Verdict W) (p : ℕ) (f : Frame) : Type 0 where
  pub verdict : W.Good
  pub is_good : judge p (frame_note f) f.content ≡ good verdict
  pub least : 32 ≤ length f.content
  pub most : length f.content ≤ 1532
  pub bytes : joined f.parts ≡ f.content
  pub some_byte : (j : ℕ) → j < length f.parts → 0 < length (part_of f j).bytes
  pub sound : (j : ℕ) → j < length f.parts → header (part_of f j).packet ≡ segment p (states f j)

-- an item of a run: segment j of frame f, given; or anything else
pub data Item : Type 0 where
  given : ℕ → ℕ → Item
  other : Event → Item

module _ (frames : List Frame) where
  -- Open: entry f of a list
  abbrev pub frame_of : ℕ → Frame
  frame_of f = get_or frames f no_frame

  unfoldable pub event : Item → Event
  event (given f j) = receive (part_of (frame_of f) j).packet
  event (other e) = e

  -- Open: entry j of entry f is there
  abbrev pub is_segment : ℕ → ℕ → Bool
  is_segment f j = ltb f (length frames) && ltb j (length (frame_of f).parts)

-- how often segment j of frame f is given; how many segments of frame f are given; how many ticks there are
abbrev pub times_item : ℕ → ℕ → Item → ℕ
times_item f j (given g k) = cond (eqb g f && eqb k j) 1 0
times_item f j (other e) = 0

-- Open: a count over a list that the crates above write out
abbrev pub times : ℕ → ℕ → List Item → ℕ
times f j [] = 0
times f j (x ∷ xs) = times_item f j x + times f j xs

abbrev pub of_item : ℕ → Item → ℕ
of_item f (given g k) = cond (eqb g f) 1 0
of_item f (other e) = 0

-- Open: a count over a list that the crates above write out
abbrev pub segments_of : ℕ → List Item → ℕ
segments_of f [] = 0
segments_of f (x ∷ xs) = of_item f x + segments_of f xs

abbrev pub tick_item : Item → ℕ
tick_item (given f j) = 0
tick_item (other tick) = 1
tick_item (other (receive k)) = 0

abbrev pub ticks : List Item → ℕ
ticks [] = 0
ticks (x ∷ xs) = tick_item x + ticks xs

-- frame f is pending ("under way") at `now`: from its first segment in the run to its last, both included
abbrev pub pending_at : List Item → Item → List Item → ℕ → Bool
pending_at before now after f = ltb 0 (segments_of f (before ++ (now ∷ []))) && ltb 0 (segments_of f (now ∷ after))

-- Open: a count, by recursion on how many are asked
abbrev pub how_many : ℕ → (ℕ → Bool) → ℕ
how_many zero t = 0
how_many (suc n) t = cond (t n) 1 0 + how_many n t

-- the item is none of the peer's segments
abbrev pub IsNoSegment : (W : Answers) → ℕ → Reading W → Type 0
IsNoSegment W p (other_sender a) = Unit {0}
IsNoSegment W p (direct q a) = Unit {0}
IsNoSegment W p (segment q g) = q ≡ p → ⊥

abbrev pub Free : (W : Answers) → (List ℕ → Reading W) → ℕ → Item → Type 0
Free W header p (given f j) = Unit {0}
Free W header p (other tick) = Unit {0}
Free W header p (other (receive k)) = IsNoSegment W p (header k)

abbrev pub AllFree : (W : Answers) → (List ℕ → Reading W) → ℕ → List Item → Type 0
AllFree W header p [] = Unit {0}
AllFree W header p (x ∷ xs) = Free W header p x × AllFree W header p xs

pub record Mixing (W : Answers) (header : List ℕ → Reading W) (p : ℕ) (frames : List Frame) (items : List Item) : Type 0 where
  -- each segment is given once, and no other label stands in the run
  pub once : (f j : ℕ) → times f j items ≡ cond (is_segment frames f j) 1 0
  -- the peer's sound STT packets are exactly the segments of the frames
  pub rest : AllFree W header p items
  -- frames pending together bear different identifiers
  pub apart : (before : List Item) (now : Item) (after : List Item) → items ≡ before ++ (now ∷ after) → (f g : ℕ) → f < length frames → g < length frames
      → pending_at before now after f ≡ true → pending_at before now after g ≡ true → (frame_of frames f).identifier ≡ (frame_of frames g).identifier → f ≡ g
  -- never more than four pending, counting the one arriving
  pub four : (before : List Item) (now : Item) (after : List Item) → items ≡ before ++ (now ∷ after) → how_many (length frames) (pending_at before now after) ≤ 4
  -- each is complete before its fourth tick
  pub soon : (before middle after : List Item) (f j k : ℕ) → items ≡ before ++ (given f j ∷ (middle ++ (given f k ∷ after))) → ticks middle ≤ 3

-- only segments, none else
abbrev pub Given1 : Item → Type 0
Given1 (given f j) = Unit {0}
Given1 (other e) = ⊥

abbrev pub Only : List Item → Type 0
Only [] = Unit {0}
Only (x ∷ xs) = Given1 x × Only xs

-- one after another: the same segment packets alone, frame by frame ("whole frame by whole frame")
pub record InTurn (frames : List Frame) (items : List Item) : Type 0 where
  pub once : (f j : ℕ) → times f j items ≡ cond (is_segment frames f j) 1 0
  pub only : Only items
  pub one : (before : List Item) (now : Item) (after : List Item) → items ≡ before ++ (now ∷ after) → (f g : ℕ) → f < length frames → g < length frames
      → pending_at before now after f ≡ true → pending_at before now after g ≡ true → f ≡ g

-- what an answer to a segment of frame f must be, where `later` segments of it come after this one in the run
pub record Right (W : Answers) (p : ℕ) (fr : Frame) (verdict : W.Good) (later : ℕ) (a : Answer W) : Type 0 where
  -- not the last: 1
  pub waits : 0 < later → a ≡ bare W W.pending
  -- the last: 0, with what the verdict names (tenant and binding of its Context ID), in one of the peer's slots, with its bytes from 18 on
  pub slot : ℕ
  pub is_slot : slot < 4
  pub delivers : later ≡ 0 → a.reply ≡ W.gives verdict (slot_start (slot_no p slot) + 18) (length fr.content - 18)
  pub bytes : later ≡ 0 → a.bytes ≡ drop 18 fr.content
