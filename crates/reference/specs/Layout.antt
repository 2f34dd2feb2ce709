-- How the code keeps the frames of the definition (Reassembler.antt): a `Buffer` for each pending frame, with an `Extent` for each of its segments, by value;
-- the segments' bytes in the lent memory, end to end in the order in which they came, in the frame's block; behind the 32 blocks, room for one rebuilt frame.
-- `frames_in` reads the definition's frames back. Nothing here need be believed: `Same.antt` states what comes of it.
use Rattle.std.specs.Prelude.{◌≡◌, Bool, cond, not, ◌&&◌, ◌||◌, List, [], ◌∷◌, map, ℕ, zero, suc, ◌+◌, ◌-◌, ◌*◌, ◌<◌, min, length, get_or, set, take, replicate}
use Rattle.std.specs.Prelude.{ltb, leb, eqb, Option, Some, None, Result, Ok, Err}
use Rattle.std.specs.List.{list_any}
use Rattle.std.proofs.Math.Option as Math
use Rattle.std.proofs.Math.Option.{none, some}
use Rattle.std.proofs.lemmas.List.Edits.{sets}
use Rattle.reassembly.specs.Base.{table}
use Rattle.reassembly.specs.Slots.{no_mark}
use Rattle.reassembly.specs.Take.{Seg, Fits}
use Rattle.reassembly.specs.declared.take.Rejection.{Rejection}
use Rattle.reassembly.specs.declared.take.Rejection.TheVariants.{Empty, FrameLength, PastEnd, LengthDiffers, AlreadyReceived, NoSlot}
use Rattle.reference.specs.Keyed.{find, put, without}
use Rattle.reference.specs.Reassembler as D
use Rattle.reference.specs.Reassembler.{Part, Frame, rebuilt, repeats, notes, rejects, too_many, waits, complete, part_of, most_segments}
use Rattle.reference.specs.Run.{rebuilt_at}
use Rattle.endpoint.specs.declared.answer.Drop.TheVariants.{Segment}
use Rattle.reference.specs.declared.answer.Refusal.{Refusal}
use Rattle.reference.specs.declared.answer.Refusal.TheVariants.{Dropped, TooManySegments}
use Rattle.reference.specs.declared.buffer.Extent.{Extent}
use Rattle.reference.specs.declared.buffer.Buffer.{Buffer}
use Rattle.reference.specs.declared.list.Buffers.{Buffers}
use Rattle.reference.specs.declared.take.Progress.{Progress}
use Rattle.reference.specs.declared.take.Progress.TheVariants.{Pending, Complete}

-- ---- need not be believed: a frame's segments

abbrev pub no_extent : Extent
no_extent = record { offset = 0; length = 0 }

-- how many segments are kept: no call leaves more than there is room for
abbrev pub kept : Buffer → ℕ
kept b = min b.count most_segments

-- where the bytes of segment j begin in the block: behind those of the segments before it
unfoldable pub begins : List Extent → ℕ → ℕ
begins es zero = 0
begins es (suc j) = begins es j + (get_or es j no_extent).length

-- n bytes of the memory from a place on
abbrev pub bytes_at : List ℕ → ℕ → ℕ → List ℕ
bytes_at m a n = table n (λ i. get_or m (a + i) 0)

abbrev pub part_in : List Extent → List ℕ → ℕ → ℕ → Part
part_in es m block j =
    record { offset = (get_or es j no_extent).offset; bytes = bytes_at m (block + begins es j) (get_or es j no_extent).length; mark = no_mark }

-- the first n segments, latest first
unfoldable pub parts_in : List Extent → List ℕ → ℕ → ℕ → List Part
parts_in es m block zero = []
parts_in es m block (suc j) = part_in es m block j ∷ parts_in es m block j

-- where byte i of the frame lies in the block, if one of the first n segments has it: in the latest
unfoldable pub has_byte : Extent → ℕ → Bool
has_byte e i = leb e.offset i && ltb i (e.offset + e.length)

unfoldable pub place_in : List Extent → ℕ → ℕ → Option ℕ
place_in es zero i = None
place_in es (suc j) i =
    cond (has_byte (get_or es j no_extent) i) (Some (begins es j + (i - (get_or es j no_extent).offset))) (place_in es j i)

-- bytes to their place in the memory, where it has that place
unfoldable pub stored : List ℕ → ℕ → List ℕ → List ℕ
stored m at bs = cond (leb (at + length bs) (length m)) (sets m at bs) m

-- what rebuilding gives: where every byte is there, an array with the frame's bytes at its front
abbrev pub Rebuilds : Math.Option (List ℕ) → Option (List ℕ) → Type 0
Rebuilds none r = r ≡ None
Rebuilds (some bs) None = ⊥
Rebuilds (some bs) (Some frame) = take (length bs) frame ≡ bs

-- a segment more
abbrev pub added : Buffer → ℕ → ℕ → Buffer
added b offset n =
    record {
      extents = set b.extents b.count (record { offset = offset; length = n });
      identifier = b.identifier;
      frame_length = b.frame_length;
      count = suc b.count;
      age = b.age;
      block = b.block;
    }

-- block b of peer p
abbrev pub block_at : ℕ → ℕ → ℕ
block_at p b = (4 * p + b) * 1536

-- the definition's frame
abbrev pub frame_in : ℕ → List ℕ → Buffer → Frame
frame_in p m b =
    record { identifier = b.identifier; size = b.frame_length; age = b.age; parts = parts_in b.extents m (block_at p b.block) (kept b) }

abbrev pub frames_in : ℕ → List ℕ → List Buffer → List Frame
frames_in p m bs = map (frame_in p m) bs

-- ---- need not be believed: a peer's frames

abbrev pub identifier_in : Buffer → ℕ
identifier_in b = b.identifier

abbrev pub buffers_of : Buffers → List Buffer
buffers_of s = take (min s.count 4) s.buffers

abbrev pub no_buffer : Buffer
no_buffer = record { extents = []; identifier = 0; frame_length = 0; count = 0; age = 0; block = 0 }

-- a tick
abbrev pub aged_buffer : Buffer → Buffer
aged_buffer b =
    record {
      extents = b.extents;
      identifier = b.identifier;
      frame_length = b.frame_length;
      count = b.count;
      age = b.age + 1;
      block = b.block;
    }

unfoldable pub older_buffers : List Buffer → List Buffer
older_buffers [] = []
older_buffers (b ∷ bs) = cond (ltb (b.age + 1) 4) (aged_buffer b ∷ older_buffers bs) (older_buffers bs)

-- the lowest block that no frame uses
abbrev pub uses : List Buffer → ℕ → Bool
uses bs n = list_any (λ b. eqb b.block n) bs

unfoldable pub spare : List Buffer → ℕ
spare bs = cond (not (uses bs 0)) 0 (cond (not (uses bs 1)) 1 (cond (not (uses bs 2)) 2 3))

-- a frame with no segment yet
abbrev pub blank : ℕ → ℕ → ℕ → Buffer
blank block identifier size =
    record { extents = replicate most_segments no_extent; identifier = identifier; frame_length = size; count = 0; age = 0; block = block }

-- ---- need not be believed: a segment of peer p's

pub record Effect : Type 0 where
  pub result : D.Result
  pub buffers : List Buffer
  pub mem : List ℕ

abbrev pub leaves : List Buffer → List ℕ → D.Result → Effect
leaves bs m r = record { result = r; buffers = bs; mem = m }

-- frame b has its newest segment, in the memory m too: it waits; or it is complete, and is rebuilt behind the blocks
abbrev pub settled_in : List Buffer → List ℕ → Buffer → List Part → Math.Option (List ℕ) → Effect
settled_in bs m b gs none = record { result = waits; buffers = put identifier_in b bs; mem = m }
settled_in bs m b gs (some frame) =
    record { result = complete (notes gs) frame; buffers = without identifier_in b.identifier bs; mem = stored m rebuilt_at frame }

abbrev pub rebuilt_in : ℕ → List Buffer → List ℕ → Buffer → Effect
rebuilt_in p bs m b = settled_in bs m b (frame_in p m b).parts (rebuilt (frame_in p m b).parts b.frame_length)

-- the segment joins frame b: its bytes behind the others', its extent behind theirs
unfoldable pub joined_in : ℕ → List Buffer → List ℕ → Seg → Buffer → Effect
joined_in p bs m g b =
    rebuilt_in p bs (stored m (block_at p b.block + begins b.extents (kept b)) g.bytes) (added b g.offset (length g.bytes))

unfoldable pub opened_in : ℕ → List Buffer → List ℕ → Seg → Effect
opened_in p bs m g =
    cond (leb 4 (length bs)) (leaves bs m (rejects NoSlot))
    (joined_in p bs m g (blank (spare bs) g.identifier g.frame_length))

unfoldable pub further_in : ℕ → List Buffer → List ℕ → Seg → Buffer → Effect
further_in p bs m g b =
    cond (not (eqb b.frame_length g.frame_length)) (leaves bs m (rejects LengthDiffers))
    (cond (repeats (frame_in p m b).parts (part_of g)) (leaves bs m (rejects AlreadyReceived))
    (cond (leb most_segments (kept b)) (leaves bs m too_many)
    (joined_in p bs m g b)))

abbrev pub looked_in : ℕ → List Buffer → List ℕ → Seg → Math.Option Buffer → Effect
looked_in p bs m g none = opened_in p bs m g
looked_in p bs m g (some b) = further_in p bs m g b

unfoldable pub taken_in : ℕ → List Buffer → List ℕ → Seg → Effect
taken_in p bs m g =
    cond (eqb (length g.bytes) 0) (leaves bs m (rejects Empty))
    (cond (ltb g.frame_length 32 || ltb 1532 g.frame_length) (leaves bs m (rejects FrameLength))
    (cond (ltb g.frame_length (g.offset + length g.bytes)) (leaves bs m (rejects PastEnd))
    (looked_in p bs m g (find identifier_in g.identifier bs))))

-- the code's own words for a rejection, and for a result: a complete frame lies behind the blocks
abbrev pub refusal_of : Rejection → Refusal
refusal_of r = Dropped (Segment r)

abbrev pub outcome_of : D.Result → Result Progress Refusal
outcome_of (rejects r) = Err (refusal_of r)
outcome_of too_many = Err TooManySegments
outcome_of waits = Ok Pending
outcome_of (complete note frame) = Ok Complete

-- what taking gives back, and the frames and the memory that it leaves
pub record TakenAs (x : Effect) (r : Result Progress Refusal) (bs : List Buffer) (m : List ℕ) : Type 0 where
  pub outcome : r ≡ outcome_of x.result
  pub buffers : bs ≡ x.buffers
  pub mem : m ≡ x.mem

-- ---- need not be believed: taking in stages, as the code makes it

-- 14 applies, for this reason
abbrev pub Unfit : Seg → Rejection → Type 0
Unfit g why = (p : ℕ) (bs : List Buffer) (m : List ℕ) → taken_in p bs m g ≡ leaves bs m (rejects why)

-- a further segment of frame b is refused, and nothing changes; or it joins the frame
abbrev pub Excludes : Buffer → Seg → Refusal → Type 0
Excludes b g why = (p : ℕ) (bs : List Buffer) (m : List ℕ) → TakenAs (further_in p bs m g b) (Err why) bs m

pub record Admits (b : Buffer) (g : Seg) : Type 0 where
  pub size : b.frame_length ≡ g.frame_length
  pub few : kept b < most_segments
  pub effect : (p : ℕ) (bs : List Buffer) (m : List ℕ) → further_in p bs m g b ≡ joined_in p bs m g b

-- a segment of a peer with these frames is refused, and nothing changes; or it joins frame b, which is one of them or has room
abbrev pub Refuses : List Buffer → Seg → Refusal → Type 0
Refuses bs g why = (p : ℕ) (m : List ℕ) → TakenAs (taken_in p bs m g) (Err why) bs m

pub record Joins (bs : List Buffer) (g : Seg) (b : Buffer) : Type 0 where
  pub fits : Fits g
  pub size : b.frame_length ≡ g.frame_length
  pub few : kept b < most_segments
  pub room : find identifier_in b.identifier bs ≡ none → length bs < 4
  pub effect : (p : ℕ) (m : List ℕ) → taken_in p bs m g ≡ joined_in p bs m g b
