-- EVERY RUN (demands 2 and 3; document 01, "The numbered answers" and "Reassembly memory"): one statement about runs from a set-up, mixing or not, for each
-- peer. Only definitions; proved in Laws/EveryRun.
-- How to read it: `h` is the history of the peer's slots in the run so far (History.antt), `h'` that with one event more, `m` and `m'` the memory
-- before and after. `EveryRun`, at the end, says of every event what it is answered, what it adds to the history, and which bytes of the memory it changes;
-- so the history is never taken on trust. In order: when a segment is rejected by 15, 16 or 17, that a new frame takes the lowest free slot, that a
-- segment's bytes go to their place and nothing else changes, that a frame is pending for three ticks at most, and that a complete frame is made up of
-- exactly the segments taken for it since it opened. The numbers are the paper's, written out: nothing here is measured by the definitions of Slots and
-- Store.
use Rattle.std.specs.Prelude.{◌≡◌, ◌⊎◌, ◌≢◌, Bool, true, false, cond, ◌||◌, List, [], ◌∷◌, ◌++◌, ℕ, ◌+◌, ◌*◌, ◌/◌, ◌%◌, ◌^◌, ◌≤◌, ◌<◌, length, get_or, eqb}
use Rattle.reassembly.specs.Slots.{Slot, no_row, free}
use Rattle.reassembly.specs.Take.{Seg, Fits, Rejection, rejection_code, Outcome, Rejected, Pending, Complete, LengthDiffers, AlreadyReceived, NoSlot}
use Rattle.reassembly.specs.Store.{bytes_of}
use Rattle.reassembly.specs.Receive.{Answers, segment, Event, receive, tick, take_answer}
use Rattle.reassembly.specs.SetUp.{Layers, Endpoint, World, receives, runs}
use Rattle.reassembly.specs.History.{carries, no_seg, identifier_of, length_of, frame_complete, frame_pending, OneOf, OfFrame, History, Bears, Fifteen}
use Rattle.reassembly.specs.History.{Sixteen, Seventeen, Further, Opens, taking, history_of, once_more, CameIn}

-- slot s of peer p starts here, and its map here
unfoldable pub frame_at : ℕ → ℕ → ℕ
frame_at p s = (4 * p + s) * 1728

unfoldable pub map_at : ℕ → ℕ → ℕ
map_at p s = (4 * p + s) * 1728 + 1536

-- bit i mod 8, lowest first, of map byte i div 8, of the map that starts at byte b
unfoldable pub bit_of : List ℕ → ℕ → ℕ → Bool
bit_of m b i = eqb (get_or m (b + i / 8) 0 / 2 ^ (i % 8) % 2) 1

-- place j of the memory is not among the n from a on
abbrev pub Off : ℕ → ℕ → ℕ → Type 0
Off j a n = (j < a) ⊎ (a + n ≤ j)

-- the memory: the segment's bytes at their place, and their bits set; of a new frame's map every other bit clear. Nothing else
pub record Touches (p s : ℕ) (new : Bool) (g : Seg) (m m' : List ℕ) : Type 0 where
  pub size : length m' ≡ length m
  pub place : (i : ℕ) → i < length g.bytes → get_or m' (frame_at p s + (g.offset + i)) 0 ≡ get_or g.bytes i 0
  pub bits : (i : ℕ) → i < 1536 → bit_of m' (map_at p s) i ≡ (carries g i || cond new false (bit_of m (map_at p s) i))
  -- every byte but those of the segment and of the slot's map is as it was
  pub others : (j : ℕ) → Off j (frame_at p s + g.offset) (length g.bytes) → Off j (map_at p s) 192 → get_or m' j 0 ≡ get_or m j 0
  -- and of the map of a pending frame, every byte that has no bit of the segment's
  pub map_others : new ≡ false → (j : ℕ) → Off j (frame_at p s + g.offset) (length g.bytes) → ((i : ℕ) → carries g i ≡ true → j ≢ map_at p s + i / 8)
      → get_or m' j 0 ≡ get_or m j 0

-- segment g is taken: slot s has the segments gs, with the frame complete and handed on, or still pending; the other slots keep what they had
pub record TakenFor (p s : ℕ) (new : Bool) (g : Seg) (gs : List Seg) (ticks : ℕ) (h h' : History) (o : Outcome) (m m' : List ℕ) : Type 0 where
  pub outcome : o ≡ cond (frame_complete gs) (Complete s) Pending
  pub segments : h'.taken s ≡ gs
  pub clock : h'.ticks s ≡ ticks
  pub others : (t : ℕ) → t ≢ s → (h'.taken t ≡ h.taken t) × (h'.ticks t ≡ h.ticks t)
  pub touches : Touches p s new g m m'
  -- the segments are of one frame, and no byte of it is covered twice
  pub of_frame : (j : ℕ) → j < length gs → OfFrame g.identifier g.frame_length (get_or gs j no_seg)
  pub once : (i j k : ℕ) → j < length gs → k < length gs → carries (get_or gs j no_seg) i ≡ true → carries (get_or gs k no_seg) i ≡ true → j ≡ k
  -- complete: each byte of the frame, where it lies in the memory, is from the one segment that covers it
  pub bytes : frame_complete gs ≡ true → (i : ℕ) → i < g.frame_length → OneOf gs i (get_or m' (frame_at p s + i) 0)

-- neither the history nor the memory changes
pub record NothingMoves (h h' : History) (m m' : List ℕ) : Type 0 where
  pub taken : (t : ℕ) → h'.taken t ≡ h.taken t
  pub ticks : (t : ℕ) → h'.ticks t ≡ h.ticks t
  pub memory : m' ≡ m

pub record IfAndOnlyIf (A B : Type 0) : Type 0 where
  pub only : A → B
  pub all : B → A

-- ---- the rules for a segment g that passes 14, of which taking gives o
pub record Ruled (p : ℕ) (g : Seg) (h h' : History) (o : Outcome) (m m' : List ℕ) : Type 0 where
  pub fifteen : IfAndOnlyIf (o ≡ Rejected LengthDiffers) (Fifteen h g)
  pub sixteen : IfAndOnlyIf (o ≡ Rejected AlreadyReceived) (Sixteen h g)
  pub seventeen : IfAndOnlyIf (o ≡ Rejected NoSlot) (Seventeen h g)
  -- a frame's further segment is added to it, and its ticks go on; a segment that opens a frame is its first, and ticks count from it
  pub further : (s : ℕ) → Further h g s → TakenFor p s false g (g ∷ h.taken s) (h.ticks s) h h' o m m'
  pub opens : (s : ℕ) → Opens h g s → TakenFor p s true g (g ∷ []) 0 h h' o m m'
  -- one that is rejected leaves all as it was
  pub rejected : (r : Rejection) → o ≡ Rejected r → NothingMoves h h' m m'
  -- there is no other case
  pub one_of : Fifteen h g ⊎ (Sixteen h g ⊎ (Seventeen h g ⊎ (((s : ℕ) × Further h g s) ⊎ ((s : ℕ) × Opens h g s))))

-- a segment that does not pass 14 is rejected by it
pub record Fourteen (h h' : History) (o : Outcome) (m m' : List ℕ) : Type 0 where
  pub cause : Rejection
  pub number : rejection_code cause ≡ 14
  pub rejected : o ≡ Rejected cause
  pub unchanged : NothingMoves h h' m m'

-- slot v of the endpoint is as the history has it: a frame is pending in it exactly if the history says so, with the identifier and the length that its
-- segments state, and its age is the ticks since it opened
pub record Stands (v : Slot) (gs : List Seg) (ticks : ℕ) : Type 0 where
  pub pending : v.pending ≡ frame_pending gs ticks
  pub identifier : v.pending ≡ true → v.identifier ≡ identifier_of gs
  pub size : v.pending ≡ true → v.frame_length ≡ length_of gs
  pub age : v.pending ≡ true → v.age ≡ ticks

module _ (W : Answers) (Config : Type 0) (U : Layers W Config) (p : ℕ) (e : Endpoint Config) where
  -- after the events es, from the set-up e with the memory m lent: endpoint and memory, and the history of the peer's slots
  abbrev pub after : List ℕ → List Event → World Config
  after m es = runs W Config U (record { ends = e; mem = m }) es

  -- Open: short for `history_of` from this set-up and memory
  abbrev pub history : List ℕ → List Event → History
  history m es = history_of W Config U p (record { ends = e; mem = m }) es

  -- ---- THE STATEMENT, of every run from a set-up, for peer p
  pub record EveryRun : Type 0 where
    -- at first no segment is taken
    pub begins : (m : List ℕ) (s : ℕ) → (history m []).taken s ≡ []
    -- a frame is pending exactly while the history says so: three ticks at most since it opened, and at the fourth it is not
    pub stands : (m : List ℕ) → 55296 ≤ length m → (es : List Event) (s : ℕ) → s < 4
        → Stands (get_or (get_or (after m es).ends.peers p no_row).slots s free) ((history m es).taken s) ((history m es).ticks s)
    -- frames pending together bear different identifiers
    pub distinct : (m : List ℕ) → 55296 ≤ length m → (es : List Event) (id s t : ℕ) → Bears (history m es) id s → Bears (history m es) id t → s ≡ t
    -- each segment that was taken came in a sound packet of the peer's in this run
    pub came : (m : List ℕ) → 55296 ≤ length m → (es : List Event) (s j : ℕ) → j < length ((history m es).taken s)
        → CameIn W Config U p e.config es (get_or ((history m es).taken s) j no_seg)
    -- a sound segment of the peer's that passes 14 meets the rules
    pub ruled : (m : List ℕ) → 55296 ≤ length m → (es : List Event) (k : List ℕ) (g : Seg) → U.header e.config k ≡ segment p g → Fits g
        → Ruled p g (history m es) (history m (es ++ (receive k ∷ []))) (taking W Config U p (after m es) g).outcome (after m es).mem
        (after m (es ++ (receive k ∷ []))).mem
    -- one that does not pass 14 is rejected by it
    pub fourteen : (m : List ℕ) → 55296 ≤ length m → (es : List Event) (k : List ℕ) (g : Seg) → U.header e.config k ≡ segment p g → (Fits g → ⊥)
        → Fourteen (history m es) (history m (es ++ (receive k ∷ []))) (taking W Config U p (after m es) g).outcome (after m es).mem
        (after m (es ++ (receive k ∷ []))).mem
    -- what taking gives is what the receive answers: 14 to 17, 1, or the judgement of the complete frame
    pub answered : (m : List ℕ) → 55296 ≤ length m → (es : List Event) (k : List ℕ) (g : Seg) → U.header e.config k ≡ segment p g
        → (receives W Config U (after m es) k).reply
        ≡ (take_answer W (U.judge e.config) bytes_of p g (taking W Config U p (after m es) g) (taking W Config U p (after m es) g).outcome).reply
    -- a packet that is no sound STT packet of any peer's changes nothing; another peer's, nothing of the history of this peer's slots
    pub no_segment : (m : List ℕ) → 55296 ≤ length m → (es : List Event) (k : List ℕ) → ((q : ℕ) (g : Seg) → U.header e.config k ≡ segment q g → ⊥)
        → NothingMoves (history m es) (history m (es ++ (receive k ∷ []))) (after m es).mem (after m (es ++ (receive k ∷ []))).mem
    pub another's : (m : List ℕ) → 55296 ≤ length m → (es : List Event) (k : List ℕ) (q : ℕ) (g : Seg) → U.header e.config k ≡ segment q g → q ≢ p
        → history m (es ++ (receive k ∷ [])) ≡ history m es
    -- a tick counts for each slot, and touches no memory
    pub ticked : (m : List ℕ) → 55296 ≤ length m → (es : List Event)
        → (history m (es ++ (tick ∷ [])) ≡ record { taken = (history m es).taken; ticks = once_more (history m es).ticks })
        × ((after m (es ++ (tick ∷ []))).mem ≡ (after m es).mem)
