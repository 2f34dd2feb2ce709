-- ACCOUNTING (document 02, §6), its words: the bytes of segments taken are the lengths of the frames completed, the bytes marked in the maps of frames as they
-- aged out, and the bytes marked now for pending frames. No sum is stored anywhere: each is told from the run, over the slots of all eight peers.
-- Only definitions. What is claimed of an endpoint's calls stands in the crate above (endpoint, specs/Account); proved in Laws/Account.
use Rattle.std.specs.Prelude.{◌≡◌, Bool, cond, not, ◌&&◌, ◌||◌, List, [], ◌∷◌, ℕ, zero, suc, ◌+◌, length, get_or, eqb, leb}
use Rattle.reassembly.specs.Slots.{no_row, free}
use Rattle.reassembly.specs.Receive.{Answers, Reading, other_sender, direct, segment, Event, receive, tick}
use Rattle.reassembly.specs.SetUp.{Layers, World, receives, next, runs}
use Rattle.reassembly.specs.Mix.{how_many}
use Rattle.reassembly.specs.EveryRun.{map_at, bit_of}

-- ---- sums: below n; over the four slots of each of the eight peers; and along a run, where each event finds what the events before it left

unfoldable pub sum_below : ℕ → (ℕ → ℕ) → ℕ
sum_below zero f = 0
sum_below (suc n) f = f n + sum_below n f

unfoldable pub over_slots : (ℕ → ℕ → ℕ) → ℕ
over_slots f = sum_below 8 (λ p. sum_below 4 (λ s. f p s))

unfoldable pub along : {State : Type 0} → (State → Event → State) → (State → Event → ℕ) → State → List Event → ℕ
along step f w [] = 0
along step f w (e ∷ es) = f w e + along step f (step w e) es

-- ---- what a packet brings and completes, told from the packet and from the number that it is answered

-- the segment that a packet carries is taken, if 2 and 14 to 17 do not refuse it; it completes its frame, delivered or refused, if the answer is not 1 either
unfoldable pub takes : ℕ → Bool
takes number = not (eqb number 2 || (leb 14 number && leb number 17))

unfoldable pub completes : ℕ → Bool
completes number = takes number && not (eqb number 1)

module _ (W : Answers) where
  -- the bytes of a segment that is taken
  unfoldable pub bytes_taken : (number : ℕ) → Reading W → ℕ
  bytes_taken number (other_sender a) = 0
  bytes_taken number (direct p a) = 0
  bytes_taken number (segment p g) = cond (takes number) (length g.bytes) 0

  -- the length of a frame that is completed, as the segment states it
  unfoldable pub bytes_completed : (number : ℕ) → Reading W → ℕ
  bytes_completed number (other_sender a) = 0
  bytes_completed number (direct p a) = 0
  bytes_completed number (segment p g) = cond (completes number) g.frame_length 0

-- ---- what is marked in the memory. `pending p s` says that a frame is pending in slot s of peer p

-- how many of the 1,536 bits of a slot's map are set
unfoldable pub marked : List ℕ → (p s : ℕ) → ℕ
marked m p s = how_many 1536 (λ i. bit_of m (map_at p s) i)

-- for the pending frames
unfoldable pub bytes_pending : (pending : ℕ → ℕ → Bool) → List ℕ → ℕ
bytes_pending pending m = over_slots (λ p s. cond (pending p s) (marked m p s) 0)

-- for the frames that are pending before a tick and not after it
unfoldable pub bytes_aged : (before after : ℕ → ℕ → Bool) → List ℕ → ℕ
bytes_aged before after m = over_slots (λ p s. cond (before p s && not (after p s)) (marked m p s) 0)

-- ---- need not be believed: the account of a run of SetUp.antt, for any numbering of the answers. The crate above has its own, of its calls

-- Open: a field of a record
abbrev pub is_pending : {Config : Type 0} → World Config → (p s : ℕ) → Bool
is_pending w p s = (get_or (get_or w.ends.peers p no_row).slots s free).pending

module _ (W : Answers) (Config : Type 0) (U : Layers W Config) (number : W.A → ℕ) (c : Config) where
  -- Open: two cases, which the crate above has alike
  abbrev pub taken_at : World Config → Event → ℕ
  taken_at w tick = 0
  taken_at w (receive k) = bytes_taken W (number (receives W Config U w k).reply) (U.header c k)

  -- Open: likewise
  abbrev pub completed_at : World Config → Event → ℕ
  completed_at w tick = 0
  completed_at w (receive k) = bytes_completed W (number (receives W Config U w k).reply) (U.header c k)

  -- Open: likewise
  abbrev pub aged_at : World Config → Event → ℕ
  aged_at w tick = bytes_aged (is_pending w) (is_pending (next W Config U w tick)) w.mem
  aged_at w (receive k) = 0

  -- Open: an equation of sums
  abbrev pub Account : World Config → List Event → Type 0
  Account w es =
      along (next W Config U) taken_at w es
      ≡ along (next W Config U) completed_at w es + along (next W Config U) aged_at w es
      + bytes_pending (is_pending (runs W Config U w es)) (runs W Config U w es).mem
