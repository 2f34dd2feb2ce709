-- ACCOUNTING (document 02, §6): in every run of the calls from a set-up, the bytes of the segments taken, told from the packets, are
--   the lengths that the segments state of the frames they completed, refused ones too,
--   and the bytes marked in the maps of frames as they aged out, counted just before the tick,
--   and the bytes now marked for pending frames.
-- No sum is stored. A run is a list of receives and ticks (Run.antt); which segment a packet carries is the published format's (Demand3.antt,
-- `WordsMean.sound`); and whether it was taken is told from the number of its answer, so that a refused one never counts. Sums, maps and what a number tells
-- are crate reassembly's words (specs/Account). Only definitions; proved in Laws/Account.
use Rattle.std.specs.Prelude.{ℕ, ◌+◌, ◌≤◌, ◌<◌, ◌≡◌, ◌⊎◌, ◌≢◌, Bool, true, false, not, ◌&&◌, List, [], ◌∷◌, ◌++◌, length}
use Rattle.reassembly.specs.Take.{Seg}
use Rattle.reassembly.specs.Receive.{segment, Event, receive, tick}
use Rattle.reassembly.specs.Mix.{how_many}
use Rattle.reassembly.specs.EveryRun.{map_at, bit_of}
use Rattle.reassembly.specs.Account.{along, bytes_taken, bytes_completed, bytes_pending, bytes_aged}
use Rattle.endpoint.specs.Answer.{values_of}
use Rattle.endpoint.specs.Config.{Config, config_of}
use Rattle.endpoint.specs.Receive.{answers, header_of, step_of}
use Rattle.endpoint.specs.Run.{Left, called, left}
use Rattle.endpoint.specs.Demand1.{◌among◌, slot_at}
use Rattle.endpoint.specs.declared.config.Endpoint.{Endpoint}

-- ---- one call, that finds this endpoint and this memory

-- the number that a receive of packet k answers
abbrev pub number_of : Left → List ℕ → ℕ
number_of w k = (values_of (step_of w.endpoint w.mem k).answer).number

-- a frame is pending in slot s of peer p
abbrev pub is_pending : Left → (p s : ℕ) → Bool
is_pending w p s = (slot_at w.endpoint p s).pending

-- the bytes of the segment that the packet carries, if the number tells that it was taken: none of 2 and 14 to 17
abbrev pub taken_by : Config → Left → Event → ℕ
taken_by c w (receive k) = bytes_taken answers (number_of w k) (header_of c k)
taken_by c w tick = 0

-- the length that it states of its frame, if the number tells that the frame is complete: not 1 either
abbrev pub completed_by : Config → Left → Event → ℕ
completed_by c w (receive k) = bytes_completed answers (number_of w k) (header_of c k)
completed_by c w tick = 0

-- the bits set in the maps of the frames that are pending before a tick and not after it
abbrev pub aged_out_by : Left → Event → ℕ
aged_out_by w (receive k) = 0
aged_out_by w tick = bytes_aged (is_pending w) (is_pending (called w tick)) w.mem

-- ---- a run of the calls from endpoint e, with memory m lent

module _ (e : Endpoint) (m : List ℕ) (es : List Event) where
  abbrev pub taken : ℕ
  taken = along called (taken_by (config_of e)) (record { endpoint = e; mem = m }) es

  abbrev pub completed : ℕ
  completed = along called (completed_by (config_of e)) (record { endpoint = e; mem = m }) es

  abbrev pub aged_out : ℕ
  aged_out = along called aged_out_by (record { endpoint = e; mem = m }) es

  -- the bits set in the maps of the frames pending now
  abbrev pub pending_now : ℕ
  pending_now = bytes_pending (is_pending (left e m es)) (left e m es).mem

-- ---- what each sum is, told again from the packets, the answers and the maps alone: so no word above can be empty, or count another thing

module _ (e : Endpoint) (m : List ℕ) (es : List Event) where
  -- call v, after the calls es, adds so much to the bytes taken, completed and aged out
  pub record Adds (v : Event) (t c a : ℕ) : Type 0 where
    pub to_taken : taken e m (es ++ (v ∷ [])) ≡ taken e m es + t
    pub to_completed : completed e m (es ++ (v ∷ [])) ≡ completed e m es + c
    pub to_aged : aged_out e m (es ++ (v ∷ [])) ≡ aged_out e m es + a

  -- packet k carries the segment g and is answered with number n
  pub record SegmentAdds (k : List ℕ) (g : Seg) (n : ℕ) : Type 0 where
    pub refused : n among (2 ∷ 14 ∷ 15 ∷ 16 ∷ 17 ∷ []) ≡ true → Adds (receive k) 0 0 0
    pub pending : n ≡ 1 → Adds (receive k) (length g.bytes) 0 0
    pub complete : n among (0 ∷ 12 ∷ 13 ∷ 28 ∷ 29 ∷ []) ≡ true → Adds (receive k) (length g.bytes) g.frame_length 0

  -- the calls es left w
  pub record CallByCall (w : Left) : Type 0 where
    pub carried : (k : List ℕ) (p : ℕ) (g : Seg) → header_of (config_of e) k ≡ segment p g
        → SegmentAdds k g (values_of (step_of w.endpoint w.mem k).answer).number
    pub no_segment : (k : List ℕ) → ((p : ℕ) (g : Seg) → header_of (config_of e) k ≡ segment p g → ⊥) → Adds (receive k) 0 0 0
    pub ticked : Adds tick 0 0 (bytes_pending (λ p s. (slot_at w.endpoint p s).pending && not (slot_at (called w tick).endpoint p s).pending) w.mem)
    pub now : pending_now e m es ≡ bytes_pending (λ p s. (slot_at w.endpoint p s).pending) w.mem

-- the bytes marked for the slots that a test picks: for none, 0; for one slot more, as many more as bits are set in its map
pub record SlotBySlot (m : List ℕ) : Type 0 where
  pub none : (f : ℕ → ℕ → Bool) → ((p s : ℕ) → p < 8 → s < 4 → f p s ≡ false) → bytes_pending f m ≡ 0
  pub one_more : (f g : ℕ → ℕ → Bool) (p s : ℕ) → p < 8 → s < 4 → f p s ≡ false → g p s ≡ true → ((q t : ℕ) → (q ≢ p) ⊎ (t ≢ s) → f q t ≡ g q t)
      → bytes_pending g m ≡ bytes_pending f m + how_many 1536 (λ i. bit_of m (map_at p s) i)

-- ---- THE STATEMENT, of an endpoint that is a set-up: over every memory that is large enough, and every run
pub record Accounts (e : Endpoint) : Type 0 where
  pub balance : (m : List ℕ) → 55296 ≤ length m → (es : List Event) → taken e m es ≡ completed e m es + aged_out e m es + pending_now e m es
  pub begins : (m : List ℕ) → (taken e m [] ≡ 0) × ((completed e m [] ≡ 0) × (aged_out e m [] ≡ 0))
  pub call_by_call : (m : List ℕ) (es : List Event) → CallByCall e m es (left e m es)
  pub slot_by_slot : (m : List ℕ) → SlotBySlot m
