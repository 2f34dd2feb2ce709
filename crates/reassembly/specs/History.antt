-- WHAT A RUN TELLS OF A PEER'S SLOTS, and the slot rules' words (document 01, "The numbered answers" and "Reassembly memory"). Only definitions.
-- For each of the four slots: the segments taken for the frame that opened there last, and the ticks since it opened (`History`). From these alone: whether
-- a frame is pending in the slot, when a segment is rejected by 15, 16 or 17, when it is a further segment of a pending frame, when it opens one, and which
-- frame the segments make up. No slot record, map or memory is looked at.
use Rattle.std.specs.Prelude.{◌≡◌, ◌⊎◌, ◌≢◌, Bool, true, false, cond, not, ◌&&◌, ◌||◌, List, [], ◌∷◌, ◌++◌, ℕ, ◌+◌, ◌-◌, ◌<◌, length, get_or, ltb, eqb}
use Rattle.reassembly.specs.Base.{all_below, within}
use Rattle.reassembly.specs.Slots.{Slot, no_mark, no_row}
use Rattle.reassembly.specs.Take.{Seg, Fits, Outcome, Rejected, Pending, Complete, NoMemory, Choice, reject, old, fresh, chosen, Effect}
use Rattle.reassembly.specs.Store.{bytes_of, take_in}
use Rattle.reassembly.specs.Receive.{Answers, Reading, other_sender, direct, segment, Event, receive, tick}
use Rattle.reassembly.specs.SetUp.{Layers, World, next}

-- ---- a frame and its segments

-- segment g covers byte i of the frame; its byte there
abbrev pub carries : Seg → ℕ → Bool
carries g i = within g.offset (length g.bytes) i

abbrev pub carried : Seg → ℕ → ℕ
carried g i = get_or g.bytes (i - g.offset) 0

abbrev pub no_seg : Seg
no_seg = record { identifier = 0; frame_length = 0; offset = 0; bytes = []; mark = no_mark }

-- byte i is covered by one of the segments
abbrev pub covered : List Seg → ℕ → Bool
covered [] i = false
covered (g ∷ gs) i = carries g i || covered gs i

-- what the segments of a frame state: its identifier and its length
abbrev pub identifier_of : List Seg → ℕ
identifier_of [] = 0
identifier_of (g ∷ gs) = g.identifier

abbrev pub length_of : List Seg → ℕ
length_of [] = 0
length_of (g ∷ gs) = g.frame_length

-- the frame is complete ("whole"): every byte of it is covered
unfoldable pub frame_complete : List Seg → Bool
frame_complete gs = all_below (length_of gs) (λ i. covered gs i)

-- the frame that opened last in a slot is pending ("under way"): fewer than four ticks came since the segment that opened it, and some byte of it is
-- covered by none
unfoldable pub frame_pending : List Seg → ℕ → Bool
frame_pending gs ticks = ltb ticks 4 && not (frame_complete gs)

-- byte i is b, and is from one of the segments: that one and no other covers i
pub record OneOf (gs : List Seg) (i b : ℕ) : Type 0 where
  pub which : ℕ
  pub is_one : which < length gs
  pub covering : carries (get_or gs which no_seg) i ≡ true
  pub only : (j : ℕ) → j < length gs → carries (get_or gs j no_seg) i ≡ true → j ≡ which
  pub byte : b ≡ carried (get_or gs which no_seg) i

-- the segment is of the frame with this identifier and this length, and passes 14
pub record OfFrame (id n : ℕ) (g : Seg) : Type 0 where
  pub identifier : g.identifier ≡ id
  pub size : g.frame_length ≡ n
  pub fits : Fits g

-- the segments make up exactly this frame, the one of segment g: each states its identifier and its length and passes 14, and each byte is from the one
-- segment that covers it
pub record MakesUp (g : Seg) (gs : List Seg) (frame : List ℕ) : Type 0 where
  pub size : length frame ≡ g.frame_length
  pub of_frame : (j : ℕ) → j < length gs → OfFrame g.identifier g.frame_length (get_or gs j no_seg)
  pub bytes : (i : ℕ) → i < length frame → OneOf gs i (get_or frame i 0)

-- ---- the history of each slot of a peer: the segments taken for the frame that opened there last, latest first, and the ticks since it opened

pub record History : Type 0 where
  pub taken : ℕ → List Seg
  pub ticks : ℕ → ℕ

-- a frame is pending in slot s
abbrev pub pending_in : History → ℕ → Bool
pending_in h s = frame_pending (h.taken s) (h.ticks s)

-- the frame pending in slot s bears this identifier; none does
pub record Bears (h : History) (id s : ℕ) : Type 0 where
  pub is_slot : s < 4
  pub pending : pending_in h s ≡ true
  pub identifier : identifier_of (h.taken s) ≡ id

abbrev pub NoneBears : History → ℕ → Type 0
NoneBears h id = (s : ℕ) → Bears h id s → ⊥

-- slot s is the lowest free one: no frame is pending in it, and one is in each below
pub record Lowest (h : History) (s : ℕ) : Type 0 where
  pub is_slot : s < 4
  pub idle : pending_in h s ≡ false
  pub below : (t : ℕ) → t < s → pending_in h t ≡ true

-- ---- when a segment that passes 14 is rejected, and when it is taken

-- 15: a pending frame has its identifier and another length
pub record Fifteen (h : History) (g : Seg) : Type 0 where
  pub slot : ℕ
  pub bears : Bears h g.identifier slot
  pub other : length_of (h.taken slot) ≢ g.frame_length

-- 16: the pending frame with its identifier has its length, and one of the segment's bytes is covered by a segment taken for that frame
pub record Sixteen (h : History) (g : Seg) : Type 0 where
  pub slot : ℕ
  pub bears : Bears h g.identifier slot
  pub same : length_of (h.taken slot) ≡ g.frame_length
  pub byte : ℕ
  pub its : carries g byte ≡ true
  pub already : covered (h.taken slot) byte ≡ true

-- 17: no pending frame has its identifier, and four are pending
pub record Seventeen (h : History) (g : Seg) : Type 0 where
  pub none_bears : NoneBears h g.identifier
  pub four : (s : ℕ) → s < 4 → pending_in h s ≡ true

-- it is a further segment of the frame pending in slot s: the same identifier and length, and none of its bytes is covered
pub record Further (h : History) (g : Seg) (s : ℕ) : Type 0 where
  pub bears : Bears h g.identifier s
  pub same : length_of (h.taken s) ≡ g.frame_length
  pub apart : (i : ℕ) → carries g i ≡ true → covered (h.taken s) i ≡ false

-- it opens a frame in slot s: no pending frame has its identifier, and s is the lowest free slot
pub record Opens (h : History) (g : Seg) (s : ℕ) : Type 0 where
  pub none_bears : NoneBears h g.identifier
  pub lowest : Lowest h s

-- the segments of the frame that segment g is for, with it: those taken since that frame opened, if it is pending; g alone, if no pending frame has its
-- identifier and a slot is free
abbrev pub Gathers : History → Seg → List Seg → Type 0
Gathers h g gs = ((s : ℕ) × (Bears h g.identifier s × (gs ≡ g ∷ h.taken s))) ⊎ ((s : ℕ) × (Opens h g s × (gs ≡ g ∷ [])))

-- ---- need not be believed: how the history of a run is kept. `EveryRun` (EveryRun.antt) gives it anew after every event, from what it was before

abbrev pub Log : Type 0
Log = ℕ → List Seg

abbrev pub writes : Log → ℕ → List Seg → Log
writes L s gs t = cond (eqb t s) gs (L t)

-- a segment that opens a frame begins the slot's list anew, and its ticks; a further one is added to the list. Only a segment that was taken is entered
abbrev pub enters : Log → Seg → Choice → Log
enters L g (reject r) = L
enters L g (old s) = writes L s (g ∷ L s)
enters L g (fresh s) = writes L s (g ∷ [])

abbrev pub entered : Log → Seg → Choice → Outcome → Log
entered L g c (Rejected r) = L
entered L g c Pending = enters L g c
entered L g c (Complete s) = enters L g c
entered L g c NoMemory = L

abbrev pub logged : Log → List Slot → Seg → Outcome → Log
logged L row g x = entered L g (chosen row g) x

abbrev pub resets : (ℕ → ℕ) → ℕ → ℕ → ℕ
resets c s t = cond (eqb t s) 0 (c t)

abbrev pub restarts : (ℕ → ℕ) → Choice → ℕ → ℕ
restarts c (reject r) = c
restarts c (old s) = c
restarts c (fresh s) = resets c s

abbrev pub restarted : (ℕ → ℕ) → Choice → Outcome → ℕ → ℕ
restarted c x (Rejected r) = c
restarted c x Pending = restarts c x
restarted c x (Complete s) = restarts c x
restarted c x NoMemory = c

-- ---- a tick, for each slot; and what taking a segment gives in a run

abbrev pub once_more : (ℕ → ℕ) → ℕ → ℕ
once_more c t = c t + 1

module _ (W : Answers) (Config : Type 0) (U : Layers W Config) (p : ℕ) where
  -- what taking peer p's segment g gives in this world
  -- Open: short for `take_in` with the row and the memory of a world
  abbrev pub taking : World Config → Seg → Effect bytes_of
  taking w g = take_in p (get_or w.ends.peers p no_row) w.mem g

  -- ---- need not be believed: the history, kept event by event

  abbrev pub log_seen : World Config → Log → Reading W → Log
  log_seen w L (other_sender a) = L
  log_seen w L (direct q a) = L
  log_seen w L (segment q g) = cond (eqb q p) (logged L (get_or w.ends.peers p no_row).slots g (taking w g).outcome) L

  abbrev pub log_next : World Config → Log → Event → Log
  log_next w L tick = L
  log_next w L (receive k) = log_seen w L (U.header w.ends.config k)

  abbrev pub log_run : World Config → Log → List Event → Log
  log_run w L [] = L
  log_run w L (e ∷ es) = log_run (next W Config U w e) (log_next w L e) es

  abbrev pub clock_seen : World Config → (ℕ → ℕ) → Reading W → ℕ → ℕ
  clock_seen w c (other_sender a) = c
  clock_seen w c (direct q a) = c
  clock_seen w c (segment q g) = cond (eqb q p) (restarted c (chosen (get_or w.ends.peers p no_row).slots g) (taking w g).outcome) c

  abbrev pub clock_next : World Config → (ℕ → ℕ) → Event → ℕ → ℕ
  clock_next w c tick = once_more c
  clock_next w c (receive k) = clock_seen w c (U.header w.ends.config k)

  abbrev pub clock_run : World Config → (ℕ → ℕ) → List Event → ℕ → ℕ
  clock_run w c [] = c
  clock_run w c (e ∷ es) = clock_run (next W Config U w e) (clock_next w c e) es

  -- the history of the peer's slots in a run from this world
  abbrev pub taken_since : World Config → List Event → ℕ → List Seg
  taken_since w es s = log_run w (λ t. []) es s

  abbrev pub ticks_since : World Config → List Event → ℕ → ℕ
  ticks_since w es = clock_run w (λ t. 0) es

  abbrev pub history_of : World Config → List Event → History
  history_of w es = record { taken = taken_since w es; ticks = ticks_since w es }

  -- ---- what came in a run

  -- a segment that some packet of the run carries, which is peer p's and sound
  pub record CameIn (c : Config) (es : List Event) (g : Seg) : Type 0 where
    pub before : List Event
    pub packet : List ℕ
    pub after : List Event
    pub is : es ≡ before ++ (receive packet ∷ after)
    pub sound : U.header c packet ≡ segment p g
