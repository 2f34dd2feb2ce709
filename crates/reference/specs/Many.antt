-- ANSWER 32 of the reference reassembler (document 02, §7): when it is given, and that it changes nothing; and what its frames keep to, at every time of
-- every run. Only definitions and statements. Laws/Room.antt proves them (`many`, `bounded`).
use Rattle.std.specs.Prelude.{◌≡◌, false, List, [], ◌∷◌, ℕ, ◌+◌, ◌≤◌, length, get_or}
use Rattle.std.proofs.Math.Option.{some}
use Rattle.reassembly.specs.Receive.{Answers, segment}
use Rattle.reassembly.specs.SetUp.{Layers}
use Rattle.reference.specs.Run.{State}
use Rattle.reassembly.specs.Take.{Seg, Fits}
use Rattle.reference.specs.Keyed.{find, Distinct}
use Rattle.reference.specs.Reassembler.{Part, Frame, identifier_of, repeats, older, too_many, part_of, taken}

-- the segment would be the 65th of its frame: 14 does not apply; its frame is pending, so not 17; nor do 15 and 16; and 64 segments of it are kept
pub record Full (fs : List Frame) (g : Seg) : Type 0 where
  pub fits : Fits g
  pub frame : Frame
  pub pending : find identifier_of g.identifier fs ≡ some frame
  pub size : frame.size ≡ g.frame_length
  pub apart : repeats frame.parts (part_of g) ≡ false
  pub full : 64 ≤ length frame.parts

-- 32 is given there and nowhere else, and nothing changes
pub record Many : Type 0 where
  pub given : (fs : List Frame) (g : Seg) → Full fs g → (taken fs g).result ≡ too_many
  pub only : (fs : List Frame) (g : Seg) → (taken fs g).result ≡ too_many → Full fs g
  pub unchanged : (fs : List Frame) (g : Seg) → (taken fs g).result ≡ too_many → (taken fs g).frames ≡ fs

-- a packet brings such a segment: enough memory is lent, and the packet is a peer's with a segment that would be its frame's 65th
pub record Brings (W : Answers) (Config : Type 0) (U : Layers W Config) (lent : ℕ) (w : State W Config U) (k : List ℕ) : Type 0 where
  pub enough : 50688 ≤ lent
  pub peer : ℕ
  pub seg : Seg
  pub carried : U.header w.config k ≡ segment peer seg
  pub full : Full (get_or w.peers peer []) seg

-- every segment lies in the frame of n bytes, and has no byte that an earlier one has
abbrev pub Once : ℕ → List Part → Type 0
Once n [] = Unit {0}
Once n (g ∷ gs) = (g.offset + length g.bytes ≤ n) × (repeats gs g ≡ false) × Once n gs

-- what a pending frame keeps to
pub record Bounds (f : Frame) : Type 0 where
  pub longest : f.size ≤ 1532
  pub least : 1 ≤ length f.parts
  pub most : length f.parts ≤ 64
  pub once : Once f.size f.parts

-- what is said of every entry of a list
abbrev pub Each : {A : Type 0} → (A → Type 0) → List A → Type 0
Each P [] = Unit {0}
Each P (x ∷ xs) = P x × Each P xs

-- what a peer's frames keep to: at most four, no two with one identifier, each within its bounds
pub record Fit (fs : List Frame) : Type 0 where
  pub four : length fs ≤ 4
  pub distinct : Distinct identifier_of fs
  pub each : Each Bounds fs

-- they do at first, and after every segment and every tick
pub record Bounded : Type 0 where
  pub at_first : Fit []
  pub segment : (fs : List Frame) (g : Seg) → Fit fs → Fit (taken fs g).frames
  pub tick : (fs : List Frame) → Fit fs → Fit (older fs)
