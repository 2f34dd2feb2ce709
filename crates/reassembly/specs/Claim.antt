-- THE CLAIM (demand 3; document 01, "Whose packet it is"): one statement about runs from a set-up, over the bytes of the memory, for each peer. Only
-- definitions; proved in Laws/Claim.
-- How to read it: a run is a list of receives and ticks from a set-up (SetUp.antt); frames, their cuts and a mixing of the segments are Mix.antt's;
-- `Claim`, at the end, has the two halves of the demand: `same`, whatever the other senders sent; and of every mixing, each frame is delivered once,
-- exactly at its last segment, and one after another gives the same.
use Rattle.std.specs.Prelude.{◌≡◌, true, false, cond, ◌&&◌, List, [], ◌∷◌, ◌++◌, map, ℕ, ◌+◌, ◌≤◌, ◌<◌, length, eqb}
use Rattle.reassembly.specs.Receive.{Answers, Answer, Event, receive}
use Rattle.reassembly.specs.SetUp.{Layers, Endpoint, World, strike, next, runs, handed_back, answer_of, from, answers_of}
use Rattle.reassembly.specs.Mix.{Frame, part_of, frame_of, Cut, Item, given, other, event, segments_of, Mixing, Right, InTurn}

-- two deliveries of one frame: both are answer 0 with the same verdict and length, and the same bytes; the places may differ
pub record SameFrame (W : Answers) (a b : Answer W) : Type 0 where
  pub verdict : W.Good
  pub len : ℕ
  pub place : ℕ
  pub place' : ℕ
  pub first : a.reply ≡ W.gives verdict place len
  pub second : b.reply ≡ W.gives verdict place' len
  pub bytes : a.bytes ≡ b.bytes

module _ (W : Answers) (Config : Type 0) (U : Layers W Config) where
  -- the answer to segment j of frame f, after the items `before`; how often a segment of frame f is answered 0
  unfoldable pub answer_in : World Config → List Frame → List Item → ℕ → ℕ → Answer W
  answer_in w frames before f j = answer_of W Config U (runs W Config U w (map (event frames) before)) (part_of (frame_of frames f) j).packet

  unfoldable pub delivery : List Frame → ℕ → World Config → Item → ℕ
  delivery frames f w (given g j) = cond (eqb g f && W.delivered (answer_of W Config U w (part_of (frame_of frames g) j).packet).reply) 1 0
  delivery frames f w (other e) = 0

  unfoldable pub deliveries : List Frame → ℕ → World Config → List Item → ℕ
  deliveries frames f w [] = 0
  deliveries frames f w (x ∷ xs) = delivery frames f w x + deliveries frames f (next W Config U w (event frames x)) xs

  -- frames of peer p's, each cut into segments that its sound packets carry, and good for a listed network
  abbrev pub Cuts : Config → ℕ → List Frame → Type 0
  Cuts c p frames = (f : ℕ) → f < length frames → Cut W (U.header c) (U.judge c) p (frame_of frames f)

  -- ---- THE CLAIM, of an endpoint that is a set-up, for peer p. A run starts with the endpoint and any memory of 55,296 bytes or more
  pub record Claim (e : Endpoint Config) (p : ℕ) : Type 0 where
    -- two runs from one set-up, over memories of one length and any contents, that are the same list once other senders' packets are struck out, give the
    -- peer the same answers
    pub same : (m m' : List ℕ) → 55296 ≤ length m → length m ≡ length m' → (es es' : List Event)
        → strike (from W Config U e.config p) es ≡ strike (from W Config U e.config p) es'
        → answers_of W Config U p (record { ends = e; mem = m }) es ≡ answers_of W Config U p (record { ends = e; mem = m' }) es'
    -- an answer's bytes are those that the second call hands back at any time before the next receive: any number of ticks may come between
    pub whenever : (m : List ℕ) (es : List Event) (k : List ℕ) (n : ℕ)
        → handed_back W Config U n (runs W Config U (record { ends = e; mem = m }) es) k
        ≡ (answer_of W Config U (runs W Config U (record { ends = e; mem = m }) es) k).bytes
    -- in a mixing of cuts of good frames, a segment that is not its frame's last in the run is answered 1; the last is answered 0, with the frame's verdict
    -- (tenant and binding) and inner frame
    pub delivers : (frames : List Frame) (cuts : Cuts e.config p frames) (items : List Item) → Mixing W (U.header e.config) p frames items
        → (m : List ℕ) → 55296 ≤ length m → (before after' : List Item) (f j : ℕ) (lf : f < length frames) → items ≡ before ++ (given f j ∷ after')
        → Right W p (frame_of frames f) (cuts f lf).verdict (segments_of f after') (answer_in (record { ends = e; mem = m }) frames before f j)
    -- so each frame is delivered once in the run: not twice, and not never
    pub once : (frames : List Frame) → Cuts e.config p frames → (items : List Item) → Mixing W (U.header e.config) p frames items
        → (m : List ℕ) → 55296 ≤ length m → (f : ℕ) → f < length frames → deliveries frames f (record { ends = e; mem = m }) items ≡ 1
    -- and nothing else is delivered from the memory: no other answer to the peer in a mixing names it
    pub nothing_else : (frames : List Frame) (items : List Item) → Mixing W (U.header e.config) p frames items
        → (m : List ℕ) → 55296 ≤ length m → (before after' : List Item) (k : List ℕ) → items ≡ before ++ (other (receive k) ∷ after')
        → from W Config U e.config p k ≡ true
        → (W.place (answer_of W Config U (runs W Config U (record { ends = e; mem = m }) (map (event frames) before)) k).reply).in_lent_memory ≡ false
    -- and a run of the same segment packets alone, frame by frame, delivers the same
    pub one_after_another : (frames : List Frame) → Cuts e.config p frames → (items items' : List Item)
        → Mixing W (U.header e.config) p frames items → InTurn frames items' → (m m' : List ℕ) → 55296 ≤ length m → length m ≡ length m'
        → (before after' before'' after'' : List Item) (f j k : ℕ) → f < length frames
        → items ≡ before ++ (given f j ∷ after') → segments_of f after' ≡ 0 → items' ≡ before'' ++ (given f k ∷ after'') → segments_of f after'' ≡ 0
        → SameFrame W (answer_in (record { ends = e; mem = m }) frames before f j) (answer_in (record { ends = e; mem = m' }) frames before'' f k)
