-- The accounting of every run (Account.antt), from `EveryRun` of each peer: while a frame is pending, the bits set in its map are those of the bytes that the
-- segments of its history cover. So a segment that is taken adds its bytes to them, and a complete frame has as many as its length.
use Rattle.std.specs.Prelude.{◌≡◌, refl, ◌⊎◌, ◌≢◌, Bool, true, false, ◌&&◌, ◌||◌, ℕ, ◌+◌, ◌*◌, ◌/◌, ◌≤◌, ◌<◌, length, get_or, ltb, eqb, leb}
use Rattle.std.proofs.Math.Path.{sym, ap}
use Rattle.std.proofs.Common.{subst, ◌∙◌, inl, inr, arith, ltb-true, ltb-false, leb-true, leb-false, eqb-true, lt-ltb, le-leb, ne_eqb}
use Rattle.std.proofs.Math.Bool.{cond, not}
use mathlib.Core.List.{List, [], ◌∷◌, ◌++◌}
use Rattle.std.proofs.lemmas.Bool.{eqb-false, lt-leb}
use Rattle.reassembly.specs.Base.{within}
use Rattle.reassembly.proofs.Laws.Base.{case_b, either, clash, same_test, and_l, and_r, all_below-at}
use Rattle.reassembly.proofs.Laws.Memory.{within_high, within_is}
use Rattle.reassembly.specs.Slots.{Note}
use Rattle.reassembly.specs.Take.{Seg, Fits, Rejection, rejection_code, Outcome, Rejected, Pending, Complete, slot_no, frame_in, Effect}
use Rattle.reassembly.specs.Take.{Empty, FrameLength, PastEnd, LengthDiffers, AlreadyReceived, NoSlot}
use Rattle.reassembly.proofs.Laws.TakeFacts.{length-frame}
use Rattle.reassembly.specs.Store.{bytes_of}
use Rattle.reassembly.specs.Receive.{Answers, Verdict, bad, good, Reading, other_sender, direct, segment, Event, receive, tick, Answer, frame_answer}
use Rattle.reassembly.specs.Receive.{take_answer}
use Rattle.reassembly.proofs.Laws.Answers.{bad_reply, good_reply, rejected_reply, pending_reply, complete_reply}
use Rattle.reassembly.specs.SetUp.{Layers, Kept, Endpoint, World, receives, next, runs}
use Rattle.reassembly.specs.Mix.{how_many}
use Rattle.reassembly.specs.History.{carries, no_seg, covered, frame_complete, frame_pending, OfFrame, History, taking}
use Rattle.reassembly.specs.History.{Further, Opens}
use Rattle.reassembly.specs.EveryRun.{frame_at, map_at, bit_of, Off, Touches, TakenFor, NothingMoves, EveryRun, after, history}
use Rattle.reassembly.proofs.Laws.EveryRun.{runs_snoc}
use Rattle.reassembly.proofs.Laws.SetUp.{runs_none, runs-more}
use Rattle.reassembly.proofs.Laws.RulesTake.{under_young, under_is, under_whole, nothing-pending}
use Rattle.reassembly.proofs.Laws.MadeUp.{Coverer, coverer}
use Rattle.reassembly.specs.Account.{over_slots, along, takes, completes, bytes_taken, bytes_completed, marked, bytes_pending, bytes_aged}
use Rattle.reassembly.specs.Account.{is_pending, taken_at, completed_at, aged_at, Account}
use Rattle.reassembly.proofs.Laws.Sums.{slots_ext, slots-none, slots-add, slots_one, along_snoc, from_past, count_ext, count_none, count_or, count_within}

-- ---- the bytes that segments cover

unfoldable bytes_covered : List Seg → ℕ
bytes_covered gs = how_many 1536 (covered gs)

covered_none : bytes_covered [] ≡ 0
unfolding bytes_covered
covered_none = count_none 1536 (covered []) (λ i l. refl)

covered_more : (g : Seg) (gs : List Seg) → Fits g → ((i : ℕ) → carries g i ≡ true → covered gs i ≡ false)
    → bytes_covered (g ∷ gs) ≡ length g.bytes + bytes_covered gs
unfolding bytes_covered
covered_more g gs f apart =
    count_or 1536 (carries g) (covered gs) apart
    ∙ ap (λ (x : ℕ). x + how_many 1536 (covered gs))
    (count_within 1536 g.offset (length g.bytes) ∙ omega (arith, f.most, f.inside))

-- a complete frame: its bytes and no others
covered-complete : (g : Seg) (gs : List Seg) → ((j : ℕ) → j < length (g ∷ gs) → OfFrame g.identifier g.frame_length (get_or (g ∷ gs) j no_seg))
    → frame_complete (g ∷ gs) ≡ true → bytes_covered (g ∷ gs) ≡ g.frame_length
unfolding bytes_covered frame_complete
covered-complete g gs of_frame e =
    count_ext 1536 (covered (g ∷ gs)) (within 0 g.frame_length)
    (λ i l. same_test (covered (g ∷ gs) i) (within 0 g.frame_length i)
    (λ q. let r : Coverer (g ∷ gs) i = coverer (g ∷ gs) i q in
    let o : OfFrame g.identifier g.frame_length (get_or (g ∷ gs) r.which no_seg) = of_frame r.which r.is_one in
    within_is 0 g.frame_length i (omega arith)
    (omega (
      arith,
      o.size,
      o.fits.inside,
      within_high (get_or (g ∷ gs) r.which no_seg).offset (length (get_or (g ∷ gs) r.which no_seg).bytes) i r.covering,
    )))
    (λ q. all_below-at g.frame_length (λ i. covered (g ∷ gs) i) e i (omega (arith, within_high 0 g.frame_length i q))))
    ∙ count_within 1536 0 g.frame_length ∙ omega (arith, (of_frame 0 (omega arith)).fits.most)

marked_ext : (m m' : List ℕ) (p s : ℕ) → ((i : ℕ) → i < 1536 → bit_of m' (map_at p s) i ≡ bit_of m (map_at p s) i) → marked m' p s ≡ marked m p s
unfolding marked
marked_ext m m' p s h = count_ext 1536 (λ i. bit_of m' (map_at p s) i) (λ i. bit_of m (map_at p s) i) h

marked-covered : (m : List ℕ) (p s : ℕ) (gs : List Seg) → ((i : ℕ) → i < 1536 → bit_of m (map_at p s) i ≡ covered gs i) → marked m p s ≡ bytes_covered gs
unfolding marked bytes_covered
marked-covered m p s gs h = count_ext 1536 (λ i. bit_of m (map_at p s) i) (covered gs) h

-- the account with one event more
one_more : (t c a n t₁ c₁ a₁ n₁ : ℕ) → t ≡ c + a + n → t₁ + n ≡ c₁ + a₁ + n₁ → t + t₁ ≡ (c + c₁) + (a + a₁) + n₁
one_more t c a n t₁ c₁ a₁ n₁ h k = omega arith

-- ---- the numbers

takes-rejected : (r : Rejection) → takes (rejection_code r) ≡ false
unfolding takes rejection_code
takes-rejected Empty = refl
takes-rejected FrameLength = refl
takes-rejected PastEnd = refl
takes-rejected LengthDiffers = refl
takes-rejected AlreadyReceived = refl
takes-rejected NoSlot = refl

pub completes-takes : (n : ℕ) → completes n ≡ true → takes n ≡ true
unfolding completes
completes-takes n e = and_l (takes n) (not (eqb n 1)) e

-- any other number completes
pub completes-other : (n : ℕ) → n ≢ 1 → n ≢ 2 → (n < 14) ⊎ (17 < n) → completes n ≡ true
unfolding completes takes
completes-other n a b c = rw (ne_eqb n 1 a, ne_eqb n 2 b) (either c (λ l. rw (lt-leb 14 n l) refl) (λ l. rw (lt-leb n 17 l) (not_and (leb 14 n))))
  where
    not_and : (b : Bool) → (not (b && false) && true) ≡ true
    not_and true = refl
    not_and false = refl

completes-zero : completes 0 ≡ true
unfolding completes takes
completes-zero = refl

pub pending-takes : (takes 1 ≡ true) × (completes 1 ≡ false)
unfolding completes takes
pending-takes = (refl, refl)

pub rejected_counts : (n : ℕ) → takes n ≡ false → completes n ≡ false
unfolding completes
rejected_counts n e = rw e

pub takes_none : (n : ℕ) → (n ≡ 2) ⊎ ((14 ≤ n) × (n ≤ 17)) → takes n ≡ false
unfolding takes
takes_none n (inl e) = rw e refl
takes_none n (inr l) = rw (ne_eqb n 2 (λ z. omega (arith, l.0)), le-leb 14 n l.0, le-leb n 17 l.1) refl

-- what a packet counts for
module _ (W : Answers) (n : ℕ) where
  pub counts_segment : (p : ℕ) (g : Seg) → (bytes_taken W n (segment p g) ≡ cond (takes n) (length g.bytes) 0)
      × (bytes_completed W n (segment p g) ≡ cond (completes n) g.frame_length 0)
  unfolding bytes_taken bytes_completed
  counts_segment p g = (refl, refl)

  pub counts_none : (x : Reading W) → ((p : ℕ) (g : Seg) → x ≡ segment p g → ⊥) → (bytes_taken W n x ≡ 0) × (bytes_completed W n x ≡ 0)
  unfolding bytes_taken bytes_completed
  counts_none (other_sender a) h = (refl, refl)
  counts_none (direct p a) h = (refl, refl)
  counts_none (segment p g) h = absurd (h p g refl)

-- the bytes marked, slot by slot
pub pending-none : (f : ℕ → ℕ → Bool) (m : List ℕ) → ((p s : ℕ) → p < 8 → s < 4 → f p s ≡ false) → bytes_pending f m ≡ 0
unfolding bytes_pending
pending-none f m h = slots-none (λ p s. cond (f p s) (marked m p s) 0) (λ p s lp ls. rw (h p s lp ls) refl)

marked_is : (m : List ℕ) (p s : ℕ) → marked m p s ≡ how_many 1536 (λ i. bit_of m (map_at p s) i)
unfolding marked
marked_is m p s = refl

marks_more : (f g : ℕ → ℕ → Bool) (m : List ℕ) (p s : ℕ) → p < 8 → s < 4 → f p s ≡ false → g p s ≡ true
    → ((q t : ℕ) → (q ≢ p) ⊎ (t ≢ s) → f q t ≡ g q t) → bytes_pending g m ≡ bytes_pending f m + marked m p s
unfolding bytes_pending
marks_more f g m p s lp ls u v same =
    let F : ℕ → ℕ → ℕ = λ q t. cond (f q t) (marked m q t) 0 in
    let G : ℕ → ℕ → ℕ = λ q t. cond (g q t) (marked m q t) 0 in
    omega (
      arith,
      slots_one F G p s 0 (marked m p s) lp ls (λ q t lq lt d. ap (λ (b : Bool). cond b (marked m q t) 0) (same q t d)) (rw (u, v) (omega arith)),
    )

pub pending-more : (f g : ℕ → ℕ → Bool) (m : List ℕ) (p s : ℕ) → p < 8 → s < 4 → f p s ≡ false → g p s ≡ true
    → ((q t : ℕ) → (q ≢ p) ⊎ (t ≢ s) → f q t ≡ g q t) → bytes_pending g m ≡ bytes_pending f m + how_many 1536 (λ i. bit_of m (map_at p s) i)
pending-more f g m p s lp ls u v same = marks_more f g m p s lp ls u v same ∙ ap (λ (x : ℕ). bytes_pending f m + x) (marked_is m p s)

pub aged_is : (before after : ℕ → ℕ → Bool) (m : List ℕ) → bytes_aged before after m ≡ bytes_pending (λ p s. before p s && not (after p s)) m
unfolding bytes_aged bytes_pending
aged_is before after m = refl

-- a numbering of the answers that tells them apart: 14 to 17 for a rejection, 1, 0 for a delivery; and a number of neither kind for a complete frame that is
-- found bad
pub record Numbered (W : Answers) (Config : Type 0) (U : Layers W Config) (number : W.A → ℕ) (c : Config) : Type 0 where
  pub rejected : (r : Rejection) → number (W.rejected r) ≡ rejection_code r
  pub pending : number W.pending ≡ 1
  pub delivered : (v : W.Good) (start len : ℕ) → number (W.gives v start len) ≡ 0
  pub found_bad : (p : ℕ) (note : Note) (frame : List ℕ) (b : W.Bad) → 32 ≤ length frame → U.judge c p note frame ≡ bad b
      → completes (number (W.refused b)) ≡ true

-- a frame pending is one tick younger before the tick
younger : (gs : List Seg) (t : ℕ) → frame_pending gs (t + 1) ≡ true → frame_pending gs t ≡ true
unfolding frame_pending
younger gs t e =
    let l : t + 1 < 4 = under_young gs (t + 1) e in
    rw (lt-ltb t 4 (omega arith)) (and_r (ltb (t + 1) 4) (not (frame_complete gs)) e)

-- where another slot's map lies: neither in this slot's frame nor in its map
apart_maps : (p t q s i : ℕ) (g : Seg) → t < 4 → s < 4 → Fits g → (p ≢ q) ⊎ (t ≢ s) → i < 1536
    → Off (map_at p t + i / 8) (frame_at q s + g.offset) (length g.bytes) × Off (map_at p t + i / 8) (map_at q s) 192
unfolding map_at frame_at
apart_maps p t q s i g lt ls f d l =
    case_b (ltb (4 * p + t) (4 * q + s))
    (λ e. (inl (omega (arith, ltb-true (4 * p + t) (4 * q + s) e)), inl (omega (arith, ltb-true (4 * p + t) (4 * q + s) e))))
    (λ e. case_b (ltb (4 * q + s) (4 * p + t))
    (λ h. (
      inr (omega (arith, f.most, f.inside, ltb-true (4 * q + s) (4 * p + t) h)),
      inr (omega (arith, ltb-true (4 * q + s) (4 * p + t) h)),
    ))
    (λ h. let z : 4 * p + t ≡ 4 * q + s = omega (arith, ltb-false (4 * p + t) (4 * q + s) e, ltb-false (4 * q + s) (4 * p + t) h) in
    either d (λ n. absurd (n (omega arith))) (λ n. absurd (n (omega arith)))))

-- a bit is as its byte is
bit_same : (m m' : List ℕ) (b i : ℕ) → get_or m' (b + i / 8) 0 ≡ get_or m (b + i / 8) 0 → bit_of m' b i ≡ bit_of m b i
unfolding bit_of
bit_same m m' b i e = rw e

touches_other : (p t q s i : ℕ) (new : Bool) (g : Seg) (m m' : List ℕ) → Touches q s new g m m' → t < 4 → s < 4 → Fits g → (p ≢ q) ⊎ (t ≢ s) → i < 1536
    → bit_of m' (map_at p t) i ≡ bit_of m (map_at p t) i
touches_other p t q s i new g m m' h lt ls f d l =
    let o = apart_maps p t q s i g lt ls f d l in
    bit_same m m' (map_at p t) i (h.others (map_at p t + i / 8) o.0 o.1)

-- a segment passes 14 or does not
fits_or_not : (g : Seg) → Fits g ⊎ (Fits g → ⊥)
fits_or_not g =
    case_b (ltb 0 (length g.bytes))
    (λ a. case_b (leb 32 g.frame_length)
    (λ b. case_b (leb g.frame_length 1532)
    (λ c. case_b (leb (g.offset + length g.bytes) g.frame_length)
    (λ d. inl (record {
      some_byte = ltb-true 0 (length g.bytes) a;
      least = leb-true 32 g.frame_length b;
      most = leb-true g.frame_length 1532 c;
      inside = leb-true (g.offset + length g.bytes) g.frame_length d;
    }))
    (λ d. inr (λ f. omega (arith, leb-false (g.offset + length g.bytes) g.frame_length d, f.inside))))
    (λ c. inr (λ f. omega (arith, leb-false g.frame_length 1532 c, f.most))))
    (λ b. inr (λ f. omega (arith, leb-false 32 g.frame_length b, f.least))))
    (λ a. inr (λ f. omega (arith, ltb-false 0 (length g.bytes) a, f.some_byte)))

-- ---- a run

module _ (W : Answers) (Config : Type 0) (U : Layers W Config) (number : W.A → ℕ) (e : Endpoint Config) (rules : (p : ℕ) → p < 8 → EveryRun W Config U p e)
    (kept : (k : List ℕ) → Kept W (U.header e.config k)) (numbered : Numbered W Config U number e.config) (m : List ℕ) (enough : 55296 ≤ length m) where
  abbrev at : List Event → World Config
  at es = after W Config U 0 e m es

  abbrev histories : ℕ → List Event → History
  histories p es = history W Config U p e m es

  abbrev slot_bytes : World Config → ℕ → ℕ → ℕ
  slot_bytes w p s = cond (is_pending w p s) (marked w.mem p s) 0

  abbrev number_of : List Event → List ℕ → ℕ
  number_of es k = number (receives W Config U (at es) k).reply

  -- the bits set in the map of a pending frame are those of the bytes covered
  abbrev Marks : List Event → Type 0
  Marks es = (p s : ℕ) → p < 8 → s < 4 → is_pending (at es) p s ≡ true → (i : ℕ) → i < 1536
      → bit_of (at es).mem (map_at p s) i ≡ covered ((histories p es).taken s) i

  pending_is : (es : List Event) (p s : ℕ) → p < 8 → s < 4 → is_pending (at es) p s ≡ frame_pending ((histories p es).taken s) ((histories p es).ticks s)
  pending_is es p s lp ls = ((rules p lp).stands m enough es s ls).pending

  -- one slot's history and bits are as they were
  record Same (es es' : List Event) (p s : ℕ) : Type 0 where
    taken : (histories p es').taken s ≡ (histories p es).taken s
    ticks : (histories p es').ticks s ≡ (histories p es).ticks s
    bits : (i : ℕ) → i < 1536 → bit_of (at es').mem (map_at p s) i ≡ bit_of (at es).mem (map_at p s) i

  same-pending : (es es' : List Event) (p s : ℕ) → p < 8 → s < 4 → Same es es' p s → is_pending (at es') p s ≡ is_pending (at es) p s
  same-pending es es' p s lp ls h =
      pending_is es' p s lp ls
      ∙ ap (λ (x : List Seg). frame_pending x ((histories p es').ticks s)) h.taken
      ∙ ap (λ (x : ℕ). frame_pending ((histories p es).taken s) x) h.ticks
      ∙ sym (pending_is es p s lp ls)

  same_marks : (es es' : List Event) (p s : ℕ) → p < 8 → s < 4 → Same es es' p s → Marks es → is_pending (at es') p s ≡ true
      → (i : ℕ) → i < 1536 → bit_of (at es').mem (map_at p s) i ≡ covered ((histories p es').taken s) i
  same_marks es es' p s lp ls h k q i l =
      h.bits i l ∙ k p s lp ls (sym (same-pending es es' p s lp ls h) ∙ q) i l ∙ ap (λ (x : List Seg). covered x i) (sym h.taken)

  same_bytes : (es es' : List Event) (p s : ℕ) → p < 8 → s < 4 → Same es es' p s → slot_bytes (at es') p s ≡ slot_bytes (at es) p s
  same_bytes es es' p s lp ls h =
      ap (λ (x : Bool). cond x (marked (at es').mem p s) 0) (same-pending es es' p s lp ls h)
      ∙ ap (λ (x : ℕ). cond (is_pending (at es) p s) x 0) (marked_ext (at es).mem (at es').mem p s h.bits)

  -- one event: the bits are still those of the bytes covered, and what came in is what went out and what is marked now
  record Balances (es : List Event) (v : Event) (came went : ℕ) : Type 0 where
    marks : Marks (es ++ (v ∷ []))
    balance : came + over_slots (slot_bytes (at es)) ≡ went + over_slots (slot_bytes (at (es ++ (v ∷ []))))

  -- nothing moves
  all_same : (es : List Event) (v : Event) → Marks es → ((p s : ℕ) → p < 8 → s < 4 → Same es (es ++ (v ∷ [])) p s) → Balances es v 0 0
  all_same es v k h = record {
    marks = λ p s lp ls. same_marks es (es ++ (v ∷ [])) p s lp ls (h p s lp ls) k;
    balance = ap (λ (x : ℕ). 0 + x)
        (sym (slots_ext (slot_bytes (at (es ++ (v ∷ [])))) (slot_bytes (at es)) (λ p s lp ls. same_bytes es (es ++ (v ∷ [])) p s lp ls (h p s lp ls))));
  }

  -- ---- a receive

  module _ (es : List Event) (k : List ℕ) where
    abbrev es' : List Event
    es' = es ++ (receive k ∷ [])

    -- neither a segment of peer q's that is rejected nor a packet without one moves anything
    unmoved : (q : ℕ) → ((p : ℕ) → p < 8 → p ≢ q → histories p es' ≡ histories p es)
        → NothingMoves (histories q es) (histories q es') (at es).mem (at es').mem → (p s : ℕ) → p < 8 → s < 4 → Same es es' p s
    unmoved q others h p s lp ls =
        let bits : (i : ℕ) → i < 1536 → bit_of (at es').mem (map_at p s) i ≡ bit_of (at es).mem (map_at p s) i =
        λ i l. ap (λ (x : List ℕ). bit_of x (map_at p s) i) h.memory in
        case_b (eqb p q)
        (λ c. let z : p ≡ q = eqb-true p q c in rw z (record { taken = h.taken s; ticks = h.ticks s; bits = rw z at bits }))
        (λ c. let z : histories p es' ≡ histories p es = others p lp (eqb-false p q c) in
        record { taken = ap (λ (x : History). x.taken s) z; ticks = ap (λ (x : History). x.ticks s) z; bits = bits })

    module _ (q : ℕ) (lq : q < 8) (g : Seg) (sound : U.header e.config k ≡ segment q g) where
      abbrev outcome : Outcome
      outcome = (taking W Config U q (at es) g).outcome

      abbrev n : ℕ
      n = number_of es k

      others : (p : ℕ) → p < 8 → p ≢ q → histories p es' ≡ histories p es
      others p lp d = (rules p lp).another's m enough es k q g sound (λ z. d (sym z))

      answer_is : (o : Outcome) → outcome ≡ o
          → n ≡ number (take_answer W (U.judge e.config) bytes_of q g (taking W Config U q (at es) g) o).reply
      answer_is o h =
          ap number ((rules q lq).answered m enough es k g sound)
          ∙ ap (λ (x : Outcome). number (take_answer W (U.judge e.config) bytes_of q g (taking W Config U q (at es) g) x).reply) h

      pub pending-number : outcome ≡ Pending → n ≡ 1
      pending-number o =
          answer_is Pending o ∙ ap number (pending_reply W (U.judge e.config) bytes_of q g (taking W Config U q (at es) g)) ∙ numbered.pending

      verdict-number : (x : Verdict W) (note : Note) (frame : List ℕ) (i size : ℕ) → 32 ≤ length frame → U.judge e.config q note frame ≡ x
          → completes (number (frame_answer W x i size frame).reply) ≡ true
      verdict-number (bad b) note frame i size l h =
          ap (λ (y : W.A). completes (number y)) (bad_reply W b i size frame) ∙ numbered.found_bad q note frame b l h
      verdict-number (good v) note frame i size l h =
          ap (λ (y : W.A). completes (number y)) (good_reply W v i size frame) ∙ ap completes (numbered.delivered v _ _) ∙ completes-zero

      pub complete-number : (s : ℕ) → Fits g → outcome ≡ Complete s → completes n ≡ true
      complete-number s f o =
          let x : Effect bytes_of = taking W Config U q (at es) g in
          let frame : List ℕ = frame_in bytes_of x.mem (slot_no q s) g.frame_length in
          ap completes (answer_is (Complete s) o ∙ ap (λ (y : Answer W). number y.reply) (complete_reply W (U.judge e.config) bytes_of q g x s))
          ∙ verdict-number (U.judge e.config q x.note frame) x.note frame (slot_no q s) g.frame_length
          (omega (arith, length-frame bytes_of x.mem (slot_no q s) g.frame_length, f.least)) refl

      module _ (marks : Marks es) where
        abbrev Balanced : Type 0
        Balanced = Balances es (receive k) (cond (takes n) (length g.bytes) 0) (cond (completes n) g.frame_length 0)

        -- rejected
        rejected : (r : Rejection) → outcome ≡ Rejected r → NothingMoves (histories q es) (histories q es') (at es).mem (at es').mem → Balanced
        rejected r o h =
            let a : n ≡ rejection_code r =
            answer_is (Rejected r) o ∙ ap number (rejected_reply W (U.judge e.config) bytes_of q g (taking W Config U q (at es) g) r)
            ∙ numbered.rejected r in
            let t : takes n ≡ false = ap takes a ∙ takes-rejected r in
            rw (t, rejected_counts n t) (all_same es (receive k) marks (unmoved q others h))

        -- taken for slot s, whose frame has the segments gs
        module _ (s : ℕ) (ls : s < 4) (f : Fits g) (new : Bool) (gs : List Seg) (ticks : ℕ)
            (t : TakenFor q s new g (g ∷ gs) ticks (histories q es) (histories q es') outcome (at es).mem (at es').mem)
            (young : ticks < 4) (apart : (i : ℕ) → carries g i ≡ true → covered gs i ≡ false) (before : slot_bytes (at es) q s ≡ bytes_covered gs)
            (bits : (i : ℕ) → i < 1536 → bit_of (at es').mem (map_at q s) i ≡ covered (g ∷ gs) i) where
          elsewhere : (p u : ℕ) → p < 8 → u < 4 → (p ≢ q) ⊎ (u ≢ s) → Same es es' p u
          elsewhere p u lp lu d =
              let marked-same : (i : ℕ) → i < 1536 → bit_of (at es').mem (map_at p u) i ≡ bit_of (at es).mem (map_at p u) i =
              λ i l. touches_other p u q s i new g (at es).mem (at es').mem t.touches lu ls f d l in
              case_b (eqb p q)
              (λ c. let z : p ≡ q = eqb-true p q c in
              let o = t.others u (either d (λ x. absurd (x z)) (λ x. x)) in
              rw z (record { taken = o.0; ticks = o.1; bits = rw z at marked-same }))
              (λ c. let z : histories p es' ≡ histories p es = others p lp (eqb-false p q c) in
              record { taken = ap (λ (x : History). x.taken u) z; ticks = ap (λ (x : History). x.ticks u) z; bits = marked-same })

          now-pending : is_pending (at es') q s ≡ frame_pending (g ∷ gs) ticks
          now-pending =
              pending_is es' q s lq ls
              ∙ ap (λ (x : List Seg). frame_pending x ((histories q es').ticks s)) t.segments
              ∙ ap (λ (x : ℕ). frame_pending (g ∷ gs) x) t.clock

          now-marked : marked (at es').mem q s ≡ length g.bytes + bytes_covered gs
          now-marked = marked-covered (at es').mem q s (g ∷ gs) bits ∙ covered_more g gs f apart

          -- the slot: what the segment brought is marked in it, or its frame is complete
          here : cond (takes n) (length g.bytes) 0 + slot_bytes (at es) q s ≡ cond (completes n) g.frame_length 0 + slot_bytes (at es') q s
          here =
              case_b (frame_complete (g ∷ gs))
              (λ c. let o : outcome ≡ Complete s = t.outcome ∙ rw c in
              let w : completes n ≡ true = complete-number s f o in
              let z : is_pending (at es') q s ≡ false = now-pending ∙ under_whole (g ∷ gs) ticks c in
              rw (w, completes-takes n w, z) (omega (arith, before, covered_more g gs f apart, covered-complete g gs t.of_frame c)))
              (λ c. let o : outcome ≡ Pending = t.outcome ∙ rw c in
              let w : n ≡ 1 = pending-number o in
              let z : is_pending (at es') q s ≡ true = now-pending ∙ under_is (g ∷ gs) ticks young c in
              rw (ap takes w ∙ pending-takes.0, ap completes w ∙ pending-takes.1, z) (omega (arith, before, now-marked)))

          taken : Balanced
          taken = record {
            marks = λ p u lp lu.
                case_b (eqb p q)
                (λ c. case_b (eqb u s)
                (λ d. rw (eqb-true p q c, eqb-true u s d) (λ z i l. bits i l ∙ ap (λ (x : List Seg). covered x i) (sym t.segments)))
                (λ d. same_marks es es' p u lp lu (elsewhere p u lp lu (inr (eqb-false u s d))) marks))
                (λ c. same_marks es es' p u lp lu (elsewhere p u lp lu (inl (eqb-false p q c))) marks);
            balance =
                slots_one (slot_bytes (at es')) (slot_bytes (at es)) q s (cond (takes n) (length g.bytes) 0) (cond (completes n) g.frame_length 0) lq ls
                (λ p u lp lu d. same_bytes es es' p u lp lu (elsewhere p u lp lu d)) here;
          }

        -- each case of the rules
        further : (f : Fits g) (s : ℕ) → Further (histories q es) g s → Balanced
        further f s w =
            let ls : s < 4 = w.bears.is_slot in
            let t = ((rules q lq).ruled m enough es k g sound f).further s w in
            let z : is_pending (at es) q s ≡ true = pending_is es q s lq ls ∙ w.bears.pending in
            taken s ls f false ((histories q es).taken s) ((histories q es).ticks s) t
            (under_young ((histories q es).taken s) ((histories q es).ticks s) w.bears.pending) w.apart
            (rw z (marked-covered (at es).mem q s ((histories q es).taken s) (marks q s lq ls z)))
            (λ i l. t.touches.bits i l ∙ ap (λ (b : Bool). carries g i || b) (marks q s lq ls z i l))

        opens : (f : Fits g) (s : ℕ) → Opens (histories q es) g s → Balanced
        opens f s w =
            let ls : s < 4 = w.lowest.is_slot in
            let t = ((rules q lq).ruled m enough es k g sound f).opens s w in
            let z : is_pending (at es) q s ≡ false = pending_is es q s lq ls ∙ w.lowest.idle in
            taken s ls f true [] 0 t (omega arith) (λ i c. refl) (rw z (sym covered_none)) t.touches.bits

        segment-kept : Balanced
        segment-kept =
            either (fits_or_not g)
            (λ f. let r = (rules q lq).ruled m enough es k g sound f in
            either r.one_of (λ w. refused f LengthDiffers (r.fifteen.all w))
            (λ y. either y (λ w. refused f AlreadyReceived (r.sixteen.all w))
            (λ y. either y (λ w. refused f NoSlot (r.seventeen.all w))
            (λ y. either y (λ w. further f w.0 w.1) (λ w. opens f w.0 w.1)))))
            (λ f. let r = (rules q lq).fourteen m enough es k g sound f in rejected r.cause r.rejected r.unchanged)
          where
            refused : (f : Fits g) (r : Rejection) → outcome ≡ Rejected r → Balanced
            refused f r o = rejected r o (((rules q lq).ruled m enough es k g sound f).rejected r o)

    module _ (marks : Marks es) where
      -- what the layers make of the packet
      no_segment : ((q : ℕ) (g : Seg) → U.header e.config k ≡ segment q g → ⊥) → Balances es (receive k) 0 0
      no_segment none =
          all_same es (receive k) marks
          (λ p s lp ls. let h = (rules p lp).no_segment m enough es k none in
          record { taken = h.taken s; ticks = h.ticks s; bits = λ i l. ap (λ (x : List ℕ). bit_of x (map_at p s) i) h.memory })

      reading_kept : (x : Reading W) → U.header e.config k ≡ x → Kept W x
          → Balances es (receive k) (bytes_taken W (number_of es k) x) (bytes_completed W (number_of es k) x)
      unfolding bytes_taken bytes_completed
      reading_kept (other_sender a) h l = no_segment (λ q g c. clash (cc (sym h ∙ c)))
      reading_kept (direct q a) h l = no_segment (λ p g c. clash (cc (sym h ∙ c)))
      reading_kept (segment q g) h l = segment-kept q l g h marks

  -- ---- a tick

  module _ (es : List Event) (marks : Marks es) where
    abbrev later : List Event
    later = es ++ (tick ∷ [])

    memory_left : (at later).mem ≡ (at es).mem
    memory_left = ((rules 0 (omega arith)).ticked m enough es).1

    segments-left : (p s : ℕ) → p < 8 → (histories p later).taken s ≡ (histories p es).taken s
    segments-left p s lp = ap (λ (x : History). x.taken s) ((rules p lp).ticked m enough es).0

    -- a frame pending after the tick was pending before it
    was : (p s : ℕ) → p < 8 → s < 4 → is_pending (at later) p s ≡ true → is_pending (at es) p s ≡ true
    was p s lp ls z =
        pending_is es p s lp ls
        ∙ younger ((histories p es).taken s) ((histories p es).ticks s)
        (sym (ap (λ (x : History). frame_pending (x.taken s) (x.ticks s)) ((rules p lp).ticked m enough es).0) ∙ sym (pending_is later p s lp ls) ∙ z)

    one_tick : (p s : ℕ) → p < 8 → s < 4
        → cond (is_pending (at es) p s && not (is_pending (at later) p s)) (marked (at es).mem p s) 0 + slot_bytes (at later) p s ≡ slot_bytes (at es) p s
    one_tick p s lp ls =
        case_b (is_pending (at later) p s)
        (λ z. rw (z, was p s lp ls z, memory_left) (omega arith))
        (λ z. case_b (is_pending (at es) p s) (λ y. rw (z, y) (omega arith)) (λ y. rw (z, y) refl))

    tick-kept : Balances es tick 0 (bytes_aged (is_pending (at es)) (is_pending (at later)) (at es).mem)
    unfolding bytes_aged
    tick-kept =
        record {
          marks = λ p s lp ls z i l.
              ap (λ (x : List ℕ). bit_of x (map_at p s) i) memory_left ∙ marks p s lp ls (was p s lp ls z) i l
              ∙ ap (λ (x : List Seg). covered x i) (sym (segments-left p s lp));
          balance =
              ap (λ (x : ℕ). 0 + x) (sym (slots-add (λ p s. cond (is_pending (at es) p s && not (is_pending (at later) p s)) (marked (at es).mem p s) 0)
              (slot_bytes (at later)) (slot_bytes (at es)) one_tick))
              ∙ omega arith;
        }

  -- ---- a run

  abbrev taken_here : World Config → Event → ℕ
  taken_here = taken_at W Config U number e.config

  abbrev completed-at : World Config → Event → ℕ
  completed-at = completed_at W Config U number e.config

  abbrev aged-at : World Config → Event → ℕ
  aged-at = aged_at W Config U number e.config

  event-kept : (es : List Event) (v : Event) → Marks es → Balances es v (taken_here (at es) v) (completed-at (at es) v + aged-at (at es) v)
  event-kept es tick k =
      subst (λ (w : World Config). Balances es tick 0 (0 + bytes_aged (is_pending (at es)) (is_pending w) (at es).mem))
      (runs_snoc W Config U es (record { ends = e; mem = m }) tick)
      (subst (λ (x : ℕ). Balances es tick 0 x) (omega arith) (tick-kept es k))
  event-kept es (receive k) marks =
      subst (λ (x : ℕ). Balances es (receive k) (taken_here (at es) (receive k)) x) (omega arith)
      (reading_kept es k marks (U.header e.config k) refl (kept k))

  record Accounted (es : List Event) : Type 0 where
    marks : Marks es
    account : Account W Config U number e.config (record { ends = e; mem = m }) es

  -- at first nothing is pending
  none_pending : (p s : ℕ) → p < 8 → s < 4 → is_pending (at []) p s ≡ false
  none_pending p s lp ls =
      pending_is [] p s lp ls
      ∙ ap (λ (x : List Seg). frame_pending x ((histories p []).ticks s)) ((rules p lp).begins m s) ∙ nothing-pending ((histories p []).ticks s)

  begun : Accounted []
  unfolding along bytes_pending
  begun = record {
    marks = λ p s lp ls z. clash (cc (none_pending p s lp ls));
    account = sym (slots-none (slot_bytes (at [])) (λ p s lp ls. rw (none_pending p s lp ls) refl)) ∙ omega arith;
  }

  summed : (f : World Config → Event → ℕ) (es : List Event) (v : Event)
      → along (next W Config U) f (record { ends = e; mem = m }) (es ++ (v ∷ [])) ≡ along (next W Config U) f (record { ends = e; mem = m }) es + f (at es) v
  summed f es v =
      along_snoc (next W Config U) (runs W Config U) f (runs_none W Config U) (runs-more W Config U) es (record { ends = e; mem = m }) v

  goes_on_lem : (es : List Event) (v : Event) → Accounted es → Accounted (es ++ (v ∷ []))
  unfolding bytes_pending
  goes_on_lem es v h =
      let w : World Config = record { ends = e; mem = m } in
      let x = event-kept es v h.marks in
      record {
        marks = x.marks;
        account =
            rw (summed taken_here es v, summed completed-at es v, summed aged-at es v)
            (one_more (along (next W Config U) taken_here w es) (along (next W Config U) completed-at w es) (along (next W Config U) aged-at w es)
            (over_slots (slot_bytes (at es))) (taken_here (at es) v) (completed-at (at es) v) (aged-at (at es) v) (over_slots (slot_bytes (at (es ++ (v ∷ [])))))
            h.account x.balance);
      }

  -- ---- THE THEOREM, of every run from an endpoint for each of whose peers `EveryRun` holds
  pub accounting : (es : List Event) → Account W Config U number e.config (record { ends = e; mem = m }) es
  accounting es = (from_past Accounted goes_on_lem es [] begun).account
