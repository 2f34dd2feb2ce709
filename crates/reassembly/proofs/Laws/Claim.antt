-- The claim, proved of every set-up whose layers keep their promise. A run never changes the configuration, so the layers that read it are one function
-- throughout.
use Rattle.std.specs.Prelude.{◌≡◌, Bool, true, false, ◌&&◌, get_or, replicate, ltb, eqb}
use Rattle.std.proofs.Math.Path.{refl, sym, ap}
use Rattle.std.proofs.Common.{subst, ◌∙◌, arith, zero-add}
use Rattle.std.proofs.Math.Bool.{cond}
use mathlib.Core.List.{List, [], ◌∷◌, ◌++◌, map, append_assoc}
use Prim.Native.Nat.{ℕ, zero, suc, ◌+◌, ◌-◌, ◌≤◌, ◌<◌}
use Rattle.std.proofs.Math.ListN.{length}
use borrow.Author.Tests.{ltb-true, ltb-false, lt-ltb, le-ltb, eqb-true}
use Rattle.reassembly.proofs.Laws.Base.{case_b}
use Rattle.reassembly.specs.Slots.{Peer, Note, no_row, empty_rows, most_peers}
use Rattle.reassembly.specs.Take.{slot_no, Seg}
use Rattle.reassembly.specs.Store.{slot_start, bytes_of}
use Rattle.reassembly.proofs.Laws.Store.{take_in_lem, bytes_laws}
use Rattle.reassembly.specs.Receive.{Place, view_of, Answers, Answer, Verdict, Reading, other_sender, direct, segment, Event, receive, tick, part_of_slice}
use Rattle.reassembly.proofs.Laws.Runs.{fill, State, react, after, run, mine, Listed, own, strike_ext, answers, answer1, Sim, event_sim, run_sim}
use Rattle.reassembly.specs.SetUp.{Layers, is_peer, peer_of, Kept, Promised, Endpoint, World, added, set_up, Replied, receive_by, receives, next, runs}
use Rattle.reassembly.specs.SetUp.{handed_back}
use Rattle.reassembly.specs.SetUp.{answer_of, from, answers_at, answers_of}
use Rattle.reassembly.proofs.Laws.NonInterference.{start, ghost_start, start_sim, non_interference}
use Rattle.reassembly.proofs.Laws.Ghost.{ghost, ghost_laws}
use Rattle.reassembly.specs.Mix.{Frame, Part, part_of, joined, states, frame_of, Cut, Item, given, other, event, times, segments_of, IsNoSegment, Free}
use Rattle.reassembly.specs.Mix.{AllFree, Mixing, Right}
use Rattle.reassembly.proofs.Laws.MixFacts.{times-le}
use Rattle.reassembly.proofs.Laws.Mixed.{mixed, part_real}
use Rattle.reassembly.proofs.Laws.InTurn.{in_turn_lem}
use Rattle.reassembly.proofs.Laws.HandBack.{take_back, backs_fill}
use Rattle.reassembly.specs.Claim.{answer_in, delivery, deliveries, Cuts, Claim}

-- one more item, counted: none of the frame's segments; or one, answered 0 if no other comes after it
sum-other : (d s : ℕ) → d ≡ cond (ltb 0 s) 1 0 → 0 + d ≡ cond (ltb 0 (0 + s)) 1 0
sum-other d s h = simp zero-add h

sum-given : (b t : Bool) (d s : ℕ) → d ≡ cond (ltb 0 s) 1 0 → (b ≡ true → 0 < s → t ≡ false) → (b ≡ true → s ≡ 0 → t ≡ true)
    → cond (b && t) 1 0 + d ≡ cond (ltb 0 (cond b 1 0 + s)) 1 0
sum-given false t d s h u v = sum-other d s h
sum-given true t d s h u v =
    let z : ltb 0 (1 + s) ≡ true = lt-ltb 0 (1 + s) (omega arith) in
    case_b (ltb 0 s)
    (λ e. rw (u refl (ltb-true 0 s e), z) (omega (arith, rw e at h)))
    (λ e. rw (v refl (omega (arith, ltb-false 0 s e)), z) (omega (arith, rw e at h)))

pub set_up-rows : (Config Adding : Type 0) (adds : Config → Adding → Config) (as' : List Adding) (e : Endpoint Config)
    → (added Config Adding adds e as').peers ≡ e.peers
set_up-rows Config Adding adds [] e = refl
set_up-rows Config Adding adds (a ∷ as') e = set_up-rows Config Adding adds as' (record { config = adds e.config a; peers = e.peers })

pub kept-listed : (W : Answers) (x : Reading W) → Kept W x → Listed W x
kept-listed W (other_sender a) h = tt
kept-listed W (direct q a) h = h.0
kept-listed W (segment q g) h = h

mine-peer : (W : Answers) (p : ℕ) (x : Reading W) → mine W p x ≡ is_peer p (peer_of W x)
unfolding is_peer peer_of
mine-peer W p (other_sender a) = refl
mine-peer W p (direct q a) = refl
mine-peer W p (segment q g) = refl

module _ (W : Answers) (Config : Type 0) (U : Layers W Config) where
  -- ---- a tick touches no memory
  still : (n : ℕ) (w : World Config) → (runs W Config U w (replicate n tick)).mem ≡ w.mem
  unfolding runs next
  still zero w = refl
  still (suc n) w = still n (next W Config U w tick)

  -- ---- from the answers at each segment to the count
  runs_snoc : (frames : List Frame) (before : List Item) (x : Item) (w : World Config)
      → runs W Config U w (map (event frames) (before ++ (x ∷ []))) ≡ next W Config U (runs W Config U w (map (event frames) before)) (event frames x)
  unfolding next runs
  runs_snoc frames [] x w = refl
  runs_snoc frames (y ∷ ys) x w = runs_snoc frames ys x (next W Config U w (event frames y))

  -- what `delivers` says of one frame in one run
  abbrev Counted : List Frame → List Item → World Config → ℕ → Type 0
  Counted frames items w f = (before after' : List Item) (j : ℕ) → items ≡ before ++ (given f j ∷ after')
      → (0 < segments_of f after' → W.delivered (answer_in W Config U w frames before f j).reply ≡ false)
      × (segments_of f after' ≡ 0 → W.delivered (answer_in W Config U w frames before f j).reply ≡ true)

  counts : (frames : List Frame) (items : List Item) (w : World Config) (f : ℕ) → Counted frames items w f → (rest before : List Item) → items ≡ before ++ rest
      → deliveries W Config U frames f (runs W Config U w (map (event frames) before)) rest ≡ cond (ltb 0 (segments_of f rest)) 1 0
  unfolding deliveries delivery answer_in answer_of event
  counts frames items w f c [] before is = refl
  counts frames items w f c (x ∷ rest) before is =
      let ih : deliveries W Config U frames f (next W Config U (runs W Config U w (map (event frames) before)) (event frames x)) rest
      ≡ cond (ltb 0 (segments_of f rest)) 1 0 =
      rw (runs_snoc frames before x w) at (counts frames items w f c rest (before ++ (x ∷ [])) (is ∙ sym (append_assoc before (x ∷ []) rest))) in
      item x is ih
    where
      item : (x : Item) → items ≡ before ++ (x ∷ rest)
          → deliveries W Config U frames f (next W Config U (runs W Config U w (map (event frames) before)) (event frames x)) rest
          ≡ cond (ltb 0 (segments_of f rest)) 1 0
          → delivery W Config U frames f (runs W Config U w (map (event frames) before)) x + deliveries W Config U frames f
          (next W Config U (runs W Config U w (map (event frames) before)) (event frames x)) rest
          ≡ cond (ltb 0 (segments_of f (x ∷ rest))) 1 0
      item (other e) is' ih = sum-other (deliveries W Config U frames f (next W Config U (runs W Config U w (map (event frames) before)) e) rest)
          (segments_of f rest) ih
      item (given g j) is' ih =
          sum-given (eqb g f) (W.delivered (answer_in W Config U w frames before g j).reply)
          (deliveries W Config U frames f (next W Config U (runs W Config U w (map (event frames) before)) (receive (part_of (frame_of frames g) j).packet))
          rest) (segments_of f rest) ih
          (λ e l. let q : g ≡ f = eqb-true g f e in rw q ((c before rest j (rw q at is')).0 l))
          (λ e l. let q : g ≡ f = eqb-true g f e in rw q ((c before rest j (rw q at is')).1 l))

  -- ---- the same run, with the configuration fixed
  module _ (c : Config) (promise : Promised W Config U c) (p : ℕ) (p< : p < most_peers) where
    abbrev header : List ℕ → Reading W
    header k = U.header c k

    abbrev judge : ℕ → Note → List ℕ → Verdict W
    judge q t f = U.judge c q t f

    abbrev pub at : State bytes_of → World Config
    at s = record { ends = record { config = c; peers = s.peers }; mem = s.mem }

    listed : (k : List ℕ) → Listed W (header k)
    listed k = kept-listed W (header k) (promise.kept k)

    from-own : (k : List ℕ) → from W Config U c p k ≡ own W header p k
    unfolding from is_peer
    from-own k = ap (is_peer p) (sym (promise.whose k)) ∙ sym (mine-peer W p (header k))

    -- a state that a run comes to
    abbrev pub Good : State bytes_of → State ghost → Type 0
    Good s g = Sim bytes_of ghost p s g

    reading_at : (s : State bytes_of) (g : State ghost) (x : Reading W) → Kept W x → Good s g
        → ((receive_by W Config U (at s) x).reply ≡ (react W judge bytes_of s x).answer.reply)
        × ((receive_by W Config U (at s) x).world ≡ at (react W judge bytes_of s x).state)
    unfolding receive_by
    reading_at s g (other_sender a) o h = (refl, refl)
    reading_at s g (direct q a) o h = (refl, refl)
    reading_at s g (segment q x) o h = rw (take_in_lem q (get_or s.peers q no_row) s.mem x o h.same.ok_a) (refl, refl)

    -- check 2 does not apply
    receives-at : (s : State bytes_of) (g : State ghost) (k : List ℕ) → Good s g → receives W Config U (at s) k ≡ receive_by W Config U (at s) (header k)
    unfolding receives receive_by
    receives-at s g k h = rw (le-ltb (length s.mem) 55296 h.same.ok_a)

    pub next-at : (s : State bytes_of) (g : State ghost) (e : Event) → Good s g → next W Config U (at s) e ≡ at (after W judge bytes_of header s e)
    unfolding next
    next-at s g tick h = refl
    next-at s g (receive k) h = ap (λ (o : Replied W Config U). o.world) (receives-at s g k h) ∙ (reading_at s g (header k) (promise.kept k) h).1

    pub runs-at : (es : List Event) (s : State bytes_of) (g : State ghost) → Good s g → runs W Config U (at s) es ≡ at (run W judge bytes_of header s es)
    unfolding runs next
    runs-at [] s g h = refl
    runs-at (e ∷ es) s g h =
        ap (λ (w : World Config). runs W Config U w es) (next-at s g e h)
        ∙ runs-at es (after W judge bytes_of header s e) _ (event_sim W judge bytes_of ghost bytes_laws ghost_laws header listed p p< s g e h)

    -- what is said, with the bytes handed back
    abbrev back_of : List ℕ → Replied W Config U → Answer W
    back_of k o = record { reply = o.reply; bytes = view_of k o.world.mem (W.place o.reply) }

    back : (s : State bytes_of) (g : State ghost) (k : List ℕ) (x : Reading W) → Kept W x → Good s g
        → back_of k (receive_by W Config U (at s) x) ≡ fill W k (react W judge bytes_of s x).answer
    unfolding part_of_slice view_of receive_by
    back s g k (other_sender a) o h = rw o
    back s g k (direct q a) o h = rw o.1
    back s g k (segment q x) o h =
        let b = take_back W judge q (get_or s.peers q no_row) k s.mem x o (h.rows_ok q o) h.same.ok_a in
        rw (take_in_lem q (get_or s.peers q no_row) s.mem x o h.same.ok_a)
        (ap (λ (t : List ℕ). record { reply = (react W judge bytes_of s (segment q x)).answer.reply; bytes = t }) b.is ∙ sym (backs_fill W judge k _ _ b))

    pub answer_is_at : (s : State bytes_of) (g : State ghost) (k : List ℕ) → Good s g → answer_of W Config U (at s) k
        ≡ fill W k (react W judge bytes_of s (header k)).answer
    unfolding answer_of handed_back runs receives
    answer_is_at s g k h = ap (back_of k) (receives-at s g k h) ∙ back s g k (header k) (promise.kept k) h

    answers_are_at : (s : State bytes_of) (g : State ghost) (e : Event) → Good s g → answers_at W Config U p (at s) e ≡ answer1 W header p judge bytes_of s e
    answers_are_at s g tick h = refl
    answers_are_at s g (receive k) h = rw (answer_is_at s g k h, from-own k)

    answers_at_lem : (es : List Event) (s : State bytes_of) (g : State ghost) → Good s g → answers_of W Config U p (at s) es ≡ answers W header p judge bytes_of s es
    unfolding answers_of
    answers_at_lem [] s g h = refl
    answers_at_lem (e ∷ es) s g h =
        cc (
          answers_are_at s g e h,
          ap (λ (w : World Config). answers_of W Config U p w es) (next-at s g e h),
          answers_at_lem es (after W judge bytes_of header s e) _ (event_sim W judge bytes_of ghost bytes_laws ghost_laws header listed p p< s g e h),
        )

    pub begins : (m : List ℕ) → 55296 ≤ length m → Good (start bytes_of m) ghost_start
    begins m o = start_sim bytes_of p p< m o

    -- a segment's answer
    pub seg-fill : (s : State bytes_of) (g : State ghost) (k : List ℕ) (q : ℕ) (x : Seg) → header k ≡ segment q x → Good s g
        → fill W k (react W judge bytes_of s (header k)).answer ≡ (react W judge bytes_of s (header k)).answer
    seg-fill s g k q x e h =
        let lq : q < most_peers = rw e at (promise.kept k) in
        rw e (backs_fill W judge k _ _ (take_back W judge q (get_or s.peers q no_row) k s.mem x lq (h.rows_ok q lq) h.same.ok_a))

    answer_at_lem : (frames : List Frame) (before : List Item) (f j : ℕ) (m : List ℕ) (q : ℕ) (x : Seg)
        → header (part_of (frame_of frames f) j).packet ≡ segment q x → 55296 ≤ length m
        → answer_in W Config U (at (start bytes_of m)) frames before f j
        ≡ (react W judge bytes_of (run W judge bytes_of header (start bytes_of m) (map (event frames) before))
        (header (part_of (frame_of frames f) j).packet)).answer
    unfolding answer_in answer_of
    answer_at_lem frames before f j m q x e o =
        let k : List ℕ = (part_of (frame_of frames f) j).packet in
        let h = run_sim W judge bytes_of ghost bytes_laws ghost_laws header listed p p< (map (event frames) before) (start bytes_of m) ghost_start (begins m o) in
        ap (λ (w : World Config). answer_of W Config U w k) (runs-at (map (event frames) before) (start bytes_of m) ghost_start (begins m o))
        ∙ answer_is_at (run W judge bytes_of header (start bytes_of m) (map (event frames) before)) _ k h
        ∙ seg-fill (run W judge bytes_of header (start bytes_of m) (map (event frames) before)) _ k q x e h

    -- a cut has a part
    has_part : (fr : Frame) → Cut W header judge p fr → 0 < length fr.parts
    has_part fr t = some fr.parts (omega (arith, t.least, ap length t.bytes))
      where
        some : (ps : List Part) → 32 ≤ length (joined ps) → 0 < length ps
        some [] h = absurd (omega arith)
        some (x ∷ ps) h = omega arith

    del : (frames : List Frame) (cuts : Cuts W Config U c p frames) (items : List Item) → Mixing W header p frames items
        → (m : List ℕ) → 55296 ≤ length m → (before after' : List Item) (f j : ℕ) (lf : f < length frames) → items ≡ before ++ (given f j ∷ after')
        → Right W p (frame_of frames f) (cuts f lf).verdict (segments_of f after') (answer_in W Config U (at (start bytes_of m)) frames before f j)
    del frames cuts items mix m o before after' f j lf is =
        let r : header (part_of (frame_of frames f) j).packet ≡ segment p (states (frame_of frames f) j) =
        (cuts f lf).sound j (part_real W header judge p p< frames items cuts mix before after' f j is) in
        subst (λ (a : Answer W). Right W p (frame_of frames f) (cuts f lf).verdict (segments_of f after') a)
        (sym (answer_at_lem frames before f j m p _ r o)) (mixed W header judge p p< frames items cuts mix bytes_of bytes_laws listed m o before after' f j lf is)

    -- an answer to a packet of the peer's that is no segment does not name the memory
    not_memory : (w : World Config) (x : Reading W) → Kept W x → IsNoSegment W p x → mine W p x ≡ true → (W.place (receive_by W Config U w x).reply).in_lent_memory
        ≡ false
    unfolding receive_by
    not_memory w (other_sender a) o n m = ap (λ (x : Place). x.in_lent_memory) o
    not_memory w (direct q a) o n m = o.1
    not_memory w (segment q g) o n m = absurd (n (eqb-true q p m))

    free-at : (before after' : List Item) (x : Item) → AllFree W header p (before ++ (x ∷ after')) → Free W header p x
    free-at [] after' x h = h.0
    free-at (y ∷ before) after' x h = free-at before after' x h.1

    else_at : (frames : List Frame) (before : List Item) (k : List ℕ) (m : List ℕ) → 55296 ≤ length m → IsNoSegment W p (header k) → from W Config U c p k ≡ true
        → (W.place (answer_of W Config U (runs W Config U (at (start bytes_of m)) (map (event frames) before)) k).reply).in_lent_memory ≡ false
    unfolding answer_of receives
    else_at frames before k m o n f =
        let s : State bytes_of = run W judge bytes_of header (start bytes_of m) (map (event frames) before) in
        let h = run_sim W judge bytes_of ghost bytes_laws ghost_laws header listed p p< (map (event frames) before) (start bytes_of m) ghost_start (begins m o) in
        ap (λ (w : World Config). (W.place (receives W Config U w k).reply).in_lent_memory)
        (runs-at (map (event frames) before) (start bytes_of m) ghost_start (begins m o))
        ∙ ap (λ (x : Replied W Config U). (W.place x.reply).in_lent_memory) (receives-at s _ k h)
        ∙ not_memory (at s) (header k) (promise.kept k) n (sym (from-own k) ∙ f)

    fixed : Claim W Config U (record { config = c; peers = empty_rows }) p
    unfolding handed_back answer_of runs
    fixed =
        record {
          same = λ m m' o q es es' alike.
              answers_at_lem es (start bytes_of m) ghost_start (begins m o)
              ∙ non_interference W judge bytes_of bytes_laws header listed p p< m m' o (omega arith) es es'
              (sym (strike_ext _ _ from-own es) ∙ alike ∙ strike_ext _ _ from-own es')
              ∙ sym (answers_at_lem es' (start bytes_of m') ghost_start (begins m' (omega arith)));
          whenever = λ m es k n.
              let w : World Config = runs W Config U (record { ends = record { config = c; peers = empty_rows }; mem = m }) es in
              ap (λ (t : List ℕ). view_of k t (W.place (receives W Config U w k).reply)) (still n (receives W Config U w k).world);
          delivers = del;
          once = λ frames cuts items mix m o f lf.
              let t : times f 0 items ≡ 1 =
              rw (mix.once f 0, lt-ltb f (length frames) lf, lt-ltb 0 (length (frame_of frames f).parts) (has_part (frame_of frames f) (cuts f lf))) in
              counts frames items (at (start bytes_of m)) f
              (λ before after' j is. let r = del frames cuts items mix m o before after' f j lf is in (
                λ l. ap (λ (a : Answer W). W.delivered a.reply) (r.waits l) ∙ W.pending_not,
                λ z. ap W.delivered (r.delivers z) ∙ W.gives_is (cuts f lf).verdict (slot_start (slot_no p r.slot) + 18)
                    (length (frame_of frames f).content - 18),
              ))
              items [] refl
              ∙ rw (lt-ltb 0 (segments_of f items) (omega (arith, times-le f 0 items)));
          nothing_else = λ frames items mix m o before after' k is f.
              else_at frames before k m o (free-at before after' (other (receive k)) (subst (λ (x : List Item). AllFree W header p x) is mix.rest)) f;
          one_after_another = λ frames cuts items items' mix turn m m' o q b a b'' a'' f j k lf is z is'' z''.
              let r = del frames cuts items mix m o b a f j lf is in
              let r'' = del frames cuts items' (in_turn_lem W header p frames items' turn) m' (omega arith) b'' a'' f k lf is'' in
              record {
                verdict = (cuts f lf).verdict;
                len = length (frame_of frames f).content - 18;
                place = slot_start (slot_no p r.slot) + 18;
                place' = slot_start (slot_no p r''.slot) + 18;
                first = r.delivers z;
                second = r''.delivers z'';
                bytes = r.bytes z ∙ sym (r''.bytes z'');
              };
        }

  -- of every set-up whose configuration's layers keep their promise, for each peer
  module _ (Adding : Type 0) (adds : Config → Adding → Config) where
    pub claim : (c : Config) (as' : List Adding) → Promised W Config U (set_up Config Adding adds c as').config → (p : ℕ) → p < most_peers
        → Claim W Config U (set_up Config Adding adds c as') p
    claim c₀ as' promised p p< = rw_rows (set_up Config Adding adds c₀ as')
        (set_up-rows Config Adding adds as' (record { config = c₀; peers = empty_rows })) promised
      where
        rw_rows : (e : Endpoint Config) → e.peers ≡ empty_rows → Promised W Config U e.config → Claim W Config U e p
        rw_rows e q promise = subst (λ (r : List Peer). Claim W Config U (record { config = e.config; peers = r }) p) (sym q) (fixed e.config promise p p<)
