-- Complete, told from the run (demand 2 over runs): a segment completes its frame exactly if the segments taken since that frame opened, with it, make up a
-- frame exactly; and that is the frame in the memory. Both ways from `EveryRun`: `complete_gathers`, `gathers_complete`.
use Rattle.std.specs.Prelude.{◌≡◌, Bool, true, false, cond, ℕ, zero, suc, ◌+◌, ◌≤◌, ◌<◌, length, get_or, ltb}
use Rattle.std.proofs.Math.Path.{refl, ap}
use Rattle.std.proofs.Common.{sym, subst, ◌∙◌, inl, inr, arith, ext_get_or, le-ltb}
use mathlib.Core.List.{List, [], ◌∷◌, ◌++◌}
use Rattle.reassembly.specs.Base.{all_below}
use Rattle.reassembly.proofs.Laws.Base.{all_below_intro, case_b, either, clash, or_true_r, and_r}
use Rattle.reassembly.specs.Slots.{no_row}
use Rattle.reassembly.specs.Take.{slot_no, Seg, Rejected, Pending, Complete, LengthDiffers, AlreadyReceived, NoSlot, Effect, frame_in, Fits}
use Rattle.reassembly.proofs.Laws.TakeFacts.{length-frame, not_complete, complete-slot}
use Rattle.reassembly.proofs.Laws.TakeIn.{take_whole, take-length}
use Rattle.reassembly.proofs.Laws.Memory.{within_high}
use Rattle.reassembly.specs.Store.{bytes_of}
use Rattle.reassembly.specs.Receive.{Answers, Reading, other_sender, direct, segment, Event, receive, tick, row_of}
use Rattle.reassembly.specs.SetUp.{Layers, Endpoint, World, receive_by, receives, next, runs}
use Rattle.reassembly.specs.History.{Gathers, MakesUp, carries, carried, no_seg, OneOf, taking, covered, length_of, frame_complete, frame_pending, History}
use Rattle.reassembly.specs.History.{history_of}
use Rattle.reassembly.proofs.Laws.EveryRun.{frame_byte, runs_snoc}
use Rattle.reassembly.specs.EveryRun.{frame_at, EveryRun, TakenFor, Ruled}

-- a byte that is covered is covered by some segment; and the other way
pub record Coverer (gs : List Seg) (i : ℕ) : Type 0 where
  pub which : ℕ
  pub is_one : which < length gs
  pub covering : carries (get_or gs which no_seg) i ≡ true

pub coverer : (gs : List Seg) (i : ℕ) → covered gs i ≡ true → Coverer gs i
coverer [] i e = clash (cc)
coverer (g ∷ gs) i e =
    case_b (carries g i)
    (λ q. record { which = 0; is_one = omega arith; covering = q })
    (λ q. let r : Coverer gs i = coverer gs i (rw q at e) in record { which = suc r.which; is_one = omega (arith, r.is_one); covering = r.covering })

covers : (gs : List Seg) (j i : ℕ) → j < length gs → carries (get_or gs j no_seg) i ≡ true → covered gs i ≡ true
covers [] j i l e = absurd (omega arith)
covers (g ∷ gs) zero i l e = rw e
covers (g ∷ gs) (suc j) i l e = or_true_r (carries g i) (covered gs i) (covers gs j i (omega arith) e)

-- all is covered
makes_complete : (g : Seg) (earlier : List Seg) (frame : List ℕ) → MakesUp g (g ∷ earlier) frame → frame_complete (g ∷ earlier) ≡ true
unfolding frame_complete
makes_complete g earlier frame w =
    all_below_intro g.frame_length (λ i. covered (g ∷ earlier) i)
    (λ i l. let o : OneOf (g ∷ earlier) i (get_or frame i 0) = w.bytes i (omega (arith, w.size)) in covers (g ∷ earlier) o.which i o.is_one o.covering)

-- none of its bytes is covered twice
makes_apart : (g : Seg) (earlier : List Seg) (frame : List ℕ) → MakesUp g (g ∷ earlier) frame → (i : ℕ) → carries g i ≡ true → covered earlier i ≡ false
makes_apart g earlier frame w i c =
    case_b (covered earlier i)
    (λ e. let f : Fits g = (w.of_frame 0 (omega arith)).fits in
    let o : OneOf (g ∷ earlier) i (get_or frame i 0) = w.bytes i (omega (arith, w.size, f.inside, within_high g.offset (length g.bytes) i c)) in
    let r : Coverer earlier i = coverer earlier i e in
    let a : 0 ≡ o.which = o.only 0 (omega arith) c in
    let b : suc r.which ≡ o.which = o.only (suc r.which) (omega (arith, r.is_one)) r.covering in
    absurd (omega arith))
    (λ e. e)

makes_length : (g : Seg) (earlier : List Seg) (frame : List ℕ) (ticks : ℕ) → MakesUp g (g ∷ earlier) frame → frame_pending earlier ticks ≡ true
    → length_of earlier ≡ g.frame_length
unfolding frame_pending frame_complete all_below
makes_length g [] frame ticks w e = let z : false ≡ true = and_r (ltb ticks 4) false e in clash (cc)
makes_length g (x ∷ xs) frame ticks w e = (w.of_frame 1 (omega arith)).size

-- two frames of the same segments are the same
same-frame : (g : Seg) (gs : List Seg) (a b : List ℕ) → MakesUp g gs a → MakesUp g gs b → a ≡ b
same-frame g gs a b x y =
    ext_get_or 0 a b (x.size ∙ sym y.size)
    (λ i l. let o : OneOf gs i (get_or a i 0) = x.bytes i l in
    let q : OneOf gs i (get_or b i 0) = y.bytes i (omega (arith, x.size, y.size)) in
    let z : o.which ≡ q.which = q.only o.which o.is_one o.covering in
    o.byte ∙ ap (λ (j : ℕ). carried (get_or gs j no_seg) i) z ∙ sym q.byte)

complete_is : (b : Bool) (s t : ℕ) → Complete s ≡ cond b (Complete t) Pending → (b ≡ true) × (t ≡ s)
complete_is true s t e = (refl, complete-slot t s (sym e))
complete_is false s t e = not_complete Pending s refl (sym e)

-- ---- what a run never changes: the configuration, and the memory's length

module _ (W : Answers) (Config : Type 0) (U : Layers W Config) where
  reading_keeps : (w : World Config) (x : Reading W)
      → ((receive_by W Config U w x).world.ends.config ≡ w.ends.config) × (length (receive_by W Config U w x).world.mem ≡ length w.mem)
  unfolding receive_by
  reading_keeps w (other_sender a) = (refl, refl)
  reading_keeps w (direct q a) = (refl, refl)
  reading_keeps w (segment q g) = (refl, take-length q (get_or w.ends.peers (row_of q) no_row) w.mem g)

  receive-keeps : (w : World Config) (k : List ℕ)
      → ((receives W Config U w k).world.ends.config ≡ w.ends.config) × (length (receives W Config U w k).world.mem ≡ length w.mem)
  unfolding receives receive_by
  receive-keeps w k = case_b (ltb (length w.mem) 55296) (λ b. rw b (refl, refl)) (λ b. rw b (reading_keeps w (U.header w.ends.config k)))

  next-keeps : (w : World Config) (e : Event) → ((next W Config U w e).ends.config ≡ w.ends.config) × (length (next W Config U w e).mem ≡ length w.mem)
  unfolding next
  next-keeps w tick = (refl, refl)
  next-keeps w (receive k) = receive-keeps w k

  runs-keeps : (es : List Event) (w : World Config)
      → ((runs W Config U w es).ends.config ≡ w.ends.config) × (length (runs W Config U w es).mem ≡ length w.mem)
  unfolding runs next
  runs-keeps [] w = (refl, refl)
  runs-keeps (v ∷ es) w =
      let n = next-keeps w v in
      let r = runs-keeps es (next W Config U w v) in
      (r.0 ∙ n.0, r.1 ∙ n.1)

  -- the memory that a segment leaves is the one that taking it leaves
  segment_memory : (p : ℕ) (w : World Config) (k : List ℕ) (g : Seg) → 55296 ≤ length w.mem → U.header w.ends.config k ≡ segment p g
      → (receives W Config U w k).world.mem ≡ (taking W Config U p w g).mem
  unfolding receives receive_by
  segment_memory p w k g o e = rw (le-ltb (length w.mem) 55296 o, e) refl

module _ (W : Answers) (Config : Type 0) (U : Layers W Config) (p : ℕ) (e : Endpoint Config) (every : EveryRun W Config U p e) (m : List ℕ)
    (enough : 55296 ≤ length m) (es : List Event) (k : List ℕ) (g : Seg) (sound : U.header e.config k ≡ segment p g) where
  abbrev world : World Config
  world = record { ends = e; mem = m }

  abbrev before : History
  before = history_of W Config U p world es

  abbrev behind : History
  behind = history_of W Config U p world (es ++ (receive k ∷ []))

  abbrev effect : Effect bytes_of
  effect = taking W Config U p (runs W Config U world es) g

  abbrev pub frame_taken : ℕ → List ℕ
  frame_taken s = frame_in bytes_of effect.mem (slot_no p s) g.frame_length

  same_memory : (runs W Config U world (es ++ (receive k ∷ []))).mem ≡ effect.mem
  unfolding next
  same_memory =
      let r = runs-keeps W Config U es world in
      ap (λ (w : World Config). w.mem) (runs_snoc W Config U es world (receive k))
      ∙ segment_memory W Config U p (runs W Config U world es) k g (omega (arith, r.1)) (ap (λ (c : Config). U.header c k) r.0 ∙ sound)

  -- the segments of a frame that is complete make it up
  taken_makes : (s ticks : ℕ) (new : Bool) (gs : List Seg) → frame_complete gs ≡ true
      → TakenFor p s new g gs ticks before behind effect.outcome (runs W Config U world es).mem (runs W Config U world (es ++ (receive k ∷ []))).mem
      → MakesUp g gs (frame_taken s)
  taken_makes s ticks new gs c t =
      let n : length (frame_taken s) ≡ g.frame_length = length-frame bytes_of effect.mem (slot_no p s) g.frame_length in
      record {
        size = n;
        of_frame = t.of_frame;
        bytes = λ i l.
            let li : i < g.frame_length = omega arith in
            subst (λ (b : ℕ). OneOf gs i b) (ap (λ (m : List ℕ). get_or m (frame_at p s + i) 0) same_memory
            ∙ sym (frame_byte effect.mem p s g.frame_length i li)) (t.bytes c i li);
      }

  ruled : Fits g → Ruled p g before behind effect.outcome (runs W Config U world es).mem (runs W Config U world (es ++ (receive k ∷ []))).mem
  ruled f = every.ruled m enough es k g sound f

  -- a segment that completes a frame: these make it up
  pub complete_gathers : (s : ℕ) → effect.outcome ≡ Complete s → (gs : List Seg) × (Gathers before g gs × MakesUp g gs (frame_taken s))
  complete_gathers s o =
      let r = ruled (take_whole p s (get_or (runs W Config U world es).ends.peers p no_row) (runs W Config U world es).mem g o).fits in
      either r.one_of
      (λ x. not_complete (Rejected LengthDiffers) s refl (sym (r.fifteen.all x) ∙ o))
      (λ y. either y
      (λ x. not_complete (Rejected AlreadyReceived) s refl (sym (r.sixteen.all x) ∙ o))
      (λ y. either y
      (λ x. not_complete (Rejected NoSlot) s refl (sym (r.seventeen.all x) ∙ o))
      (λ y. either y
      (λ x. let t = r.further x.0 x.1 in
      let z = complete_is (frame_complete (g ∷ before.taken x.0)) s x.0 (sym o ∙ t.outcome) in (
        g ∷ before.taken x.0,
        (
          inl (x.0, (x.1.bears, refl)),
          subst (λ (n : ℕ). MakesUp g (g ∷ before.taken x.0) (frame_taken n)) z.1
              (taken_makes x.0 (before.ticks x.0) false (g ∷ before.taken x.0) z.0 t),
        ),
      ))
      (λ x. let t = r.opens x.0 x.1 in
      let z = complete_is (frame_complete (g ∷ [])) s x.0 (sym o ∙ t.outcome) in
      (g ∷ [], (inr (x.0, (x.1, refl)), subst (λ (n : ℕ). MakesUp g (g ∷ []) (frame_taken n)) z.1 (taken_makes x.0 0 true (g ∷ []) z.0 t)))))))

  -- segments that make up a frame: the last of them completes it
  pub gathers_complete : (gs : List Seg) (frame : List ℕ) → Gathers before g gs → MakesUp g gs frame
      → (s : ℕ) × ((effect.outcome ≡ Complete s) × (frame_taken s ≡ frame))
  gathers_complete gs frame (inl x) w =
      let s : ℕ = x.0 in
      let w' : MakesUp g (g ∷ before.taken s) frame = subst (λ (y : List Seg). MakesUp g y frame) x.1.1 w in
      let f : Fits g = (w'.of_frame 0 (omega arith)).fits in
      let t = (ruled f).further s (record {
        bears = x.1.0;
        same = makes_length g (before.taken s) frame (before.ticks s) w' x.1.0.pending;
        apart = makes_apart g (before.taken s) frame w';
      }) in
      let c = makes_complete g (before.taken s) frame w' in
      (s, (t.outcome ∙ rw c, same-frame g (g ∷ before.taken s) (frame_taken s) frame (taken_makes s (before.ticks s) false (g ∷ before.taken s) c t) w'))
  gathers_complete gs frame (inr x) w =
      let s : ℕ = x.0 in
      let w' : MakesUp g (g ∷ []) frame = subst (λ (y : List Seg). MakesUp g y frame) x.1.1 w in
      let f : Fits g = (w'.of_frame 0 (omega arith)).fits in
      let t = (ruled f).opens s x.1.0 in
      let c = makes_complete g [] frame w' in
      (s, (t.outcome ∙ rw c, same-frame g (g ∷ []) (frame_taken s) frame (taken_makes s 0 true (g ∷ []) c t) w'))
