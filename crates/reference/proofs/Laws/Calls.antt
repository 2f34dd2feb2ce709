-- A RUN OF THE CALLS is a run of the definition: what they answer, with the bytes that the view hands back from the memory, is what `replies` has.
use Rattle.std.specs.Prelude.{◌≡◌, refl, ◌≢◌, true, false, ◌||◌, List, [], ◌∷◌, map, ℕ, ◌+◌, ◌-◌, ◌≤◌, ◌<◌, length, get_or, set, drop, replicate, ltb, leb, eqb}
use Rattle.std.proofs.Common.{sym, ap, subst, ◌∙◌, arith, length-set, get_or-set_same, get_or-set_other, ext_get_or, eqb-true, le-ltb}
use Rattle.std.proofs.Math.Option.{Option, none, some}
use Rattle.std.proofs.lemmas.List.{length-map, get_or-replicate}
use Rattle.std.proofs.Math.ListN.{get_or-map}
use Rattle.std.proofs.lemmas.Bool.{eqb-false}
use Rattle.reassembly.specs.Base.{table}
use Rattle.reassembly.specs.Slots.{Note}
use Rattle.reassembly.specs.Take.{Seg}
use Rattle.reassembly.specs.Receive.{Answers, bare, view_of, nowhere, Verdict, bad, good, Reading, other_sender, direct, segment, Event, receive, tick}
use Rattle.reassembly.specs.SetUp.{Layers, Kept, Promised}
use Rattle.reassembly.proofs.Laws.Base.{case_b, either, length-table, get_d_table}
use Rattle.reassembly.proofs.Laws.Sim.{set_cases}
use Rattle.reassembly.proofs.Laws.Store.{handed_at}
use Rattle.reassembly.proofs.Laws.Answers.{part-fits, view_packet, view_memory}
use Rattle.reassembly.proofs.Laws.HandBack.{nowhere_back}
use Rattle.reference.specs.Keyed.{find}
use Rattle.reference.specs.Reassembler.{Frame, rebuilt, repeats, older, Result, rejects, too_many, waits, complete, identifier_of, settled, part_of}
use Rattle.reference.specs.Reassembler.{most_segments}
use Rattle.reference.specs.Reassembler.{opened, further, looked, taken}
use Rattle.reference.specs.Run.{need, rebuilt_at, State, start, said, judged, replied, heard, hears, replies}
use Rattle.reference.specs.Many.{Fit}
use Rattle.reference.specs.Layout.{bytes_at, frames_in, older_buffers, Effect, taken_in}
use Rattle.reference.specs.Calls.{Left, viewed, judged_in, replied_in, heard_in, hears_in, ticked_in, replies_in, ran_in, OnlyFront, HeardIn}
use Rattle.reference.proofs.Laws.Room.{nothing-fits, fits_by}
use Rattle.reference.proofs.Laws.Blocks.{older-frames}
use Rattle.reference.proofs.Laws.Layout.{rebuilt-length, Valid, valid_sound, Reads, taken-reads, taken_valid, older_valid}
use Rattle.reference.specs.declared.buffer.Buffer.{Buffer}

-- ---- the definition's frames of all peers, read from the state and the memory

unfoldable pub reads : List (List Buffer) → List ℕ → List (List Frame)
reads peers m = table 8 (λ q. frames_in q m (get_or peers q []))

pub record AllValid (peers : List (List Buffer)) (m : List ℕ) : Type 0 where
  pub eight : length peers ≡ 8
  pub big : need ≤ length m
  pub each : (q : ℕ) → q < 8 → Valid q m (get_or peers q [])

reads-length : (peers : List (List Buffer)) (m : List ℕ) → length (reads peers m) ≡ 8
unfolding reads
reads-length peers m = length-table 8 (λ q. frames_in q m (get_or peers q []))

reads_at : (peers : List (List Buffer)) (m : List ℕ) (q : ℕ) → q < 8 → get_or (reads peers m) q [] ≡ frames_in q m (get_or peers q [])
unfolding reads
reads_at peers m q l = get_d_table 8 (λ q. frames_in q m (get_or peers q [])) [] q l

-- ---- a segment of peer p's
module _ (peers : List (List Buffer)) (m : List ℕ) (h : AllValid peers m) (p : ℕ) (p< : p < 8) (g : Seg) where
  abbrev e : Effect
  e = taken_in p (get_or peers p []) m g

  r : Reads p m (taken_in p (get_or peers p []) m g) (taken (frames_in p m (get_or peers p [])) g)
  r = taken-reads p (get_or peers p []) m g p< h.big (h.each p p<)

  segment_reads : reads (set peers p e.buffers) e.mem ≡ set (reads peers m) p (taken (get_or (reads peers m) p []) g).frames
  segment_reads =
      ext_get_or [] (reads (set peers p e.buffers) e.mem) (set (reads peers m) p (taken (get_or (reads peers m) p []) g).frames)
      (reads-length (set peers p e.buffers) e.mem ∙ sym (length-set (reads peers m) p _ ∙ reads-length peers m))
      (λ q l. let q< : q < 8 = omega (arith, reads-length (set peers p e.buffers) e.mem) in
      reads_at (set peers p e.buffers) e.mem q q< ∙ at q q<)
    where
      at : (q : ℕ) → q < 8
          → frames_in q e.mem (get_or (set peers p e.buffers) q []) ≡ get_or (set (reads peers m) p (taken (get_or (reads peers m) p []) g).frames) q []
      at q q< =
          case_b (eqb q p)
          (λ t. let z : q ≡ p = eqb-true q p t in
          rw (
            z,
            get_or-set_same peers p e.buffers [] (omega (arith, h.eight)),
            get_or-set_same (reads peers m) p (taken (get_or (reads peers m) p []) g).frames [] (omega (arith, reads-length peers m)),
            reads_at peers m p p<,
          ) r.frames)
          (λ t. let n : q ≢ p = eqb-false q p t in
          rw (
            get_or-set_other peers p q e.buffers [] n,
            get_or-set_other (reads peers m) p q (taken (get_or (reads peers m) p []) g).frames [] n,
            reads_at peers m q q<,
          ) (r.others q q< n (get_or peers q []) (valid_sound q m (get_or peers q []) (h.each q q<))))

  segment_valid : AllValid (set peers p e.buffers) e.mem
  segment_valid =
      record {
        eight = length-set peers p e.buffers ∙ h.eight;
        big = omega (arith, h.big, r.size);
        each = λ q q<.
            either (set_cases peers p e.buffers [] q (omega (arith, h.eight)))
            (λ c. rw (c.1, c.0) (taken_valid p (get_or peers p []) m g p< h.big (h.each p p<)))
            (λ c. let v : Valid q m (get_or peers q []) = h.each q q< in
            let s : frames_in q e.mem (get_or peers q []) ≡ frames_in q m (get_or peers q []) =
            r.others q q< c.0 (get_or peers q []) (valid_sound q m (get_or peers q []) v) in
            rw c.1 (record { shape = v.shape; apart = v.apart; fit = subst Fit (sym s) v.fit }));
      }

-- ---- a tick

older_buffers_lem : (ps : List (List Buffer)) (q : ℕ) → get_or (map older_buffers ps) q [] ≡ older_buffers (get_or ps q [])
unfolding older_buffers
older_buffers_lem ps q = get_or-map older_buffers ps q []

older_lists : (ps : List (List Frame)) (q : ℕ) → get_or (map older ps) q [] ≡ older (get_or ps q [])
unfolding older
older_lists ps q = get_or-map older ps q []

tick-reads : (peers : List (List Buffer)) (m : List ℕ) → reads (map older_buffers peers) m ≡ map older (reads peers m)
tick-reads peers m =
    ext_get_or [] (reads (map older_buffers peers) m) (map older (reads peers m))
    (reads-length (map older_buffers peers) m ∙ sym (length-map (reads peers m) older ∙ reads-length peers m))
    (λ q l. let q< : q < 8 = omega (arith, reads-length (map older_buffers peers) m) in
    reads_at (map older_buffers peers) m q q<
    ∙ rw (older_buffers_lem peers q, older_lists (reads peers m) q, reads_at peers m q q<) (older-frames q m (get_or peers q [])))

tick_valid : (peers : List (List Buffer)) (m : List ℕ) → AllValid peers m → AllValid (map older_buffers peers) m
tick_valid peers m h =
    record {
      eight = length-map peers older_buffers ∙ h.eight;
      big = h.big;
      each = λ q l. rw (older_buffers_lem peers q) (older_valid q (get_or peers q []) m (h.each q l));
    }

-- ---- at the start: no frames, a memory of any contents

start_valid : (m : List ℕ) → need ≤ length m → AllValid (replicate 8 []) m
start_valid m o =
    record {
      eight = refl;
      big = o;
      each = λ q l. rw (get_or-replicate {A = List Buffer} 8 q [] [] l) (record { shape = tt; apart = tt; fit = nothing-fits });
    }

start-reads : (m : List ℕ) → reads (replicate 8 []) m ≡ replicate 8 []
start-reads m =
    ext_get_or [] (reads (replicate 8 []) m) (replicate 8 []) (reads-length (replicate 8 []) m)
    (λ q l. let q< : q < 8 = omega (arith, reads-length (replicate 8 []) m) in
    reads_at (replicate 8 []) m q q< ∙ rw (get_or-replicate {A = List Buffer} 8 q [] [] q<, get_or-replicate {A = List Frame} 8 q [] [] q<))

-- ---- a complete frame is as long as its segment says

abbrev Long : Result → Type 0
Long (rejects r) = Unit {0}
Long too_many = Unit {0}
Long waits = Unit {0}
Long (complete note frame) = (32 ≤ length frame) × (length frame ≤ 1532)

settled_long : (fs : List Frame) (f : Frame) (x : Option (List ℕ)) → 32 ≤ f.size → f.size ≤ 1532 → rebuilt f.parts f.size ≡ x
    → Long (settled fs f x).result
settled_long fs f none l n e = tt
settled_long fs f (some frame) l n e =
    (omega (arith, rebuilt-length f.parts f.size frame e), omega (arith, rebuilt-length f.parts f.size frame e))

looked_long : (fs : List Frame) (g : Seg) (x : Option Frame) → 32 ≤ g.frame_length → g.frame_length ≤ 1532 → Long (looked fs g x).result
looked_long fs g none l n =
    case_b (leb 4 (length fs)) (λ a. rw a tt) (λ a. rw a (settled_long fs (opened g) (rebuilt (part_of g ∷ []) g.frame_length) l n refl))
looked_long fs g (some f) l n =
    case_b (eqb f.size g.frame_length)
    (λ a. let z : f.size ≡ g.frame_length = eqb-true f.size g.frame_length a in
    case_b (repeats f.parts (part_of g))
    (λ b. rw (a, b) tt)
    (λ b. case_b (leb most_segments (length f.parts))
    (λ c. rw (a, b, c) tt)
    (λ c. rw (a, b, c) (settled_long fs (further f g) (rebuilt (part_of g ∷ f.parts) f.size) (omega arith) (omega arith) refl))))
    (λ a. rw a tt)

taken_long : (fs : List Frame) (g : Seg) → Long (taken fs g).result
unfolding taken
taken_long fs g =
    case_b (eqb (length g.bytes) 0)
    (λ a. rw a tt)
    (λ a. case_b (ltb g.frame_length 32 || ltb 1532 g.frame_length)
    (λ b. rw (a, b) tt)
    (λ b. case_b (ltb g.frame_length (g.offset + length g.bytes))
    (λ c. rw (a, b, c) tt)
    (λ c. rw (a, b, c) (looked_long fs g (find identifier_of g.identifier fs) (fits_by g a b c).least (fits_by g a b c).most))))

-- ---- a call: what it answers, and what the view hands back

module _ (W : Answers) (Config : Type 0) (U : Layers W Config) where
  -- read back, a state is the definition's
  abbrev pub state_of : Left W Config U → State W Config U
  state_of w = record { config = w.config; peers = reads w.peers w.mem }

  bare-viewed : (k m : List ℕ) (a : W.A) → W.place a ≡ nowhere → viewed W Config U k m a ≡ said (bare W a)
  bare-viewed k m a e = ap (λ (t : List ℕ). said (record { reply = a; bytes = t })) (nowhere_back k m (W.place a) e)

  judged-viewed : (k m : List ℕ) (frame : List ℕ) (v : Verdict W) → need ≤ length m → (32 ≤ length frame) × (length frame ≤ 1532)
      → bytes_at m rebuilt_at (length frame) ≡ frame
      → viewed W Config U k m (judged_in W Config U v (length frame)) ≡ said (judged W Config U v frame)
  judged-viewed k m frame (bad b) o l e = bare-viewed k m (W.refused b) (W.refused_place b)
  judged-viewed k m frame (good v) o l e =
      ap (λ (t : List ℕ). said (record { reply = W.gives v (rebuilt_at + 18) (length frame - 18); bytes = t }))
      (ap (view_of k m) (W.gives_place v (rebuilt_at + 18) (length frame - 18))
      ∙ view_memory k m (record { in_lent_memory = true; start = rebuilt_at + 18; len = length frame - 18 }) refl
      ∙ part-fits m (rebuilt_at + 18) (length frame - 18) (omega (arith, l.0, l.1))
      ∙ sym (handed_at m rebuilt_at (length frame) (omega (arith, l.0)) (omega (arith, l.1)))
      ∙ ap (drop 18) e)

  replied-viewed : (c : Config) (p : ℕ) (k m : List ℕ) (r : Result) → need ≤ length m → Long r
      → ((note : Note) (frame : List ℕ) → r ≡ complete note frame → bytes_at m rebuilt_at (length frame) ≡ frame)
      → replied_in W Config U c p k m r ≡ replied W Config U c p r
  replied-viewed c p k m (rejects r) o l f = bare-viewed k m (W.rejected r) (W.rejected_place r)
  replied-viewed c p k m too_many o l f = refl
  replied-viewed c p k m waits o l f = bare-viewed k m W.pending W.pending_place
  replied-viewed c p k m (complete note frame) o l f =
      rw (f note frame refl) (judged-viewed k m frame (U.judge c p note frame) o l (f note frame refl))

  -- an answer that needs no reassembly: the memory is not asked
  direct-viewed : (k m : List ℕ) (a : W.A) → (W.place a).in_lent_memory ≡ false → view_of k m (W.place a) ≡ view_of k [] (W.place a)
  direct-viewed k m a e = view_packet k m (W.place a) e ∙ sym (view_packet k [] (W.place a) e)

  -- ONE PACKET: the answer, with the bytes of the view, is the definition's, and so is what is left
  pub record Follows (w : Left W Config U) (k : List ℕ) (x : Reading W) : Type 0 where
    pub reply : (heard_in W Config U w k x).reply ≡ (heard W Config U (state_of w) k x).reply
    pub left : state_of (heard_in W Config U w k x).left ≡ (heard W Config U (state_of w) k x).left
    pub valid : AllValid (heard_in W Config U w k x).left.peers (heard_in W Config U w k x).left.mem
    pub front : OnlyFront w.mem (heard_in W Config U w k x).left.mem

  pub packet_follows : (w : Left W Config U) (k : List ℕ) (x : Reading W) → Kept W x → AllValid w.peers w.mem → Follows w k x
  packet_follows w k (other_sender a) o h =
      record {
        reply = ap (λ (t : List ℕ). said (record { reply = a; bytes = t })) (direct-viewed k w.mem a (rw o));
        left = refl;
        valid = h;
        front = record { size = refl; behind = λ i l. refl };
      }
  packet_follows w k (direct p a) o h =
      record {
        reply = ap (λ (t : List ℕ). said (record { reply = a; bytes = t })) (direct-viewed k w.mem a o.1);
        left = refl;
        valid = h;
        front = record { size = refl; behind = λ i l. refl };
      }
  packet_follows w k (segment p g) o h =
      let r : Reads p w.mem (taken_in p (get_or w.peers p []) w.mem g) (taken (frames_in p w.mem (get_or w.peers p [])) g) =
      taken-reads p (get_or w.peers p []) w.mem g o h.big (h.each p o) in
      let z : get_or (reads w.peers w.mem) p [] ≡ frames_in p w.mem (get_or w.peers p []) = reads_at w.peers w.mem p o in
      let q : (taken_in p (get_or w.peers p []) w.mem g).result ≡ (taken (get_or (reads w.peers w.mem) p []) g).result =
      r.result ∙ ap (λ (t : List Frame). (taken t g).result) (sym z) in
      record {
        reply =
            replied-viewed w.config p k (taken_in p (get_or w.peers p []) w.mem g).mem (taken_in p (get_or w.peers p []) w.mem g).result
            (omega (arith, h.big, r.size)) (subst Long (sym q) (taken_long (get_or (reads w.peers w.mem) p []) g)) r.frame
            ∙ ap (replied W Config U w.config p) q;
        left = ap (λ (t : List (List Frame)). record { config = w.config; peers = t }) (segment_reads w.peers w.mem h p o g);
        valid = segment_valid w.peers w.mem h p o g;
        front = record { size = r.size; behind = r.beyond };
      }

  -- ---- A RUN

  hears_in_lem : (w : Left W Config U) (k : List ℕ) → need ≤ length w.mem → hears_in W Config U w k ≡ heard_in W Config U w k (U.header w.config k)
  unfolding hears_in
  hears_in_lem w k o = rw (le-ltb (length w.mem) need o)

  hears_so : (lent : ℕ) (w : State W Config U) (k : List ℕ) → need ≤ lent → hears W Config U lent w k ≡ heard W Config U w k (U.header w.config k)
  unfolding hears
  hears_so lent w k o = rw (le-ltb lent need o)

  joins : {A : Type 0} (a b : A) (l r : List A) → a ≡ b → l ≡ r → a ∷ l ≡ b ∷ r
  joins a b l r p q = cc (p, q)

  config_kept : (w : Left W Config U) (k : List ℕ) (x : Reading W) → (heard_in W Config U w k x).left.config ≡ w.config
  config_kept w k (other_sender a) = refl
  config_kept w k (direct p a) = refl
  config_kept w k (segment p g) = refl

  run_follows : (c : Config) → Promised W Config U c → (lent : ℕ) → need ≤ lent → (es : List Event) (w : Left W Config U) → w.config ≡ c
      → AllValid w.peers w.mem → replies_in W Config U w es ≡ replies W Config U lent (state_of w) es
  run_follows c promise lent l [] w q h = refl
  run_follows c promise lent l (tick ∷ es) w q h =
      run_follows c promise lent l es (ticked_in W Config U w) q (tick_valid w.peers w.mem h)
      ∙ ap (λ (t : List (List Frame)). replies W Config U lent (record { config = w.config; peers = t }) es) (tick-reads w.peers w.mem)
  run_follows c promise lent l (receive k ∷ es) w q h =
      let f : Follows w k (U.header w.config k) = packet_follows w k (U.header w.config k) (rw q (promise.kept k)) h in
      rw (hears_in_lem w k h.big, hears_so lent (state_of w) k l)
      (joins _ _ _ _ f.reply
      (run_follows c promise lent l es (heard_in W Config U w k (U.header w.config k)).left (config_kept w k (U.header w.config k) ∙ q) f.valid
      ∙ ap (λ (t : State W Config U). replies W Config U lent t es) f.left))

  -- THE THEOREM: from no frames, in a memory of any contents
  pub calls_follow : (c : Config) → Promised W Config U c → (m : List ℕ) → need ≤ length m → (es : List Event)
      → replies_in W Config U (record { config = c; peers = replicate 8 []; mem = m }) es ≡ replies W Config U (length m) (start W Config U c) es
  calls_follow c promise m o es =
      run_follows c promise (length m) o es (record { config = c; peers = replicate 8 []; mem = m }) refl (start_valid m o)
      ∙ ap (λ (t : List (List Frame)). replies W Config U (length m) (record { config = c; peers = t }) es) (start-reads m)

  run_front : (c : Config) → Promised W Config U c → (es : List Event) (w : Left W Config U) → w.config ≡ c → AllValid w.peers w.mem
      → OnlyFront w.mem (ran_in W Config U w es).mem
  run_front c promise [] w q h = record { size = refl; behind = λ i l. refl }
  run_front c promise (tick ∷ es) w q h = run_front c promise es (ticked_in W Config U w) q (tick_valid w.peers w.mem h)
  run_front c promise (receive k ∷ es) w q h =
      let f : Follows w k (U.header w.config k) = packet_follows w k (U.header w.config k) (rw q (promise.kept k)) h in
      let r = run_front c promise es (heard_in W Config U w k (U.header w.config k)).left (config_kept w k (U.header w.config k) ∙ q) f.valid in
      subst (λ (t : HeardIn W Config U). OnlyFront w.mem (ran_in W Config U t.left es).mem) (sym (hears_in_lem w k h.big))
      (record { size = r.size ∙ f.front.size; behind = λ i l. r.behind i l ∙ f.front.behind i l })

  pub calls_front : (c : Config) → Promised W Config U c → (m : List ℕ) → need ≤ length m → (es : List Event)
      → OnlyFront m (ran_in W Config U (record { config = c; peers = replicate 8 []; mem = m }) es).mem
  calls_front c promise m o es = run_front c promise es (record { config = c; peers = replicate 8 []; mem = m }) refl (start_valid m o)
