-- What the code leaves of a segment (Layout.antt, `taken_in`), read back from its state and the memory, is what the definition leaves (`taken`).
use Rattle.std.specs.Prelude.{◌≡◌, refl, ◌≢◌, Bool, true, false, ◌||◌, List, [], ◌∷◌, ◌++◌, ℕ, zero, suc, ◌+◌, ◌*◌, ◌≤◌, ◌<◌, length, get_or, ltb, leb, eqb}
use Rattle.std.proofs.Common.{sym, ap, subst, ◌∙◌, inr, arith, length-append, length-set, leb-false, eqb-true, ne_eqb}
use Rattle.std.proofs.Math.Option.{Option, none, some}
use Rattle.std.proofs.lemmas.List.{length-map}
use Rattle.std.proofs.lemmas.Bool.{eqb-false}
use Rattle.reassembly.specs.Slots.{Note}
use Rattle.reassembly.specs.Take.{Seg, Fits}
use Rattle.reassembly.specs.declared.take.Rejection.{Rejection}
use Rattle.reassembly.specs.declared.take.Rejection.TheVariants.{Empty, FrameLength, PastEnd, LengthDiffers, AlreadyReceived, NoSlot}
use Rattle.reassembly.specs.Mix.{how_many}
use Rattle.reassembly.proofs.Laws.Base.{case_b, clash}
use Rattle.reassembly.proofs.Laws.Sums.{count_all, count_none}
use Rattle.reference.specs.Keyed.{find, put, without}
use Rattle.reference.specs.Reassembler.{Part, Frame, byte_at, followed_by, rebuilt, repeats, notes, Result, rejects, too_many, waits, complete, Taken}
use Rattle.reference.specs.Reassembler.{most_segments}
use Rattle.reference.specs.Reassembler.{identifier_of, refuses, settled, takes, part_of, further, looked, taken}
use Rattle.reference.specs.Run.{need, rebuilt_at}
use Rattle.reference.specs.Many.{Bounds, Each, Fit}
use Rattle.reference.specs.Layout.{kept, begins, bytes_at, stored, added, block_at, frame_in, frames_in, identifier_in, older_buffers, uses, spare, blank}
use Rattle.reference.specs.Layout.{Effect, leaves, settled_in, rebuilt_in, joined_in, opened_in, further_in, looked_in, taken_in}
use Rattle.reference.proofs.Laws.Keyed.{find_key}
use Rattle.reference.proofs.Laws.Each.{each_so, each-find, each-put, each-without}
use Rattle.reference.proofs.Laws.Room.{fits_by, taken-fits, older-fits}
use Rattle.reference.proofs.Laws.Parts.{length-stored, bytes_back, begins-none, length-parts, stored_out}
use Rattle.reference.proofs.Laws.Blocks.{found_in, find-frames, without-frames, older-frames, Shape, Sound, Apart, room_for, further-frame, opened_frame}
use Rattle.reference.proofs.Laws.Blocks.{ThisOr, this_new, this_found, all_left, own-left, put-frames, apart_put, apart_without, gone_unused, each-older}
use Rattle.reference.proofs.Laws.Blocks.{apart_older}
use Rattle.reference.specs.declared.buffer.Buffer.{Buffer}

-- ---- a spare block

one_most : (n b : ℕ) → how_many n (λ i. eqb b i) ≤ 1
one_most zero b = omega arith
one_most (suc n) b =
    case_b (eqb b n)
    (λ e. let z : b ≡ n = eqb-true b n e in
    rw e (omega (arith, count_none n (λ i. eqb b i) (λ i l. ne_eqb b i (λ y. absurd (omega arith))))))
    (λ e. rw e (omega (arith, one_most n b)))

count_either : (n : ℕ) (f g : ℕ → Bool) → how_many n (λ i. f i || g i) ≤ how_many n f + how_many n g
count_either zero f g = omega arith
count_either (suc n) f g =
    let r : how_many n (λ i. f i || g i) ≤ how_many n f + how_many n g = count_either n f g in
    case_b (f n)
    (λ a. case_b (g n) (λ b. rw (a, b) (omega arith)) (λ b. rw (a, b) (omega arith)))
    (λ a. case_b (g n) (λ b. rw (a, b) (omega arith)) (λ b. rw (a, b) (omega arith)))

used_most : (bs : List Buffer) (n : ℕ) → how_many n (uses bs) ≤ length bs
used_most [] n = omega (arith, count_none n (uses []) (λ i l. refl))
used_most (b ∷ bs) n = omega (arith, count_either n (λ i. eqb b.block i) (uses bs), one_most n b.block, used_most bs n)

unused : (bs : List Buffer) (n : ℕ) → uses bs n ≡ false → Each (λ (b : Buffer). b.block ≢ n) bs
unused [] n e = tt
unused (b ∷ bs) n e = case_b (eqb b.block n) (λ q. clash (cc)) (λ q. (eqb-false b.block n q, unused bs n (rw q at e)))

spare_is : (bs : List Buffer) → length bs < 4 → (spare bs < 4) × Each (λ (b : Buffer). b.block ≢ spare bs) bs
unfolding spare
spare_is bs l =
    case_b (uses bs 0)
    (λ a. case_b (uses bs 1)
    (λ b. case_b (uses bs 2)
    (λ c. case_b (uses bs 3)
    (λ d. absurd (omega (arith, used_most bs 4, count_all 4 (uses bs) (all_four a b c d))))
    (λ d. rw (a, b, c) (omega arith, unused bs 3 d)))
    (λ c. rw (a, b, c) (omega arith, unused bs 2 c)))
    (λ b. rw (a, b) (omega arith, unused bs 1 b)))
    (λ a. rw a (omega arith, unused bs 0 a))
  where
    all_four : uses bs 0 ≡ true → uses bs 1 ≡ true → uses bs 2 ≡ true → uses bs 3 ≡ true → (i : ℕ) → i < 4 → uses bs i ≡ true
    all_four a b c d zero h = a
    all_four a b c d (suc zero) h = b
    all_four a b c d (suc (suc zero)) h = c
    all_four a b c d (suc (suc (suc zero))) h = d
    all_four a b c d (suc (suc (suc (suc i)))) h = absurd (omega arith)

-- ---- a rebuilt frame is as long as it says

pub rebuilt-length : (gs : List Part) (n : ℕ) (bs : List ℕ) → rebuilt gs n ≡ some bs → length bs ≡ n
unfolding rebuilt
rebuilt-length gs zero bs e = let z : [] ≡ bs = cc in ap length (sym z)
rebuilt-length gs (suc n) bs e = more (rebuilt gs n) (byte_at gs n) (λ cs q. rebuilt-length gs n cs q) e
  where
    more : (x : Option (List ℕ)) (y : Option ℕ) → ((cs : List ℕ) → x ≡ some cs → length cs ≡ n) → followed_by x y ≡ some bs → length bs ≡ suc n
    more none y h e = clash (cc)
    more (some cs) none h e = clash (cc)
    more (some cs) (some c) h e =
        let z : cs ++ (c ∷ []) ≡ bs = cc in
        ap length (sym z) ∙ length-append cs (c ∷ []) ∙ omega (arith, h cs refl)

-- ---- what a peer's state and its memory keep to

pub record Valid (p : ℕ) (m : List ℕ) (bs : List Buffer) : Type 0 where
  pub shape : Each Shape bs
  pub apart : Apart bs
  pub fit : Fit (frames_in p m bs)

all_sound : (p : ℕ) (m : List ℕ) (bs : List Buffer) → Each Shape bs → Each Bounds (frames_in p m bs) → Each (Sound p m) bs
all_sound p m [] s r = tt
all_sound p m (b ∷ bs) s r = (record { shape = s.0; bounds = r.0 }, all_sound p m bs s.1 r.1)

pub valid_sound : (p : ℕ) (m : List ℕ) (bs : List Buffer) → Valid p m bs → Each (Sound p m) bs
valid_sound p m bs h = all_sound p m bs h.shape h.fit.each

-- frames that read the same are sound there too
sound_moves : (p : ℕ) (m m' : List ℕ) (bs : List Buffer) → Each (Sound p m) bs → frames_in p m' bs ≡ frames_in p m bs → Each (Sound p m') bs
sound_moves p m m' [] h e = tt
sound_moves p m m' (b ∷ bs) h e =
    let x : frame_in p m' b ≡ frame_in p m b = cc in
    let y : frames_in p m' bs ≡ frames_in p m bs = cc in
    (record { shape = h.0.shape; bounds = subst Bounds (sym x) h.0.bounds }, sound_moves p m m' bs h.1 y)

-- ---- what is to be shown of an effect

pub record Reads (p : ℕ) (m : List ℕ) (e : Effect) (t : Taken) : Type 0 where
  pub result : e.result ≡ t.result
  pub frames : frames_in p e.mem e.buffers ≡ t.frames
  pub shape : Each Shape e.buffers
  pub apart : Apart e.buffers
  pub size : length e.mem ≡ length m
  -- nothing behind the memory that is needed is touched
  pub beyond : (i : ℕ) → need ≤ i → get_or e.mem i 0 ≡ get_or m i 0
  -- no frame of another peer is touched
  pub others : (q : ℕ) → q < 8 → q ≢ p → (bs : List Buffer) → Each (Sound q m) bs → frames_in q e.mem bs ≡ frames_in q m bs
  -- a complete frame lies behind the blocks
  pub frame : (note : Note) (bytes : List ℕ) → e.result ≡ complete note bytes → bytes_at e.mem rebuilt_at (length bytes) ≡ bytes

leaves-reads : (p : ℕ) (m : List ℕ) (bs : List Buffer) (r : Result) → ((note : Note) (bytes : List ℕ) → r ≡ complete note bytes → ⊥) → Valid p m bs
    → Reads p m (leaves bs m r) (refuses (frames_in p m bs) r)
leaves-reads p m bs r n h =
    record {
      result = refl;
      frames = refl;
      shape = h.shape;
      apart = h.apart;
      size = refl;
      beyond = λ i l. refl;
      others = λ q l d cs s. refl;
      frame = λ note bytes e. absurd (n note bytes e);
    }

-- bytes have been written to block n of peer p, and buffer b, which lies there, is frame f
module _ (p n k : ℕ) (bytes m : List ℕ) (p< : p < 8) (n< : n < 4) (big : need ≤ length m) (room : k + length bytes ≤ 1536) (bs : List Buffer)
    (h : Valid p m bs) where
  abbrev m' : List ℕ
  m' = stored m (block_at p n + k) bytes

  others_left : (q : ℕ) → q < 8 → q ≢ p → (cs : List Buffer) → Each (Sound q m) cs → frames_in q m' cs ≡ frames_in q m cs
  others_left q l d cs s =
      all_left p n k bytes m room q cs
      (each_so (Sound q m) (λ (b : Buffer). 4 * p + n ≢ 4 * q + b.block) cs (λ b t z. let c : b.block < 4 = t.shape.is_block in d (omega arith)) s) s

  beyond_left : (i : ℕ) → need ≤ i → get_or m' i 0 ≡ get_or m i 0
  beyond_left i l = stored_out m (block_at p n + k) bytes i (inr (omega arith))

  -- a frame rebuilt behind the blocks touches none of them
  behind : (frame : List ℕ) → length frame ≤ 1536 → (q : ℕ) → q < 8 → (cs : List Buffer) → Each (Sound q m') cs
      → frames_in q (stored m' rebuilt_at frame) cs ≡ frames_in q m' cs
  behind frame l q q< cs s =
      all_left 8 0 0 frame m' (omega arith) q cs
      (each_so (Sound q m') (λ (b : Buffer). 4 * 8 + 0 ≢ 4 * q + b.block) cs (λ b t z. let c : b.block < 4 = t.shape.is_block in absurd (omega arith)) s) s

  settled-reads : (b : Buffer) (f : Frame) (gs : List Part) (x : Option (List ℕ)) → b.block ≡ n → Shape b → frame_in p m' b ≡ f → gs ≡ f.parts → f.size ≤ 1532
      → Each (ThisOr b.identifier n) bs → rebuilt f.parts f.size ≡ x
      → Reads p m (settled_in bs m' b gs x) (settled (frames_in p m bs) f x)
  settled-reads b f gs none bn sb e g l s r =
      record {
        result = refl;
        frames = put-frames p n k bytes m room b bs h.apart (valid_sound p m bs h) s ∙ ap (λ (t : Frame). put identifier_of t (frames_in p m bs)) e;
        shape = each-put identifier_in Shape b bs sb h.shape;
        apart = apart_put b bs h.apart (rw bn s);
        size = length-stored m (block_at p n + k) bytes;
        beyond = beyond_left;
        others = others_left;
        frame = λ note frame q. let z : waits ≡ complete note frame = q in clash (cc);
      }
  settled-reads b f gs (some frame) bn sb e g l s r =
      let fl : length frame ≤ 1532 = omega (arith, rebuilt-length f.parts f.size frame r) in
      let i : b.identifier ≡ f.identifier = ap identifier_of e in
      let ws : Each (Sound p m) (without identifier_in b.identifier bs) = each-without identifier_in (Sound p m) b.identifier bs (valid_sound p m bs h) in
      let w : frames_in p m' (without identifier_in b.identifier bs) ≡ frames_in p m (without identifier_in b.identifier bs) =
      own-left p n k bytes m room (without identifier_in b.identifier bs) (gone_unused b.identifier n bs s) ws in
      record {
        result = ap (λ (t : List Part). complete (notes t) frame) g;
        frames =
            behind frame (omega arith) p p< (without identifier_in b.identifier bs) (sound_moves p m m' (without identifier_in b.identifier bs) ws w)
            ∙ w ∙ without-frames p m b.identifier bs ∙ ap (λ (t : ℕ). without identifier_of t (frames_in p m bs)) i;
        shape = each-without identifier_in Shape b.identifier bs h.shape;
        apart = apart_without b.identifier bs h.apart;
        size = length-stored m' rebuilt_at frame ∙ length-stored m (block_at p n + k) bytes;
        beyond = λ j o. stored_out m' rebuilt_at frame j (inr (omega arith)) ∙ beyond_left j o;
        others = λ q q< d cs ss.
            let v : frames_in q m' cs ≡ frames_in q m cs = others_left q q< d cs ss in
            behind frame (omega arith) q q< cs (sound_moves q m m' cs ss v) ∙ v;
        frame = λ note frame' q.
            let z : frame ≡ frame' = cc in rw (← z) (bytes_back m' rebuilt_at frame (omega (arith, length-stored m (block_at p n + k) bytes)));
      }

  rebuilt-reads : (b : Buffer) (f : Frame) → b.block ≡ n → Shape b → frame_in p m' b ≡ f → f.size ≤ 1532 → Each (ThisOr b.identifier n) bs
      → Reads p m (rebuilt_in p bs m' b) (takes (frames_in p m bs) f)
  rebuilt-reads b f bn sb e l s =
      let g : (frame_in p m' b).parts ≡ f.parts = ap (λ (t : Frame). t.parts) e in
      let z : b.frame_length ≡ f.size = ap (λ (t : Frame). t.size) e in
      let r : rebuilt (frame_in p m' b).parts b.frame_length ≡ rebuilt f.parts f.size = rw (g, z) in
      rw r (settled-reads b f (frame_in p m' b).parts (rebuilt f.parts f.size) bn sb e g l s refl)

-- ---- a segment joins a frame

joined-reads : (p : ℕ) (bs : List Buffer) (m : List ℕ) (g : Seg) (b : Buffer) → p < 8 → need ≤ length m → Valid p m bs → Shape b → kept b < most_segments
    → begins b.extents (kept b) + length g.bytes ≤ 1532 → b.frame_length ≤ 1532 → Each (ThisOr b.identifier b.block) bs
    → Reads p m (joined_in p bs m g b) (takes (frames_in p m bs) (further (frame_in p m b) g))
unfolding joined_in
joined-reads p bs m g b p< big h sb c room l s =
    rebuilt-reads p b.block (begins b.extents (kept b)) g.bytes m p< sb.is_block big (omega (arith, room)) bs h
    (added b g.offset (length g.bytes)) (further (frame_in p m b) g) refl
    (record {
      is_block = sb.is_block;
      sixty_four = length-set b.extents b.count (record { offset = g.offset; length = length g.bytes }) ∙ sb.sixty_four;
    })
    (further-frame p m b g p< big sb c room) l s

rejects_not : (r : Rejection) (note : Note) (bytes : List ℕ) → rejects r ≡ complete note bytes → ⊥
rejects_not r note bytes e = clash (cc)

too_many_not : (note : Note) (bytes : List ℕ) → too_many ≡ complete note bytes → ⊥
too_many_not note bytes e = clash (cc)

looked-reads : (p : ℕ) (bs : List Buffer) (m : List ℕ) (g : Seg) → p < 8 → need ≤ length m → Valid p m bs → Fits g → (x : Option Buffer)
    → find identifier_in g.identifier bs ≡ x → Reads p m (looked_in p bs m g x) (looked (frames_in p m bs) g (found_in p m x))
unfolding opened_in further_in
looked-reads p bs m g p< big h t none e =
    let n : length (frames_in p m bs) ≡ length bs = length-map bs (frame_in p m) in
    case_b (leb 4 (length bs))
    (λ q. rw (n, q) (leaves-reads p m bs (rejects NoSlot) (rejects_not NoSlot) h))
    (λ q. let b = spare_is bs (omega (arith, leb-false 4 (length bs) q)) in
    let new : Buffer = blank (spare bs) g.identifier g.frame_length in
    let z : begins new.extents 0 ≡ 0 = begins-none new.extents in
    rw (n, q)
    (subst (λ (f : Frame). Reads p m (joined_in p bs m g (blank (spare bs) g.identifier g.frame_length)) (takes (frames_in p m bs) f))
    (opened_frame p m (spare bs) g)
    (joined-reads p bs m g (blank (spare bs) g.identifier g.frame_length) p< big h (record { is_block = b.0; sixty_four = refl }) (omega arith)
    (omega (arith, t.inside, t.most)) t.most (this_new g.identifier (spare bs) bs e b.1))))
looked-reads p bs m g p< big h t (some b) e =
    let v : Sound p m b = each-find identifier_in (Sound p m) g.identifier bs b (valid_sound p m bs h) e in
    let i : b.identifier ≡ g.identifier = find_key identifier_in g.identifier bs b e in
    let c : length (frame_in p m b).parts ≡ kept b = length-parts b.extents m (block_at p b.block) (kept b) in
    case_b (eqb b.frame_length g.frame_length)
    (λ a. let z : b.frame_length ≡ g.frame_length = eqb-true b.frame_length g.frame_length a in
    let l : g.offset + length g.bytes ≤ b.frame_length = omega (arith, t.inside) in
    case_b (repeats (frame_in p m b).parts (part_of g))
    (λ r. rw (a, r) (leaves-reads p m bs (rejects AlreadyReceived) (rejects_not AlreadyReceived) h))
    (λ r. case_b (leb most_segments (kept b))
    (λ q. rw (a, r, c, q) (leaves-reads p m bs too_many too_many_not h))
    (λ q. rw (a, r, c, q)
    (joined-reads p bs m g b p< big h v.shape (leb-false most_segments (kept b) q) (room_for p m b g v l r) v.bounds.longest
    (rw i (this_found g.identifier bs b h.apart e))))))
    (λ a. rw a (leaves-reads p m bs (rejects LengthDiffers) (rejects_not LengthDiffers) h))

-- ---- THE THEOREM

pub taken-reads : (p : ℕ) (bs : List Buffer) (m : List ℕ) (g : Seg) → p < 8 → need ≤ length m → Valid p m bs
    → Reads p m (taken_in p bs m g) (taken (frames_in p m bs) g)
unfolding taken taken_in
taken-reads p bs m g p< big h =
    case_b (eqb (length g.bytes) 0)
    (λ a. rw a (leaves-reads p m bs (rejects Empty) (rejects_not Empty) h))
    (λ a. case_b (ltb g.frame_length 32 || ltb 1532 g.frame_length)
    (λ b. rw (a, b) (leaves-reads p m bs (rejects FrameLength) (rejects_not FrameLength) h))
    (λ b. case_b (ltb g.frame_length (g.offset + length g.bytes))
    (λ c. rw (a, b, c) (leaves-reads p m bs (rejects PastEnd) (rejects_not PastEnd) h))
    (λ c. rw (a, b, c, find-frames p m g.identifier bs)
    (looked-reads p bs m g p< big h (fits_by g a b c) (find identifier_in g.identifier bs) refl))))

-- and the state is again one that such calls leave
pub taken_valid : (p : ℕ) (bs : List Buffer) (m : List ℕ) (g : Seg) → p < 8 → need ≤ length m → Valid p m bs
    → Valid p (taken_in p bs m g).mem (taken_in p bs m g).buffers
taken_valid p bs m g p< big h =
    let r : Reads p m (taken_in p bs m g) (taken (frames_in p m bs) g) = taken-reads p bs m g p< big h in
    record { shape = r.shape; apart = r.apart; fit = subst Fit (sym r.frames) (taken-fits (frames_in p m bs) g h.fit) }

-- so is a tick's
pub older_valid : (p : ℕ) (bs : List Buffer) (m : List ℕ) → Valid p m bs → Valid p m (older_buffers bs)
older_valid p bs m h =
    record {
      shape = each-older Shape (λ b s. record { is_block = s.is_block; sixty_four = s.sixty_four }) bs h.shape;
      apart = apart_older bs h.apart;
      fit = subst Fit (sym (older-frames p m bs)) (older-fits (frames_in p m bs) h.fit);
    }
