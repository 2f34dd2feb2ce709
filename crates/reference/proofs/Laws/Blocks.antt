-- A peer's frames in their blocks (Layout.antt): bytes written to one block leave the frames of all others, of this peer and of every other; and a frame that
-- is put into the list, goes, or grows older is read back as the definition's.
use Rattle.std.specs.Prelude.{◌≡◌, ◌⊎◌, ◌≢◌, ℕ, suc, ◌+◌, ◌*◌, ◌≤◌, ◌<◌, length, ltb}
use Rattle.std.proofs.Math.Path.{refl, sym}
use Rattle.std.proofs.Common.{ap, subst, ◌∙◌, inl, inr, arith}
use Rattle.std.proofs.Math.Bool.{true, false}
use mathlib.Core.List.{List, [], ◌∷◌}
use Rattle.std.proofs.Math.Option.{Option, none, some}
use Rattle.std.proofs.Math.Dec.{eqb}
use borrow.Author.Tests.{ltb-true, ltb-false, eqb-true, eqb-false, eq-eqb, ne_eqb}
use Rattle.reassembly.specs.Take.{Seg}
use Rattle.reassembly.proofs.Laws.Base.{case_b, either, clash}
use Rattle.reference.specs.Keyed.{find, put, without}
use Rattle.reference.specs.Reassembler.{Part, Frame, repeats, aged, older, identifier_of, part_of, opened, further, most_segments}
use Rattle.reference.specs.Run.{need}
use Rattle.reference.specs.Many.{Bounds, Each}
use Rattle.reference.specs.Layout.{kept, begins, stored, added, block_at, frame_in, frames_in, identifier_in, aged_buffer, older_buffers, blank}
use Rattle.reference.proofs.Laws.Each.{each_so, each-find, each-put, each-without, each-other}
use Rattle.reference.proofs.Laws.Room.{total-fits, total-more}
use Rattle.reference.proofs.Laws.Parts.{stored_out, begins-total, parts_none, parts_same, parts_more}
use Rattle.reference.specs.declared.buffer.Buffer.{Buffer}

-- ---- a list of frames, read back

abbrev pub found_in : ℕ → List ℕ → Option Buffer → Option Frame
found_in p m none = none
found_in p m (some b) = some (frame_in p m b)

pub find-frames : (p : ℕ) (m : List ℕ) (id : ℕ) (bs : List Buffer) → find identifier_of id (frames_in p m bs) ≡ found_in p m (find identifier_in id bs)
unfolding find
find-frames p m id [] = refl
find-frames p m id (b ∷ bs) = case_b (eqb b.identifier id) (λ e. rw e) (λ e. rw e (find-frames p m id bs))

pub without-frames : (p : ℕ) (m : List ℕ) (id : ℕ) (bs : List Buffer)
    → frames_in p m (without identifier_in id bs) ≡ without identifier_of id (frames_in p m bs)
unfolding without
without-frames p m id [] = refl
without-frames p m id (b ∷ bs) =
    case_b (eqb b.identifier id)
    (λ e. rw e (without-frames p m id bs))
    (λ e. rw e (ap (λ (x : List Frame). frame_in p m b ∷ x) (without-frames p m id bs)))

-- a tick needs no memory
pub older-frames : (p : ℕ) (m : List ℕ) (bs : List Buffer) → frames_in p m (older_buffers bs) ≡ older (frames_in p m bs)
unfolding older older_buffers
older-frames p m [] = refl
older-frames p m (b ∷ bs) =
    case_b (ltb (b.age + 1) 4)
    (λ e. rw e (ap (λ (x : List Frame). aged (frame_in p m b) ∷ x) (older-frames p m bs)))
    (λ e. rw e (older-frames p m bs))

-- ---- what a frame in its block keeps to

pub record Shape (b : Buffer) : Type 0 where
  pub is_block : b.block < 4
  pub sixty_four : length b.extents ≡ most_segments

pub record Sound (p : ℕ) (m : List ℕ) (b : Buffer) : Type 0 where
  pub shape : Shape b
  pub bounds : Bounds (frame_in p m b)

-- no block and no identifier twice
abbrev pub Other : Buffer → Buffer → Type 0
Other b c = (c.block ≢ b.block) × (c.identifier ≢ b.identifier)

abbrev pub Apart : List Buffer → Type 0
Apart [] = Unit {0}
Apart (b ∷ bs) = Each (Other b) bs × Apart bs

-- a frame's bytes lie in its block
in_block : (p : ℕ) (m : List ℕ) (b : Buffer) → Sound p m b → begins b.extents (kept b) ≤ 1532
in_block p m b h =
    omega (
      arith,
      begins-total b.extents m (block_at p b.block) (kept b),
      total-fits b.frame_length (frame_in p m b).parts h.bounds.once,
      h.bounds.longest,
    )

-- ---- a segment more

-- there is room for it
pub room_for : (p : ℕ) (m : List ℕ) (b : Buffer) (g : Seg) → Sound p m b → g.offset + length g.bytes ≤ b.frame_length
    → repeats (frame_in p m b).parts (part_of g) ≡ false → begins b.extents (kept b) + length g.bytes ≤ 1532
room_for p m b g h l r =
    omega (
      arith,
      total-fits b.frame_length (part_of g ∷ (frame_in p m b).parts) (l, r, h.bounds.once),
      total-more (part_of g) (frame_in p m b).parts,
      begins-total b.extents m (block_at p b.block) (kept b),
      h.bounds.longest,
    )

pub further-frame : (p : ℕ) (m : List ℕ) (b : Buffer) (g : Seg) → p < 8 → need ≤ length m → Shape b → kept b < most_segments
    → begins b.extents (kept b) + length g.bytes ≤ 1532
    → frame_in p (stored m (block_at p b.block + begins b.extents (kept b)) g.bytes) (added b g.offset (length g.bytes))
    ≡ further (frame_in p m b) g
further-frame p m b g p< o h c l =
    let k : kept b ≡ b.count = omega arith in
    let k' : kept (added b g.offset (length g.bytes)) ≡ suc b.count = omega arith in
    let l' : begins b.extents b.count + length g.bytes ≤ 1532 = rw k at l in
    ap (λ (x : List Part). record { identifier = b.identifier; size = b.frame_length; age = b.age; parts = x })
    (rw (k', k) (parts_more b.extents m (block_at p b.block) b.count (part_of g) (omega (arith, h.sixty_four)) (omega (arith, h.is_block))))

-- the first
pub opened_frame : (p : ℕ) (m : List ℕ) (n : ℕ) (g : Seg) → further (frame_in p m (blank n g.identifier g.frame_length)) g ≡ opened g
opened_frame p m n g =
    ap (λ (x : List Part). record { identifier = g.identifier; size = g.frame_length; age = 0; parts = part_of g ∷ x })
    (parts_none (blank n g.identifier g.frame_length).extents m (block_at p n))

-- ---- every frame is the one that was written, or another and in another block

abbrev pub ThisOr : ℕ → ℕ → Buffer → Type 0
ThisOr id n b = ((b.identifier ≡ id) × (b.block ≡ n)) ⊎ ((b.identifier ≢ id) × (b.block ≢ n))

-- a new identifier and an unused block
pub this_new : (id n : ℕ) (bs : List Buffer) → find identifier_in id bs ≡ none → Each (λ (b : Buffer). b.block ≢ n) bs → Each (ThisOr id n) bs
this_new id n bs e u = both bs (each-other identifier_in id bs e) u
  where
    both : (cs : List Buffer) → Each (λ (b : Buffer). b.identifier ≢ id) cs → Each (λ (b : Buffer). b.block ≢ n) cs → Each (ThisOr id n) cs
    both [] d u = tt
    both (c ∷ cs) d u = (inr (d.0, u.0), both cs d.1 u.1)

-- the frame that was found, and its block
pub this_found : (id : ℕ) (bs : List Buffer) (b : Buffer) → Apart bs → find identifier_in id bs ≡ some b → Each (ThisOr id b.block) bs
unfolding find
this_found id [] b a e = clash (cc)
this_found id (x ∷ xs) b a e =
    case_b (eqb x.identifier id)
    (λ q. let z : some x ≡ some b = rw q at e in
    let y : x ≡ b = cc in
    let i : x.identifier ≡ id = eqb-true x.identifier id q in
    subst (λ (t : Buffer). Each (ThisOr id t.block) (x ∷ xs)) y
    (inl (i, refl), each_so (Other x) (ThisOr id x.block) xs (λ c d. inr (λ w. d.1 (w ∙ sym i), d.0)) a.0))
    (λ q. let e' : find identifier_in id xs ≡ some b = rw q at e in
    let d : Other x b = each-find identifier_in (Other x) id xs b a.0 e' in
    (inr (eqb-false x.identifier id q, λ w. d.0 (sym w)), this_found id xs b a.1 e'))

-- ---- bytes written at k of block n of peer p
module _ (p n k : ℕ) (bytes m : List ℕ) (l : k + length bytes ≤ 1536) where
  outside : (x y i : ℕ) → x ≢ y → i < 1536 → (y * 1536 + i < x * 1536 + k) ⊎ (x * 1536 + k + length bytes ≤ y * 1536 + i)
  outside x y i d r =
      case_b (ltb y x)
      (λ e. let z : y < x = ltb-true y x e in inl (omega arith))
      (λ e. let z : x ≤ y = ltb-false y x e in inr (omega arith))

  left : (q : ℕ) (b : Buffer) → 4 * p + n ≢ 4 * q + b.block → Sound q m b → frame_in q (stored m (block_at p n + k) bytes) b ≡ frame_in q m b
  left q b d h =
      ap (λ (x : List Part). record { identifier = b.identifier; size = b.frame_length; age = b.age; parts = x })
      (parts_same b.extents b.extents m (stored m (block_at p n + k) bytes) (block_at q b.block) (kept b) (λ j r. refl)
      (λ i r. stored_out m (block_at p n + k) bytes (block_at q b.block + i) (outside (4 * p + n) (4 * q + b.block) i d (omega (arith, in_block q m b h)))))

  -- frames in other blocks are left
  pub all_left : (q : ℕ) (bs : List Buffer) → Each (λ (b : Buffer). 4 * p + n ≢ 4 * q + b.block) bs → Each (Sound q m) bs
      → frames_in q (stored m (block_at p n + k) bytes) bs ≡ frames_in q m bs
  all_left q [] d h = refl
  all_left q (b ∷ bs) d h = cc (left q b d.0 h.0, all_left q bs d.1 h.1)

  pub own-left : (bs : List Buffer) → Each (λ (b : Buffer). b.block ≢ n) bs → Each (Sound p m) bs
      → frames_in p (stored m (block_at p n + k) bytes) bs ≡ frames_in p m bs
  own-left bs u h = all_left p bs (each_so (λ (b : Buffer). b.block ≢ n) (λ (b : Buffer). 4 * p + n ≢ 4 * p + b.block) bs (λ b d z. d (omega arith)) u) h

  -- the frame that lies there is put into the list
  pub put-frames : (b : Buffer) (bs : List Buffer) → Apart bs → Each (Sound p m) bs → Each (ThisOr b.identifier n) bs
      → frames_in p (stored m (block_at p n + k) bytes) (put identifier_in b bs)
      ≡ put identifier_of (frame_in p (stored m (block_at p n + k) bytes) b) (frames_in p m bs)
  unfolding put
  put-frames b [] a h s = refl
  put-frames b (x ∷ xs) a h s =
      either s.0
      (λ c. let y : eqb x.identifier b.identifier ≡ true = eq-eqb x.identifier b.identifier c.0 in
      rw y
      (ap (λ (t : List Frame). frame_in p (stored m (block_at p n + k) bytes) b ∷ t)
      (own-left xs (each_so (Other x) (λ (d : Buffer). d.block ≢ n) xs (λ d o z. o.0 (z ∙ sym c.1)) a.0) h.1)))
      (λ c. let y : eqb x.identifier b.identifier ≡ false = ne_eqb x.identifier b.identifier c.0 in
      rw y (cc (left p x (λ z. c.1 (omega arith)) h.0, put-frames b xs a.1 h.1 s.1)))

-- ---- no block and no identifier twice, after each

pub apart_put : (b : Buffer) (bs : List Buffer) → Apart bs → Each (ThisOr b.identifier b.block) bs → Apart (put identifier_in b bs)
unfolding put
apart_put b [] a s = (tt, tt)
apart_put b (x ∷ xs) a s =
    either s.0
    (λ c. rw (eq-eqb x.identifier b.identifier c.0)
    (each_so (Other x) (Other b) xs (λ d o. (λ z. o.0 (z ∙ sym c.1), λ z. o.1 (z ∙ sym c.0))) a.0, a.1))
    (λ c. rw (ne_eqb x.identifier b.identifier c.0)
    (each-put identifier_in (Other x) b xs (λ z. c.1 (sym z), λ z. c.0 (sym z)) a.0, apart_put b xs a.1 s.1))

pub apart_without : (id : ℕ) (bs : List Buffer) → Apart bs → Apart (without identifier_in id bs)
unfolding without
apart_without id [] a = tt
apart_without id (x ∷ xs) a =
    case_b (eqb x.identifier id)
    (λ e. rw e (apart_without id xs a.1))
    (λ e. rw e (each-without identifier_in (Other x) id xs a.0, apart_without id xs a.1))

-- once the frame that was written is gone, all that is left lies in other blocks
pub gone_unused : (id n : ℕ) (bs : List Buffer) → Each (ThisOr id n) bs → Each (λ (b : Buffer). b.block ≢ n) (without identifier_in id bs)
unfolding without
gone_unused id n [] s = tt
gone_unused id n (x ∷ xs) s =
    either s.0
    (λ c. rw (eq-eqb x.identifier id c.0) (gone_unused id n xs s.1))
    (λ c. rw (ne_eqb x.identifier id c.0) (c.1, gone_unused id n xs s.1))

-- what ageing leaves
pub each-older : (P : Buffer → Type 0) → ((b : Buffer) → P b → P (aged_buffer b)) → (bs : List Buffer) → Each P bs → Each P (older_buffers bs)
unfolding older_buffers
each-older P f [] h = tt
each-older P f (x ∷ xs) h = case_b (ltb (x.age + 1) 4) (λ e. rw e (f x h.0, each-older P f xs h.1)) (λ e. rw e (each-older P f xs h.1))

pub apart_older : (bs : List Buffer) → Apart bs → Apart (older_buffers bs)
unfolding older_buffers
apart_older [] a = tt
apart_older (x ∷ xs) a =
    case_b (ltb (x.age + 1) 4)
    (λ e. rw e (each-older (Other x) (λ b o. o) xs a.0, apart_older xs a.1))
    (λ e. rw e (apart_older xs a.1))
