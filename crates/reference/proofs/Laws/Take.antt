-- The ways out of taking a segment, as the code takes them (src/take.rt).
use Rattle.std.specs.Prelude.{◌≡◌, ◌≢◌, true, false, List, ℕ, ◌+◌, ◌≤◌, ◌<◌, take, length, position, eqb, get_or, is_some, Bool, Option, Some, None, Ok, Err}
use Rattle.std.proofs.Common.{refl, sym, ap, ◌∙◌, arith}
use Rattle.std.proofs.Math.Option as Math
use Rattle.std.proofs.Math.Option.{none, some}
use Rattle.std.proofs.lemmas.Option.{none-some}
use borrow.Author.Tests.{le-ltb, le-leb, lt-leb, eq-eqb, ne_eqb}
use Rattle.reassembly.specs.Base.{some_below}
use Rattle.reassembly.proofs.Laws.Base.{clash, some_below_ext}
use Rattle.reassembly.specs.Take.{Seg, Fits}
use Rattle.reassembly.specs.declared.take.Rejection.{Rejection}
use Rattle.reassembly.specs.declared.take.Rejection.TheVariants.{AlreadyReceived, NoSlot}
use Rattle.reference.specs.Keyed.{find, put, without}
use Rattle.reference.proofs.Laws.Keyed.{find_key}
use Rattle.reference.proofs.Laws.Layout.{rebuilt-length}
use Rattle.reference.proofs.Laws.Lists.{find_absent, find_at}
use Rattle.reference.proofs.Laws.Places.{byte_missing, byte_there}
use Rattle.reference.specs.Reassembler as R
use Rattle.reference.specs.Reassembler.{Part, byte_at, rebuilt, repeats, rejects, part_of, most_segments}
use Rattle.reference.specs.Run.{rebuilt_at}
use Rattle.reference.specs.Layout.{kept, begins, parts_in, place_in, stored, Rebuilds, added, block_at, frame_in, identifier_in, no_buffer, spare, blank}
use Rattle.reference.specs.Layout.{refusal_of, leaves, settled_in, joined_in, opened_in, further_in, taken_in, TakenAs, Unfit, Excludes, Admits, Refuses, Joins}
use Rattle.reference.specs.declared.answer.Refusal.{Refusal}
use Rattle.reference.specs.declared.answer.Refusal.TheVariants.{TooManySegments}
use Rattle.reference.specs.declared.buffer.Extent.{Extent}
use Rattle.reference.specs.declared.buffer.Buffer.{Buffer}
use Rattle.reference.specs.declared.take.Progress.TheVariants.{Pending, Complete}

-- ---- 14

refused_as : (bs : List Buffer) (m : List ℕ) (why : Rejection) (x : _) → x ≡ leaves bs m (rejects why) → TakenAs x (Err (refusal_of why)) bs m
refused_as bs m why x e = rw e (record { outcome = refl; buffers = refl; mem = refl })

pub unfit-refuses : (bs : List Buffer) (g : Seg) (why : Rejection) → Unfit g why → Refuses bs g (refusal_of why)
unfit-refuses bs g why h p m = refused_as bs m why (taken_in p bs m g) (h p bs m)

-- ---- 14 does not apply: by what the search found

some_byte_not : (n : ℕ) → 0 < n → n ≢ 0
some_byte_not n l e = absurd (omega arith)

module _ (bs : List Buffer) (g : Seg) (fits : Fits g) where
  taken-new : (p : ℕ) (m : List ℕ) → find identifier_in g.identifier bs ≡ none → taken_in p bs m g ≡ opened_in p bs m g
  unfolding taken_in
  taken-new p m e = rw (
    ne_eqb (length g.bytes) 0 (some_byte_not (length g.bytes) fits.some_byte),
    le-ltb g.frame_length 32 fits.least,
    le-ltb 1532 g.frame_length fits.most,
    le-ltb g.frame_length (g.offset + length g.bytes) fits.inside,
    e,
  )

  taken-further : (p : ℕ) (m : List ℕ) (b : Buffer) → find identifier_in g.identifier bs ≡ some b → taken_in p bs m g ≡ further_in p bs m g b
  unfolding taken_in
  taken-further p m b e = rw (
    ne_eqb (length g.bytes) 0 (some_byte_not (length g.bytes) fits.some_byte),
    le-ltb g.frame_length 32 fits.least,
    le-ltb 1532 g.frame_length fits.most,
    le-ltb g.frame_length (g.offset + length g.bytes) fits.inside,
    e,
  )

  -- ---- the first segment of a frame

  module _ (new : position (λ b. eqb b.identifier g.identifier) bs ≡ None) where
    absent : find identifier_in g.identifier bs ≡ none
    absent = find_absent identifier_in no_buffer g.identifier bs new

    pub new-refuses : (why : Rejection) → (why ≡ NoSlot) × (4 ≤ length bs) → Refuses bs g (refusal_of why)
    unfolding opened_in
    new-refuses why h p m = rw h.0 (refused_as bs m NoSlot (taken_in p bs m g) (taken-new p m absent ∙ rw (le-leb 4 (length bs) h.1)))

    pub new-joins : (b : Buffer) → (b ≡ blank (spare bs) g.identifier g.frame_length) × (length bs < 4) → Joins bs g b
    unfolding opened_in
    new-joins b h =
        rw h.0
        (record {
          fits = fits;
          size = refl;
          few = omega arith;
          room = λ e. h.1;
          effect = λ p m. taken-new p m absent ∙ rw (lt-leb 4 (length bs) h.1);
        })

  -- ---- a further segment

  module _ (i : ℕ) (found : position (λ b. eqb b.identifier g.identifier) bs ≡ Some i) where
    abbrev b : Buffer
    b = get_or bs i no_buffer

    present : find identifier_in g.identifier bs ≡ some b
    present = find_at identifier_in no_buffer g.identifier bs i found

    pub further-refuses : (why : Refusal) → Excludes b g why → Refuses bs g why
    further-refuses why h p m = rw (taken-further p m b present) (h p bs m)

    -- a frame that was found is in the list: nothing need be appended for it
    pub further-joins : Admits b g → Joins bs g b
    further-joins h =
        let z : b.identifier ≡ g.identifier = find_key identifier_in g.identifier bs b present in
        record {
          fits = fits;
          size = h.size;
          few = h.few;
          room = λ e. let y : find identifier_in g.identifier bs ≡ none = rw z at e in clash (cc (y, present));
          effect = λ p m. taken-further p m b present ∙ h.effect p bs m;
        }

-- which bytes are there already
has_place : (es : List Extent) (m : List ℕ) (block n i : ℕ) → (o : Option ℕ) → place_in es n i ≡ o → is_some o ≡ R.is_some (byte_at (parts_in es m block n) i)
has_place es m block n i None e = rw (byte_missing es m block n i e)
has_place es m block n i (Some at) e = rw (byte_there es m block n i at e)

pub repeats_places : (p : ℕ) (m : List ℕ) (b : Buffer) (g : Seg)
    → some_below (length g.bytes) (λ i. is_some (place_in b.extents (kept b) (g.offset + i))) ≡ repeats (frame_in p m b).parts (part_of g)
unfolding repeats
repeats_places p m b g =
    some_below_ext (length g.bytes) _ _ (λ i l. has_place b.extents m (block_at p b.block) (kept b) (g.offset + i) _ refl)

module _ (b : Buffer) (g : Seg) where
  module _ (same : b.frame_length ≡ g.frame_length) (x : Bool)
      (is : x ≡ some_below (length g.bytes) (λ i. is_some (place_in b.extents (kept b) (g.offset + i)))) where
    repeats_is : (p : ℕ) (m : List ℕ) → x ≡ repeats (frame_in p m b).parts (part_of g)
    repeats_is p m = is ∙ repeats_places p m b g

    pub excludes-repeated : x ≡ true → Excludes b g (refusal_of AlreadyReceived)
    unfolding further_in
    excludes-repeated t p bs m = refused_as bs m AlreadyReceived (further_in p bs m g b)
        (rw (eq-eqb b.frame_length g.frame_length same, ← repeats_is p m, t))

    pub excludes-many : x ≡ false → most_segments ≤ kept b → Excludes b g TooManySegments
    unfolding further_in
    excludes-many t l p bs m = rw (eq-eqb b.frame_length g.frame_length same, ← repeats_is p m, t, le-leb most_segments (kept b) l)
        (record { outcome = refl; buffers = refl; mem = refl })

    pub admits : x ≡ false → kept b < most_segments → Admits b g
    unfolding further_in
    admits t l =
        record {
          size = same;
          few = l;
          effect = λ p bs m. rw (eq-eqb b.frame_length g.frame_length same, ← repeats_is p m, t, lt-leb most_segments (kept b) l);
        }

-- ---- it joins its frame

waits_as : (bs : List Buffer) (m : List ℕ) (b : Buffer) (gs : List Part) (x : Math.Option (List ℕ)) (t : List Buffer) → Rebuilds x None
    → t ≡ put identifier_in b bs → TakenAs (settled_in bs m b gs x) (Ok Pending) t m
waits_as bs m b gs none t e q = record { outcome = refl; buffers = q; mem = refl }
waits_as bs m b gs (some frame) t e q = absurd e

complete_as : (bs : List Buffer) (m : List ℕ) (b : Buffer) (gs : List Part) (x : Math.Option (List ℕ)) (t : List Buffer) (m' frame : List ℕ)
    → Rebuilds x (Some frame) → t ≡ without identifier_in b.identifier bs
    → ((bs : List ℕ) → x ≡ some bs → m' ≡ stored m rebuilt_at (take (length bs) frame))
    → TakenAs (settled_in bs m b gs x) (Ok Complete) t m'
complete_as bs m b gs none t m' frame e q w = absurd (none-some frame (sym e))
complete_as bs m b gs (some bytes) t m' frame e q w = record { outcome = refl; buffers = q; mem = w bytes refl ∙ ap (stored m rebuilt_at) e }

module _ (p : ℕ) (bs : List Buffer) (m : List ℕ) (g : Seg) (b : Buffer) (joins : Joins bs g b) (block at : ℕ) (m₁ : List ℕ) (longer : Buffer) (found : Option (List ℕ))
    (of : block ≡ block_at p b.block) (begin : at ≡ begins b.extents (kept b)) (wrote : m₁ ≡ stored m (block + at) g.bytes)
    (is : longer ≡ added b g.offset (length g.bytes))
    (built : Rebuilds (rebuilt (parts_in longer.extents m₁ block (kept longer)) longer.frame_length) found) where
  abbrev parts : List Part
  parts = parts_in longer.extents m₁ block (kept longer)

  taken_is : taken_in p bs m g ≡ settled_in bs m₁ longer parts (rebuilt parts longer.frame_length)
  unfolding joined_in
  taken_is = joins.effect p m ∙ rw (is, wrote, begin, of)

  pub joined-waits : (t : List Buffer) → found ≡ None → t ≡ put identifier_in longer bs → TakenAs (taken_in p bs m g) (Ok Pending) t m₁
  joined-waits t e q = rw taken_is (waits_as bs m₁ longer parts (rebuilt parts longer.frame_length) t (rw e at built) q)

  pub joined-complete : (t : List Buffer) (frame m₂ : List ℕ) → found ≡ Some frame → t ≡ without identifier_in longer.identifier bs
      → m₂ ≡ stored m₁ rebuilt_at (take longer.frame_length frame) → TakenAs (taken_in p bs m g) (Ok Complete) t m₂
  joined-complete t frame m₂ e q w =
      rw taken_is
      (complete_as bs m₁ longer parts (rebuilt parts longer.frame_length) t m₂ frame (rw e at built) q
      (λ bytes h. w ∙ ap (λ (n : ℕ). stored m₁ rebuilt_at (take n frame)) (sym (rebuilt-length parts longer.frame_length bytes h))))
