-- Proof of Many.antt: 32 is given exactly on a frame's 65th segment, with nothing changed; and what every peer's frames keep to. So the bytes of a frame's
-- segments are no more than its length, which its layout in lent memory rests on.
use Rattle.std.specs.Prelude.{◌≡◌, refl, ◌≢◌, Bool, true, false, ◌||◌, List, [], ◌∷◌, ℕ, ◌+◌, ◌-◌, ◌≤◌, ◌<◌, length, ltb, leb, eqb}
use Rattle.std.proofs.Common.{sym, ◌∙◌, arith, ltb-false, leb-true, leb-false, eqb-true, eq-eqb, ne_eqb, le-leb, le-ltb}
use Rattle.std.proofs.Math.Option.{Option, none, some}
use Rattle.std.proofs.lemmas.Bool.{eqb-false}
use Rattle.reassembly.specs.Base.{within}
use Rattle.reassembly.specs.Take.{Seg, Fits}
use Rattle.reassembly.specs.Mix.{how_many}
use Rattle.reassembly.proofs.Laws.Base.{case_b, clash, or_false-l, or_false_r, some_below-none, some_below-some}
use Rattle.reassembly.proofs.Laws.Memory.{within_low, within_high}
use Rattle.reassembly.proofs.Laws.Sums.{count_ext, count_none, count_most, count_or, count_within}
use Rattle.reference.proofs.Laws.Frames.{has_within, distinct_older}
use Rattle.reference.specs.Keyed.{find, put}
use Rattle.reference.specs.Reassembler.{Part, Frame, has, byte_at, rebuilt, is_some, repeats, older, rejects, too_many, identifier_of, settled, part_of}
use Rattle.reference.specs.Reassembler.{most_segments}
use Rattle.reference.specs.Reassembler.{opened, further, looked, taken}
use Rattle.reference.specs.Many.{Full, Many, Once, Bounds, Each, Fit, Bounded}
use Rattle.reference.proofs.Laws.Keyed.{find_key, distinct_put, distinct_without}
use Rattle.reference.proofs.Laws.Each.{each-find, each-put, each-without, length-put-new, length-put-old, length_without}

-- ---- the bytes of a frame's segments are counted by the frame's

-- the bytes of all segments
unfoldable pub total : List Part → ℕ
total [] = 0
total (g ∷ gs) = length g.bytes + total gs

abbrev had : List Part → ℕ → Bool
had gs i = is_some (byte_at gs i)

had-more : (g : Part) (gs : List Part) (i : ℕ) → had (g ∷ gs) i ≡ (has g i || had gs i)
unfolding byte_at
had-more g gs i = case_b (has g i) (λ e. rw e) (λ e. rw e)

had-nothing : (i : ℕ) → had [] i ≡ false
unfolding byte_at
had-nothing i = refl

-- a segment that repeats nothing: what it has, the others have not
apart : (gs : List Part) (g : Part) → repeats gs g ≡ false → (i : ℕ) → has g i ≡ true → had gs i ≡ false
unfolding repeats
apart gs g r i e =
    let w : within g.offset (length g.bytes) i ≡ true = sym (has_within g i) ∙ e in
    let lo : g.offset ≤ i = within_low g.offset (length g.bytes) i w in
    let hi : i < g.offset + length g.bytes = within_high g.offset (length g.bytes) i w in
    let z : g.offset + (i - g.offset) ≡ i = omega arith in
    case_b (had gs i)
    (λ q. let y : had gs (g.offset + (i - g.offset)) ≡ true = rw z q in
    clash (cc (some_below-some (length g.bytes) (λ j. had gs (g.offset + j)) (i - g.offset) (omega arith) y)))
    (λ q. q)

counts : (n : ℕ) (gs : List Part) → Once n gs → total gs ≡ how_many n (had gs)
unfolding total
counts n [] h = sym (count_none n (had []) (λ i l. had-nothing i))
counts n (g ∷ gs) h =
    let c : how_many n (had (g ∷ gs)) ≡ how_many n (has g) + how_many n (had gs) =
    count_ext n (had (g ∷ gs)) (λ i. has g i || had gs i) (λ i k. had-more g gs i) ∙ count_or n (has g) (had gs) (λ i e. apart gs g h.1 i e) in
    let d : how_many n (has g) ≡ (n - g.offset) - (n - (g.offset + length g.bytes)) =
    count_ext n (has g) (within g.offset (length g.bytes)) (λ i k. has_within g i) ∙ count_within n g.offset (length g.bytes) in
    omega (arith, counts n gs h.2, h.0)

-- so, end to end, they are no more than the frame's length
pub total-fits : (n : ℕ) (gs : List Part) → Once n gs → total gs ≤ n
total-fits n gs h = omega (arith, counts n gs h, count_most n (had gs))

pub total-more : (g : Part) (gs : List Part) → total (g ∷ gs) ≡ length g.bytes + total gs
unfolding total
total-more g gs = refl

-- ---- 14 passes where its three tests do not
pub fits_by : (g : Seg) → eqb (length g.bytes) 0 ≡ false → (ltb g.frame_length 32 || ltb 1532 g.frame_length) ≡ false
    → ltb g.frame_length (g.offset + length g.bytes) ≡ false → Fits g
fits_by g a b c =
    let n : length g.bytes ≢ 0 = eqb-false (length g.bytes) 0 a in
    record {
      some_byte = omega arith;
      least = ltb-false g.frame_length 32 (or_false-l (ltb g.frame_length 32) (ltb 1532 g.frame_length) b);
      most = ltb-false 1532 g.frame_length (or_false_r (ltb g.frame_length 32) (ltb 1532 g.frame_length) b);
      inside = ltb-false g.frame_length (g.offset + length g.bytes) c;
    }

-- ---- what the frames keep to

each-older : (fs : List Frame) → Each Bounds fs → Each Bounds (older fs)
unfolding older
each-older [] h = tt
each-older (x ∷ xs) h =
    case_b (ltb (x.age + 1) 4)
    (λ e. rw e (record { longest = h.0.longest; least = h.0.least; most = h.0.most; once = h.0.once }, each-older xs h.1))
    (λ e. rw e (each-older xs h.1))

length-older : (fs : List Frame) → length (older fs) ≤ length fs
unfolding older
length-older [] = omega arith
length-older (x ∷ xs) = case_b (ltb (x.age + 1) 4) (λ e. rw e (omega (arith, length-older xs))) (λ e. rw e (omega (arith, length-older xs)))

pub older-fits : (fs : List Frame) → Fit fs → Fit (older fs)
older-fits fs h = record { four = omega (arith, length-older fs, h.four); distinct = distinct_older fs h.distinct; each = each-older fs h.each }

settled-fits : (fs : List Frame) (f : Frame) (x : Option (List ℕ)) → Fit fs → Bounds f → length (put identifier_of f fs) ≤ 4 → Fit (settled fs f x).frames
settled-fits fs f none h b l = record { four = l; distinct = distinct_put identifier_of f fs h.distinct; each = each-put identifier_of Bounds f fs b h.each }
settled-fits fs f (some bytes) h b l =
    record {
      four = omega (arith, length_without identifier_of f.identifier fs, h.four);
      distinct = distinct_without identifier_of f.identifier fs h.distinct;
      each = each-without identifier_of Bounds f.identifier fs h.each;
    }

no_repeat : (g : Part) → repeats [] g ≡ false
unfolding repeats
no_repeat g = some_below-none (length g.bytes) (λ i. had [] (g.offset + i)) (λ i l. had-nothing (g.offset + i))

looked-fits : (fs : List Frame) (g : Seg) → Fits g → (x : Option Frame) → find identifier_of g.identifier fs ≡ x → Fit fs → Fit (looked fs g x).frames
looked-fits fs g t none e h =
    case_b (leb 4 (length fs))
    (λ q. rw q h)
    (λ q. rw q
    (settled-fits fs (opened g) (rebuilt (part_of g ∷ []) g.frame_length) h
    (record { longest = t.most; least = omega arith; most = omega arith; once = (t.inside, no_repeat (part_of g), tt) })
    (omega (arith, length-put-new identifier_of (opened g) fs, leb-false 4 (length fs) q))))
looked-fits fs g t (some f) e h =
    let b : Bounds f = each-find identifier_of Bounds g.identifier fs f h.each e in
    let i : f.identifier ≡ g.identifier = find_key identifier_of g.identifier fs f e in
    case_b (eqb f.size g.frame_length)
    (λ q. let z : f.size ≡ g.frame_length = eqb-true f.size g.frame_length q in
    case_b (repeats f.parts (part_of g))
    (λ r. rw (q, r) h)
    (λ r. case_b (leb most_segments (length f.parts))
    (λ s. rw (q, r, s) h)
    (λ s. rw (q, r, s)
    (settled-fits fs (further f g) (rebuilt (part_of g ∷ f.parts) f.size) h
    (record {
      longest = b.longest;
      least = omega arith;
      most = omega (arith, leb-false most_segments (length f.parts) s);
      once = (omega (arith, t.inside), r, b.once);
    })
    (omega (arith, h.four, length-put-old identifier_of (further f g) f fs (rw (← i) at e)))))))
    (λ q. rw q h)

pub taken-fits : (fs : List Frame) (g : Seg) → Fit fs → Fit (taken fs g).frames
unfolding taken
taken-fits fs g h =
    case_b (eqb (length g.bytes) 0)
    (λ a. rw a h)
    (λ a. case_b (ltb g.frame_length 32 || ltb 1532 g.frame_length)
    (λ b. rw (a, b) h)
    (λ b. case_b (ltb g.frame_length (g.offset + length g.bytes))
    (λ c. rw (a, b, c) h)
    (λ c. rw (a, b, c) (looked-fits fs g (fits_by g a b c) (find identifier_of g.identifier fs) refl h))))

pub nothing-fits : Fit []
nothing-fits = record { four = omega arith; distinct = tt; each = tt }

pub bounded : Bounded
bounded = record { at_first = nothing-fits; segment = taken-fits; tick = older-fits }

-- ---- 32

settled_not : {C : Type 0} (fs : List Frame) (f : Frame) (x : Option (List ℕ)) → (settled fs f x).result ≡ too_many → C
settled_not fs f none e = clash (cc)
settled_not fs f (some bytes) e = clash (cc)

looked-many : (fs : List Frame) (g : Seg) → Fits g → (x : Option Frame) → find identifier_of g.identifier fs ≡ x → (looked fs g x).result ≡ too_many
    → Full fs g × ((looked fs g x).frames ≡ fs)
looked-many fs g t none q e =
    case_b (leb 4 (length fs))
    (λ a. let z : rejects _ ≡ too_many = rw a at e in clash (cc))
    (λ a. settled_not fs (opened g) (rebuilt (part_of g ∷ []) g.frame_length) (rw a at e))
looked-many fs g t (some f) q e =
    case_b (eqb f.size g.frame_length)
    (λ a. case_b (repeats f.parts (part_of g))
    (λ b. let z : rejects _ ≡ too_many = rw (a, b) at e in clash (cc))
    (λ b. case_b (leb most_segments (length f.parts))
    (λ c. rw (a, b, c) (
      record {
        fits = t;
        frame = f;
        pending = q;
        size = eqb-true f.size g.frame_length a;
        apart = b;
        full = leb-true most_segments (length f.parts) c;
      },
      refl,
    ))
    (λ c. settled_not fs (further f g) (rebuilt (part_of g ∷ f.parts) f.size) (rw (a, b, c) at e))))
    (λ a. let z : rejects _ ≡ too_many = rw a at e in clash (cc))

pub many_only : (fs : List Frame) (g : Seg) → (taken fs g).result ≡ too_many → Full fs g × ((taken fs g).frames ≡ fs)
unfolding taken
many_only fs g e =
    case_b (eqb (length g.bytes) 0)
    (λ a. let z : rejects _ ≡ too_many = rw a at e in clash (cc))
    (λ a. case_b (ltb g.frame_length 32 || ltb 1532 g.frame_length)
    (λ b. let z : rejects _ ≡ too_many = rw (a, b) at e in clash (cc))
    (λ b. case_b (ltb g.frame_length (g.offset + length g.bytes))
    (λ c. let z : rejects _ ≡ too_many = rw (a, b, c) at e in clash (cc))
    (λ c. rw (a, b, c) (looked-many fs g (fits_by g a b c) (find identifier_of g.identifier fs) refl (rw (a, b, c) at e)))))

pub many_given : (fs : List Frame) (g : Seg) → Full fs g → (taken fs g).result ≡ too_many
unfolding taken
many_given fs g h =
    let n : length g.bytes ≢ 0 = λ z. absurd (omega (arith, h.fits.some_byte)) in
    rw (
      ne_eqb (length g.bytes) 0 n,
      le-ltb g.frame_length 32 h.fits.least,
      le-ltb 1532 g.frame_length h.fits.most,
      le-ltb g.frame_length (g.offset + length g.bytes) h.fits.inside,
      h.pending,
      eq-eqb h.frame.size g.frame_length h.size,
      h.apart,
      le-leb most_segments (length h.frame.parts) h.full,
    )

pub many : Many
many = record { given = many_given; only = λ fs g e. (many_only fs g e).0; unchanged = λ fs g e. (many_only fs g e).1 }
