-- Laws of a pending frame's segments: where their bytes lie, and what a loop over them has found after one segment more.
use Rattle.std.specs.Prelude.{◌≡◌, refl, true, false, ◌&&◌, List, ℕ, zero, suc, ◌+◌, ◌-◌, ◌≤◌, ◌<◌, length, get_or, set, take, ltb, leb, Bool, Some, None}
use Rattle.std.proofs.Common.{sym, ap, ◌∙◌, arith, add-one, take-suc-set, length-take, get_or-take, ltb-true, leb-true}
use Rattle.std.specs.Bool.{MatchBool}
use Rattle.std.specs.List.{range_with_len, AllWithin, HoldsAt}
use Rattle.std.proofs.Math.Option as Math
use Rattle.std.proofs.Math.Option.{none, some}
use Rattle.std.proofs.lemmas.List.FromFn.{length-range_with_len, get_or-range_with_len}
use Rattle.std.proofs.lemmas.Option.{none-some, same_Some}
use Rattle.reassembly.specs.Base.{some_below}
use Rattle.reassembly.proofs.Laws.Base.{case_b, and_l, and_r, length-table, get_d_table, below_suc, either, some_below-some, some_below-none}
use Rattle.reference.specs.Reassembler.{Part, has, byte_at, followed_by, rebuilt}
use Rattle.reference.specs.Layout.{no_extent, begins, part_in, parts_in, has_byte, place_in, Rebuilds}
use Rattle.reference.specs.declared.buffer.Extent.{Extent}

-- ---- a segment that is kept is that of the array

pub segment_at : (es : List Extent) (n : ℕ) (kept : List Extent) (j : ℕ) → kept ≡ take n es → j < length kept → get_or kept j no_extent ≡ get_or es j no_extent
segment_at es n kept j e b =
    let l : j < length (take n es) = rw e at b in
    ap (λ (x : List Extent). get_or x j no_extent) e ∙ get_or-take n es j no_extent (omega (arith, length-take n es))

-- ---- where a segment's bytes begin

pub begins-none : (es : List Extent) → 0 ≡ begins es 0
unfolding begins
begins-none es = refl

pub begins-more : (es : List Extent) (j at : ℕ) → at ≡ begins es j → at + (get_or es j no_extent).length ≡ begins es (j + 1)
unfolding begins
begins-more es j at e = rw (add-one j, e)

-- ---- a segment's byte

pub has_low : (e : Extent) (i : ℕ) → has_byte e i ≡ true → e.offset ≤ i
unfolding has_byte
has_low e i h = leb-true e.offset i (and_l (leb e.offset i) (ltb i (e.offset + e.length)) h)

pub has_high : (e : Extent) (i : ℕ) → has_byte e i ≡ true → i < e.offset + e.length
unfolding has_byte
has_high e i h = ltb-true i (e.offset + e.length) (and_r (leb e.offset i) (ltb i (e.offset + e.length)) h)

-- ---- the search for a byte, after j segments were looked at

pub place_none : (es : List Extent) (i : ℕ) → place_in es 0 i ≡ None
unfolding place_in
place_none es i = refl

pub place_here : (es : List Extent) (j i : ℕ) → has_byte (get_or es j no_extent) i ≡ true
    → place_in es (j + 1) i ≡ Some (begins es j + (i - (get_or es j no_extent).offset))
unfolding place_in
place_here es j i h = rw (add-one j, h)

pub place_kept : (es : List Extent) (j i : ℕ) → has_byte (get_or es j no_extent) i ≡ false → place_in es (j + 1) i ≡ place_in es j i
unfolding place_in
place_kept es j i h = rw (add-one j, h)

-- ---- is a byte of a range there

pub some_in_range : (n : ℕ) (f : ℕ → Bool) (r : Bool)
    → MatchBool r ((k : ℕ) × (k < length (range_with_len 0 n)) × HoldsAt (λ i. f i ≡ true) (range_with_len 0 n) k)
    (AllWithin (λ i. f i ≡ false) (range_with_len 0 n) 0 (length (range_with_len 0 n)))
    → r ≡ some_below n f
some_in_range n f true h =
    let l : h.0 < n = rw (length-range_with_len 0 n) at h.1 in
    let z : get_or (range_with_len 0 n) h.0 0 ≡ h.0 = get_or-range_with_len 0 n h.0 0 l ∙ omega arith in
    sym (some_below-some n f h.0 l (ap f (sym z) ∙ h.2 0))
some_in_range n f false h =
    sym (some_below-none n f (λ i l.
    let e = h i 0 (omega arith) (rw (length-range_with_len 0 n) l) in
    let z : get_or (range_with_len 0 n) i 0 ≡ i = get_or-range_with_len 0 n i 0 l ∙ omega arith in
    ap f (sym z) ∙ e))

-- ---- the byte that lies there

has_part : (es : List Extent) (m : List ℕ) (block j i : ℕ) → has (part_in es m block j) i ≡ has_byte (get_or es j no_extent) i
unfolding has has_byte
has_part es m block j i =
    ap (λ (n : ℕ). leb (get_or es j no_extent).offset i && ltb i ((get_or es j no_extent).offset + n)) (length-table (get_or es j no_extent).length _)

byte_part : (es : List Extent) (m : List ℕ) (block j i : ℕ) → has_byte (get_or es j no_extent) i ≡ true
    → get_or (part_in es m block j).bytes (i - (get_or es j no_extent).offset) 0 ≡ get_or m (block + (begins es j + (i - (get_or es j no_extent).offset))) 0
byte_part es m block j i h =
    let e : Extent = get_or es j no_extent in
    let lo : e.offset ≤ i = has_low e i h in
    let hi : i < e.offset + e.length = has_high e i h in
    let z : block + begins es j + (i - e.offset) ≡ block + (begins es j + (i - e.offset)) = omega arith in
    get_d_table e.length (λ k. get_or m (block + begins es j + k) 0) 0 (i - e.offset) (omega arith) ∙ ap (λ (k : ℕ). get_or m k 0) z

pub byte_missing : (es : List Extent) (m : List ℕ) (block n i : ℕ) → place_in es n i ≡ None → byte_at (parts_in es m block n) i ≡ none
unfolding place_in parts_in byte_at
byte_missing es m block zero i e = refl
byte_missing es m block (suc j) i e =
    case_b (has_byte (get_or es j no_extent) i)
    (λ h. absurd (none-some _ (sym (rw h at e))))
    (λ h. rw (has_part es m block j i, h) (byte_missing es m block j i (rw h at e)))

pub byte_there : (es : List Extent) (m : List ℕ) (block n i at : ℕ) → place_in es n i ≡ Some at
    → byte_at (parts_in es m block n) i ≡ some (get_or m (block + at) 0)
unfolding place_in parts_in byte_at
byte_there es m block zero i at e = absurd (none-some _ e)
byte_there es m block (suc j) i at e =
    case_b (has_byte (get_or es j no_extent) i)
    (λ h. let q : begins es j + (i - (get_or es j no_extent).offset) ≡ at = same_Some _ _ (rw h at e) in
    rw (has_part es m block j i, h) (ap some (byte_part es m block j i h ∙ rw q)))
    (λ h. rw (has_part es m block j i, h) (byte_there es m block j i at (rw h at e)))

-- ---- the frame rebuilt, after i bytes

pub rebuilt-none : (gs : List Part) (frame : List ℕ) → rebuilt gs 0 ≡ some (take 0 frame)
unfolding rebuilt
rebuilt-none gs frame = refl

pub rebuilt-more : (gs : List Part) (frame : List ℕ) (i b : ℕ) → i < length frame → rebuilt gs i ≡ some (take i frame) → byte_at gs i ≡ some b
    → rebuilt gs (i + 1) ≡ some (take (i + 1) (set frame i b))
unfolding rebuilt
rebuilt-more gs frame i b l e h = rw (add-one i, e, h) (ap some (sym (take-suc-set frame i b l)))

rebuilt_missing : (gs : List Part) (n i : ℕ) → i < n → byte_at gs i ≡ none → rebuilt gs n ≡ none
unfolding rebuilt
rebuilt_missing gs zero i l e = absurd (omega arith)
rebuilt_missing gs (suc n) i l e =
    either (below_suc l)
    (λ h. rw (rebuilt_missing gs n i h e))
    (λ q. rw (← q, e) (by_none (rebuilt gs i)))
  where
    by_none : (o : Math.Option (List ℕ)) → followed_by o none ≡ none
    by_none none = refl
    by_none (some bs) = refl

pub rebuilds_not : (gs : List Part) (n i : ℕ) → i < n → byte_at gs i ≡ none → Rebuilds (rebuilt gs n) None
rebuilds_not gs n i l e = rw (rebuilt_missing gs n i l e) refl
