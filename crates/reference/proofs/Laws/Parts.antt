-- Where a frame's segments lie (Layout.antt): read back from their extents and the memory they are the definition's; a segment more is read back in front of
-- the others, and nothing else is touched.
use Rattle.std.specs.Prelude.{◌≡◌, refl, ◌⊎◌, List, [], ◌∷◌, ℕ, zero, suc, ◌+◌, ◌-◌, ◌≤◌, ◌<◌, length, get_or, set, leb}
use Rattle.std.proofs.Common.{ap, ◌∙◌, inl, arith, get_or-set_same, get_or-set_other, ext_get_or, le-leb}
use Rattle.std.proofs.Math.Seq.{length-sets}
use Rattle.reassembly.proofs.Laws.Base.{case_b, table_ext, length-table, get_d_table}
use Rattle.reassembly.proofs.Laws.Slots.{only_mark}
use Rattle.reassembly.proofs.Laws.Store.{sets_in, sets_out}
use Rattle.reference.specs.Reassembler.{Part}
use Rattle.reference.specs.Layout.{no_extent, begins, bytes_at, part_in, parts_in, stored}
use Rattle.reference.proofs.Laws.Room.{total}
use Rattle.reference.specs.declared.buffer.Extent.{Extent}

-- ---- bytes stored in the memory

pub stored_out : (m : List ℕ) (a : ℕ) (bs : List ℕ) (j : ℕ) → (j < a) ⊎ (a + length bs ≤ j) → get_or (stored m a bs) j 0 ≡ get_or m j 0
unfolding stored
stored_out m a bs j o = case_b (leb (a + length bs) (length m)) (λ e. rw e (sets_out bs m a j o)) (λ e. rw e)

pub length-stored : (m : List ℕ) (a : ℕ) (bs : List ℕ) → length (stored m a bs) ≡ length m
unfolding stored
length-stored m a bs = case_b (leb (a + length bs) (length m)) (λ e. rw e (length-sets m a bs)) (λ e. rw e)

stored_in : (m : List ℕ) (a : ℕ) (bs : List ℕ) (i : ℕ) → a + length bs ≤ length m → i < length bs → get_or (stored m a bs) (a + i) 0 ≡ get_or bs i 0
unfolding stored
stored_in m a bs i l h =
    let z : a + i - a ≡ i = omega arith in
    rw (le-leb (a + length bs) (length m) l) (sets_in bs m a (a + i) l (omega arith) (omega arith) ∙ ap (λ (x : ℕ). get_or bs x 0) z)

-- they are read back
pub bytes_back : (m : List ℕ) (a : ℕ) (bs : List ℕ) → a + length bs ≤ length m → bytes_at (stored m a bs) a (length bs) ≡ bs
bytes_back m a bs l =
    ext_get_or 0 (bytes_at (stored m a bs) a (length bs)) bs (length-table (length bs) (λ i. get_or (stored m a bs) (a + i) 0))
    (λ i h. let k : i < length bs = omega (arith, length-table (length bs) (λ i. get_or (stored m a bs) (a + i) 0)) in
    get_d_table (length bs) (λ i. get_or (stored m a bs) (a + i) 0) 0 i k ∙ stored_in m a bs i l k)

-- ---- segments

-- the bytes of the first n segments, end to end
pub begins-total : (es : List Extent) (m : List ℕ) (block n : ℕ) → total (parts_in es m block n) ≡ begins es n
unfolding parts_in begins total
begins-total es m block zero = refl
begins-total es m block (suc n) =
    omega (arith, begins-total es m block n, length-table (get_or es n no_extent).length (λ i. get_or m (block + begins es n + i) 0))

pub begins-none : (es : List Extent) → begins es 0 ≡ 0
unfolding begins
begins-none es = refl

pub parts_none : (es : List Extent) (m : List ℕ) (block : ℕ) → parts_in es m block 0 ≡ []
unfolding parts_in
parts_none es m block = refl

pub length-parts : (es : List Extent) (m : List ℕ) (block n : ℕ) → length (parts_in es m block n) ≡ n
unfolding parts_in
length-parts es m block zero = refl
length-parts es m block (suc n) = ap suc (length-parts es m block n)

begins-same : (es es' : List Extent) (n : ℕ) → ((j : ℕ) → j < n → get_or es' j no_extent ≡ get_or es j no_extent) → begins es' n ≡ begins es n
unfolding begins
begins-same es es' zero h = refl
begins-same es es' (suc n) h = rw (h n (omega arith), begins-same es es' n (λ j l. h j (omega arith)))

-- the segments depend on their extents and their bytes alone
pub parts_same : (es es' : List Extent) (m m' : List ℕ) (block n : ℕ) → ((j : ℕ) → j < n → get_or es' j no_extent ≡ get_or es j no_extent)
    → ((i : ℕ) → i < begins es n → get_or m' (block + i) 0 ≡ get_or m (block + i) 0) → parts_in es' m' block n ≡ parts_in es m block n
unfolding parts_in begins
parts_same es es' m m' block zero h b = refl
parts_same es es' m m' block (suc n) h b =
    let r : get_or es' n no_extent ≡ get_or es n no_extent = h n (omega arith) in
    let s : begins es' n ≡ begins es n = begins-same es es' n (λ j l. h j (omega arith)) in
    let t : bytes_at m' (block + begins es n) (get_or es n no_extent).length ≡ bytes_at m (block + begins es n) (get_or es n no_extent).length =
    table_ext (get_or es n no_extent).length (λ i. get_or m' (block + begins es n + i) 0) (λ i. get_or m (block + begins es n + i) 0)
    (λ i l. let z : block + begins es n + i ≡ block + (begins es n + i) = omega arith in rw z (b (begins es n + i) (omega arith))) in
    rw (r, s, t)
    (ap (λ (x : List Part). part_in es m block n ∷ x) (parts_same es es' m m' block n (λ j l. h j (omega arith)) (λ i l. b i (omega arith))))

abbrev extent_of : Part → Extent
extent_of g = record { offset = g.offset; length = length g.bytes }

-- a segment more: its extent behind the n others, its bytes behind theirs
pub parts_more : (es : List Extent) (m : List ℕ) (block n : ℕ) (g : Part) → n < length es → block + begins es n + length g.bytes ≤ length m
    → parts_in (set es n (extent_of g)) (stored m (block + begins es n) g.bytes) block (suc n) ≡ g ∷ parts_in es m block n
unfolding parts_in
parts_more es m block n g l f =
    let same : (j : ℕ) → j < n → get_or (set es n (extent_of g)) j no_extent ≡ get_or es j no_extent =
    λ j k. get_or-set_other es n j (extent_of g) no_extent (λ z. absurd (omega arith)) in
    let r : get_or (set es n (extent_of g)) n no_extent ≡ extent_of g = get_or-set_same es n (extent_of g) no_extent l in
    let s : begins (set es n (extent_of g)) n ≡ begins es n = begins-same es (set es n (extent_of g)) n same in
    let rest : parts_in (set es n (extent_of g)) (stored m (block + begins es n) g.bytes) block n ≡ parts_in es m block n =
    parts_same es (set es n (extent_of g)) m (stored m (block + begins es n) g.bytes) block n same
    (λ i k. stored_out m (block + begins es n) g.bytes (block + i) (inl (omega arith))) in
    rw (r, s, rest, bytes_back m (block + begins es n) g.bytes f, ← (only_mark g.mark)) refl
