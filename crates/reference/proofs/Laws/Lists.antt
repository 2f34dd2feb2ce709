-- Laws of a peer's pending frames: where a frame is found and put, and what a loop over them has kept after one frame more.
use Rattle.std.specs.Prelude.{◌≡◌, true, false, ◌≢◌, ℕ, zero, suc, ◌+◌, ◌≤◌, ◌<◌, List, [], ◌∷◌, ◌++◌, length, get_or, set, take, min, Bool, eqb, ltb, position}
use Rattle.std.specs.Prelude.{Option, Some, None, MatchOption, unwrap_or}
use Rattle.std.specs.List.{position_or_len}
use Rattle.std.proofs.Common.{refl, sym, ◌∙◌, arith, add-one, length-take, get_or-take, take-suc, ne_eqb, eq-eqb, lt-ltb, le-ltb}
use Rattle.std.proofs.Math.Option.{none, some}
use Rattle.std.proofs.Math.Seq.{take-set-lt}
use Rattle.std.proofs.lemmas.List.Quantifiers.{position-Some}
use Rattle.std.proofs.lemmas.List.Sums.{fails_before_first}
use Rattle.std.proofs.lemmas.Grind.{common_steps}
use Rattle.reassembly.proofs.Laws.Base.{case_b}
use Rattle.reference.proofs.Laws.Each.{length_without}
use Rattle.reference.specs.Keyed.{find, put, without}
use Rattle.reference.specs.Layout.{identifier_in, buffers_of, no_buffer, aged_buffer, older_buffers, uses, spare}
use Rattle.reference.specs.declared.buffer.Buffer.{Buffer}
use Rattle.reference.specs.declared.list.Buffers.{Buffers}

-- ---- lists with keys, by the place of an entry

-- where no entry passes, each fails
position-None : {A : Type 0} (p : A → Bool) (l : List A) (k : ℕ) (d : A) → position p l ≡ None → k < length l → p (get_or l k d) ≡ false
position-None p l k d e b =
    let far : length l ≤ position_or_len p l = grind (arith, common_steps) in
    fails_before_first p l k d (omega arith)

module _ {A : Type 0} (key : A → ℕ) where
  abbrev place : ℕ → List A → Option ℕ
  place k l = position (λ x. eqb (key x) k) l

  absent : (k : ℕ) (l : List A) (d : A) → ((j : ℕ) → j < length l → eqb (key (get_or l j d)) k ≡ false) → find key k l ≡ none
  unfolding find
  absent k [] d h = refl
  absent k (x ∷ l) d h = cc (h 0 (omega arith), absent k l d (λ j b. h (suc j) (omega arith)))

  present : (k : ℕ) (l : List A) (i : ℕ) (d : A) → i < length l → eqb (key (get_or l i d)) k ≡ true → ((j : ℕ) → j < i → eqb (key (get_or l j d)) k ≡ false)
      → find key k l ≡ some (get_or l i d)
  unfolding find
  present k [] i d b e h = absurd (omega arith)
  present k (x ∷ l) zero d b e h = rw e
  present k (x ∷ l) (suc i) d b e h = cc (h 0 (omega arith), present k l i d (omega arith) e (λ j c. h (suc j) (omega arith)))

  put_last : (a : A) (l : List A) (d : A) → ((j : ℕ) → j < length l → eqb (key (get_or l j d)) (key a) ≡ false) → put key a l ≡ l ++ (a ∷ [])
  unfolding put
  put_last a [] d h = refl
  put_last a (x ∷ l) d h = cc (h 0 (omega arith), put_last a l d (λ j b. h (suc j) (omega arith)))

  put_there : (a : A) (l : List A) (i : ℕ) (d : A) → i < length l → eqb (key (get_or l i d)) (key a) ≡ true
      → ((j : ℕ) → j < i → eqb (key (get_or l j d)) (key a) ≡ false) → put key a l ≡ set l i a
  unfolding put
  put_there a [] i d b e h = absurd (omega arith)
  put_there a (x ∷ l) zero d b e h = rw e
  put_there a (x ∷ l) (suc i) d b e h = cc (h 0 (omega arith), put_there a l i d (omega arith) e (λ j c. h (suc j) (omega arith)))

  module _ (d : A) where
    pub find_absent : (k : ℕ) (l : List A) → place k l ≡ None → find key k l ≡ none
    find_absent k l e = absent k l d (λ j b. position-None (λ x. eqb (key x) k) l j d e b)

    pub find_at : (k : ℕ) (l : List A) (i : ℕ) → place k l ≡ Some i → find key k l ≡ some (get_or l i d)
    find_at k l i e = let h = position-Some (λ x. eqb (key x) k) l i d e in present k l i d h.0 h.1 h.2

    pub put_absent : (a : A) (l : List A) → place (key a) l ≡ None → put key a l ≡ l ++ (a ∷ [])
    put_absent a l e = put_last a l d (λ j b. position-None (λ x. eqb (key x) (key a)) l j d e b)

    pub put-at : (a : A) (l : List A) (i : ℕ) → place (key a) l ≡ Some i → put key a l ≡ set l i a
    put-at a l i e = let h = position-Some (λ x. eqb (key x) (key a)) l i d e in put_there a l i d h.0 h.1 h.2

    pub place_within : (k : ℕ) (l : List A) (i : ℕ) → place k l ≡ Some i → i < length l
    place_within k l i e = let h = position-Some (λ x. eqb (key x) k) l i d e in h.0

  pub without_begin : (k : ℕ) (l : List A) → [] ≡ without key k (take 0 l)
  unfolding without
  without_begin k l = refl

  without-same : (k : ℕ) (l : List A) (x : A) → eqb (key x) k ≡ true → without key k (l ++ (x ∷ [])) ≡ without key k l
  unfolding without
  without-same k [] x e = rw e
  without-same k (y ∷ l) x e = cc (without-same k l x e)

  without_other : (k : ℕ) (l : List A) (x : A) → eqb (key x) k ≡ false → without key k (l ++ (x ∷ [])) ≡ without key k l ++ (x ∷ [])
  unfolding without
  without_other k [] x e = rw e
  without_other k (y ∷ l) x e = case_b (eqb (key y) k) (λ q. cc (q, without_other k l x e)) (λ q. cc (q, without_other k l x e))

-- ---- a peer's pending frames

pub pending_most : (s : Buffers) → length (buffers_of s) ≤ 4
pending_most s = omega (arith, length-take (min s.count 4) s.buffers)

-- a pending frame is that of the array
pub pending-at : (s : Buffers) (i : ℕ) → i < length (buffers_of s) → get_or (buffers_of s) i no_buffer ≡ get_or s.buffers i no_buffer
pending-at s i b = get_or-take (min s.count 4) s.buffers i no_buffer (omega (arith, length-take (min s.count 4) s.buffers))

pub set_pending : (s : Buffers) (i : ℕ) (b : Buffer) → i < length (buffers_of s) → take (min s.count 4) (set s.buffers i b) ≡ set (buffers_of s) i b
set_pending s i b l = take-set-lt (min s.count 4) s.buffers i b (omega (arith, length-take (min s.count 4) s.buffers))

-- ---- the frames that are left, one frame on

more : (l : List Buffer) (i : ℕ) → i < length l → take (i + 1) l ≡ take i l ++ (get_or l i no_buffer ∷ [])
more l i b = rw (add-one i) (take-suc l i no_buffer b)

fewer : (s : Buffers) (l : List Buffer) (i : ℕ) → l ≡ buffers_of s → i < length l → length (take i l) < 4
fewer s l i e b =
    let m : length l ≤ 4 = rw e (pending_most s) in
    omega (arith, length-take i l)

module _ (left : Buffers) (l : List Buffer) (id i : ℕ) (b : i < length l) (inv : buffers_of left ≡ without identifier_in id (take i l)) where
  pub without-kept : (next : Buffers) → ((get_or l i no_buffer).identifier ≢ id) → buffers_of next ≡ buffers_of left ++ (get_or l i no_buffer ∷ [])
      → buffers_of next ≡ without identifier_in id (take (i + 1) l)
  without-kept next n e =
      e ∙ rw (inv, more l i b) (sym (without_other identifier_in id (take i l) (get_or l i no_buffer) (ne_eqb _ id n)))

  pub without_gone : (get_or l i no_buffer).identifier ≡ id → buffers_of left ≡ without identifier_in id (take (i + 1) l)
  without_gone q = inv ∙ rw (more l i b) (sym (without-same identifier_in id (take i l) (get_or l i no_buffer) (eq-eqb _ id q)))

  pub without-room : (s : Buffers) → l ≡ buffers_of s → length (buffers_of left) < 4
  without-room s e = rw inv (omega (arith, length_without identifier_in id (take i l), fewer s l i e b))

-- ---- a tick

pub older_begin : (l : List Buffer) → [] ≡ older_buffers (take 0 l)
unfolding older_buffers
older_begin l = refl

kept-older : (l : List Buffer) (b : Buffer) → b.age + 1 < 4 → older_buffers (l ++ (b ∷ [])) ≡ older_buffers l ++ (aged_buffer b ∷ [])
unfolding older_buffers
kept-older [] b e = rw (lt-ltb (b.age + 1) 4 e)
kept-older (a ∷ l) b e = case_b (ltb (a.age + 1) 4) (λ q. cc (q, kept-older l b e)) (λ q. cc (q, kept-older l b e))

gone_older : (l : List Buffer) (b : Buffer) → 4 ≤ b.age + 1 → older_buffers (l ++ (b ∷ [])) ≡ older_buffers l
unfolding older_buffers
gone_older [] b e = rw (le-ltb (b.age + 1) 4 e)
gone_older (a ∷ l) b e = cc (gone_older l b e)

length-older : (l : List Buffer) → length (older_buffers l) ≤ length l
unfolding older_buffers
length-older [] = omega arith
length-older (a ∷ l) = case_b (ltb (a.age + 1) 4) (λ q. rw q (omega (arith, length-older l))) (λ q. rw q (omega (arith, length-older l)))

module _ (left : Buffers) (l : List Buffer) (i : ℕ) (b : i < length l) (inv : buffers_of left ≡ older_buffers (take i l)) where
  pub older-kept : (next : Buffers) → (get_or l i no_buffer).age < 3 → buffers_of next ≡ buffers_of left ++ (aged_buffer (get_or l i no_buffer) ∷ [])
      → buffers_of next ≡ older_buffers (take (i + 1) l)
  older-kept next n e = e ∙ rw (inv, more l i b) (sym (kept-older (take i l) (get_or l i no_buffer) (omega arith)))

  pub older_gone : 3 ≤ (get_or l i no_buffer).age → buffers_of left ≡ older_buffers (take (i + 1) l)
  older_gone q = inv ∙ rw (more l i b) (sym (gone_older (take i l) (get_or l i no_buffer) (omega arith)))

  pub older-room : (s : Buffers) → l ≡ buffers_of s → length (buffers_of left) < 4
  older-room s e = rw inv (omega (arith, length-older (take i l), fewer s l i e b))

-- ---- the lowest block that is not in use

pub spare_is : (bs : List Buffer) (o : Option ℕ)
    → MatchOption o ((k : ℕ) → 0 ≤ k → k < 3 → uses bs k ≡ true) (λ i. (0 ≤ i) × (i < 3) × (uses bs i ≡ false) × ((k : ℕ) → 0 ≤ k → k < i → uses bs k ≡ true))
    → unwrap_or o 3 ≡ spare bs
unfolding spare
spare_is bs None h = rw (h 0 (omega arith) (omega arith), h 1 (omega arith) (omega arith), h 2 (omega arith) (omega arith))
spare_is bs (Some zero) h = rw h.2
spare_is bs (Some (suc zero)) h = rw (h.3 0 (omega arith) (omega arith), h.2)
spare_is bs (Some (suc (suc zero))) h = rw (h.3 0 (omega arith) (omega arith), h.3 1 (omega arith) (omega arith), h.2)
spare_is bs (Some (suc (suc (suc n)))) h = absurd (omega (arith, h.1))
