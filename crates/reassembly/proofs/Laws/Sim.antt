-- Two endpoints that keep their bytes in two ways, and agree on one peer: its row is the same, and what its pending slots have received is the same.
-- Taking one of the peer's segments keeps that, with the same outcome; taking another peer's segment touches nothing of it.
use Rattle.std.specs.Prelude.{◌≡◌, ◌⊎◌, ◌≢◌, ◌||◌, List, set, eqb}
use Rattle.std.proofs.Math.Path.{refl, sym}
use Rattle.std.proofs.Common.{◌∙◌, inl, inr, arith, length-set, get_or-set_other, eqb-true}
use Rattle.std.proofs.Math.Bool.{true, false}
use Prim.Native.Nat.{ℕ, ◌+◌, ◌≤◌, ◌<◌}
use Rattle.std.proofs.Math.ListN.{length, get_or}
use Rattle.std.proofs.Math.Seq.{get_or-set_same}
use Rattle.std.proofs.lemmas.Bool.{eqb-false}
use Rattle.reassembly.specs.Base.{within}
use Rattle.reassembly.proofs.Laws.Base.{case_b, either, clash, some_below_ext, all_below_ext, table_ext, all_below-at}
use Rattle.reassembly.specs.Slots.{Slot, Peer, Note, no_note, note_of, free, most_peers, most_slots}
use Rattle.reassembly.specs.Take.{slot_no, Seg, Ops, Outcome, Rejected, Pending, Complete, AlreadyReceived, Choice, reject, old, fresh, chosen}
use Rattle.reassembly.specs.Take.{tested_bytes, stored_bytes, note_after, opened_slot, further_slot, Effect, complete, overlaps, frame_in, finish, placed}
use Rattle.reassembly.specs.Take.{take_segment}
use Rattle.reassembly.proofs.Laws.TakeFacts.{stored-length, ChoiceFacts, chosen_facts, is_complete, not_complete, complete-slot, finish_mem}
use Rattle.reassembly.proofs.Laws.Memory.{Laws}

-- slot k has received the same below n in both
pub record Agree (A B : Ops) (k n : ℕ) (a : A.S) (b : B.S) : Type 0 where
  pub received : (i : ℕ) → i < n → A.received a k i ≡ B.received b k i
  pub byte : (i : ℕ) → i < n → A.received a k i ≡ true → A.byte a k i ≡ B.byte b k i

-- a row of four slots, no frame longer than a frame may be
pub record RowOk (row : List Slot) : Type 0 where
  pub four : length row ≡ most_slots
  pub sizes : (s : ℕ) → s < most_slots → (get_or row s free).pending ≡ true → (get_or row s free).frame_length ≤ 1532

-- a store into a list, read back: at its own place, or elsewhere
pub set_cases : {A : Type 0} (l : List A) (s : ℕ) (v d : A) (t : ℕ) → s < length l
    → ((t ≡ s) × (get_or (set l s v) t d ≡ v)) ⊎ ((t ≢ s) × (get_or (set l s v) t d ≡ get_or l t d))
set_cases l s v d t h =
    case_b (eqb t s)
    (λ q. inl (eqb-true t s q, rw (eqb-true t s q) (get_or-set_same l s v d h)))
    (λ q. inr (eqb-false t s q, get_or-set_other l s t v d (eqb-false t s q)))

pub row-set : (row : List Slot) (s : ℕ) (v : Slot) → s < most_slots → RowOk row → (v.pending ≡ true → v.frame_length ≤ 1532) → RowOk (set row s v)
row-set row s v l r h =
    record {
      four = length-set row s v ∙ r.four;
      sizes = λ t k e.
          either (set_cases row s v free t (omega (arith, r.four)))
          (λ c. rw c.1 (h (rw c.1 at e)))
          (λ c. rw c.1 (r.sizes t k (rw c.1 at e)));
    }

-- the two sides of one peer: the row is a row, both memories are sound, and each pending slot has received the same in both
pub record Same (A B : Ops) (p : ℕ) (row : List Slot) (a : A.S) (b : B.S) : Type 0 where
  pub row_ok : RowOk row
  pub ok_a : A.Ok a
  pub ok_b : B.Ok b
  pub agree : (s : ℕ) → s < most_slots → (get_or row s free).pending ≡ true → Agree A B (slot_no p s) (get_or row s free).frame_length a b

-- two effects of one segment of frame length n: the same to the peer, and a complete frame is the same
pub record Alike (A B : Ops) (p n : ℕ) (x : Effect A) (y : Effect B) : Type 0 where
  pub outcome : x.outcome ≡ y.outcome
  pub row : x.row ≡ y.row
  pub note : x.note ≡ y.note
  pub frame : (s : ℕ) → x.outcome ≡ Complete s → frame_in A x.mem (slot_no p s) n ≡ frame_in B y.mem (slot_no p s) n
  pub same : Same A B p x.row.slots x.mem y.mem

module _ (A B : Ops) (k n : ℕ) (a : A.S) (b : B.S) (h : Agree A B k n a b) where
  complete-same : complete A a k n ≡ complete B b k n
  unfolding complete
  complete-same = all_below_ext _ _ _ h.received

  overlaps-same : (g : Seg) → g.offset + length g.bytes ≤ n → overlaps A a k g ≡ overlaps B b k g
  unfolding overlaps
  overlaps-same g f = some_below_ext _ _ _ (λ i (j : i < tested_bytes g). h.received (g.offset + i) (omega arith))

  frame_same : complete A a k n ≡ true → frame_in A a k n ≡ frame_in B b k n
  unfolding complete frame_in
  frame_same e = table_ext _ _ _ (λ i j. h.byte i j (all_below-at _ _ e i j))

module _ (A B : Ops) (LA : Laws A) (LB : Laws B) (p : ℕ) (p< : p < most_peers) where
  rejects_alike : (n : ℕ) (row : List Slot) (a : A.S) (b : B.S) (r : Outcome) → is_complete r ≡ false → Same A B p row a b
      → Alike A B p n (record { row = record { slots = row }; outcome = r; note = no_note; mem = a })
      (record { row = record { slots = row }; outcome = r; note = no_note; mem = b })
  rejects_alike n row a b r e h = record { outcome = refl; row = refl; note = refl; frame = λ s q. not_complete r s e q; same = h }

  -- a put keeps the agreement at its own slot
  put_agree : (s n at : ℕ) (bs : List ℕ) (a : A.S) (b : B.S) → s < most_slots → n ≤ 1532 → at + length bs ≤ n → A.Ok a → B.Ok b
      → Agree A B (slot_no p s) n a b → Agree A B (slot_no p s) n (A.put a (slot_no p s) at bs) (B.put b (slot_no p s) at bs)
  unfolding slot_no
  put_agree s n at bs a b l nl f oa ob h =
      let k : ℕ = slot_no p s in
      let hA : (i : ℕ) → i < n
      → A.received (A.put a k at bs) k i ≡ (within at (length bs) i || A.received a k i) =
      λ i j. LA.received_put a k at bs oa (omega arith) (omega arith) i (omega arith) in
      record {
        received = λ i j. cc (hA i j, LB.received_put b k at bs ob (omega arith) (omega arith) i (omega arith), h.received i j);
        byte = λ i j e.
            case_b (within at (length bs) i)
            (λ w. cc (
              LA.byte_put a k at bs oa (omega arith) (omega arith) i (omega arith),
              LB.byte_put b k at bs ob (omega arith) (omega arith) i (omega arith),
            ))
            (λ w. let e' : A.received a k i ≡ true = cc (hA i j) in
            cc (
              LA.byte_put a k at bs oa (omega arith) (omega arith) i (omega arith),
              LB.byte_put b k at bs ob (omega arith) (omega arith) i (omega arith),
              h.byte i j e',
            ));
      }

  finish_alike : (s : ℕ) (row : List Slot) (a : A.S) (b : B.S) (g : Seg) (note : Note) → s < most_slots → Same A B p row a b
      → (get_or row s free).pending ≡ true → (get_or row s free).frame_length ≡ g.frame_length
      → Alike A B p g.frame_length (finish A p s row a g note) (finish B p s row b g note)
  finish_alike s row a b g note l h t z =
      let ag : Agree A B (slot_no p s) g.frame_length a b = rw z at (h.agree s l t) in
      let w : complete A a (slot_no p s) g.frame_length ≡ complete B b (slot_no p s) g.frame_length =
      complete-same A B (slot_no p s) g.frame_length a b ag in
      case_b (complete A a (slot_no p s) g.frame_length)
      (λ e. let f : frame_in A a (slot_no p s) g.frame_length ≡ frame_in B b (slot_no p s) g.frame_length =
      frame_same A B (slot_no p s) g.frame_length a b ag e in
      rw (← w, e) (record { outcome = refl; row = refl; note = refl; frame = λ t q. rw (← complete-slot s t q) f; same = keep free (λ e'. clash (cc)) }))
      (λ e. rw (← w, e) (rejects_alike g.frame_length row a b Pending refl h))
    where
      keep : (v : Slot) → (v.pending ≡ true → ⊥) → Same A B p (set row s v) a b
      keep v no-v =
          record {
            row_ok = row-set row s v l h.row_ok (λ e. absurd (no-v e));
            ok_a = h.ok_a;
            ok_b = h.ok_b;
            agree = λ t' l' e.
                either (set_cases row s v free t' (omega (arith, h.row_ok.four)))
                (λ c. absurd (no-v (rw c.1 at e)))
                (λ c. rw c.1 (h.agree t' l' (rw c.1 at e)));
          }

  -- slot s is rewritten in both memories, and the others are left
  slot_same : (s : ℕ) (row : List Slot) (v : Slot) (a a' : A.S) (b b' : B.S) → s < most_slots → Same A B p row a b → v.frame_length ≤ 1532
      → A.Ok a' → B.Ok b' → Agree A B (slot_no p s) v.frame_length a' b'
      → ((j i : ℕ) → j ≢ slot_no p s → i < 1532 → A.received a' j i ≡ A.received a j i)
      → ((j i : ℕ) → j ≢ slot_no p s → i < 1532 → A.byte a' j i ≡ A.byte a j i)
      → ((j i : ℕ) → j ≢ slot_no p s → i < 1532 → B.received b' j i ≡ B.received b j i)
      → ((j i : ℕ) → j ≢ slot_no p s → i < 1532 → B.byte b' j i ≡ B.byte b j i)
      → Same A B p (set row s v) a' b'
  unfolding slot_no
  slot_same s row v a a' b b' l h vl oa ob ag ha ba hb bb =
      record {
        row_ok = row-set row s v l h.row_ok (λ e. vl);
        ok_a = oa;
        ok_b = ob;
        agree = λ t l' e.
            either (set_cases row s v free t (omega (arith, h.row_ok.four)))
            (λ c. rw (c.1, c.0) ag)
            (λ c. let e' : (get_or row t free).pending ≡ true = rw c.1 at e in
            let n : slot_no p t ≢ slot_no p s = λ q. c.0 (omega arith) in
            let z : (get_or row t free).frame_length ≤ 1532 = h.row_ok.sizes t l' e' in
            let o = h.agree t l' e' in
            rw c.1
            (record {
              received = λ i j. cc (ha _ i n (omega arith), hb _ i n (omega arith), o.received i j);
              byte = λ i j k. cc (ba _ i n (omega arith), bb _ i n (omega arith), o.byte i j (cc (ha _ i n (omega arith))));
            }));
      }

  placed_alike : (row : List Slot) (a : A.S) (b : B.S) (g : Seg) (c : Choice) → ChoiceFacts row g c
      → Same A B p row a b → Alike A B p g.frame_length (placed A p row a g c) (placed B p row b g c)
  unfolding slot_no
  placed_alike row a b g (reject r) q h = rejects_alike g.frame_length row a b (Rejected r) refl h
  placed_alike row a b g (old s) q h =
      let l : s < most_slots = q.is_slot in
      let z : g.frame_length ≤ 1532 = q.fits.most in
      let f : g.offset + length g.bytes ≤ g.frame_length = q.fits.inside in
      let f' : g.offset + length (stored_bytes g) ≤ g.frame_length = omega (arith, stored-length g) in
      let v : Slot = further_slot (get_or row s free) g in
      let ag : Agree A B (slot_no p s) g.frame_length a b = rw q.size at (h.agree s l q.pending) in
      let w : overlaps A a (slot_no p s) g ≡ overlaps B b (slot_no p s) g = overlaps-same A B (slot_no p s) g.frame_length a b ag g f in
      let sv : get_or (set row s v) s free ≡ v = get_or-set_same row s v free (omega (arith, h.row_ok.four)) in
      case_b (overlaps A a (slot_no p s) g)
      (λ t. rw (← w, t) (rejects_alike g.frame_length row a b (Rejected AlreadyReceived) refl h))
      (λ t. rw (← w, t)
      (finish_alike s (set row s v) (A.put a (slot_no p s) g.offset (stored_bytes g)) (B.put b (slot_no p s) g.offset (stored_bytes g)) g
      (note_after (note_of (get_or row s free)) g) l
      (slot_same s row v a (A.put a (slot_no p s) g.offset (stored_bytes g)) b (B.put b (slot_no p s) g.offset (stored_bytes g)) l h
      (omega (arith, q.size))
      (LA.ok_put a _ _ _ h.ok_a (omega arith) (omega arith))
      (LB.ok_put b _ _ _ h.ok_b (omega arith) (omega arith))
      (rw q.size (put_agree s g.frame_length g.offset (stored_bytes g) a b l z f' h.ok_a h.ok_b ag))
      (λ j i n k. LA.received_put_other a _ _ _ h.ok_a (omega arith) (omega arith) j i n k)
      (λ j i n k. LA.byte_put_other a _ _ _ h.ok_a (omega arith) (omega arith) j i n k)
      (λ j i n k. LB.received_put_other b _ _ _ h.ok_b (omega arith) (omega arith) j i n k)
      (λ j i n k. LB.byte_put_other b _ _ _ h.ok_b (omega arith) (omega arith) j i n k))
      (rw sv) (rw sv q.size)))
  placed_alike row a b g (fresh s) q h =
      let l : s < most_slots = q.is_slot in
      let z : g.frame_length ≤ 1532 = q.fits.most in
      let f : g.offset + length g.bytes ≤ g.frame_length = q.fits.inside in
      let v : Slot = opened_slot g in
      let a₁ : A.S = A.clear a (slot_no p s) in
      let b₁ : B.S = B.clear b (slot_no p s) in
      let oa₁ : A.Ok a₁ = LA.ok_clear a _ h.ok_a (omega arith) in
      let ob₁ : B.Ok b₁ = LB.ok_clear b _ h.ok_b (omega arith) in
      let cA : (i : ℕ) → i < g.frame_length → A.received a₁ (slot_no p s) i ≡ false = λ i j. LA.received_clear a _ h.ok_a (omega arith) i (omega arith) in
      let cB : (i : ℕ) → i < g.frame_length → B.received b₁ (slot_no p s) i ≡ false = λ i j. LB.received_clear b _ h.ok_b (omega arith) i (omega arith) in
      let ag : Agree A B (slot_no p s) g.frame_length a₁ b₁ = record { received = λ i j. cA i j ∙ sym (cB i j); byte = λ i j t. clash (cc (cA i j)) } in
      let sv : get_or (set row s v) s free ≡ v = get_or-set_same row s v free (omega (arith, h.row_ok.four)) in
      finish_alike s (set row s v) (A.put a₁ (slot_no p s) g.offset g.bytes) (B.put b₁ (slot_no p s) g.offset g.bytes) g (note_after no_note g) l
      (slot_same s row v a (A.put a₁ (slot_no p s) g.offset g.bytes) b (B.put b₁ (slot_no p s) g.offset g.bytes) l h z
      (LA.ok_put a₁ _ _ _ oa₁ (omega arith) (omega arith))
      (LB.ok_put b₁ _ _ _ ob₁ (omega arith) (omega arith))
      (put_agree s g.frame_length g.offset g.bytes a₁ b₁ l z f oa₁ ob₁ ag)
      (λ j i n k. LA.received_put_other a₁ _ _ _ oa₁ (omega arith) (omega arith) j i n k ∙ LA.received_clear_other a _ h.ok_a (omega arith) j i n k)
      (λ j i n k. LA.byte_put_other a₁ _ _ _ oa₁ (omega arith) (omega arith) j i n k ∙ LA.byte_clear_other a _ h.ok_a (omega arith) j i n k)
      (λ j i n k. LB.received_put_other b₁ _ _ _ ob₁ (omega arith) (omega arith) j i n k ∙ LB.received_clear_other b _ h.ok_b (omega arith) j i n k)
      (λ j i n k. LB.byte_put_other b₁ _ _ _ ob₁ (omega arith) (omega arith) j i n k ∙ LB.byte_clear_other b _ h.ok_b (omega arith) j i n k))
      (rw sv) (rw sv)

  pub take_alike : (row : Peer) (a : A.S) (b : B.S) (g : Seg) → Same A B p row.slots a b
      → Alike A B p g.frame_length (take_segment A p row a g) (take_segment B p row b g)
  unfolding take_segment
  take_alike row a b g h = placed_alike row.slots a b g (chosen row.slots g) (chosen_facts row.slots g) h

-- a segment of another peer changes neither the peer's row nor its slots
module _ (A : Ops) (LA : Laws A) (q : ℕ) (q< : q < most_peers) where
  pub record Apart (a a' : A.S) : Type 0 where
    pub ok : A.Ok a'
    pub received : (j i : ℕ) → ((s : ℕ) → s < most_slots → j ≢ slot_no q s) → i < 1532 → A.received a' j i ≡ A.received a j i
    pub byte : (j i : ℕ) → ((s : ℕ) → s < most_slots → j ≢ slot_no q s) → i < 1532 → A.byte a' j i ≡ A.byte a j i

  finish-row : (s : ℕ) (row : List Slot) (a : A.S) (g : Seg) (note : Note) → s < most_slots → RowOk row → RowOk (finish A q s row a g note).row.slots
  finish-row s row a g note l r = case_b (complete A a (slot_no q s) g.frame_length) (λ e. rw e (row-set row s free l r (λ t. clash (cc)))) (λ e. rw e r)

  placed_apart : (row : List Slot) (a : A.S) (g : Seg) (c : Choice) → ChoiceFacts row g c → RowOk row → A.Ok a
      → Apart a (placed A q row a g c).mem × RowOk (placed A q row a g c).row.slots
  unfolding slot_no
  placed_apart row a g (reject n) e r o = (record { ok = o; received = λ j i n k. refl; byte = λ j i n k. refl }, r)
  placed_apart row a g (old s) e r o =
      let l : s < most_slots = e.is_slot in
      let z : g.frame_length ≤ 1532 = e.fits.most in
      let f : g.offset + length g.bytes ≤ g.frame_length = e.fits.inside in
      let f' : g.offset + length (stored_bytes g) ≤ g.frame_length = omega (arith, stored-length g) in
      case_b (overlaps A a (slot_no q s) g)
      (λ t. rw t (record { ok = o; received = λ j i n k. refl; byte = λ j i n k. refl }, r))
      (λ t. rw (t, finish_mem A q) (
        record {
          ok = LA.ok_put a _ _ _ o (omega arith) (omega arith);
          received = λ j i n k. LA.received_put_other a _ _ _ o (omega arith) (omega arith) j i (n s l) k;
          byte = λ j i n k. LA.byte_put_other a _ _ _ o (omega arith) (omega arith) j i (n s l) k;
        },
        finish-row s _ _ g _ l (row-set row s _ l r (λ t. omega (arith, e.size))),
      ))
  placed_apart row a g (fresh s) e r o =
      let l : s < most_slots = e.is_slot in
      let z : g.frame_length ≤ 1532 = e.fits.most in
      let f : g.offset + length g.bytes ≤ g.frame_length = e.fits.inside in
      let o₁ : A.Ok (A.clear a (slot_no q s)) = LA.ok_clear a _ o (omega arith) in
      rw (finish_mem A q) (
        record {
          ok = LA.ok_put _ _ _ _ o₁ (omega arith) (omega arith);
          received = λ j i n k. LA.received_put_other _ _ _ _ o₁ (omega arith) (omega arith) j i (n s l) k
              ∙ LA.received_clear_other a _ o (omega arith) j i (n s l) k;
          byte = λ j i n k. LA.byte_put_other _ _ _ _ o₁ (omega arith) (omega arith) j i (n s l) k ∙ LA.byte_clear_other a _ o (omega arith) j i (n s l) k;
        },
        finish-row s _ _ g _ l (row-set row s _ l r (λ t. z)),
      )

  pub take_apart : (row : Peer) (a : A.S) (g : Seg) → RowOk row.slots → A.Ok a
      → Apart a (take_segment A q row a g).mem × RowOk (take_segment A q row a g).row.slots
  unfolding take_segment
  take_apart row a g r o = placed_apart row.slots a g (chosen row.slots g) (chosen_facts row.slots g) r o
