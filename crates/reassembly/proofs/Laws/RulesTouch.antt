-- Which bytes of the memory a segment that is taken changes (EveryRun, `Touches`): over the bytes, with the paper's numbers.
use Rattle.std.specs.Prelude.{◌≡◌, refl, ◌≢◌, Bool, true, ◌||◌}
use Rattle.std.proofs.Math.Path.{sym, ap}
use Rattle.std.proofs.Common.{◌∙◌, get_or-set_other}
use Rattle.std.proofs.Math.Logic.{inl, inr}
use Rattle.std.proofs.Math.Bool.{false}
use mathlib.Core.List.{List}
use Prim.Native.Nat.{ℕ, zero, suc, ◌+◌, ◌-◌, ◌/◌, ◌%◌, ◌^◌, ◌≤◌, ◌<◌}
use native.Mathlib.Omega.{arith}
use Rattle.std.proofs.Math.Nat.{zero-div}
use Rattle.std.proofs.Math.ListN.{length, get_or, length-replicate, get_or-replicate}
use Rattle.std.proofs.Math.Seq.{sets, length-sets}
use Rattle.reassembly.proofs.Laws.Base.{either, clash}
use Rattle.reassembly.specs.Take.{slot_no, Seg, Fits}
use Rattle.reassembly.specs.Base.{within}
use Rattle.reassembly.proofs.Laws.Memory.{within_low, within_high, within_is}
use Rattle.reassembly.specs.Store.{is_on, bit_at, set_bit, set_bits, slot_start, map_start, zeros, clear_at, put_at}
use Rattle.reassembly.proofs.Laws.Store.{sets_out, sets_in, bits_set, bits_out, length-set_bits}
use Rattle.reassembly.specs.EveryRun.{frame_at, map_at, bit_of, Touches}
use Rattle.reassembly.specs.Slots.{most_peers, most_slots}

-- a map byte that has none of the bits is left
set_bits-other : (m : List ℕ) (b a n j : ℕ) → ((i : ℕ) → within a n i ≡ true → j ≢ b + i / 8) → get_or (set_bits m b a n) j 0 ≡ get_or m j 0
unfolding set_bits set_bit
set_bits-other m b a zero j o = refl
set_bits-other m b a (suc n) j o =
    get_or-set_other (set_bits m b a n) (b + (a + n) / 8) j _ 0 (o (a + n) (within_is a (suc n) (a + n) (omega arith) (omega arith)))
    ∙ set_bits-other m b a n j (λ i w. o i (within_is a (suc n) i (within_low a n i w) (omega (arith, within_high a n i w))))

-- a bit is as its byte is
bit_of_lem : (m m' : List ℕ) (b i : ℕ) → get_or m (b + i / 8) 0 ≡ get_or m' (b + i / 8) 0 → bit_at m b i ≡ bit_at m' b i
unfolding bit_at
bit_of_lem m m' b i e = ap (λ (x : ℕ). is_on x (i % 8)) e

zero_bit : (m : List ℕ) (b i : ℕ) → get_or m (b + i / 8) 0 ≡ 0 → bit_at m b i ≡ false
unfolding bit_at is_on
zero_bit m b i e = rw (e, zero-div (2 ^ (i % 8)))

bit_is : (m : List ℕ) (b i : ℕ) → bit_of m b i ≡ bit_at m b i
unfolding bit_at is_on bit_of
bit_is m b i = refl

module _ (p s : ℕ) (p< : p < most_peers) (s< : s < most_slots) (g : Seg) (f : Fits g) where
  -- a further segment of a frame pending
  pub touches_further : (m : List ℕ) → 55296 ≤ length m → Touches p s false g m (put_at m (slot_no p s) g.offset g.bytes)
  unfolding put_at slot_start map_start slot_no frame_at map_at
  touches_further m o =
      let k : ℕ = slot_no p s in
      let z : g.frame_length ≤ 1532 = f.most in
      let i₀ : g.offset + length g.bytes ≤ g.frame_length = f.inside in
      let m₁ : List ℕ = sets m (frame_at p s + g.offset) g.bytes in
      let l₁ : length m₁ ≡ length m = length-sets m (frame_at p s + g.offset) g.bytes in
      record {
        size = length-set_bits m₁ (map_at p s) g.offset (length g.bytes) ∙ l₁;
        place = λ i l.
            let q : frame_at p s + (g.offset + i) - (frame_at p s + g.offset) ≡ i = omega arith in
            bits_out m₁ (map_at p s) g.offset (length g.bytes) (frame_at p s + (g.offset + i)) (omega arith) (inl (omega arith))
            ∙ sets_in g.bytes m (frame_at p s + g.offset) (frame_at p s + (g.offset + i)) (omega arith) (omega arith) (omega arith)
            ∙ ap (λ (x : ℕ). get_or g.bytes x 0) q;
        bits = λ i l.
            bit_is (put_at m (slot_no p s) g.offset g.bytes) (map_at p s) i
            ∙ bits_set m₁ (map_at p s) g.offset (length g.bytes) i (omega arith) (omega arith)
            ∙ ap (λ (b : Bool). within g.offset (length g.bytes) i || b)
            (bit_of_lem m₁ m (map_at p s) i (sets_out g.bytes m (frame_at p s + g.offset) (map_at p s + i / 8) (inr (omega arith)))
            ∙ sym (bit_is m (map_at p s) i));
        others = λ j a b.
            bits_out m₁ (map_at p s) g.offset (length g.bytes) j (omega arith) b
            ∙ sets_out g.bytes m (frame_at p s + g.offset) j a;
        map_others = λ e j a b.
            set_bits-other m₁ (map_at p s) g.offset (length g.bytes) j b
            ∙ sets_out g.bytes m (frame_at p s + g.offset) j a;
      }

  -- the first segment of a new frame
  pub touches_opens : (m : List ℕ) → 55296 ≤ length m → Touches p s true g m (put_at (clear_at m (slot_no p s)) (slot_no p s) g.offset g.bytes)
  unfolding clear_at slot_start map_start slot_no map_at
  touches_opens m o =
      let z : g.frame_length ≤ 1532 = f.most in
      let i₀ : g.offset + length g.bytes ≤ g.frame_length = f.inside in
      let m₀ : List ℕ = clear_at m (slot_no p s) in
      let l₀ : length m₀ ≡ length m = length-sets m (map_at p s) zeros in
      let n₀ : length zeros ≡ 192 = length-replicate {A = ℕ} 192 0 in
      let t : Touches p s false g m₀ (put_at m₀ (slot_no p s) g.offset g.bytes) = touches_further m₀ (omega arith) in
      record {
        size = t.size ∙ l₀;
        place = t.place;
        bits = λ i l.
            let q : get_or m₀ (map_at p s + i / 8) 0 ≡ 0 =
            sets_in zeros m (map_at p s) (map_at p s + i / 8) (omega arith) (omega arith) (omega arith)
            ∙ get_or-replicate {A = ℕ} 192 (map_at p s + i / 8 - map_at p s) 0 0 (omega arith) in
            t.bits i l ∙ ap (λ (b : Bool). within g.offset (length g.bytes) i || b) (bit_is m₀ (map_at p s) i ∙ zero_bit m₀ (map_at p s) i q);
        others = λ j a b. t.others j a b ∙ sets_out zeros m (map_at p s) j (either b (λ x. inl x) (λ x. inr (omega arith)));
        map_others = λ e. clash (cc);
      }
