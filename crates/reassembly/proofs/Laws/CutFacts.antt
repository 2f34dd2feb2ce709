-- Where the parts of a cut lie: each inside the whole, no two in one place, every byte in one of them.
use Rattle.std.specs.Prelude.{◌≡◌, ◌≢◌, true, List, [], ◌∷◌, ◌++◌, ℕ, zero, suc, ◌+◌, ◌-◌, ◌≤◌, ◌<◌, length, get_or, take, ltb}
use Rattle.std.proofs.Common.{sym, ap, ◌∙◌, arith, length-append, get_or-append-add, ltb-true, ltb-false}
use Rattle.std.proofs.Math.ListN.{get_or-append}
use Rattle.reassembly.proofs.Laws.Base.{case_b}
use Rattle.reassembly.specs.Base.{within}
use Rattle.reassembly.proofs.Laws.Memory.{within_low, within_high, within_is}
use Rattle.reassembly.specs.Mix.{Part, no_part, joined, offset_of}

abbrev pub size : List Part → ℕ → ℕ
size ps j = length (get_or ps j no_part).bytes

pub offset_suc : (x : Part) (ps : List Part) (j : ℕ) → offset_of (x ∷ ps) (suc j) ≡ length x.bytes + offset_of ps j
offset_suc x ps j = length-append x.bytes (joined (take j ps))

-- part j ends inside the whole
pub part_end : (ps : List Part) (j : ℕ) → j < length ps → offset_of ps j + size ps j ≤ length (joined ps)
part_end [] j l = absurd (omega arith)
part_end (x ∷ ps) zero l = omega (arith, length-append x.bytes (joined ps))
part_end (x ∷ ps) (suc j) l = omega (arith, length-append x.bytes (joined ps), offset_suc x ps j, part_end ps j (omega arith))

-- of two parts, the earlier ends where the later begins or before
pub part_order : (ps : List Part) (j k : ℕ) → j < k → k < length ps → offset_of ps j + size ps j ≤ offset_of ps k
part_order [] j k l h = absurd (omega arith)
part_order (x ∷ ps) j zero l h = absurd (omega arith)
part_order (x ∷ ps) zero (suc k) l h = omega (arith, offset_suc x ps k)
part_order (x ∷ ps) (suc j) (suc k) l h = omega (arith, offset_suc x ps j, offset_suc x ps k, part_order ps j k (omega arith) (omega arith))

-- two parts that are not empty begin at different places
pub part_differ : (ps : List Part) (j k : ℕ) → j < length ps → k < length ps → j ≢ k → ((i : ℕ) → i < length ps → 0 < size ps i) → offset_of ps j ≢ offset_of ps k
part_differ ps j k lj lk n some q =
    case_b (ltb j k)
    (λ e. absurd (omega (arith, part_order ps j k (ltb-true j k e) lk, some j lj)))
    (λ e. absurd (omega (arith, part_order ps k j (omega (arith, ltb-false j k e)) lj, some k lk)))

-- one place lies in one part only
pub part_one : (ps : List Part) (j k i : ℕ) → j < length ps → k < length ps → within (offset_of ps j) (size ps j) i ≡ true
    → within (offset_of ps k) (size ps k) i ≡ true → j ≡ k
part_one ps j k i lj lk wj wk =
    let a : offset_of ps j ≤ i = within_low _ (size ps j) i wj in
    let b : i < offset_of ps j + size ps j = within_high (offset_of ps j) (size ps j) i wj in
    let c : offset_of ps k ≤ i = within_low _ (size ps k) i wk in
    let d : i < offset_of ps k + size ps k = within_high (offset_of ps k) (size ps k) i wk in
    case_b (ltb j k)
    (λ e. absurd (omega (arith, part_order ps j k (ltb-true j k e) lk)))
    (λ e. case_b (ltb k j)
    (λ f. absurd (omega (arith, part_order ps k j (ltb-true k j f) lj)))
    (λ f. omega (arith, ltb-false j k e, ltb-false k j f)))

-- the byte of the whole at a place in part j is that part's byte
pub part_byte : (ps : List Part) (j i : ℕ) → j < length ps → within (offset_of ps j) (size ps j) i ≡ true
    → get_or (get_or ps j no_part).bytes (i - offset_of ps j) 0 ≡ get_or (joined ps) i 0
part_byte [] j i l w = absurd (omega arith)
part_byte (x ∷ ps) zero i l w =
    let h : i < 0 + length x.bytes = within_high 0 (length x.bytes) i w in
    let z : i - 0 ≡ i = omega arith in
    rw z (sym (get_or-append x.bytes (joined ps) 0 i (omega arith)))
part_byte (x ∷ ps) (suc j) i l w =
    let n : ℕ = length x.bytes in
    let o : offset_of (x ∷ ps) (suc j) ≡ n + offset_of ps j = offset_suc x ps j in
    let a : offset_of (x ∷ ps) (suc j) ≤ i = within_low (offset_of (x ∷ ps) (suc j)) (size ps j) i w in
    let b : i < offset_of (x ∷ ps) (suc j) + size ps j = within_high (offset_of (x ∷ ps) (suc j)) (size ps j) i w in
    let i₁ : i ≡ n + (i - n) = omega arith in
    let z : i - offset_of (x ∷ ps) (suc j) ≡ (i - n) - offset_of ps j = omega arith in
    rw z (part_byte ps j (i - n) (omega arith) (within_is (offset_of ps j) (size ps j) (i - n) (omega arith) (omega arith))
    ∙ sym (get_or-append-add x.bytes (joined ps) (i - n) 0)
    ∙ ap (λ (m : ℕ). get_or (x.bytes ++ joined ps) m 0) (sym i₁))

-- every place lies in some part
pub record Lies (ps : List Part) (i : ℕ) : Type 0 where
  pub part : ℕ
  pub is_part : part < length ps
  pub here : within (offset_of ps part) (size ps part) i ≡ true

pub part-some : (ps : List Part) (i : ℕ) → i < length (joined ps) → Lies ps i
part-some [] i l = absurd (omega arith)
part-some (x ∷ ps) i l =
    case_b (ltb i (length x.bytes))
    (λ e. record { part = 0; is_part = omega arith; here = within_is 0 (length x.bytes) i (omega arith) (omega (arith, ltb-true i (length x.bytes) e)) })
    (λ e. let r : Lies ps (i - length x.bytes) = part-some ps (i - length x.bytes)
    (omega (arith, ltb-false i (length x.bytes) e, length-append x.bytes (joined ps))) in
    record {
      part = suc r.part;
      is_part = omega (arith, r.is_part);
      here = within_is (offset_of (x ∷ ps) (suc r.part)) (size ps r.part) i
          (omega (
            arith,
            ltb-false i (length x.bytes) e,
            offset_suc x ps r.part,
            within_low (offset_of ps r.part) (size ps r.part) (i - length x.bytes) r.here,
          ))
          (omega (
            arith,
            ltb-false i (length x.bytes) e,
            offset_suc x ps r.part,
            within_high (offset_of ps r.part) (size ps r.part) (i - length x.bytes) r.here,
          ));
    })
