-- The reader of NVGRE is sound and complete for the format, and blind to what document 01 ignores.
use Rattle.std.specs.Prelude.{◌≡◌, ℕ, ◌+◌, ◌-◌, ◌*◌, ◌/◌, ◌%◌, ◌^◌, ◌<◌, ◌≤◌, ltb, List, [], ◌∷◌, length, drop, nat_lt, refl, Ok, Err}
use Rattle.std.proofs.Common.{subst, ◌∙◌, arith, lt-ltb, le-ltb, ltb-true, ltb-false}
use Rattle.wire.specs.Bytes.{Bytes, be, be_at}
use Rattle.wire.proofs.Laws.Bytes.{as_fields, be_value, be-lt, be_split, case_b}
use Rattle.wire.specs.Checks.{Passed}
use Rattle.wire.proofs.Laws.Checks.{pass, through, tests, passing}
use Rattle.wire.specs.Nvgre.{gre, IsNvgre, nvgre_checks, nvgre_at, nvgre_of}
use Rattle.wire.specs.declared.carriage.Tunnel.{Tunnel}

record ReadsBack (high low vsid : ℕ) (frame s : List ℕ) : Type 0 where
  first : be_at s 0 1 ≡ 2 * 16 + high
  second : be_at s 1 1 ≡ low * 8
  type_high : be_at s 2 1 ≡ 101
  type_low : be_at s 3 1 ≡ 88
  vsid_is : be_at s 4 3 ≡ vsid
  frame_is : drop 8 s ≡ frame
  long : length s ≡ 8 + length frame

reads_back : (high low vsid flow : ℕ) (frame : List ℕ) → high < 4 → low < 32 → vsid < 256 ^ 3 → ReadsBack high low vsid frame (gre high low vsid flow frame)
unfolding gre be be_at
reads_back high low vsid flow frame h1 h2 h3 = record {
  first = be_value 1 (2 * 16 + high) (omega arith);
  second = be_value 1 (low * 8) (omega arith);
  type_high = refl;
  type_low = refl;
  vsid_is = be_value 3 vsid h3;
  frame_is = refl;
  long = omega arith;
}

pub complete : {vsid : ℕ} {frame s : List ℕ} → IsNvgre vsid frame s
    → (nvgre_of s ≡ Ok (record { start = 8; network = vsid; kind = 2 })) × (drop 8 s ≡ frame) × (length s ≡ 8 + length frame)
unfolding nvgre_of nvgre_checks nvgre_at
complete {vsid} {frame} {s} w =
    let r : ReadsBack w.high w.low vsid frame s =
    rw w.whole (reads_back w.high w.low vsid w.flow frame w.high_fits w.low_fits w.vsid_fits) in (
      pass Err (nvgre_checks s) (Ok (nvgre_at s)) (omega (arith, passing, r.first, r.second, r.type_high, r.type_low, r.long, w.high_fits))
          ∙ rw r.vsid_is,
      r.frame_is,
      r.long,
    )

pub record Accepted (s : List ℕ) (t : Tunnel) : Type 0 where
  pub start_is : t.start ≡ 8
  pub kind_is : t.kind ≡ 2
  pub is : IsNvgre t.network (drop 8 s) s
  pub within : 8 ≤ length s

sound_at : (s : List ℕ) → Bytes s → Passed (nvgre_checks s) → Accepted s (nvgre_at s)
unfolding nvgre_checks nvgre_at gre
sound_at s b p =
    let h : 8 ≤ length s = omega (arith, tests) in
    let e0 : be_at s 0 1 ≡ 2 * 16 + (be_at s 0 1 - 32) = omega (arith, tests) in
    let e1 : be_at s 1 1 ≡ be_at s 1 1 / 8 * 8 = omega (arith, tests) in
    let e2 : be_at s 2 2 ≡ 25944 = omega (arith, tests, be_split s 2 1 1) in
    record {
      start_is = refl;
      kind_is = refl;
      is = record {
        high = be_at s 0 1 - 32;
        low = be_at s 1 1 / 8;
        flow = be_at s 7 1;
        whole = rw (← e0, ← e1, ← e2) (as_fields s b (1 ∷ 1 ∷ 2 ∷ 3 ∷ 1 ∷ []) 0 h);
        high_fits = omega (arith, tests);
        low_fits = omega (arith, be-lt s b 1 1);
        vsid_fits = be-lt s b 4 3;
      };
      within = h;
    }

pub sound : (s : List ℕ) → Bytes s → (t : Tunnel) → nvgre_of s ≡ Ok t → Accepted s t
unfolding nvgre_of
sound s b t eq =
    let p = through (nvgre_checks s) (Ok (nvgre_at s)) t eq in
    subst (Accepted s) (cc p.1) (sound_at s b p.0)

-- ---- what is ignored: the answer depends on the length, bits 0 to 5 and 13 to 15, the protocol type and the VSID alone, not on the other seven reserved bits
-- or the FlowID

pub ignores : (s t : List ℕ) → length s ≡ length t → be_at s 0 1 / 4 ≡ be_at t 0 1 / 4 → be_at s 1 1 % 8 ≡ be_at t 1 1 % 8
    → be_at s 2 1 ≡ be_at t 2 1 → be_at s 3 1 ≡ be_at t 3 1 → be_at s 4 3 ≡ be_at t 4 3 → nvgre_of s ≡ nvgre_of t
unfolding nvgre_of nvgre_checks nvgre_at
ignores s t l f v h w k =
    let e1 : ltb (be_at s 0 1) 32 ≡ ltb (be_at t 0 1) 32 =
    case_b (nat_lt (be_at t 0 1) 32)
    (λ e. rw e (lt-ltb (be_at s 0 1) 32 (omega (arith, ltb-true (be_at t 0 1) 32 e))))
    (λ e. rw e (le-ltb (be_at s 0 1) 32 (omega (arith, ltb-false (be_at t 0 1) 32 e)))) in
    let e2 : ltb 35 (be_at s 0 1) ≡ ltb 35 (be_at t 0 1) =
    case_b (nat_lt 35 (be_at t 0 1))
    (λ e. rw e (lt-ltb 35 (be_at s 0 1) (omega (arith, ltb-true 35 (be_at t 0 1) e))))
    (λ e. rw e (le-ltb 35 (be_at s 0 1) (omega (arith, ltb-false 35 (be_at t 0 1) e)))) in
    rw (l, e1, e2, v, h, w, k)

-- where the frame of what is accepted starts, for any list
pub nvgre-room : (s : List ℕ) (t : Tunnel) → nvgre_of s ≡ Ok t → t.start ≤ length s
unfolding nvgre_of nvgre_checks nvgre_at
nvgre-room s t eq =
    let p = through (nvgre_checks s) (Ok (nvgre_at s)) t eq in
    let e : nvgre_at s ≡ t = cc p.1 in
    rw (← e) (omega (arith, tests))
