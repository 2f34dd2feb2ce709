-- The reader of VXLAN is sound and complete for the format, and blind to what document 01 ignores.
use Rattle.std.specs.Prelude.{◌≡◌, ℕ, ◌+◌, ◌/◌, ◌%◌, ◌^◌, ◌<◌, ◌≤◌, List, [], ◌∷◌, length, drop, refl, Ok, Err}
use Rattle.std.proofs.Common.{ap, subst, ◌∙◌, arith}
use Rattle.wire.specs.Bytes.{Bytes, be, be_at}
use Rattle.wire.proofs.Laws.Bytes.{as_fields, be_value, be-lt}
use Rattle.wire.specs.Checks.{Passed}
use Rattle.wire.proofs.Laws.Checks.{pass, through, tests, passing}
use Rattle.wire.specs.Vxlan.{vxlan, IsVxlan, vxlan_checks, vxlan_at, vxlan_of}
use Rattle.wire.specs.declared.carriage.Tunnel.{Tunnel}

pub vxlan-length : (flags reserved vni last : ℕ) (frame : List ℕ) → length (vxlan flags reserved vni last frame) ≡ 8 + length frame
unfolding vxlan be
vxlan-length flags reserved vni last frame = omega arith

-- ---- complete

record ReadsBack (flags vni : ℕ) (frame s : List ℕ) : Type 0 where
  flags_is : be_at s 0 1 ≡ flags
  vni_is : be_at s 4 3 ≡ vni
  frame_is : drop 8 s ≡ frame

reads_back : (flags reserved vni last : ℕ) (frame : List ℕ) → flags < 256 → vni < 256 ^ 3
    → ReadsBack flags vni frame (vxlan flags reserved vni last frame)
unfolding vxlan be be_at
reads_back flags reserved vni last frame h1 h2 = record {
  flags_is = be_value 1 flags h1;
  vni_is = be_value 3 vni h2;
  frame_is = refl;
}

pub complete : {vni : ℕ} {frame s : List ℕ} → IsVxlan vni frame s
    → (vxlan_of s ≡ Ok (record { start = 16; network = vni; kind = 1 })) × (drop 8 s ≡ frame) × (length s ≡ 8 + length frame)
unfolding vxlan_of vxlan_checks vxlan_at
complete {vni} {frame} {s} v =
    let n : length s ≡ 8 + length frame = ap length v.whole ∙ vxlan-length v.flags v.reserved vni v.last frame in
    let r : ReadsBack v.flags vni frame s = rw v.whole (reads_back v.flags v.reserved vni v.last frame v.flags_fit v.vni_fits) in
    let flag : be_at s 0 1 / 8 % 2 ≡ 1 = rw r.flags_is v.flag in (
      pass Err (vxlan_checks s) (Ok (vxlan_at s)) (omega (arith, passing)) ∙ rw r.vni_is,
      r.frame_is,
      n,
    )

-- ---- sound

pub record Accepted (s : List ℕ) (t : Tunnel) : Type 0 where
  pub start_is : t.start ≡ 16
  pub kind_is : t.kind ≡ 1
  pub is : IsVxlan t.network (drop 8 s) s
  pub within : 8 ≤ length s

sound_at : (s : List ℕ) → Bytes s → Passed (vxlan_checks s) → Accepted s (vxlan_at s)
unfolding vxlan_checks vxlan_at vxlan
sound_at s b p =
    let h : 8 ≤ length s = omega (arith, tests) in
    record {
      start_is = refl;
      kind_is = refl;
      is = record {
        flags = be_at s 0 1;
        reserved = be_at s 1 3;
        last = be_at s 7 1;
        whole = as_fields s b (1 ∷ 3 ∷ 3 ∷ 1 ∷ []) 0 h;
        flag = omega (arith, tests);
        flags_fit = omega (arith, be-lt s b 0 1);
        vni_fits = be-lt s b 4 3;
      };
      within = h;
    }

pub sound : (s : List ℕ) → Bytes s → (t : Tunnel) → vxlan_of s ≡ Ok t → Accepted s t
unfolding vxlan_of
sound s b t eq =
    let p = through (vxlan_checks s) (Ok (vxlan_at s)) t eq in
    subst (Accepted s) (cc p.1) (sound_at s b p.0)

-- where the frame of what is accepted starts, for any list
pub vxlan-start : (s : List ℕ) (t : Tunnel) → vxlan_of s ≡ Ok t → t.start ≡ 16
unfolding vxlan_of vxlan_at
vxlan-start s t eq =
    let p = through (vxlan_checks s) (Ok (vxlan_at s)) t eq in
    let e : vxlan_at s ≡ t = cc p.1 in
    rw (← e)

-- ---- what is ignored: the answer depends on the length, the flag I and the VNI alone, not on other flags or the reserved bits

pub ignores : (s t : List ℕ) → length s ≡ length t → be_at s 0 1 / 8 % 2 ≡ be_at t 0 1 / 8 % 2 → be_at s 4 3 ≡ be_at t 4 3 → vxlan_of s ≡ vxlan_of t
unfolding vxlan_of vxlan_checks vxlan_at
ignores s t l f v = rw (l, f, v)
