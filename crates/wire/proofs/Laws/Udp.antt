-- Laws of UDP.
use Rattle.std.specs.Prelude.{◌≡◌, ℕ, ◌+◌, ◌-◌, ◌^◌, ◌<◌, ◌≤◌, ◌⊎◌, List, [], ◌∷◌, ◌++◌, length, drop, ◌==◌, refl, Ok, Err}
use Rattle.std.proofs.Common.{ap, ◌∙◌, inl, inr, ⊎_elim, arith, eqb-true, eq-eqb, length-drop}
use Rattle.wire.specs.Bytes.{Bytes, be, be_at}
use Rattle.wire.proofs.Laws.Bytes.{as_fields, be_value, be-lt, case_b}
use Rattle.wire.specs.Sum.{total, ones, pseudo}
use Rattle.wire.specs.Checks.{Passed}
use Rattle.wire.proofs.Laws.Checks.{pass, through, tests, passing}
use Rattle.wire.specs.Udp.{udp, IsUdp, udp_sum, udp_checks, udp_of}
use Rattle.wire.specs.Vxlan.{vxlan_of}
use Rattle.wire.specs.declared.carriage.Tunnel.{Tunnel}

-- ---- written, then read

pub record ReadsBack (from to size checksum : ℕ) (s : List ℕ) : Type 0 where
  pub port : be_at s 2 2 ≡ to
  pub length_is : be_at s 4 2 ≡ size
  pub checksum_is : be_at s 6 2 ≡ checksum

pub reads_back : (from to size checksum : ℕ) (payload : List ℕ) → to < 256 ^ 2 → size < 256 ^ 2 → checksum < 256 ^ 2
    → ReadsBack from to size checksum (udp from to size checksum payload)
unfolding udp be be_at
reads_back from to size checksum payload h1 h2 h3 = record {
  port = be_value 2 to h1;
  length_is = be_value 2 size h2;
  checksum_is = be_value 2 checksum h3;
}

pub udp-length : (from to size checksum : ℕ) (payload : List ℕ) → length (udp from to size checksum payload) ≡ 8 + length payload
unfolding udp be
udp-length from to size checksum payload = omega arith

udp-payload : (from to size checksum : ℕ) (payload : List ℕ) → drop 8 (udp from to size checksum payload) ≡ payload
unfolding udp be
udp-payload from to size checksum payload = refl

-- the sum is all ones exactly when the checksum is none or right
pub judged : (source destination : ℕ) (s : List ℕ)
    → (be_at s 6 2 ≡ 0) ⊎ (ones (total (pseudo source destination 17 (length s) ++ s)) ≡ 65535) → udp_sum source destination s ≡ 65535
unfolding udp_sum
judged source destination s (inl e) = rw (eq-eqb (be_at s 6 2) 0 e)
judged source destination s (inr e) = case_b (be_at s 6 2 == 0) (λ q. rw q) (λ q. rw q e)

pub judge : (source destination : ℕ) (s : List ℕ)
    → udp_sum source destination s ≡ 65535 → (be_at s 6 2 ≡ 0) ⊎ (ones (total (pseudo source destination 17 (length s) ++ s)) ≡ 65535)
unfolding udp_sum
judge source destination s e =
    case_b (be_at s 6 2 == 0) (λ q. inl (eqb-true (be_at s 6 2) 0 q)) (λ q. inr (rw q at e))

-- ---- read, then written

pub as_udp : (source destination port : ℕ) (s : List ℕ) → Bytes s → 8 ≤ length s
    → be_at s 2 2 ≡ port → be_at s 4 2 ≡ length s → udp_sum source destination s ≡ 65535
    → IsUdp source destination port (drop 8 s) s
unfolding udp
as_udp source destination port s b h p n e =
    let l : length (drop 8 s) ≡ length s - 8 = length-drop 8 s in
    let k : be_at s 4 2 ≡ 8 + length (drop 8 s) = omega arith in
    record {
      from = be_at s 0 2;
      checksum = be_at s 6 2;
      whole = rw (← p, ← k) (as_fields s b (2 ∷ 2 ∷ 2 ∷ 2 ∷ []) 0 h);
      right = judge source destination s e;
      from_fits = be-lt s b 0 2;
      port_fits = omega (arith, be-lt s b 2 2);
      size_fits = omega (arith, be-lt s b 4 2);
      checksum_fits = be-lt s b 6 2;
    }

-- ---- complete: of a datagram to VXLAN's port, with room for its header, what VXLAN's reader says of the payload is what is read

pub complete : {source destination : ℕ} {payload s : List ℕ} → IsUdp source destination 4789 payload s → 8 ≤ length payload
    → (udp_of source destination s ≡ vxlan_of payload) × (drop 8 s ≡ payload) × (length s ≡ 8 + length payload)
unfolding udp_of udp_checks
complete {source} {destination} {payload} {s} u h =
    let size : length s ≡ 8 + length payload = ap length u.whole ∙ udp-length u.from 4789 (8 + length payload) u.checksum payload in
    let a : ReadsBack u.from 4789 (8 + length payload) u.checksum s =
    rw u.whole (reads_back u.from 4789 (8 + length payload) u.checksum payload u.port_fits u.size_fits u.checksum_fits) in
    let sum : udp_sum source destination s ≡ 65535 = judged source destination s (⊎_elim (λ z. inl (a.checksum_is ∙ z)) inr u.right) in
    let behind : drop 8 s ≡ payload = rw u.whole (udp-payload u.from 4789 (8 + length payload) u.checksum payload) in (
      pass Err (udp_checks source destination s) (vxlan_of (drop 8 s)) (omega (arith, passing, a.port, a.length_is)) ∙ ap vxlan_of behind,
      behind,
      size,
    )

-- ---- sound: what is not refused is a datagram, and its payload was read

pub record Accepted (source destination : ℕ) (s : List ℕ) : Type 0 where
  pub is : IsUdp source destination 4789 (drop 8 s) s
  pub room : 16 ≤ length s

sound_at : (source destination : ℕ) (s : List ℕ) → Bytes s → Passed (udp_checks source destination s) → Accepted source destination s
unfolding udp_checks
sound_at source destination s b p =
    record {
      is = as_udp source destination 4789 s b (omega (arith, tests)) (omega (arith, tests)) (omega (arith, tests)) (omega (arith, tests));
      room = omega (arith, tests);
    }

module _ (source destination : ℕ) (s : List ℕ) (t : Tunnel) (eq : udp_of source destination s ≡ Ok t) where
  opened : Passed (udp_checks source destination s) × (vxlan_of (drop 8 s) ≡ Ok t)
  unfolding udp_of
  opened = through (udp_checks source destination s) (vxlan_of (drop 8 s)) t eq

  pub sound : Bytes s → Accepted source destination s × (vxlan_of (drop 8 s) ≡ Ok t)
  sound b = (sound_at source destination s b opened.0, opened.1)

  -- the same of any list
  pub udp-room : (16 ≤ length s) × (vxlan_of (drop 8 s) ≡ Ok t)
  unfolding udp_checks
  udp-room = let p = opened in (omega (arith, tests), p.1)
