-- The reader of an IP payload is sound and complete for the formats.
use Rattle.std.specs.Prelude.{◌≡◌, ℕ, ◌≤◌, List, length, drop, ◌==◌, refl, Result, Ok, Err}
use Rattle.std.proofs.Common.{sym, ap, ◌∙◌, inl, inr, arith, drop-drop}
use borrow.Author.Tests.{eqb-true}
use Rattle.wire.specs.Bytes.{Bytes}
use Rattle.wire.proofs.Laws.Bytes.{case_b, bytes_drop}
use Rattle.wire.specs.Udp.{udp_of}
use Rattle.wire.proofs.Laws.Udp as U
use Rattle.wire.proofs.Laws.Vxlan as X
use Rattle.wire.specs.Nvgre.{IsNvgre, nvgre_of}
use Rattle.wire.proofs.Laws.Nvgre as N
use Rattle.wire.specs.Segment.{header, IsSegment, segment_of}
use Rattle.wire.proofs.Laws.Segment as S
use Rattle.wire.specs.Carriage.{IsVxlanUdp, Tunnels, carried, carriage_of, TunnelRead, ReadsCarriage}
use Rattle.wire.specs.declared.refusal.Refusal.{Refusal}
use Rattle.wire.specs.declared.refusal.Refusal.TheVariants as R
use Rattle.wire.specs.declared.segment.Segment.{Segment}
use Rattle.wire.specs.declared.carriage.Tunnel.{Tunnel}
use Rattle.wire.specs.declared.carriage.Carried.TheVariants as C

-- ---- complete

vxlan-complete : (source destination vni : ℕ) (frame s : List ℕ) → IsVxlanUdp source destination vni frame s
    → TunnelRead (carried C.Tunnel (udp_of source destination s)) 1 vni frame s
vxlan-complete source destination vni frame s w =
    let v = X.complete w.vxlan in
    let u = U.complete w.udp (omega (arith, v.2)) in
    record {
      start = 16;
      is = ap (carried C.Tunnel) (u.0 ∙ v.0);
      frame_is = sym (drop-drop 8 8 s) ∙ ap (drop 8) u.1 ∙ v.1;
      long = omega (arith, u.2, v.2);
    }

nvgre-complete : (vsid : ℕ) (frame s : List ℕ) → IsNvgre vsid frame s → TunnelRead (carried C.Tunnel (nvgre_of s)) 2 vsid frame s
nvgre-complete vsid frame s w =
    let n = N.complete w in
    record { start = 8; is = ap (carried C.Tunnel) n.0; frame_is = n.1; long = n.2 }

pub complete : (kind protocol source destination port id : ℕ) (frame payload : List ℕ) → Tunnels kind protocol source destination id frame payload
    → TunnelRead (carriage_of protocol source destination port payload) kind id frame payload
unfolding carriage_of
complete kind protocol source destination port id frame payload (inl w) = rw (w.0, w.1) (vxlan-complete source destination id frame payload w.2)
complete kind protocol source destination port id frame payload (inr w) = rw (w.0, w.1) (nvgre-complete id frame payload w.2)

pub segment_complete : (source destination port frame_length_at offset identifier : ℕ) (bytes payload : List ℕ)
    (w : IsSegment source destination port frame_length_at offset identifier bytes payload)
    → let n = length (header w.f) in
    (carriage_of 6 source destination port payload ≡ Ok (C.Segment (record { start = n; identifier = identifier; frame_length = frame_length_at; offset = offset })))
    × (drop n payload ≡ bytes)
unfolding carriage_of
segment_complete source destination port frame_length_at offset identifier bytes payload w =
    let c = S.complete w in
    (ap (carried C.Segment) c.0, c.1)

-- ---- an accepted payload, by the protocol

-- what one reader gives is not the other's
tunnel_is : (x : Result Tunnel Refusal) (t : Tunnel) → carried C.Tunnel x ≡ Ok (C.Tunnel t) → x ≡ Ok t
tunnel_is (Ok y) t e = cc
tunnel_is (Err r) t e = cc

segment_is : (x : Result Segment Refusal) (g : Segment) → carried C.Segment x ≡ Ok (C.Segment g) → x ≡ Ok g
segment_is (Ok y) g e = cc
segment_is (Err r) g e = cc

no_tunnel : {A : Type 0} (x : Result Segment Refusal) (t : Tunnel) → carried C.Segment x ≡ Ok (C.Tunnel t) → A
no_tunnel (Ok y) t e = cc
no_tunnel (Err r) t e = cc

no_segment : {A : Type 0} (x : Result Tunnel Refusal) (g : Segment) → carried C.Tunnel x ≡ Ok (C.Segment g) → A
no_segment (Ok y) g e = cc
no_segment (Err r) g e = cc

module _ (protocol source destination port : ℕ) (s : List ℕ) where
  -- it is VXLAN's or NVGRE's
  tunnel_by : {A : Type 0} (t : Tunnel) → carriage_of protocol source destination port s ≡ Ok (C.Tunnel t)
      → (protocol ≡ 17 → udp_of source destination s ≡ Ok t → A) → (protocol ≡ 47 → nvgre_of s ≡ Ok t → A) → A
  unfolding carriage_of
  tunnel_by t e f g =
      case_b (protocol == 17)
      (λ a. f (eqb-true protocol 17 a) (tunnel_is (udp_of source destination s) t (rw a at e)))
      (λ a. case_b (protocol == 47)
      (λ c. g (eqb-true protocol 47 c) (tunnel_is (nvgre_of s) t (rw (a, c) at e)))
      (λ c. case_b (protocol == 6)
      (λ d. no_tunnel (segment_of source destination port s) t (rw (a, c, d) at e))
      (λ d. let q : Err R.Protocol ≡ Ok (C.Tunnel t) = rw (a, c, d) at e in cc)))

  -- it is a segment
  segment_by : {A : Type 0} (g : Segment) → carriage_of protocol source destination port s ≡ Ok (C.Segment g)
      → (protocol ≡ 6 → segment_of source destination port s ≡ Ok g → A) → A
  unfolding carriage_of
  segment_by g e f =
      case_b (protocol == 17)
      (λ a. no_segment (udp_of source destination s) g (rw a at e))
      (λ a. case_b (protocol == 47)
      (λ c. no_segment (nvgre_of s) g (rw (a, c) at e))
      (λ c. case_b (protocol == 6)
      (λ d. f (eqb-true protocol 6 d) (segment_is (segment_of source destination port s) g (rw (a, c, d) at e)))
      (λ d. let q : Err R.Protocol ≡ Ok (C.Segment g) = rw (a, c, d) at e in cc)))

-- ---- sound

pub record Accepted (protocol source destination : ℕ) (payload : List ℕ) (t : Tunnel) : Type 0 where
  pub is : Tunnels t.kind protocol source destination t.network (drop t.start payload) payload
  pub within : t.start ≤ length payload

vxlan_sound : (source destination : ℕ) (s : List ℕ) → Bytes s → (t : Tunnel) → udp_of source destination s ≡ Ok t → Accepted 17 source destination s t
vxlan_sound source destination s b t e =
    let u = U.sound source destination s t e b in
    let v = X.sound (drop 8 s) (bytes_drop s b 8) t u.1 in
    record {
      is = rw v.start_is (inl (v.kind_is, refl, record { inner = drop 8 s; udp = u.0.is; vxlan = rw (drop-drop 8 8 s) at v.is }));
      within = rw v.start_is u.0.room;
    }

nvgre_sound : (source destination : ℕ) (s : List ℕ) → Bytes s → (t : Tunnel) → nvgre_of s ≡ Ok t → Accepted 47 source destination s t
nvgre_sound source destination s b t e =
    let a = N.sound s b t e in
    record { is = rw a.start_is (inr (a.kind_is, refl, a.is)); within = rw a.start_is a.within }

pub sound : (protocol source destination port : ℕ) (s : List ℕ) → Bytes s → (t : Tunnel) → carriage_of protocol source destination port s ≡ Ok (C.Tunnel t)
    → Accepted protocol source destination s t
sound protocol source destination port s b t e =
    tunnel_by protocol source destination port s t e
    (λ a q. rw a (vxlan_sound source destination s b t q))
    (λ a q. rw a (nvgre_sound source destination s b t q))

pub segment_sound : (protocol source destination port : ℕ) (s : List ℕ) → Bytes s → (g : Segment) → carriage_of protocol source destination port s ≡ Ok (C.Segment g)
    → (protocol ≡ 6) × S.Accepted source destination port s g
segment_sound protocol source destination port s b g e =
    segment_by protocol source destination port s g e (λ a q. (a, S.sound source destination port s b g q))

-- ---- where the inner frame of what is accepted lies, for any list

pub tunnel_within : (protocol source destination port : ℕ) (s : List ℕ) (t : Tunnel) → carriage_of protocol source destination port s ≡ Ok (C.Tunnel t) → t.start
    ≤ length s
tunnel_within protocol source destination port s t e =
    tunnel_by protocol source destination port s t e
    (λ a q.
    let u = U.udp-room source destination s t q in
    rw (X.vxlan-start (drop 8 s) t u.1) u.0)
    (λ a q. N.nvgre-room s t q)

pub segment_within : (protocol source destination port : ℕ) (s : List ℕ) (g : Segment) → carriage_of protocol source destination port s ≡ Ok (C.Segment g) → g.start
    ≤ length s
segment_within protocol source destination port s g e =
    segment_by protocol source destination port s g e (λ a q. S.segment-room source destination port s g q)

pub reads-carriage : ReadsCarriage
reads-carriage = record {
  tunnel_complete = complete;
  tunnel_sound = λ protocol source destination port s b t e. let a = sound protocol source destination port s b t e in (a.is, a.within);
  segment_complete = segment_complete;
  segment_sound = λ protocol source destination port s b g e.
      let a = segment_sound protocol source destination port s b g e in
      (a.0, a.1.is, a.1.within);
  vxlan_ignores = X.ignores;
  nvgre_ignores = N.ignores;
  segment_ignores = S.ignores;
}
