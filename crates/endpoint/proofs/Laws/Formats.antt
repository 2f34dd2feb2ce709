-- The receiver's layers are the formats: sound and complete.
use Rattle.std.specs.Prelude.{ℕ, ◌+◌, ◌-◌, ◌≤◌, ◌≡◌, refl, Bool, true, false, List, length, get_or, drop, eqb, Result, Ok, Err}
use Rattle.std.proofs.Common.{sym, ap, subst, ◌∙◌, arith, eqb-true, eq-eqb}
use Rattle.std.proofs.Math.Option.{Option, none, some}
use Rattle.std.proofs.lemmas.Bool.{eqb-false}
use Rattle.wire.specs.Bytes.{Bytes, part}
use Rattle.wire.proofs.Laws.Bytes.{part-drop, part_length, bytes-part}
use Rattle.wire.specs.Ipv4.{header, ipv4_of}
use Rattle.wire.proofs.Laws.Ipv4 as P
use Rattle.wire.specs.Carriage.{carriage_of}
use Rattle.wire.proofs.Laws.Carriage as L
use Rattle.wire.specs.Segment as G
use Rattle.wire.specs.Stt.{stt_of}
use Rattle.wire.proofs.Laws.Stt as Q
use Rattle.wire.specs.Frame.{IsFrame, frame_of}
use Rattle.wire.proofs.Laws.Frame as E
use Rattle.wire.specs.declared.ipv4.Ipv4.{Ipv4}
use Rattle.wire.specs.declared.segment.Segment.{Segment}
use Rattle.wire.specs.declared.carriage.Tunnel.{Tunnel}
use Rattle.reassembly.proofs.Laws.Base.{case_b, clash}
use Rattle.reassembly.specs.Slots.{Note}
use Rattle.reassembly.specs.Take.{Seg, seg_of}
use Rattle.reassembly.specs.Receive.{Reading, direct, segment, Verdict, bad, good}
use Rattle.endpoint.specs.Search.{lowest}
use Rattle.endpoint.proofs.Laws.Search.{lowest-some, lowest_is, has_address_lem, other-address, binds_hit, binds-all}
use Rattle.endpoint.specs.Config.{Config, has_address, find_peer, binds, find_binding}
use Rattle.endpoint.specs.Receive.{answers, by_binding, inner_from, answer_at, tunnel_from, by_payload, by_peer, by_destination, by_ipv4, header_of, by_stt}
use Rattle.endpoint.specs.Receive.{stt_from, judge_of}
use Rattle.endpoint.specs.Formats.{ListedPeer, IsBinding, Bound, CarriesFrame, CarriesSegment, GoodFrame}
use Rattle.endpoint.specs.declared.answer.Place.{Place}
use Rattle.endpoint.specs.declared.answer.Target.{Target}
use Rattle.endpoint.specs.declared.answer.Received.{Received}
use Rattle.endpoint.specs.declared.answer.Received.TheVariants as R
use Rattle.wire.specs.declared.carriage.Carried.TheVariants as C
use Rattle.wire.specs.declared.carriage.Carried.{Carried}
use Rattle.wire.specs.declared.refusal.Refusal.{Refusal}
use Rattle.endpoint.specs.declared.answer.Drop.{Drop}

-- ---- the lookups find what the listing's entries say

pub peer_listed : (c : Config) (address p : ℕ) → find_peer c address ≡ some p → ListedPeer c address p
unfolding find_peer has_address
peer_listed c address p e =
    let w = lowest-some (has_address c.addresses address) c.peers p e in
    record {
      below = w.below;
      has = eqb-true (get_or c.addresses p 0) address w.passes;
      lowest = λ i l. eqb-false (get_or c.addresses i 0) address (w.least i l);
    }

pub peer-found : (c : Config) (address p : ℕ) → ListedPeer c address p → find_peer c address ≡ some p
unfolding find_peer
peer-found c address p w =
    lowest_is (has_address c.addresses address) c.peers p
    (record { below = w.below; passes = has_address_lem c.addresses address p w.has; least = λ i l. other-address c.addresses address i (w.lowest i l) })

module _ (c : Config) (peer kind network : ℕ) where
  abbrev matches : ℕ → Bool
  matches i = binds c.networks c.kinds c.owners peer kind network i

  is_binding_lem : (i : ℕ) → matches i ≡ true → IsBinding c peer kind network i
  is_binding_lem i e =
      let w = binds-all c.networks c.kinds c.owners peer kind network i e in
      record { of_peer = w.2; of_kind = w.1; of_network = w.0 }

  binds_is : (i : ℕ) → IsBinding c peer kind network i → matches i ≡ true
  binds_is i w = binds_hit c.networks c.kinds c.owners peer kind network i w.of_network w.of_kind w.of_peer

  pub binding_bound : (t : Target) → find_binding c peer kind network ≡ some t.binding → t.tenant ≡ get_or c.tenants t.binding 0
      → Bound c peer kind network t
  unfolding find_binding
  binding_bound t e tenant =
      let w = lowest-some matches c.bindings t.binding e in
      record {
        below = w.below;
        is = is_binding_lem t.binding w.passes;
        lowest = λ i l q. clash (cc (w.least i l, binds_is i q));
        tenant = tenant;
      }

  pub binding_found : (t : Target) → Bound c peer kind network t → find_binding c peer kind network ≡ some t.binding
  unfolding find_binding
  binding_found t w =
      lowest_is matches c.bindings t.binding
      (record {
        below = w.below;
        passes = binds_is t.binding w.is;
        least = λ i l. case_b (matches i) (λ q. absurd (w.lowest i l (is_binding_lem i q))) (λ q. q);
      })

-- ---- the inner frame: bound and good

inner_by : (c : Config) (o : Option ℕ) (r : Result (Unit {0}) Refusal) (t : Target) → by_binding c.tenants o r ≡ good t
    → (o ≡ some t.binding) × ((t.tenant ≡ get_or c.tenants t.binding 0) × (r ≡ Ok tt))
inner_by c none r t e = let z : ◌≡◌ {A = ℕ} 0 1 = cc in absurd (omega arith)
inner_by c (some b) (Err x) t e = let z : ◌≡◌ {A = ℕ} 0 1 = cc in absurd (omega arith)
inner_by c (some b) (Ok tt) t e =
    let q : record { tenant = get_or c.tenants b 0; binding = b } ≡ t = cc (e) in
    rw (← q) (refl, (refl, refl))

module _ (c : Config) (p kind network : ℕ) (frame : List ℕ) (t : Target) where
  pub inner_sound : inner_from c.networks c.kinds c.owners c.tenants c.bindings p kind network frame ≡ good t
      → Bound c p kind network t × IsFrame frame
  unfolding inner_from find_binding
  inner_sound e =
      let x = inner_by c (lowest (binds c.networks c.kinds c.owners p kind network) c.bindings) (frame_of frame) t e in
      (binding_bound c p kind network t x.0 x.1.0, E.sound frame x.1.1)

  pub inner_complete : Bound c p kind network t → IsFrame frame
      → inner_from c.networks c.kinds c.owners c.tenants c.bindings p kind network frame ≡ good t
  unfolding inner_from find_binding
  inner_complete b f = rw (binding_found c p kind network t b, E.complete frame f, ← b.tenant)

-- ---- a complete STT frame

stt_by : (r : Result ℕ Refusal) (next : ℕ → Verdict answers) (t : Target) → by_stt r next ≡ good t → (context : ℕ) × ((r ≡ Ok context) × (next context ≡ good t))
stt_by (Err r) next t e = let z : ◌≡◌ {A = ℕ} 0 1 = cc in absurd (omega arith)
stt_by (Ok context) next t e = (context, (refl, e))

pub judge_sound : (c : Config) (p : ℕ) (note : Note) (whole : List ℕ) (t : Target) → Bytes whole → judge_of c p note whole ≡ good t
    → GoodFrame c p whole t (drop 18 whole)
unfolding judge_of stt_from
judge_sound c p note whole t b e =
    let x = stt_by (stt_of whole) (λ context. inner_from c.networks c.kinds c.owners c.tenants c.bindings p 3 context (drop 18 whole)) t e in
    let a = Q.sound whole b x.0 x.1.0 in
    let i = inner_sound c p 3 x.0 (drop 18 whole) t x.1.1 in
    record { context = x.0; stt = a.is; bound = i.0; good = i.1 }

pub judge-complete : (c : Config) (p : ℕ) (note : Note) (whole : List ℕ) (t : Target) (inner : List ℕ) → GoodFrame c p whole t inner
    → (judge_of c p note whole ≡ good t) × (drop 18 whole ≡ inner)
unfolding judge_of stt_from
judge-complete c p note whole t inner g =
    let x = Q.complete g.stt in
    (rw (x.0, x.1, inner_complete c p 3 g.context inner t g.bound g.good), x.1)

-- ---- a packet that is taken for a segment

carried-segment : (c : Config) (q start end : ℕ) (k : List ℕ) (r : Result Carried Refusal) (p : ℕ) (g : Seg) → by_payload c q start end k r ≡ segment p g
    → (s : Segment) × ((r ≡ Ok (C.Segment s)) × ((q ≡ p) × (seg_of s (part k (start + s.start) end) ≡ g)))
carried-segment c q start end k (Err r) p g e = let z : ◌≡◌ {A = ℕ} 0 1 = cc in absurd (omega arith)
carried-segment c q start end k (Ok (C.Tunnel t)) p g e = let z : ◌≡◌ {A = ℕ} 0 1 = cc in absurd (omega arith)
carried-segment c q start end k (Ok (C.Segment s)) p g e = (s, (refl, (cc, cc)))

-- what it was read as
record ReadSegment (c : Config) (k : List ℕ) (p : ℕ) (g : Seg) : Type 0 where
  h : Ipv4
  ip : ipv4_of k ≡ Ok h
  ours : h.destination ≡ c.own
  listed : find_peer c h.source ≡ some p
  s : Segment
  read : carriage_of h.protocol h.source h.destination c.port (part k h.start h.end) ≡ Ok (C.Segment s)
  is : seg_of s (part k (h.start + s.start) h.end) ≡ g

peer-segment : (c : Config) (k : List ℕ) (p : ℕ) (g : Seg) (h : Ipv4) → ipv4_of k ≡ Ok h → h.destination ≡ c.own → (o : Option ℕ)
    → find_peer c h.source ≡ o
    → by_peer c h k o ≡ segment p g → ReadSegment c k p g
peer-segment c k p g h ip ours none listed e = let z : ◌≡◌ {A = ℕ} 0 1 = cc in absurd (omega arith)
peer-segment c k p g h ip ours (some q) listed e =
    let x = carried-segment c q h.start h.end k (carriage_of h.protocol h.source h.destination c.port (part k h.start h.end)) p g e in
    record { h = h; ip = ip; ours = ours; listed = listed ∙ ap some x.1.1.0; s = x.0; read = x.1.0; is = x.1.1.1 }

ours-segment : (c : Config) (k : List ℕ) (p : ℕ) (g : Seg) (h : Ipv4) → ipv4_of k ≡ Ok h → (b : Bool) → eqb h.destination c.own ≡ b
    → by_destination c h k b ≡ segment p g → ReadSegment c k p g
ours-segment c k p g h ip true b e = peer-segment c k p g h ip (eqb-true h.destination c.own b) (find_peer c h.source) refl e
ours-segment c k p g h ip false b e = let z : ◌≡◌ {A = ℕ} 0 1 = cc in absurd (omega arith)

ip_segment : (c : Config) (k : List ℕ) (p : ℕ) (g : Seg) (x : Result Ipv4 Refusal) → ipv4_of k ≡ x → by_ipv4 c k x ≡ segment p g → ReadSegment c k p g
ip_segment c k p g (Err r) ip e = let z : ◌≡◌ {A = ℕ} 0 1 = cc in absurd (omega arith)
ip_segment c k p g (Ok h) ip e = ours-segment c k p g h ip (eqb h.destination c.own) refl e

pub segment_sound : (c : Config) (k : List ℕ) (p : ℕ) (g : Seg) → Bytes k → header_of c k ≡ segment p g → CarriesSegment c k p g
unfolding header_of
segment_sound c k p g b e =
    let x = ip_segment c k p g (ipv4_of k) refl e in
    let h = x.h in
    let s = x.s in
    let payload : List ℕ = part k h.start h.end in
    let a = P.sound k b h x.ip in
    let w = L.segment_sound h.protocol h.source h.destination c.port payload (bytes-part k b h.start h.end) s x.read in
    let bytes : drop s.start payload ≡ g.bytes = part-drop k h.start h.end s.start ∙ ap (λ (y : Seg). y.bytes) x.is in
    record {
      source = h.source;
      payload = payload;
      ipv4 = rw (w.0, x.ours) at a.is;
      listed = peer_listed c h.source p x.listed;
      segment =
          rw (ap (λ (y : Seg). y.frame_length) x.is, ap (λ (y : Seg). y.offset) x.is, ap (λ (y : Seg). y.identifier) x.is, bytes, x.ours) at
          w.1.is;
      no_mark_is = sym (ap (λ (y : Seg). y.mark) x.is);
    }

pub segment_complete : (c : Config) (k : List ℕ) (p : ℕ) (g : Seg) → CarriesSegment c k p g → header_of c k ≡ segment p g
unfolding header_of
segment_complete c k p g w =
    let n : ℕ = length (header w.ipv4.f) in
    let m : ℕ = length (G.header w.segment.f) in
    let i = P.complete w.ipv4 in
    let s = L.segment_complete w.source c.own c.port g.frame_length g.offset g.identifier g.bytes w.payload w.segment in
    let bytes : part k (n + m) (n + length w.payload) ≡ g.bytes = sym (part-drop k n (n + length w.payload) m) ∙ ap (drop m) i.1 ∙ s.1 in
    rw (i.0, eq-eqb c.own c.own refl, peer-found c w.source p w.listed, i.1, s.0, bytes, ← w.no_mark_is)

-- ---- a packet whose frame is delivered from it

record ReadTunnel (c : Config) (k : List ℕ) (t : Target) (place : Place) : Type 0 where
  h : Ipv4
  ip : ipv4_of k ≡ Ok h
  ours : h.destination ≡ c.own
  peer : ℕ
  listed : find_peer c h.source ≡ some peer
  tunnel : Tunnel
  read : carriage_of h.protocol h.source h.destination c.port (part k h.start h.end) ≡ Ok (C.Tunnel tunnel)
  worth : inner_from c.networks c.kinds c.owners c.tenants c.bindings peer tunnel.kind tunnel.network
      (part k (h.start + tunnel.start) h.end) ≡ good t
  lies : record { start = h.start + tunnel.start; length = length (part k (h.start + tunnel.start) h.end); in_memory = false } ≡ place

worth_tunnel : (x : Verdict answers) (at : Place) (t : Target) (place : Place) → answer_at x at ≡ Ok (R.Delivered t place) → (x ≡ good t) × (at ≡ place)
worth_tunnel (bad d) at t place e = let z : ◌≡◌ {A = ℕ} 0 1 = cc in absurd (omega arith)
worth_tunnel (good u) at t place e = (cc, cc)

carried_tunnel : (c : Config) (q start end : ℕ) (k : List ℕ) (r : Result Carried Refusal) (p : ℕ) (t : Target) (place : Place)
    → by_payload c q start end k r ≡ direct p (Ok (R.Delivered t place))
    → (u : Tunnel) × ((r ≡ Ok (C.Tunnel u)) × ((inner_from c.networks c.kinds c.owners c.tenants c.bindings q u.kind u.network
    (part k (start + u.start) end) ≡ good t)
    × (record { start = start + u.start; length = length (part k (start + u.start) end); in_memory = false } ≡ place)))
unfolding tunnel_from
carried_tunnel c q start end k (Err r) p t place e = let z : ◌≡◌ {A = ℕ} 0 1 = cc in absurd (omega arith)
carried_tunnel c q start end k (Ok (C.Segment s)) p t place e = let z : ◌≡◌ {A = ℕ} 0 1 = cc in absurd (omega arith)
carried_tunnel c q start end k (Ok (C.Tunnel u)) p t place e =
    let frame : List ℕ = part k (start + u.start) end in
    let worth : Verdict answers = inner_from c.networks c.kinds c.owners c.tenants c.bindings q u.kind u.network frame in
    let x = worth_tunnel worth (record { start = start + u.start; length = length frame; in_memory = false }) t place
    (plain_is (answer_at worth (record { start = start + u.start; length = length frame; in_memory = false })) (Ok (R.Delivered t place)) q p e) in
    (u, (refl, (x.0, x.1)))
  where
    plain_is : (a b : Result Received Drop) (i j : ℕ) → ◌≡◌ {A = Reading answers} (direct i a) (direct j b) → a ≡ b
    plain_is a b i j z = cc

peer_tunnel : (c : Config) (k : List ℕ) (p : ℕ) (t : Target) (place : Place) (h : Ipv4) → ipv4_of k ≡ Ok h → h.destination ≡ c.own → (o : Option ℕ)
    → find_peer c h.source ≡ o
    → by_peer c h k o ≡ direct p (Ok (R.Delivered t place)) → ReadTunnel c k t place
peer_tunnel c k p t place h ip ours none listed e = let z : ◌≡◌ {A = ℕ} 0 1 = cc in absurd (omega arith)
peer_tunnel c k p t place h ip ours (some q) listed e =
    let x = carried_tunnel c q h.start h.end k (carriage_of h.protocol h.source h.destination c.port (part k h.start h.end)) p t place
    e in
    record { h = h; ip = ip; ours = ours; peer = q; listed = listed; tunnel = x.0; read = x.1.0; worth = x.1.1.0; lies = x.1.1.1 }

ours_tunnel : (c : Config) (k : List ℕ) (p : ℕ) (t : Target) (place : Place) (h : Ipv4) → ipv4_of k ≡ Ok h → (b : Bool) → eqb h.destination c.own ≡ b
    → by_destination c h k b ≡ direct p (Ok (R.Delivered t place)) → ReadTunnel c k t place
ours_tunnel c k p t place h ip true b e = peer_tunnel c k p t place h ip (eqb-true h.destination c.own b) (find_peer c h.source) refl e
ours_tunnel c k p t place h ip false b e = let z : ◌≡◌ {A = ℕ} 0 1 = cc in absurd (omega arith)

ip_tunnel : (c : Config) (k : List ℕ) (p : ℕ) (t : Target) (place : Place) (x : Result Ipv4 Refusal) → ipv4_of k ≡ x → by_ipv4 c k x ≡ direct p (Ok (R.Delivered t place))
    → ReadTunnel c k t place
ip_tunnel c k p t place (Err r) ip e = let z : ◌≡◌ {A = ℕ} 0 1 = cc in absurd (omega arith)
ip_tunnel c k p t place (Ok h) ip e = ours_tunnel c k p t place h ip (eqb h.destination c.own) refl e

-- where it lies: a part of the packet
pub record Lies (k : List ℕ) (place : Place) (frame : List ℕ) : Type 0 where
  pub in_packet : place.in_memory ≡ false
  pub within : place.start + place.length ≤ length k
  pub bytes : part k place.start (place.start + place.length) ≡ frame

pub frame_sound : (c : Config) (k : List ℕ) (p : ℕ) (t : Target) (place : Place) → Bytes k → header_of c k ≡ direct p (Ok (R.Delivered t place))
    → (frame : List ℕ) × (CarriesFrame c k t frame × Lies k place frame)
unfolding header_of
frame_sound c k p t place b e =
    let x = ip_tunnel c k p t place (ipv4_of k) refl e in
    let h = x.h in
    let u = x.tunnel in
    let payload : List ℕ = part k h.start h.end in
    let frame : List ℕ = part k (h.start + u.start) h.end in
    let a = P.sound k b h x.ip in
    let w = L.sound h.protocol h.source h.destination c.port payload (bytes-part k b h.start h.end) u x.read in
    let same : drop u.start payload ≡ frame = part-drop k h.start h.end u.start in
    let i = inner_sound c x.peer u.kind u.network frame t x.worth in
    let long : length payload ≡ h.end - h.start = part_length k h.start h.end a.within in
    let size : length frame ≡ h.end - (h.start + u.start) = part_length k (h.start + u.start) h.end a.within in
    let end : h.start + u.start + length frame ≡ h.end = omega (arith, w.within, a.ordered) in (
      frame,
      (
        record {
          source = h.source;
          protocol = h.protocol;
          payload = payload;
          ipv4 = rw x.ours at a.is;
          peer = x.peer;
          listed = peer_listed c h.source x.peer x.listed;
          kind = u.kind;
          network = u.network;
          tunnel = rw (same, x.ours) at w.is;
          bound = i.0;
          good = i.1;
        },
        subst (λ (y : Place). Lies k y frame) x.lies
            (record {
              in_packet = refl;
              within = omega arith;
              bytes = ap (λ (n : ℕ). part k (h.start + u.start) n) end;
            }),
      ),
    )

pub frame-complete : (c : Config) (k : List ℕ) (t : Target) (frame : List ℕ) (w : CarriesFrame c k t frame)
    → (place : Place) × ((header_of c k ≡ direct w.peer (Ok (R.Delivered t place))) × Lies k place frame)
unfolding header_of tunnel_from
frame-complete c k t frame w =
    let n : ℕ = length (header w.ipv4.f) in
    let size : ℕ = n + length w.payload in
    let i = P.complete w.ipv4 in
    let f = L.complete w.kind w.protocol w.source c.own c.port w.network frame w.payload w.tunnel in
    let same : part k (n + f.start) size ≡ frame = sym (part-drop k n size f.start) ∙ ap (drop f.start) i.1 ∙ f.frame_is in
    let place : Place = record { start = n + f.start; length = length frame; in_memory = false } in
    let end : n + f.start + length frame ≡ size = omega (arith, f.long) in (
      place,
      (
        rw (
          i.0,
          eq-eqb c.own c.own refl,
          peer-found c w.source w.peer w.listed,
          i.1,
          f.is,
          same,
          inner_complete c w.peer w.kind w.network frame t w.bound w.good,
        ),
        record {
          in_packet = refl;
          within = omega (arith, P.ends_within w.ipv4, f.long);
          bytes = ap (λ (x : ℕ). part k (n + f.start) x) end ∙ same;
        },
      ),
    )
