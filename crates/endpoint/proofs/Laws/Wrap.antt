-- Laws of wrapping: what an answer Written says, the packet of each kind, the segments' bounds, and what a listed binding gives.
use Rattle.std.specs.Prelude.{ℕ, suc, ◌+◌, ◌-◌, ◌*◌, ◌/◌, ◌^◌, ◌<◌, ◌≤◌, true, false, ◌&&◌, ◌||◌, List, get_or, ltb, leb, eqb, Ok, Err, Result}
use Rattle.std.proofs.Math.Path.{◌≡◌, refl, sym, ap}
use Rattle.std.proofs.Common.{subst, ◌∙◌, suc-mul, le-div_iff_mul-le, arith}
use Rattle.std.proofs.Math.Nat.{lt-div-mul-add, mod-eq_of_lt}
use borrow.Author.Tests.{ltb-true, ltb-false, leb-false, eqb-true, le-ltb, lt-leb}
use Rattle.std.proofs.Math.ListN.{length}
use Rattle.wire.specs.Checks.{Passed}
use Rattle.wire.proofs.Laws.Checks.{pass, passed}
use Rattle.wire.specs.Frame.{frame_of, IsFrame}
use Rattle.wire.proofs.Laws.Frame as G
use Rattle.wire.specs.Bytes.{wrote}
use Rattle.wire.specs.Write.{vxlan_packet, nvgre_packet, segment_packet}
use Rattle.reassembly.proofs.Laws.Base.{case_b, either, clash, and_l, and_r, or_cases}
use Rattle.endpoint.specs.Config.{Config, config_of, address_at, address_checks, start_checks, fresh, is_network}
use Rattle.endpoint.proofs.Laws.Config.{Valid}
use Rattle.endpoint.specs.Wrap.{capacity, segments_of, segment_start, segment_size, low32, packet_of, exceeds, is_bad, kind_at, network_at, owner_at, peer_at}
use Rattle.endpoint.specs.Wrap.{packet_at, wrap_checks, Wrote, refused_wrap, wrap_of}
use Rattle.endpoint.specs.declared.answer.Packet.{Packet}
use Rattle.endpoint.specs.declared.config.Endpoint.{Endpoint}
use Rattle.reassembly.specs.Slots.{most_peers}
use Rattle.wire.specs.declared.refusal.Refusal.{Refusal}

-- ---- what an answer Written says, and when it is given

pub record WrittenFacts (e : Endpoint) (b : ℕ) (frame : List ℕ) (segment identifier : ℕ) (output : List ℕ) (p : Packet) : Type 0 where
  pub binding : b < (config_of e).bindings
  pub good : IsFrame frame
  pub short : exceeds (kind_at e b) (length frame) e.mtu ≡ false
  pub within : segment < segments_of (kind_at e b) (length frame) e.mtu
  pub room : length (packet_at e b frame segment identifier) ≤ length output
  pub length_is : p.length ≡ length (packet_at e b frame segment identifier)
  pub segments_is : p.segments ≡ segments_of (kind_at e b) (length frame) e.mtu
  pub output_is : (wrap_of e b frame segment identifier output).output ≡ wrote output (packet_at e b frame segment identifier)

not_bad : (x : Result (Unit {0}) Refusal) → is_bad x ≡ false → x ≡ Ok tt
not_bad (Ok tt) e = refl
not_bad (Err r) e = clash (cc)

good_not : (x : Result (Unit {0}) Refusal) → x ≡ Ok tt → is_bad x ≡ false
good_not x e = rw e

module _ (e : Endpoint) (b : ℕ) (frame : List ℕ) (segment identifier : ℕ) (output : List ℕ) where
  pub written_facts : (p : Packet) → (wrap_of e b frame segment identifier output).answer ≡ Ok p → WrittenFacts e b frame segment identifier output p
  unfolding wrap_of wrap_checks
  written_facts p a =
      let w : Wrote = wrap_of e b frame segment identifier output in
      let done : Wrote = record {
        answer = Ok (record { length = length (packet_at e b frame segment identifier); segments = segments_of (kind_at e b) (length frame) e.mtu });
        output = wrote output (packet_at e b frame segment identifier);
      } in
      let q = passed (refused_wrap output) (wrap_checks e b frame segment identifier output) done w
      (λ r z. let y : Err r ≡ Ok p = ap (λ (x : Wrote). x.answer) z ∙ a in let n : ◌≡◌ {A = ℕ} 0 1 = cc in omega arith) refl in
      let same : p ≡ record { length = length (packet_at e b frame segment identifier); segments = segments_of (kind_at e b) (length frame) e.mtu } =
      let y : Ok p ≡ done.answer = sym a ∙ ap (λ (x : Wrote). x.answer) (sym q.1) in cc in
      record {
        binding = leb-false (config_of e).bindings b q.0.0;
        good = G.sound frame (not_bad (frame_of frame) q.0.1.1.0);
        short = q.0.1.1.1.0;
        within = leb-false (segments_of (kind_at e b) (length frame) e.mtu) segment q.0.1.1.1.1.0;
        room = ltb-false (length output) (length (packet_at e b frame segment identifier)) q.0.1.1.1.1.1.0;
        length_is = ap (λ (x : Packet). x.length) same;
        segments_is = ap (λ (x : Packet). x.segments) same;
        output_is = sym (ap (λ (x : Wrote). x.output) q.1);
      }

  pub written_when : b < (config_of e).bindings → owner_at e b < most_peers → IsFrame frame → exceeds (kind_at e b) (length frame) e.mtu ≡ false
      → segment < segments_of (kind_at e b) (length frame) e.mtu → length (packet_at e b frame segment identifier) ≤ length output
      → (wrap_of e b frame segment identifier output).answer
      ≡ Ok (record { length = length (packet_at e b frame segment identifier); segments = segments_of (kind_at e b) (length frame) e.mtu })
  unfolding wrap_of wrap_checks
  written_when binding owner good short within room =
      ap (λ (x : Wrote). x.answer)
      (pass (refused_wrap output) (wrap_checks e b frame segment identifier output)
      (record {
        answer = Ok (record { length = length (packet_at e b frame segment identifier); segments = segments_of (kind_at e b) (length frame) e.mtu });
        output = wrote output (packet_at e b frame segment identifier);
      }) (
        lt-leb (config_of e).bindings b binding,
        (
          lt-leb most_peers (owner_at e b) owner,
          (
            good_not (frame_of frame) (G.complete frame good),
            (
              short,
              (
                lt-leb (segments_of (kind_at e b) (length frame) e.mtu) segment within,
                (le-ltb (length output) (length (packet_at e b frame segment identifier)) room, tt),
              ),
            ),
          ),
        ),
      ))

-- ---- what holds of an endpoint that came from the calls (`Reached`)

-- two endpoints that hold one configuration; their rows of slots may differ
pub record Alike (e s : Endpoint) : Type 0 where
  pub config : config_of e ≡ config_of s
  pub peers : e.peer_count ≡ s.peer_count
  pub bindings : e.binding_count ≡ s.binding_count

-- it holds the configuration of a set-up; and its numbers are of their types, u16 and u64
pub record Ready (e : Endpoint) : Type 0 where
  pub set_up_from : Endpoint
  pub valid : Valid set_up_from
  pub alike : Alike e set_up_from
  pub port_fits : e.port < 256 ^ 2
  pub networks_fit : (i : ℕ) → get_or e.networks i 0 < 256 ^ 8

-- what that gives for a listed binding
pub record Listed (e : Endpoint) (b : ℕ) : Type 0 where
  pub own_fits : e.own < 256 ^ 4
  pub peer_fits : peer_at e b < 256 ^ 4
  pub mtu_least : 576 ≤ e.mtu
  pub mtu_most : e.mtu ≤ 1600
  pub owner_below : owner_at e b < most_peers
  pub network_good : is_network (kind_at e b) (network_at e b) ≡ true

address_fits : (a : ℕ) → Passed (address_checks a) → a < 256 ^ 4
address_fits a p = let h : a / 2 ^ 24 < 224 = leb-false 224 (a / 2 ^ 24) p.1.0 in omega arith

set_up-listed : (s : Endpoint) (b : ℕ) → Valid s → b < (config_of s).bindings → Listed s b
unfolding config_of start_checks address_at fresh
set_up-listed s b v h =
    let few : b < s.binding_count = omega arith in
    let few-peers : s.peer_count ≤ most_peers = v.peer_count in
    let owner : owner_at s b < s.peer_count = v.owner_listed b few in
    either v.settings
    (λ p. record {
      own_fits = address_fits s.own (p.0, (p.1.0, tt));
      peer_fits = address_fits (peer_at s b) (v.address_good (owner_at s b) owner);
      mtu_least = ltb-false s.mtu 576 p.1.1.1.1.0;
      mtu_most = ltb-false 1600 s.mtu p.1.1.1.1.1.0;
      owner_below = omega arith;
      network_good = v.network_good b few;
    })
    (λ q. absurd (refused q))
  where
    refused : s ≡ fresh 0 0 0 → ⊥
    refused q = let z : s.binding_count ≡ 0 = ap (λ (x : Endpoint). x.binding_count) q in omega arith

-- the same, of the configuration alone
record ListedIn (c : Config) (b : ℕ) : Type 0 where
  own_fits : c.own < 256 ^ 4
  peer_fits : get_or c.addresses (get_or c.owners b 0) 0 < 256 ^ 4
  mtu_least : 576 ≤ c.mtu
  mtu_most : c.mtu ≤ 1600
  owner_below : get_or c.owners b 0 < most_peers
  network_good : is_network (get_or c.kinds b 0) (get_or c.networks b 0) ≡ true

inward : (s : Endpoint) (b : ℕ) → Listed s b → ListedIn (config_of s) b
unfolding config_of
inward s b l = record {
  own_fits = l.own_fits;
  peer_fits = l.peer_fits;
  mtu_least = l.mtu_least;
  mtu_most = l.mtu_most;
  owner_below = l.owner_below;
  network_good = l.network_good;
}

outward : (s : Endpoint) (b : ℕ) → ListedIn (config_of s) b → Listed s b
unfolding config_of
outward s b l = record {
  own_fits = l.own_fits;
  peer_fits = l.peer_fits;
  mtu_least = l.mtu_least;
  mtu_most = l.mtu_most;
  owner_below = l.owner_below;
  network_good = l.network_good;
}

pub ready-listed : (e : Endpoint) (b : ℕ) → Ready e → b < (config_of e).bindings → Listed e b
ready-listed e b r h =
    let same : config_of e ≡ config_of r.set_up_from = r.alike.config in
    let below : b < (config_of r.set_up_from).bindings = subst (λ (c : Config). b < c.bindings) same h in
    outward e b (subst (λ (c : Config). ListedIn c b) (sym same) (inward r.set_up_from b (set_up-listed r.set_up_from b r.valid below)))

-- ---- the kinds

pub data ByKind (kind network : ℕ) : Type 0 where
  vxlan : kind ≡ 1 → network < 256 ^ 3 → ByKind kind network
  nvgre : kind ≡ 2 → network < 256 ^ 3 → ByKind kind network
  stt : kind ≡ 3 → ByKind kind network

pub by_kind : (kind network : ℕ) → is_network kind network ≡ true → ByKind kind network
unfolding is_network
by_kind kind network h =
    either (or_cases (eqb kind 1 && ltb network 16777216) ((eqb kind 2 && (leb 4096 network && ltb network 16777215)) || eqb kind 3) h)
    (λ q. vxlan (eqb-true kind 1 (and_l (eqb kind 1) (ltb network 16777216) q))
    (omega (arith, ltb-true network 16777216 (and_r (eqb kind 1) (ltb network 16777216) q))))
    (λ q. either (or_cases (eqb kind 2 && (leb 4096 network && ltb network 16777215)) (eqb kind 3) q)
    (λ x.
    let y : (leb 4096 network && ltb network 16777215) ≡ true = and_r (eqb kind 2) (leb 4096 network && ltb network 16777215) x in
    nvgre (eqb-true kind 2 (and_l (eqb kind 2) (leb 4096 network && ltb network 16777215) x))
    (omega (arith, ltb-true network 16777215 (and_r (leb 4096 network) (ltb network 16777215) y))))
    (λ x. stt (eqb-true kind 3 x)))

module _ (own peer port network mtu : ℕ) (frame : List ℕ) (segment identifier : ℕ) where
  pub packet-vxlan : network < 256 ^ 3 → packet_of 1 own peer port network mtu frame segment identifier ≡ vxlan_packet own peer network frame
  unfolding packet_of
  packet-vxlan h = let z : low32 network ≡ network = mod-eq_of_lt (omega arith) in ap (λ (n : ℕ). vxlan_packet own peer n frame) z

  pub packet-nvgre : network < 256 ^ 3 → packet_of 2 own peer port network mtu frame segment identifier ≡ nvgre_packet own peer network frame
  unfolding packet_of
  packet-nvgre h = let z : low32 network ≡ network = mod-eq_of_lt (omega arith) in ap (λ (n : ℕ). nvgre_packet own peer n frame) z

  pub packet-stt : packet_of 3 own peer port network mtu frame segment identifier
      ≡ segment_packet own peer port network identifier (segment_start mtu segment) (segment_size (length frame) mtu segment)
      (eqb (segment + 1) (segments_of 3 (length frame) mtu)) frame
  unfolding packet_of
  packet-stt = refl

pub one_vxlan : (size mtu : ℕ) → segments_of 1 size mtu ≡ 1
unfolding segments_of
one_vxlan size mtu = refl

pub one_nvgre : (size mtu : ℕ) → segments_of 2 size mtu ≡ 1
unfolding segments_of
one_nvgre size mtu = refl

pub many-stt : (size mtu : ℕ) → 576 ≤ mtu → segments_of 3 size mtu ≡ (18 + size + capacity mtu - 1) / capacity mtu
unfolding segments_of
many-stt size mtu h =
    case_b (eqb (capacity mtu) 0)
    (λ q. let z : capacity mtu ≡ 0 = eqb-true (capacity mtu) 0 q in absurd (omega arith))
    (λ q. rw q)

-- ---- the bounds: with count = (f + c − 1) div c, each segment below it begins within the frame, and together they reach its end

pub starts_within : (f c k : ℕ) → 0 < c → k < (f + c - 1) / c → k * c < f
starts_within f c k pos h =
    let d : suc k * c ≤ f + c - 1 = (le-div_iff_mul-le pos).0 h in
    omega (arith, suc-mul k c)

pub ends_past : (f c : ℕ) → 0 < c → f ≤ (f + c - 1) / c * c
ends_past f c pos = let h : f + c - 1 < (f + c - 1) / c * c + c = lt-div-mul-add pos in omega arith
