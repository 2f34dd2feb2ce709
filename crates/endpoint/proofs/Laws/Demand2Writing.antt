-- DEMAND 2, writing: the theorem (statement: Demand2Writing).
use Rattle.std.specs.Prelude.{ℕ, zero, suc, ◌+◌, ◌-◌, ◌*◌, ◌/◌, ◌^◌, ◌<◌, ◌≤◌, min, ◌≡◌, refl, ◌⊎◌, Bool, false, List, [], ◌++◌, length, get_or, eqb, Ok}
use Rattle.std.proofs.Common.{sym, ap, ap₂, subst, ◌∙◌, inl, inr, append-nil, arith, suc-mul, zero-mul, le-ltb, ltb-false}
use Rattle.wire.specs.Bytes.{part}
use Rattle.wire.proofs.Laws.Bytes.{part-empty}
use Rattle.wire.specs.Segment.{IsSegment}
use Rattle.wire.specs.Frame.{IsFrame}
use Rattle.wire.specs.Write.{vxlan_body, vxlan_packet, nvgre_body, nvgre_packet, stt_frame, segment_bytes, segment_body, segment_packet}
use Rattle.wire.proofs.Laws.Write.{vxlan_is, vxlan-length_is, nvgre_is, nvgre-length_is, stt_is, stt-length, segment_is, segment-length_is, segment-bytes_is}
use Rattle.wire.proofs.Laws.WriteIs.{part_past_end, part_join, part-all, wrote_is}
use Rattle.wire.specs.Layout.{SegmentLaidOut}
use Rattle.wire.proofs.Laws.Layout.{layouts}
use Rattle.reassembly.proofs.Laws.Base.{either}
use Rattle.endpoint.specs.Config.{config_of}
use Rattle.endpoint.specs.Wrap.{segments_of, segment_size, packet_of, exceeds, kind_at, network_at, peer_at, packet_at}
use Rattle.endpoint.proofs.Laws.Wrap.{WrittenFacts, written_facts, written_when, Ready, Listed, ready-listed, ByKind, vxlan, nvgre, stt, by_kind}
use Rattle.endpoint.proofs.Laws.Wrap.{packet-vxlan}
use Rattle.endpoint.proofs.Laws.Wrap.{packet-nvgre, packet-stt, one_vxlan, one_nvgre, many-stt, starts_within, ends_past}
use Rattle.endpoint.specs.Reached.{Reached}
use Rattle.endpoint.proofs.Laws.Reached.{reached_ready}
use Rattle.endpoint.specs.Demand2Writing.{CarriesWhole, portion, joined_to, CarriesPart, LaidOutBy, IsPacketLength, Demand2Writing}
use Rattle.endpoint.specs.declared.config.Endpoint.{Endpoint}

-- ---- parts

joined_front : (mtu : ℕ) (whole : List ℕ) (n : ℕ) → joined_to mtu whole n ≡ part whole 0 (n * (mtu - 40))
unfolding joined_to
joined_front mtu whole zero = rw zero-mul (sym (part-empty whole 0))
joined_front mtu whole (suc n) =
    let c : ℕ = mtu - 40 in
    let z : suc n * c ≡ n * c + c = suc-mul n c in
    ap₂ (λ (x y : List ℕ). x ++ y) (joined_front mtu whole n) (part_past_end whole (n * c) (n * c + c))
    ∙ part_join whole 0 (n * c) (n * c + c) (omega arith) (omega arith)
    ∙ ap (λ (x : ℕ). part whole 0 x) (sym z)

-- each segment begins within the STT frame
starts : (size mtu k : ℕ) → 576 ≤ mtu → k < segments_of 3 size mtu → k * (mtu - 40) < 18 + size
starts size mtu k least within = starts_within (18 + size) (mtu - 40) k (omega arith) (subst (λ (x : ℕ). k < x) (many-stt size mtu least) within)

-- ---- one packet, over plain values

module _ (own peer port network mtu : ℕ) (frame : List ℕ) (k identifier : ℕ) (own_fits : own < 256 ^ 4) (peer_fits : peer < 256 ^ 4) where
  pub sent-vxlan : network < 256 ^ 3 → IsFrame frame → CarriesWhole own peer 1 network frame (packet_of 1 own peer port network mtu frame k identifier)
  sent-vxlan h g =
      let most : length frame ≤ 1514 = g.most in
      let w = vxlan_is own peer network frame [] own_fits peer_fits h (omega arith) in
      record {
        protocol = 17;
        payload = vxlan_body network frame;
        ipv4 = rw (packet-vxlan own peer port network mtu frame k identifier h, ← append-nil (vxlan_packet own peer network frame)) w.0;
        tunnel = w.1;
      }

  pub sent-nvgre : network < 256 ^ 3 → IsFrame frame → CarriesWhole own peer 2 network frame (packet_of 2 own peer port network mtu frame k identifier)
  sent-nvgre h g =
      let most : length frame ≤ 1514 = g.most in
      let w = nvgre_is own peer network frame [] own_fits peer_fits h (omega arith) in
      record {
        protocol = 47;
        payload = nvgre_body network frame;
        ipv4 = rw (packet-nvgre own peer port network mtu frame k identifier h, ← append-nil (nvgre_packet own peer network frame)) w.0;
        tunnel = w.1;
      }

  pub sent-stt : port < 256 ^ 2 → identifier < 256 ^ 4 → 576 ≤ mtu → IsFrame frame → k < segments_of 3 (length frame) mtu
      → CarriesPart own peer port mtu (stt_frame network frame) k identifier (packet_of 3 own peer port network mtu frame k identifier)
  sent-stt port_fits id_fits least g within =
      let most : length frame ≤ 1514 = g.most in
      let c : ℕ = mtu - 40 in
      let start : ℕ = k * c in
      let size : ℕ = segment_size (length frame) mtu k in
      let last : Bool = eqb (k + 1) (segments_of 3 (length frame) mtu) in
      let n : length (stt_frame network frame) ≡ 18 + length frame = stt-length network frame in
      let first : start < 18 + length frame = starts (length frame) mtu k least within in
      let end : start + size ≡ min (18 + length frame) (start + c) = omega arith in
      let w = segment_is own peer port network identifier start size last frame [] own_fits peer_fits port_fits id_fits (omega arith) (omega arith)
      (omega arith) in
      let bytes : segment_bytes network start size frame ≡ portion mtu (stt_frame network frame) k =
      segment-bytes_is network start size frame ∙ ap (λ (x : ℕ). part (stt_frame network frame) start x) (end ∙ ap (λ (x : ℕ). min x (start + c)) (sym n)) in
      record {
        payload = segment_body own peer port network identifier start size last frame;
        ipv4 = rw (
          packet-stt own peer port network mtu frame k identifier,
          ← append-nil (segment_packet own peer port network identifier start size last frame),
        ) w.0;
        segment =
            subst (λ (x : ℕ). IsSegment own peer port x start identifier (portion mtu (stt_frame network frame) k)
            (segment_body own peer port network identifier start size last frame)) (sym n)
            (subst (λ (x : List ℕ). IsSegment own peer port (18 + length frame) start identifier x
            (segment_body own peer port network identifier start size last frame)) bytes w.1);
      }

  laid_out_stt : port < 256 ^ 2 → identifier < 256 ^ 4 → 576 ≤ mtu → IsFrame frame → k < segments_of 3 (length frame) mtu
      → SegmentLaidOut own peer port (k * (mtu - 40)) (min (length (stt_frame network frame)) (k * (mtu - 40) + (mtu - 40))) identifier
      (eqb (k + 1) (segments_of 3 (length frame) mtu)) frame (stt_frame network frame)
      (segment_packet own peer port network identifier (k * (mtu - 40)) (segment_size (length frame) mtu k) (eqb (k + 1) (segments_of 3 (length frame) mtu)) frame)
  laid_out_stt port_fits id_fits least g within =
      let fourteen : 14 ≤ length frame = g.least in
      let most : length frame ≤ 1514 = g.most in
      let c : ℕ = mtu - 40 in
      let start : ℕ = k * c in
      let size : ℕ = segment_size (length frame) mtu k in
      let last : Bool = eqb (k + 1) (segments_of 3 (length frame) mtu) in
      let first : start < 18 + length frame = starts (length frame) mtu k least within in
      let end : min (length (stt_frame network frame)) (start + c) ≡ start + size = omega (arith, stt-length network frame) in
      rw end
      (layouts.segment own peer port network identifier start size last frame own_fits peer_fits port_fits id_fits fourteen (omega arith) (omega arith)
      (omega arith))

-- ---- the same for every kind

module _ (kind own peer port network mtu : ℕ) (frame : List ℕ) (k identifier : ℕ) (by : ByKind kind network) (least : 576 ≤ mtu) (good : IsFrame frame)
    (within : k < segments_of kind (length frame) mtu) where
  pub carries_kind : own < 256 ^ 4 → peer < 256 ^ 4 → port < 256 ^ 2 → identifier < 256 ^ 4
      → CarriesWhole own peer kind network frame (packet_of kind own peer port network mtu frame k identifier)
      ⊎ ((kind ≡ 3) × CarriesPart own peer port mtu (stt_frame network frame) k identifier (packet_of kind own peer port network mtu frame k identifier))
  carries_kind h1 h2 h3 h4 = go by
    where
      go : ByKind kind network → CarriesWhole own peer kind network frame (packet_of kind own peer port network mtu frame k identifier)
          ⊎ ((kind ≡ 3) × CarriesPart own peer port mtu (stt_frame network frame) k identifier (packet_of kind own peer port network mtu frame k identifier))
      go (vxlan q h) = inl (rw q (sent-vxlan own peer port network mtu frame k identifier h1 h2 h good))
      go (nvgre q h) = inl (rw q (sent-nvgre own peer port network mtu frame k identifier h1 h2 h good))
      go (stt q) = inr (q, rw q (sent-stt own peer port network mtu frame k identifier h1 h2 h3 h4 least good (rw q at within)))

  pub laid_out_kind : own < 256 ^ 4 → peer < 256 ^ 4 → port < 256 ^ 2 → identifier < 256 ^ 4
      → LaidOutBy kind own peer port network mtu frame (stt_frame network frame) k (segments_of kind (length frame) mtu) identifier
      (packet_of kind own peer port network mtu frame k identifier)
  laid_out_kind h1 h2 h3 h4 = go by
    where
      most : length frame ≤ 1514
      most = good.most

      fourteen : 14 ≤ length frame
      fourteen = good.least

      go : ByKind kind network
          → LaidOutBy kind own peer port network mtu frame (stt_frame network frame) k (segments_of kind (length frame) mtu) identifier
          (packet_of kind own peer port network mtu frame k identifier)
      go (vxlan q h) =
          inl (
            q,
            rw (q, packet-vxlan own peer port network mtu frame k identifier h)
                (layouts.vxlan own peer network frame h1 h2 h fourteen (omega (arith, most))),
          )
      go (nvgre q h) =
          inr (inl (
            q,
            rw (q, packet-nvgre own peer port network mtu frame k identifier h)
                (layouts.nvgre own peer network frame h1 h2 h (omega (arith, most))),
          ))
      go (stt q) =
          inr (inr (
            q,
            rw (q, packet-stt own peer port network mtu frame k identifier)
                (laid_out_stt own peer port network mtu frame k identifier h1 h2 h3 h4 least good (rw q at within)),
          ))

  pub length_kind : IsPacketLength kind (length frame) mtu k (length (packet_of kind own peer port network mtu frame k identifier))
  length_kind = go by
    where
      go : ByKind kind network → IsPacketLength kind (length frame) mtu k (length (packet_of kind own peer port network mtu frame k identifier))
      go (vxlan q h) = inl (q, rw (q, packet-vxlan own peer port network mtu frame k identifier h) (vxlan-length_is own peer network frame))
      go (nvgre q h) = inr (inl (q, rw (q, packet-nvgre own peer port network mtu frame k identifier h) (nvgre-length_is own peer network frame)))
      go (stt q) =
          let c : ℕ = mtu - 40 in
          let start : ℕ = k * c in
          let size : ℕ = segment_size (length frame) mtu k in
          let last : Bool = eqb (k + 1) (segments_of 3 (length frame) mtu) in
          let first : start < 18 + length frame = starts (length frame) mtu k least (rw q at within) in
          inr (inr (
            q,
            rw (q, packet-stt own peer port network mtu frame k identifier)
                (segment-length_is own peer port network identifier start size last frame (omega arith)),
          ))

same_length : (kind size mtu k n n' : ℕ) → IsPacketLength kind size mtu k n → IsPacketLength kind size mtu k n' → n ≡ n'
same_length kind size mtu k n n' (inl a) (inl x) = a.1 ∙ sym x.1
same_length kind size mtu k n n' (inl a) (inr (inl x)) = absurd (omega (arith, a.0, x.0))
same_length kind size mtu k n n' (inl a) (inr (inr x)) = absurd (omega (arith, a.0, x.0))
same_length kind size mtu k n n' (inr (inl a)) (inl x) = absurd (omega (arith, a.0, x.0))
same_length kind size mtu k n n' (inr (inl a)) (inr (inl x)) = a.1 ∙ sym x.1
same_length kind size mtu k n n' (inr (inl a)) (inr (inr x)) = absurd (omega (arith, a.0, x.0))
same_length kind size mtu k n n' (inr (inr a)) (inl x) = absurd (omega (arith, a.0, x.0))
same_length kind size mtu k n n' (inr (inr a)) (inr (inl x)) = absurd (omega (arith, a.0, x.0))
same_length kind size mtu k n n' (inr (inr a)) (inr (inr x)) = a.1 ∙ sym x.1

not_exceeds : (kind size mtu k n : ℕ) → IsPacketLength kind size mtu k n → (kind ≡ 3) ⊎ (n ≤ mtu) → exceeds kind size mtu ≡ false
unfolding exceeds
not_exceeds kind size mtu k n (inl a) (inl x) = absurd (omega (arith, a.0))
not_exceeds kind size mtu k n (inl a) (inr l) = rw a.0 (le-ltb mtu (36 + size) (omega (arith, a.1)))
not_exceeds kind size mtu k n (inr (inl a)) (inl x) = absurd (omega (arith, a.0))
not_exceeds kind size mtu k n (inr (inl a)) (inr l) = rw a.0 (le-ltb mtu (28 + size) (omega (arith, a.1)))
not_exceeds kind size mtu k n (inr (inr a)) x = rw a.0

-- a packet that does not exceed the MTU is within it, and an STT segment's always is
in_mtu : (kind size mtu k n : ℕ) → 576 ≤ mtu → IsPacketLength kind size mtu k n → exceeds kind size mtu ≡ false → n ≤ mtu
unfolding exceeds
in_mtu kind size mtu k n least (inl a) x = omega (arith, a.1, ltb-false mtu (36 + size) (rw a.0 at x))
in_mtu kind size mtu k n least (inr (inl a)) x = omega (arith, a.1, ltb-false mtu (28 + size) (rw a.0 at x))
in_mtu kind size mtu k n least (inr (inr a)) x = omega (arith, a.1)

peer-address : (e : Endpoint) (b : ℕ) → peer_at e b ≡ get_or e.addresses (get_or e.owners b 0) 0
unfolding config_of
peer-address e b = refl

-- ---- THE THEOREM

pub demand_two_writing : (e : Endpoint) (b : ℕ) (frame : List ℕ) → Reached e → b < (config_of e).bindings → Demand2Writing e b frame
demand_two_writing e b frame reached listed =
    let ready : Ready e = reached_ready e reached in
    let l : Listed e b = ready-listed e b ready listed in
    let by : ByKind (kind_at e b) (network_at e b) = by_kind (kind_at e b) (network_at e b) l.network_good in
    let whole : List ℕ = stt_frame (network_at e b) frame in
    let size : length whole ≡ 18 + length frame = stt-length (network_at e b) frame in
    record {
      kind_is = refl;
      network_is = refl;
      peer_is = peer-address e b;
      one = λ q. either q (λ x. rw x (one_vxlan (length frame) e.mtu)) (λ x. rw x (one_nvgre (length frame) e.mtu));
      count = λ q. rw q (many-stt (length frame) e.mtu l.mtu_least);
      whole = whole;
      whole_layout = layouts.stt (network_at e b) frame (ready.networks_fit b);
      whole_is = λ q. stt_is (network_at e b) frame (ready.networks_fit b);
      joined = λ q. rw (q, many-stt (length frame) e.mtu l.mtu_least) (all whole size l.mtu_least);
      sent = λ k identifier fits output p a.
          let s : WrittenFacts e b frame k identifier output p = written_facts e b frame k identifier output p a in
          let formula : IsPacketLength (kind_at e b) (length frame) e.mtu k (length (packet_at e b frame k identifier)) =
          length_kind (kind_at e b) e.own (peer_at e b) e.port (network_at e b) e.mtu frame k identifier by l.mtu_least s.good s.within in
          record {
            good = s.good;
            within = subst (λ (n : ℕ). k < n) (sym s.segments_is) s.within;
            packet = packet_at e b frame k identifier;
            output_is = s.output_is ∙ wrote_is output (packet_at e b frame k identifier);
            length_is = s.length_is;
            in_mtu = in_mtu (kind_at e b) (length frame) e.mtu k (length (packet_at e b frame k identifier)) l.mtu_least formula s.short;
            in_output = s.room;
            segments_is = s.segments_is;
            layout =
                rw s.segments_is
                (laid_out_kind (kind_at e b) e.own (peer_at e b) e.port (network_at e b) e.mtu frame k identifier by l.mtu_least s.good s.within
                l.own_fits l.peer_fits ready.port_fits fits);
            carries =
                carries_kind (kind_at e b) e.own (peer_at e b) e.port (network_at e b) e.mtu frame k identifier by l.mtu_least s.good s.within
                l.own_fits l.peer_fits ready.port_fits fits;
          };
      writes = λ k identifier output n good within formula short room.
          let same : length (packet_at e b frame k identifier) ≡ n =
          same_length (kind_at e b) (length frame) e.mtu k (length (packet_at e b frame k identifier)) n
          (length_kind (kind_at e b) e.own (peer_at e b) e.port (network_at e b) e.mtu frame k identifier by l.mtu_least good within) formula in
          written_when e b frame k identifier output listed l.owner_below good (not_exceeds (kind_at e b) (length frame) e.mtu k n formula short) within
          (omega arith)
          ∙ ap (λ (x : ℕ). Ok (record { length = x; segments = segments_of (kind_at e b) (length frame) e.mtu })) same;
    }
  where
    all : (whole : List ℕ) → length whole ≡ 18 + length frame → 576 ≤ e.mtu
        → joined_to e.mtu whole ((18 + length frame + (e.mtu - 40) - 1) / (e.mtu - 40)) ≡ whole
    all whole size least =
        let c : ℕ = e.mtu - 40 in
        let count : ℕ = (18 + length frame + c - 1) / c in
        joined_front e.mtu whole count ∙ part-all whole (count * c) (omega (arith, ends_past (18 + length frame) c (omega arith)))
