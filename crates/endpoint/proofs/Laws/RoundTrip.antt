-- DEMAND 2, the round trip: the theorem (statement: RoundTrip). By VXLAN and NVGRE what was written is a packet that carries the frame (Demand2Writing), and
-- such a packet is delivered (Demand2, `complete-packet`). By STT the written segments are a cut of a good frame, and any order of them is a mixing of that
-- one frame, so demand 3's delivery says what is answered.
use Prim.Native.Nat.{ℕ, zero, suc, ◌+◌, ◌-◌, ◌*◌, ◌/◌, ◌^◌, ◌<◌, ◌≤◌, min}
use Rattle.std.specs.Prelude.{◌≡◌, refl, length, get_or, take}
use Rattle.std.proofs.Common.{sym, subst, ◌∙◌, zero-mul, add-suc, zero-add}
use Rattle.std.proofs.Math.Path.{ap, ap₂}
use mathlib.Core.List.{List, [], ◌∷◌, ◌++◌}
use Rattle.std.proofs.Math.Option.{some}
use native.Mathlib.Omega.{arith}
use Rattle.std.proofs.Math.Nat.{suc-mul, mul-le-mul_right}
use Rattle.wire.specs.Bytes.{Bytes, part}
use Rattle.wire.proofs.Laws.Bytes.{part_length, part-empty}
use Rattle.wire.specs.Ipv4.{IsIpv4}
use Rattle.wire.specs.Carriage.{Tunnels}
use Rattle.wire.specs.Segment.{IsSegment}
use Rattle.wire.specs.Frame.{IsFrame}
use Rattle.wire.specs.Stt.{IsStt}
use Rattle.wire.specs.Write.{stt_frame}
use Rattle.wire.proofs.Laws.Write.{stt_is, stt-length}
use Rattle.wire.proofs.Laws.WriteIs.{part_past_end, part_join, part-all, wrote_front, vxlan-bytes, nvgre-bytes}
use Rattle.reassembly.specs.Slots.{no_mark, most_peers}
use Rattle.reassembly.specs.Receive.{segment}
use Rattle.reassembly.specs.Mix as M
use Rattle.reassembly.specs.Mix.{Right}
use Rattle.reassembly.proofs.Laws.MixFacts.{states_are}
use Rattle.reassembly.specs.SetUp.{World, runs, answer_of}
use Rattle.endpoint.specs.Config.{Config, config_of, find_peer, find_binding}
use Rattle.endpoint.proofs.Laws.Config.{Valid, set_up_valid, listed-peer-found, listed_binding_found}
use Rattle.endpoint.specs.Receive.{answers, layers, header_of, judge_of, world_of}
use Rattle.endpoint.specs.Run.{Left, calls, ends_of}
use Rattle.endpoint.specs.Formats.{ListedPeer, Bound, CarriesFrame, CarriesSegment, GoodFrame}
use Rattle.endpoint.proofs.Laws.Formats.{peer_listed, binding_bound, segment_complete, judge-complete}
use Rattle.endpoint.specs.Wrap.{segments_of, kind_at, network_at, owner_at, peer_at, packet_of, packet_at}
use Rattle.endpoint.proofs.Laws.Wrap.{WrittenFacts, written_facts, Ready, Listed, ready-listed, ByKind, vxlan, nvgre, stt, by_kind, packet-vxlan}
use Rattle.endpoint.proofs.Laws.Wrap.{packet-nvgre}
use Rattle.endpoint.proofs.Laws.Wrap.{one_vxlan, one_nvgre, many-stt, starts_within, ends_past}
use Rattle.endpoint.specs.Reached.{Reached}
use Rattle.endpoint.proofs.Laws.Reached.{reached_ready}
use Rattle.endpoint.specs.Demand2.{Delivers}
use Rattle.endpoint.proofs.Laws.Demand2.{complete-packet}
use Rattle.endpoint.specs.Demand2Writing.{CarriesWhole, CarriesPart, portion}
use Rattle.endpoint.proofs.Laws.Demand2Writing.{sent-vxlan, sent-nvgre, sent-stt}
use Rattle.reassembly.specs.Claim.{Claim}
use Rattle.endpoint.proofs.Laws.Calls.{calls_are}
use Rattle.endpoint.proofs.Laws.Demand3.{set_up_claims}
use Rattle.endpoint.specs.RoundTrip.{segments_for, Wraps, Matches, Order, arrivals, Answered, RoundTrip}
use Rattle.endpoint.proofs.Laws.RoundTripLaws.{now_below, before_below, only_one, same-arrivals, one_frame, right_answered}
use Rattle.endpoint.specs.declared.answer.Target.{Target}
use Rattle.endpoint.specs.declared.config.Endpoint.{Endpoint}

-- ---- what was written, and what it was asked for

module _ (e : Endpoint) (b : ℕ) (frame : List ℕ) (identifier : ℕ) (packets : ℕ → List ℕ) (w : Wraps e b frame identifier packets) where
  says : (k : ℕ) → k < segments_for e b frame → WrittenFacts e b frame k identifier (w.output k) (w.answer k)
  says k h = written_facts e b frame k identifier (w.output k) (w.answer k) (w.written k h)

  packet_is : (k : ℕ) → k < segments_for e b frame → packets k ≡ packet_at e b frame k identifier
  packet_is k h =
      let s : WrittenFacts e b frame k identifier (w.output k) (w.answer k) = says k h in
      w.is k h ∙ ap₂ take s.length_is s.output_is ∙ wrote_front (w.output k) (packet_at e b frame k identifier)

-- ---- what a matching endpoint makes of it

abbrev target_of : Endpoint → ℕ → Target
target_of e' b' = record { tenant = get_or e'.tenants b' 0; binding = b' }

-- it knows us as peer p, and binds p's frames of this kind and network to b'
record Meets (own peer port kind network : ℕ) (e' : Endpoint) (b' p : ℕ) : Type 0 where
  own_is : (config_of e').own ≡ peer
  port_is : (config_of e').port ≡ port
  listed : ListedPeer (config_of e') own p
  bound : Bound (config_of e') p kind network (target_of e' b')
  claims : Claim answers Config layers (ends_of e') p

meets : (e : Endpoint) (b : ℕ) (e' : Endpoint) (b' : ℕ) (w : Matches e b e' b')
    → Meets e.own (peer_at e b) e.port (kind_at e b) (network_at e b) e' b' w.peer
unfolding config_of
meets e b e' b' w =
    let v : Valid e' = subst Valid (sym w.set_up_from) (set_up_valid w.own w.stt_port w.mtu w.adds) in
    let p : w.peer < most_peers = omega (arith, w.peer_listed, v.peer_count) in
    let found : find_binding (config_of e') (owner_at e' b') (kind_at e' b') (network_at e' b') ≡ some b' = listed_binding_found e' v b' w.binding_listed in
    record {
      own_is = w.own_is;
      port_is = w.port_is;
      listed =
          peer_listed (config_of e') e.own w.peer
          (subst (λ (a : ℕ). find_peer (config_of e') a ≡ some w.peer) w.peer_is (listed-peer-found e' v w.peer w.peer_listed));
      bound = binding_bound (config_of e') w.peer (kind_at e b) (network_at e b) (target_of e' b') (rw (w.owner_is, w.kind_is, w.network_is) at found) refl;
      claims =
          subst (λ (x : Endpoint). Claim answers Config layers (ends_of x) w.peer) (sym w.set_up_from)
          (set_up_claims w.own w.stt_port w.mtu w.adds w.peer p);
    }

module _ (own peer port kind network : ℕ) (e' : Endpoint) (b' p : ℕ) (w : Meets own peer port kind network e' b' p) (frame : List ℕ)
    (keeps : IsFrame frame) where
  -- a whole frame
  carried-whole : (packet : List ℕ) → CarriesWhole own peer kind network frame packet → CarriesFrame (config_of e') packet (target_of e' b') frame
  carried-whole packet c = record {
    source = own;
    protocol = c.protocol;
    payload = c.payload;
    ipv4 = subst (λ (x : ℕ). IsIpv4 own x c.protocol c.payload packet) (sym w.own_is) c.ipv4;
    peer = p;
    listed = w.listed;
    kind = kind;
    network = network;
    tunnel = subst (λ (x : ℕ). Tunnels kind c.protocol own x network frame c.payload) (sym w.own_is) c.tunnel;
    bound = w.bound;
    good = keeps;
  }

  -- a segment of an STT frame
  carried-part : (mtu : ℕ) (whole : List ℕ) (k identifier : ℕ) (packet : List ℕ) → CarriesPart own peer port mtu whole k identifier packet
      → CarriesSegment (config_of e') packet p (record {
        identifier = identifier;
        frame_length = length whole;
        offset = k * (mtu - 40);
        bytes =
            portion mtu whole k;
        mark = no_mark;
      })
  carried-part mtu whole k identifier packet c = record {
    source = own;
    payload = c.payload;
    ipv4 = subst (λ (x : ℕ). IsIpv4 own x 6 c.payload packet) (sym w.own_is) c.ipv4;
    listed = w.listed;
    segment =
        subst (λ (y : ℕ). IsSegment own (config_of e').own y (length whole) (k * (mtu - 40)) identifier (portion mtu whole k) c.payload) (sym w.port_is)
        (subst (λ (x : ℕ). IsSegment own x port (length whole) (k * (mtu - 40)) identifier (portion mtu whole k) c.payload) (sym w.own_is) c.segment);
    no_mark_is = refl;
  }

-- ---- the list of a function's values from i on

unfoldable each : {A : Type 0} → (ℕ → A) → ℕ → ℕ → List A
each f i zero = []
each f i (suc n) = f i ∷ each f (suc i) n

each-length : {A : Type 0} (f : ℕ → A) (i n : ℕ) → length (each f i n) ≡ n
unfolding each
each-length f i zero = refl
each-length f i (suc n) = ap suc (each-length f (suc i) n)

each_at : {A : Type 0} (f : ℕ → A) (i n j : ℕ) (d : A) → j < n → get_or (each f i n) j d ≡ f (i + j)
unfolding each
each_at f i zero j d h = absurd (omega arith)
each_at f i (suc n) zero d h = let z : i ≡ i + 0 = omega arith in ap f z
each_at f i (suc n) (suc j) d h = let z : suc i + j ≡ i + suc j = omega arith in each_at f (suc i) n j d (omega arith) ∙ ap f z

each_take : {A : Type 0} (f : ℕ → A) (i n j : ℕ) → j ≤ n → take j (each f i n) ≡ each f i j
unfolding each
each_take f i zero zero h = refl
each_take f i zero (suc j) h = absurd (omega arith)
each_take f i (suc n) zero h = refl
each_take {A} f i (suc n) (suc j) h = ap (λ (l : List A). f i ∷ l) (each_take f (suc i) n j (omega arith))

-- ---- the cut of an STT frame

module _ (mtu : ℕ) (whole : List ℕ) (packets : ℕ → List ℕ) where
  abbrev piece : ℕ → M.Part
  piece k = record { packet = packets k; bytes = portion mtu whole k; mark = no_mark }

  pieces-joined : (i n : ℕ) → M.joined (each piece i n) ≡ part whole (i * (mtu - 40)) ((i + n) * (mtu - 40))
  unfolding each
  pieces-joined i zero = let z : i + 0 ≡ i = omega arith in rw z (sym (part-empty whole (i * (mtu - 40))))
  pieces-joined i (suc n) =
      let c : ℕ = mtu - 40 in
      let z : suc i + n ≡ i + suc n = omega arith in
      let far : (i + suc n) * c ≡ (i + n) * c + c = ap (λ (x : ℕ). x * c) (add-suc i n) ∙ suc-mul (i + n) c in
      let near : i * c ≤ (i + n) * c = mul-le-mul_right c (omega arith) in
      let here : suc i * c ≡ i * c + c = suc-mul i c in
      ap₂ (λ (x y : List ℕ). x ++ y) (part_past_end whole (i * c) (i * c + c)) (pieces-joined (suc i) n)
      ∙ rw (z, here) (part_join whole (i * c) (i * c + c) ((i + suc n) * c) (omega arith) (omega arith))

  abbrev frame_from : (count identifier : ℕ) → M.Frame
  frame_from count identifier = record { identifier = identifier; content = whole; parts = each piece 0 count }

  module _ (count identifier : ℕ) (room : 0 < mtu - 40) (starts : (k : ℕ) → k < count → k * (mtu - 40) < length whole)
      (ends : length whole ≤ count * (mtu - 40)) where
    all-joined : M.joined (each piece 0 count) ≡ whole
    all-joined = pieces-joined 0 count ∙ rw (zero-mul, zero-add) (part-all whole (count * (mtu - 40)) ends)

    part_at : (k : ℕ) → k < count → M.part_of (frame_from count identifier) k ≡ piece k
    part_at k h = each_at piece 0 count k M.no_part h ∙ ap piece (zero-add k)

    offset_at_lem : (k : ℕ) → k < count → M.offset_of (each piece 0 count) k ≡ k * (mtu - 40)
    offset_at_lem k h =
        let s : k * (mtu - 40) < length whole = starts k h in
        ap (λ (l : List M.Part). length (M.joined l)) (each_take piece 0 count k (omega arith))
        ∙ ap length (pieces-joined 0 k)
        ∙ rw (zero-mul, zero-add) (part_length whole 0 (k * (mtu - 40)) (omega arith) ∙ omega arith)

    states-at : (k : ℕ) → k < count
        → M.states (frame_from count identifier) k ≡ record {
          identifier = identifier;
          frame_length = length whole;
          offset = k * (mtu - 40);
          bytes =
              portion mtu whole k;
          mark = no_mark;
        }
    states-at k h = rw (states_are (frame_from count identifier) k, offset_at_lem k h, part_at k h)

    piece-some : (k : ℕ) → k < count → 0 < length (portion mtu whole k)
    piece-some k h =
        let c : ℕ = mtu - 40 in
        let s : k * c < length whole = starts k h in
        omega (arith, part_length whole (k * c) (min (length whole) (k * c + c)) (omega arith))

-- ---- STT: the written segments are a cut of a good frame, and any order of them is answered as demand 3 says

module _ (own peer port network : ℕ) (e' : Endpoint) (b' p : ℕ) (w : Meets own peer port 3 network e' b' p) (frame : List ℕ) (keeps : IsFrame frame)
    (mtu : ℕ) (whole : List ℕ) (packets : ℕ → List ℕ) (count identifier : ℕ) (room : 0 < mtu - 40)
    (starts : (k : ℕ) → k < count → k * (mtu - 40) < length whole) (ends : length whole ≤ count * (mtu - 40))
    (is-stt : IsStt network frame whole) (size : length whole ≡ 18 + length frame)
    (carries : (k : ℕ) → k < count → CarriesPart own peer port mtu whole k identifier (packets k)) where
  abbrev sent_frame : M.Frame
  sent_frame = frame_from mtu whole packets count identifier

  worth : GoodFrame (config_of e') p whole (target_of e' b') frame
  worth = record { context = network; stt = is-stt; bound = w.bound; good = keeps }

  in_count : (k : ℕ) → k < length sent_frame.parts → k < count
  in_count k h = omega (arith, each-length (piece mtu whole packets) 0 count)

  reads : (k : ℕ) → k < length sent_frame.parts → header_of (config_of e') (M.part_of sent_frame k).packet ≡ segment p (M.states sent_frame k)
  reads k h =
      let l : k < count = in_count k h in
      ap (λ (x : M.Part). header_of (config_of e') x.packet) (part_at mtu whole packets count identifier room starts ends k l)
      ∙ segment_complete (config_of e') (packets k) p _ (carried-part own peer port 3 network e' b' p w frame keeps mtu whole k identifier (packets k)
      (carries k l))
      ∙ ap (segment p) (sym (states-at mtu whole packets count identifier room starts ends k l))

  some_byte : (k : ℕ) → k < length sent_frame.parts → 0 < length (M.part_of sent_frame k).bytes
  some_byte k h =
      let l : k < count = in_count k h in
      subst (λ (x : M.Part). 0 < length x.bytes) (sym (part_at mtu whole packets count identifier room starts ends k l))
      (piece-some mtu whole packets count identifier room starts ends k l)

  abbrev cut : M.Cut answers (header_of (config_of e')) (judge_of (config_of e')) p sent_frame
  cut = record {
    verdict = target_of e' b';
    is_good = (judge-complete (config_of e') p (M.frame_note sent_frame) whole (target_of e' b') frame worth).0;
    least = omega (arith, keeps.least);
    most = omega (arith, keeps.most);
    bytes = all-joined mtu whole packets count identifier room starts ends;
    some_byte = some_byte;
    sound = reads;
  }

  stt-answered : (m : List ℕ) → 55296 ≤ length m → (order : List ℕ) → Order count order → (before : List ℕ) (k : ℕ) (after : List ℕ) → order ≡ before
      ++ (k ∷ after)
      → Answered (calls (record { endpoint = e'; mem = m }) (arrivals packets before)) (packets k) (target_of e' b') frame (length after)
  stt-answered m enough order o before k after is =
      let here : (j : ℕ) → j < count → (M.part_of sent_frame j).packet ≡ packets j =
      λ j l. ap (λ (x : M.Part). x.packet) (part_at mtu whole packets count identifier room starts ends j l) in
      let parts : Order (length sent_frame.parts) order = subst (λ (n : ℕ). Order n order) (sym (each-length (piece mtu whole packets) 0 count)) o in
      let left : Left = calls (record { endpoint = e'; mem = m }) (arrivals packets before) in
      let world : runs answers Config layers (world_of e' m) (arrivals (λ j. (M.part_of sent_frame j).packet) before) ≡ world_of left.endpoint left.mem =
      ap (runs answers Config layers (world_of e' m)) (same-arrivals (λ j. (M.part_of sent_frame j).packet) packets count here before
      (before_below count order o before k after is))
      ∙ sym (calls_are (record { endpoint = e'; mem = m }) (arrivals packets before)) in
      let right = one_frame e' p w.claims sent_frame cut order parts m enough before k after is in
      right_answered left (packets k) p sent_frame (target_of e' b') frame (length after)
      (judge-complete (config_of e') p (M.frame_note sent_frame) whole (target_of e' b') frame worth).1
      (subst (λ (x : World Config). Right answers p sent_frame (target_of e' b') (length after) (answer_of answers Config layers x (packets k))) world
      (subst (λ (y : List ℕ). Right answers p sent_frame (target_of e' b') (length after)
      (answer_of answers Config layers (runs answers Config layers (world_of e' m) (arrivals (λ j. (M.part_of sent_frame j).packet) before)) y))
      (here k (now_below count order o before k after is)) right))

-- ---- VXLAN and NVGRE: one packet, which is delivered

whole-answered : (own peer port kind network : ℕ) (e' : Endpoint) (b' p : ℕ) → Meets own peer port kind network e' b' p → (frame : List ℕ) → IsFrame frame
    → (packets : ℕ → List ℕ)
    → Bytes (packets 0) → CarriesWhole own peer kind network frame (packets 0)
    → (m : List ℕ) → 55296 ≤ length m → (order : List ℕ) → Order 1 order → (before : List ℕ) (k : ℕ) (after : List ℕ) → order ≡ before ++ (k ∷ after)
    → Answered (calls (record { endpoint = e'; mem = m }) (arrivals packets before)) (packets k) (target_of e' b') frame (length after)
whole-answered own peer port kind network e' b' p w frame keeps packets bytes c m enough order o before k after is =
    let one = only_one order o before k after is in
    let d : Delivers e' m (packets 0) (target_of e' b') frame =
    complete-packet e' m (packets 0) enough bytes (target_of e' b') frame (carried-whole own peer port kind network e' b' p w frame keeps (packets 0) c) in
    rw (one.0, one.1, one.2) (record { waits = λ l. absurd (omega arith); delivers = λ q. d })

-- ---- each kind, over plain values

module _ (own peer port network mtu : ℕ) (frame : List ℕ) (identifier : ℕ) (packets : ℕ → List ℕ) (e' : Endpoint) (b' p : ℕ) (own_fits : own < 256 ^ 4)
    (peer_fits : peer < 256 ^ 4) where
  -- the packets are those written for a good frame
  abbrev Given : ℕ → Type 0
  Given kind = (k : ℕ) → k < segments_of kind (length frame) mtu → IsFrame frame × (packets k ≡ packet_of kind own peer port network mtu frame k identifier)

  abbrev Trip : ℕ → Type 0
  Trip kind = Meets own peer port kind network e' b' p → Given kind → RoundTrip frame (segments_of kind (length frame) mtu) packets e' b'

  -- a kind that takes one packet
  trip_whole : (kind : ℕ) → segments_of kind (length frame) mtu ≡ 1 → Bytes (packet_of kind own peer port network mtu frame 0 identifier)
      → (IsFrame frame → CarriesWhole own peer kind network frame (packet_of kind own peer port network mtu frame 0 identifier)) → Trip kind
  trip_whole kind one bytes carries w given =
      let g = given 0 (omega arith) in
      let is : packets 0 ≡ packet_of kind own peer port network mtu frame 0 identifier = g.1 in
      rw one
      (record {
        some_segment = omega arith;
        answered = whole-answered own peer port kind network e' b' p w frame g.0 packets (rw is bytes) (rw is (carries g.0));
      })

  trip_vxlan : network < 256 ^ 3 → Bytes frame → Trip 1
  trip_vxlan h bytes =
      trip_whole 1 (one_vxlan (length frame) mtu)
      (rw (packet-vxlan own peer port network mtu frame 0 identifier h) (vxlan-bytes own peer network frame bytes))
      (sent-vxlan own peer port network mtu frame 0 identifier own_fits peer_fits h)

  trip_nvgre : network < 256 ^ 3 → Bytes frame → Trip 2
  trip_nvgre h bytes =
      trip_whole 2 (one_nvgre (length frame) mtu)
      (rw (packet-nvgre own peer port network mtu frame 0 identifier h) (nvgre-bytes own peer network frame bytes))
      (sent-nvgre own peer port network mtu frame 0 identifier own_fits peer_fits h)

  trip_stt : port < 256 ^ 2 → network < 256 ^ 8 → identifier < 256 ^ 4 → 576 ≤ mtu → Trip 3
  trip_stt port_fits network-fits id_fits least w given =
      let c : ℕ = mtu - 40 in
      let count : ℕ = segments_of 3 (length frame) mtu in
      let many : count ≡ (18 + length frame + c - 1) / c = many-stt (length frame) mtu least in
      let whole : List ℕ = stt_frame network frame in
      let size : length whole ≡ 18 + length frame = stt-length network frame in
      let starts : (k : ℕ) → k < count → k * c < length whole =
      λ k h. subst (λ (n : ℕ). k * c < n) (sym size) (starts_within (18 + length frame) c k (omega arith) (subst (λ (n : ℕ). k < n) many h)) in
      let ends : length whole ≤ count * c =
      subst (λ (n : ℕ). n ≤ count * c) (sym size) (subst (λ (n : ℕ). 18 + length frame ≤ n * c) (sym many) (ends_past (18 + length frame) c (omega arith))) in
      let pos : 0 < count = some_count count c (length whole) ends (omega arith) in
      record {
        some_segment = pos;
        answered =
            stt-answered own peer port network e' b' p w frame (given 0 pos).0 mtu whole packets count identifier (omega arith) starts ends
            (stt_is network frame network-fits) size
            (λ k h. rw (given k h).1 (sent-stt own peer port network mtu frame k identifier own_fits peer_fits port_fits id_fits least (given k h).0 h));
      }
    where
      some_count : (count c n : ℕ) → n ≤ count * c → 0 < n → 0 < count
      some_count zero c n h l = absurd (omega (arith, zero-mul c))
      some_count (suc count) c n h l = omega arith

-- ---- THE THEOREM

pub round_trip : (e : Endpoint) (b : ℕ) (frame : List ℕ) (identifier : ℕ) (packets : ℕ → List ℕ) (e' : Endpoint) (b' : ℕ)
    → Reached e → b < (config_of e).bindings → Bytes frame → identifier < 256 ^ 4 → Wraps e b frame identifier packets → Matches e b e' b'
    → RoundTrip frame (segments_for e b frame) packets e' b'
round_trip e b frame identifier packets e' b' reached listed bytes fits wraps match =
    go (by_kind (kind_at e b) (network_at e b) l.network_good) (meets e b e' b' match)
    (λ k h. ((says e b frame identifier packets wraps k h).good, packet_is e b frame identifier packets wraps k h))
  where
    ready : Ready e
    ready = reached_ready e reached

    l : Listed e b
    l = ready-listed e b ready listed

    go : ByKind (kind_at e b) (network_at e b)
        → Trip e.own (peer_at e b) e.port (network_at e b) e.mtu frame identifier packets e' b' match.peer l.own_fits l.peer_fits (kind_at e b)
    go (vxlan q h) =
        subst (Trip e.own (peer_at e b) e.port (network_at e b) e.mtu frame identifier packets e' b' match.peer l.own_fits l.peer_fits) (sym q)
        (trip_vxlan e.own (peer_at e b) e.port (network_at e b) e.mtu frame identifier packets e' b' match.peer l.own_fits l.peer_fits h bytes)
    go (nvgre q h) =
        subst (Trip e.own (peer_at e b) e.port (network_at e b) e.mtu frame identifier packets e' b' match.peer l.own_fits l.peer_fits) (sym q)
        (trip_nvgre e.own (peer_at e b) e.port (network_at e b) e.mtu frame identifier packets e' b' match.peer l.own_fits l.peer_fits h bytes)
    go (stt q) =
        subst (Trip e.own (peer_at e b) e.port (network_at e b) e.mtu frame identifier packets e' b' match.peer l.own_fits l.peer_fits) (sym q)
        (trip_stt e.own (peer_at e b) e.port (network_at e b) e.mtu frame identifier packets e' b' match.peer l.own_fits l.peer_fits
        ready.port_fits (ready.networks_fit b) fits l.mtu_least)
