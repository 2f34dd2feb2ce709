-- What is found in an inner frame is what it carries.
use Rattle.std.specs.Prelude.{◌≡◌, ℕ, ◌+◌, ◌-◌, ◌*◌, ◌/◌, ◌%◌, ◌^◌, ◌<◌, ◌≤◌, Bool, true, false, ◌&&◌, ◌||◌, ◌⊎◌, List, [], ◌∷◌, ◌++◌, length, drop, ◌==◌}
use Rattle.std.specs.Prelude.{nat_le, refl, Option, Some, None, is_some}
use Rattle.std.proofs.Common.{sym, ap, ◌∙◌, inl, inr, ⊎_elim, true≢false, arith, eqb-true, leb-true, eq-eqb, ne_eqb, le-leb, length-append, length-drop}
use Rattle.wire.specs.Bytes.{Bytes, be, be_at}
use Rattle.wire.proofs.Laws.Bytes.{case_b, be-length, be-lt, be_one, be_split, be_front, be-behind, be-drop, be_value, as_fields, bytes_drop}
use Rattle.wire.specs.Ipv4 as I
use Rattle.wire.proofs.Laws.Ipv4 as IL
use Rattle.wire.specs.Inner.{CarriesIpv4, CarriesIpv6, OverIpv4, OverIpv6, FoundHints, CarriesTransport, WrittenHints, carries_ipv4, carries_ipv6}
use Rattle.wire.specs.Inner.{carries_transport, transport_by, over_ipv4, transport_of, hints_by, hints_of, Ipv4Frame, Ipv6Frame, Pictures, Looks}
use Rattle.wire.specs.declared.inner.Hints.{Hints}

-- ---- an IP header: four tests, or three

met4 : (a b c d : Bool) → a ≡ true → b ≡ true → c ≡ true → d ≡ true → (a && b && c && d) ≡ true
met4 a b c d p q r t = rw (p, q, r, t)

all4 : (a b c d : Bool) → (a && b && c && d) ≡ true → (a ≡ true) × (b ≡ true) × (c ≡ true) × (d ≡ true)
all4 true true true true e = (refl, refl, refl, refl)
all4 true true true false e = absurd (true≢false (sym e))
all4 true true false d e = absurd (true≢false (sym e))
all4 true false c d e = absurd (true≢false (sym e))
all4 false b c d e = absurd (true≢false (sym e))

pub ipv4_is : (words : ℕ) (frame : List ℕ) → CarriesIpv4 words frame → carries_ipv4 frame ≡ true
unfolding carries_ipv4
ipv4_is words frame w =
    met4 (be_at frame 12 2 == 0x0800) (be_at frame 14 1 / 16 == 4) (nat_le 5 (be_at frame 14 1 % 16)) (nat_le (14 + 4 * (be_at frame 14 1 % 16)) (length frame))
    (eq-eqb _ _ w.type_is) (eq-eqb _ _ w.version_is) (le-leb 5 (be_at frame 14 1 % 16) (omega (arith, w.words_is, w.least)))
    (le-leb (14 + 4 * (be_at frame 14 1 % 16)) (length frame) (omega (arith, w.words_is, w.inside)))

pub ipv4_says : (frame : List ℕ) → carries_ipv4 frame ≡ true → CarriesIpv4 (be_at frame 14 1 % 16) frame
unfolding carries_ipv4
ipv4_says frame e =
    let m = all4 (be_at frame 12 2 == 0x0800) (be_at frame 14 1 / 16 == 4) (nat_le 5 (be_at frame 14 1 % 16))
    (nat_le (14 + 4 * (be_at frame 14 1 % 16)) (length frame)) e in
    record {
      type_is = eqb-true _ _ m.0;
      version_is = eqb-true _ _ m.1;
      words_is = refl;
      least = leb-true _ _ m.2;
      inside = leb-true _ _ m.3;
    }

pub ipv6_is : (frame : List ℕ) → CarriesIpv6 frame → carries_ipv6 frame ≡ true
unfolding carries_ipv6
ipv6_is frame w =
    met4 true (be_at frame 12 2 == 0x86DD) (be_at frame 14 1 / 16 == 6) (nat_le 54 (length frame))
    refl (eq-eqb _ _ w.type_is) (eq-eqb _ _ w.version_is) (le-leb _ _ w.inside)

pub ipv6_says : (frame : List ℕ) → carries_ipv6 frame ≡ true → CarriesIpv6 frame
unfolding carries_ipv6
ipv6_says frame e =
    let m = all4 true (be_at frame 12 2 == 0x86DD) (be_at frame 14 1 / 16 == 6) (nat_le 54 (length frame)) e in
    record { type_is = eqb-true _ _ m.1; version_is = eqb-true _ _ m.2; inside = leb-true _ _ m.3 }

-- what the code cites: the bytes that it reads behind the header are there
pub ipv4_room : (frame : List ℕ) → carries_ipv4 frame ≡ true → 34 ≤ length frame
ipv4_room frame e = let w = ipv4_says frame e in omega (arith, w.least, w.inside)

pub ipv6_room : (frame : List ℕ) → carries_ipv6 frame ≡ true → 54 ≤ length frame
ipv6_room frame e = (ipv6_says frame e).inside

-- where it finds none
pub no_ipv4 : (frame : List ℕ) → (CarriesIpv4 (be_at frame 14 1 % 16) frame → ⊥) → false ≡ carries_ipv4 frame
no_ipv4 frame n = case_b (carries_ipv4 frame) (λ e. absurd (n (ipv4_says frame e))) (λ e. sym e)

-- a frame does not carry both
one_ip : (frame : List ℕ) → CarriesIpv6 frame → carries_ipv4 frame ≡ false
one_ip frame w = sym (no_ipv4 frame (λ v. omega (arith, v.type_is, w.type_is)))

-- ---- the transport header

pub by_tcp : (protocol flags l4 sum : ℕ) → protocol ≡ 6 → sum ≡ flags + 8 → Some (record { flags = sum; l4 = l4 }) ≡ transport_by protocol flags l4
unfolding transport_by
by_tcp protocol flags l4 sum p s = rw (eq-eqb protocol 6 p, s)

pub by_udp : (protocol flags l4 : ℕ) → protocol ≡ 17 → Some (record { flags = flags; l4 = l4 }) ≡ transport_by protocol flags l4
unfolding transport_by
by_udp protocol flags l4 p = rw (ne_eqb protocol 6 (λ e. omega arith), eq-eqb protocol 17 p)

-- a fragment offset is told by two bytes, without the flags in the first: what the code cites
pub fragment_offset : (frame : List ℕ) → be_at frame 20 2 ≡ be_at frame 20 1 * 256 + be_at frame 21 1
fragment_offset frame = omega (arith, be_split frame 20 1 1)

pub over_first : (frame : List ℕ) (protocol l4 : ℕ) → be_at frame 20 2 % 2 ^ 13 ≡ 0 → protocol ≡ be_at frame 23 1 → l4 ≡ 14 + 4 * (be_at frame 14 1 % 16)
    → transport_by protocol 4 l4 ≡ over_ipv4 frame
unfolding over_ipv4
over_first frame protocol l4 z e l = rw (eq-eqb (be_at frame 20 2 % 2 ^ 13) 0 z, e, l)

pub by_ipv4_lem : (frame : List ℕ) → carries_ipv4 frame ≡ true → over_ipv4 frame ≡ transport_of frame
unfolding transport_of
by_ipv4_lem frame e = rw e

pub by_ipv6 : (frame : List ℕ) (next : ℕ) → carries_ipv4 frame ≡ false → carries_ipv6 frame ≡ true → next ≡ be_at frame 20 1
    → transport_by next 0 54 ≡ transport_of frame
unfolding transport_of
by_ipv6 frame next a b e = rw (a, b, e)

-- ---- found exactly where the frame carries it

over_ipv4_is : (protocol l4 : ℕ) (frame : List ℕ) → OverIpv4 protocol l4 frame → transport_of frame ≡ transport_by protocol 4 l4
over_ipv4_is protocol l4 frame w =
    sym (over_first frame protocol l4 w.fragment_offset (sym w.protocol_is) (w.l4_is ∙ ap (λ (x : ℕ). 14 + 4 * x) (sym w.ip.words_is))
    ∙ by_ipv4_lem frame (ipv4_is w.words frame w.ip))

over_ipv6_is : (protocol l4 : ℕ) (frame : List ℕ) → OverIpv6 protocol l4 frame → transport_of frame ≡ transport_by protocol 0 l4
over_ipv6_is protocol l4 frame w =
    sym (by_ipv6 frame protocol (one_ip frame w.ip) (ipv6_is frame w.ip) (sym w.next_header)) ∙ rw w.l4_is

pub transport_is : (flags l4 : ℕ) (frame : List ℕ) → FoundHints flags l4 frame → transport_of frame ≡ Some (record { flags = flags; l4 = l4 })
transport_is flags l4 frame (inl w) = over_ipv4_is 6 l4 frame w.1 ∙ sym (by_tcp 6 4 l4 flags refl w.0)
transport_is flags l4 frame (inr (inl w)) = over_ipv4_is 17 l4 frame w.1 ∙ rw w.0 (sym (by_udp 17 4 l4 refl))
transport_is flags l4 frame (inr (inr (inl w))) = over_ipv6_is 6 l4 frame w.1 ∙ sym (by_tcp 6 0 l4 flags refl w.0)
transport_is flags l4 frame (inr (inr (inr w))) = over_ipv6_is 17 l4 frame w.1 ∙ rw w.0 (sym (by_udp 17 0 l4 refl))

-- what a protocol number says, taken apart
by_found : (protocol flags l4 : ℕ) (h : Hints) → transport_by protocol flags l4 ≡ Some h
    → ((protocol ≡ 6) × (h.flags ≡ flags + 8) × (h.l4 ≡ l4)) ⊎ ((protocol ≡ 17) × (h.flags ≡ flags) × (h.l4 ≡ l4))
unfolding transport_by
by_found protocol flags l4 h e =
    case_b (protocol == 6)
    (λ a.
    let q : Some (record { flags = flags + 8; l4 = l4 }) ≡ Some h = rw a at e in
    let k : record { flags = flags + 8; l4 = l4 } ≡ h = cc in
    inl (eqb-true _ _ a, ap (λ (x : Hints). x.flags) (sym k), ap (λ (x : Hints). x.l4) (sym k)))
    (λ a. case_b (protocol == 17)
    (λ b.
    let q : Some (record { flags = flags; l4 = l4 }) ≡ Some h = rw (a, b) at e in
    let k : record { flags = flags; l4 = l4 } ≡ h = cc in
    inr (eqb-true _ _ b, ap (λ (x : Hints). x.flags) (sym k), ap (λ (x : Hints). x.l4) (sym k)))
    (λ b. let q : None ≡ Some h = rw (a, b) at e in cc))

over-found : (frame : List ℕ) (h : Hints) → over_ipv4 frame ≡ Some h
    → (be_at frame 20 2 % 2 ^ 13 ≡ 0) × (transport_by (be_at frame 23 1) 4 (14 + 4 * (be_at frame 14 1 % 16)) ≡ Some h)
unfolding over_ipv4
over-found frame h e =
    case_b (be_at frame 20 2 % 2 ^ 13 == 0)
    (λ a. (eqb-true _ _ a, rw a at e))
    (λ a. let q : None ≡ Some h = rw a at e in cc)

pub transport_found : (h : Hints) (frame : List ℕ) → transport_of frame ≡ Some h → FoundHints h.flags h.l4 frame
unfolding transport_of
transport_found h frame e =
    case_b (carries_ipv4 frame)
    (λ a.
    let f = over-found frame h (rw a at e) in
    let over : (protocol : ℕ) → be_at frame 23 1 ≡ protocol → h.l4 ≡ 14 + 4 * (be_at frame 14 1 % 16) → OverIpv4 protocol h.l4 frame = λ protocol p l.
    record { words = be_at frame 14 1 % 16; ip = ipv4_says frame a; fragment_offset = f.0; protocol_is = p; l4_is = l } in
    ⊎_elim (λ k. inl (k.1, over 6 k.0 k.2)) (λ k. inr (inl (k.1, over 17 k.0 k.2)))
    (by_found (be_at frame 23 1) 4 (14 + 4 * (be_at frame 14 1 % 16)) h f.1))
    (λ a. case_b (carries_ipv6 frame)
    (λ b.
    let w : CarriesIpv6 frame = ipv6_says frame b in
    ⊎_elim
    (λ k. inr (inr (inl (k.1, record { ip = w; next_header = k.0; l4_is = k.2 }))))
    (λ k. inr (inr (inr (k.1, record { ip = w; next_header = k.0; l4_is = k.2 }))))
    (by_found (be_at frame 20 1) 0 54 h (rw (a, b) at e)))
    (λ b. let q : None ≡ Some h = rw (a, b) at e in cc))

-- ---- the test

or_none_lem : (a : Bool) → (a || false) ≡ a
or_none_lem true = refl
or_none_lem false = refl

by_tested : (protocol flags l4 : ℕ) → is_some (transport_by protocol flags l4) ≡ (protocol == 6 || protocol == 17)
unfolding transport_by
by_tested protocol flags l4 = case_b (protocol == 6) (λ a. rw a) (λ a. case_b (protocol == 17) (λ b. rw (a, b)) (λ b. rw (a, b)))

over_tested : (frame : List ℕ) → is_some (over_ipv4 frame) ≡ (be_at frame 20 2 % 2 ^ 13 == 0 && (be_at frame 23 1 == 6 || be_at frame 23 1 == 17))
unfolding over_ipv4
over_tested frame =
    case_b (be_at frame 20 2 % 2 ^ 13 == 0) (λ a. rw a (by_tested (be_at frame 23 1) 4 (14 + 4 * (be_at frame 14 1 % 16)))) (λ a. rw a)

pub tested : (frame : List ℕ) → is_some (transport_of frame) ≡ carries_transport frame
unfolding transport_of carries_transport
tested frame =
    case_b (carries_ipv6 frame)
    (λ b. rw (one_ip frame (ipv6_says frame b), b) (by_tested (be_at frame 20 1) 0 54))
    (λ b. case_b (carries_ipv4 frame) (λ a. rw (a, b) (over_tested frame ∙ sym (or_none_lem _))) (λ a. rw (a, b)))

pub test-found : (frame : List ℕ) (h : Hints) → transport_of frame ≡ Some h → true ≡ carries_transport frame
test-found frame h e = ap is_some (sym e) ∙ tested frame

pub test-none : (frame : List ℕ) → transport_of frame ≡ None → false ≡ carries_transport frame
test-none frame e = ap is_some (sym e) ∙ tested frame

pub test_is : (frame : List ℕ) → CarriesTransport frame → carries_transport frame ≡ true
test_is frame w = sym (test-found frame _ (transport_is w.flags w.l4 frame w.hints))

pub test_says : (frame : List ℕ) → carries_transport frame ≡ true → CarriesTransport frame
test_says frame e = by (transport_of frame) refl
  where
    by : (x : Option Hints) → transport_of frame ≡ x → CarriesTransport frame
    by (Some h) q = record { flags = h.flags; l4 = h.l4; hints = transport_found h frame q }
    by None q = absurd (true≢false (sym (test-none frame q ∙ e)))

-- ---- the hints that are written

pub hints_are : (frame : List ℕ) → WrittenHints (hints_of frame).flags (hints_of frame).l4 frame
unfolding hints_of
hints_are frame = by (transport_of frame) refl
  where
    by : (x : Option Hints) → transport_of frame ≡ x → WrittenHints (hints_by x).flags (hints_by x).l4 frame
    by (Some h) q = inl (transport_found h frame q)
    by None q =
        inr (λ w. let k : None ≡ Some (record { flags = w.flags; l4 = w.l4 }) = sym q ∙ transport_is w.flags w.l4 frame w.hints in cc, refl, refl)

-- they fit their fields, and flags 0x01 and 0x02 are not among them
pub record HintsFit (h : Hints) : Type 0 where
  pub flags_fit : h.flags < 256
  pub low_zero : h.flags % 4 ≡ 0
  pub l4_fits : h.l4 < 256

by_fits : (protocol flags l4 : ℕ) → flags < 248 → flags % 4 ≡ 0 → l4 < 256 → HintsFit (hints_by (transport_by protocol flags l4))
unfolding transport_by
by_fits protocol flags l4 f z l =
    case_b (protocol == 6)
    (λ a. rw a (record { flags_fit = omega arith; low_zero = omega arith; l4_fits = l }))
    (λ a. case_b (protocol == 17)
    (λ b. rw (a, b) (record { flags_fit = omega arith; low_zero = z; l4_fits = l }))
    (λ b. rw (a, b) (record { flags_fit = omega arith; low_zero = refl; l4_fits = omega arith })))

pub hints_fit : (frame : List ℕ) → HintsFit (hints_of frame)
unfolding hints_of transport_of over_ipv4
hints_fit frame =
    case_b (carries_ipv4 frame)
    (λ a. case_b (be_at frame 20 2 % 2 ^ 13 == 0)
    (λ b. rw (a, b) (by_fits (be_at frame 23 1) 4 (14 + 4 * (be_at frame 14 1 % 16)) (omega arith) refl (omega arith)))
    (λ b. rw (a, b) (record { flags_fit = omega arith; low_zero = refl; l4_fits = omega arith })))
    (λ a. case_b (carries_ipv6 frame)
    (λ b. rw (a, b) (by_fits (be_at frame 20 1) 0 54 (omega arith) refl (omega arith)))
    (λ b. rw (a, b) (record { flags_fit = omega arith; low_zero = refl; l4_fits = omega arith })))

-- ---- the pictures

-- what lies behind 12 bytes of addresses and a type of 2
pictured : (addresses packet : List ℕ) (type at n : ℕ) → length addresses ≡ 12 → be_at (addresses ++ (be 2 type ++ packet)) (14 + at) n ≡ be_at packet at n
pictured addresses packet type at n l =
    let z : 14 + at ≡ 12 + (2 + at) = omega arith in
    ap (λ (i : ℕ). be_at (addresses ++ (be 2 type ++ packet)) i n) z ∙ be-behind addresses (be 2 type ++ packet) 12 (2 + at) n l
    ∙ be-behind (be 2 type) packet 2 at n (be-length 2 type)

typed : (addresses packet : List ℕ) (type : ℕ) → length addresses ≡ 12 → type < 256 ^ 2 → be_at (addresses ++ (be 2 type ++ packet)) 12 2 ≡ type
typed addresses packet type l h =
    be-behind addresses (be 2 type ++ packet) 12 0 2 l ∙ be_front (be 2 type) packet 0 2 (omega (arith, be-length 2 type)) ∙ be_value 2 type h

long : (addresses packet : List ℕ) (type : ℕ) → length addresses ≡ 12 → length (addresses ++ (be 2 type ++ packet)) ≡ 14 + length packet
long addresses packet type l = simp length-append (omega (arith, be-length 2 type))

-- bytes with an Ethernet header are two addresses, the type and what is behind
as_ethernet : (frame : List ℕ) (type : ℕ) → Bytes frame → 14 ≤ length frame → be_at frame 12 2 ≡ type
    → frame ≡ be 12 (be_at frame 0 12) ++ (be 2 type ++ drop 14 frame)
as_ethernet frame type b l t = rw t at (as_fields frame b (12 ∷ 2 ∷ []) 0 (omega arith))

record Pictured4 (frame : List ℕ) (w : Ipv4Frame frame) : Type 0 where
  carries : CarriesIpv4 (5 + w.f.option_words) frame
  offset_is : be_at frame 20 2 % 2 ^ 13 ≡ w.f.offset
  protocol_is : be_at frame 23 1 ≡ w.f.protocol
  ends : length (I.header w.f) ≡ 4 * (5 + w.f.option_words)

pictured4 : (frame : List ℕ) (w : Ipv4Frame frame) → Pictured4 frame w
pictured4 frame w =
    let f : I.Header = w.f in
    let fits : I.Fits f = w.fits in
    let packet : List ℕ = I.header f ++ w.rest in
    let r : IL.ReadsBack f packet = IL.reads_back f fits w.rest in
    let at : (i n : ℕ) → be_at frame (14 + i) n ≡ be_at packet i n = λ i n.
    ap (λ (s : List ℕ). be_at s (14 + i) n) w.frame_is ∙ pictured w.addresses packet 0x0800 i n w.twelve in
    let first : be_at frame 14 1 ≡ 4 * 16 + (5 + f.option_words) = at 0 1 ∙ r.first in
    let fragment : be_at frame 20 2 ≡ f.flags * 2 ^ 13 + f.offset = at 6 2 ∙ r.fragment in
    let m : length frame ≡ 14 + length packet = ap length w.frame_is ∙ long w.addresses packet 0x0800 w.twelve in
    let n : length packet ≡ 20 + length f.options + length w.rest =
    length-append (I.header f) w.rest ∙ ap (λ (x : ℕ). x + length w.rest) (IL.header-length f) in
    record {
      carries = record {
        type_is = ap (λ (s : List ℕ). be_at s 12 2) w.frame_is ∙ typed w.addresses packet 0x0800 w.twelve (omega arith);
        version_is = omega (arith, first, fits.option_words);
        words_is = omega (arith, first, fits.option_words);
        least = omega arith;
        inside = omega (arith, m, n, fits.options);
      };
      offset_is = omega (arith, fragment, fits.offset);
      protocol_is = at 9 1 ∙ r.protocol;
      ends = omega (arith, IL.header-length f, fits.options);
    }

over_pictured4 : (frame : List ℕ) (w : Ipv4Frame frame) → w.f.offset ≡ 0 → OverIpv4 w.f.protocol (14 + length (I.header w.f)) frame
over_pictured4 frame w z =
    let p : Pictured4 frame w = pictured4 frame w in
    record {
      words = 5 + w.f.option_words;
      ip = p.carries;
      fragment_offset = p.offset_is ∙ z;
      protocol_is = p.protocol_is;
      l4_is = ap (λ (x : ℕ). 14 + x) p.ends;
    }

over_back4 : (frame : List ℕ) (w : Ipv4Frame frame) (protocol l4 : ℕ) → OverIpv4 protocol l4 frame
    → (w.f.offset ≡ 0) × (w.f.protocol ≡ protocol) × (l4 ≡ 14 + length (I.header w.f))
over_back4 frame w protocol l4 o =
    let p : Pictured4 frame w = pictured4 frame w in
    let e : o.words ≡ 5 + w.f.option_words = sym o.ip.words_is ∙ p.carries.words_is in (
      sym p.offset_is ∙ o.fragment_offset,
      sym p.protocol_is ∙ o.protocol_is,
      o.l4_is ∙ ap (λ (x : ℕ). 14 + 4 * x) e ∙ ap (λ (x : ℕ). 14 + x) (sym p.ends),
    )

ipv4_back : (words : ℕ) (frame : List ℕ) → Bytes frame → CarriesIpv4 words frame → Ipv4Frame frame
unfolding IL.header_at
ipv4_back words frame b w =
    let s : List ℕ = drop 14 frame in
    let c : Bytes s = bytes_drop frame b 14 in
    let first : be_at s 0 1 ≡ be_at frame 14 1 = be-drop frame 14 0 1 in
    let n : length s ≡ length frame - 14 = length-drop 14 frame in
    let v : I.version_at s ≡ 4 = omega (arith, first, w.version_is) in
    let k : I.ihl_at s ≡ words = omega (arith, first, w.words_is) in
    let q : 5 ≤ I.ihl_at s = omega (arith, k, w.least) in
    let h : 4 * I.ihl_at s ≤ length s = omega (arith, k, n, w.inside) in
    record {
      addresses = be 12 (be_at frame 0 12);
      f = IL.header_at s;
      rest = drop (4 * I.ihl_at s) s;
      twelve = be-length 12 (be_at frame 0 12);
      fits = IL.header-fits s c q h;
      frame_is = as_ethernet frame 0x0800 b (omega (arith, w.inside)) w.type_is
          ∙ ap (λ (l : List ℕ). be 12 (be_at frame 0 12) ++ (be 2 0x0800 ++ l)) (IL.as_header s c v q h);
    }

-- an IPv6 header and what is behind it, by its fields
ipv6 : (word size next hops source destination : ℕ) → List ℕ → List ℕ
ipv6 word size next hops source destination rest =
    be 4 word ++ (be 2 size ++ (be 1 next ++ (be 1 hops ++ (be 16 source ++ (be 16 destination ++ rest)))))

pictured6 : (frame : List ℕ) (w : Ipv6Frame frame) → OverIpv6 w.next (14 + 40) frame
unfolding ipv6 be be_at
pictured6 frame w =
    let word : ℕ = 6 * 2 ^ 28 + w.class * 2 ^ 20 + w.flow in
    let packet : List ℕ = ipv6 word w.size w.next w.hops w.source w.destination w.rest in
    let at : (i n : ℕ) → be_at frame (14 + i) n ≡ be_at packet i n = λ i n.
    ap (λ (s : List ℕ). be_at s (14 + i) n) w.frame_is ∙ pictured w.addresses packet 0x86DD i n w.twelve in
    let first : be_at packet 0 1 ≡ word / 256 / 256 / 256 % 256 = be_one packet 0 in
    let n : length packet ≡ 40 + length w.rest = omega arith in
    let m : length frame ≡ 14 + length packet = ap length w.frame_is ∙ long w.addresses packet 0x86DD w.twelve in
    record {
      ip = record {
        type_is = ap (λ (s : List ℕ). be_at s 12 2) w.frame_is ∙ typed w.addresses packet 0x86DD w.twelve (omega arith);
        version_is = omega (arith, at 0 1, first, w.class_fits, w.flow_fits);
        inside = omega (arith, m, n);
      };
      next_header = at 6 1 ∙ be_value 1 w.next w.next_fits;
      l4_is = refl;
    }

ipv6_back : (frame : List ℕ) → Bytes frame → CarriesIpv6 frame → Ipv6Frame frame
unfolding ipv6
ipv6_back frame b w =
    let s : List ℕ = drop 14 frame in
    let c : Bytes s = bytes_drop frame b 14 in
    let first : be_at s 0 1 ≡ be_at frame 14 1 = be-drop frame 14 0 1 in
    let n : length s ≡ length frame - 14 = length-drop 14 frame in
    let word : ℕ = be_at s 0 4 in
    let split : word ≡ be_at s 0 1 * 2 ^ 24 + be_at s 1 3 = be_split s 0 1 3 in
    let low : be_at s 1 3 < 2 ^ 24 = omega (arith, be-lt s c 1 3) in
    let e : word ≡ 6 * 2 ^ 28 + word / 2 ^ 20 % 2 ^ 8 * 2 ^ 20 + word % 2 ^ 20 = omega (arith, split, low, first, w.version_is) in
    record {
      addresses = be 12 (be_at frame 0 12);
      class = word / 2 ^ 20 % 2 ^ 8;
      flow = word % 2 ^ 20;
      size = be_at s 4 2;
      next = be_at s 6 1;
      hops = be_at s 7 1;
      source = be_at s 8 16;
      destination = be_at s 24 16;
      rest = drop 40 s;
      twelve = be-length 12 (be_at frame 0 12);
      class_fits = omega arith;
      flow_fits = omega arith;
      next_fits = omega (arith, be-lt s c 6 1);
      frame_is = as_ethernet frame 0x86DD b (omega (arith, w.inside)) w.type_is
          ∙ ap (λ (l : List ℕ). be 12 (be_at frame 0 12) ++ (be 2 0x86DD ++ l))
          (as_fields s c (4 ∷ 2 ∷ 1 ∷ 1 ∷ 16 ∷ 16 ∷ []) 0 (omega (arith, n, w.inside))
          ∙ ap (λ (x : ℕ). ipv6 x (be_at s 4 2) (be_at s 6 1) (be_at s 7 1) (be_at s 8 16) (be_at s 24 16) (drop 40 s)) e);
    }

pub pictures : Pictures
pictures = record {
  ipv4 = λ frame w. (pictured4 frame w).carries;
  ipv4_back = ipv4_back;
  over_ipv4_lem = over_pictured4;
  over_ipv4_back = over_back4;
  ipv6 = λ frame w. (pictured6 frame w).ip;
  ipv6_back = ipv6_back;
  over_ipv6 = pictured6;
  over_ipv6_back = λ frame w protocol l4 o. (sym (pictured6 frame w).next_header ∙ o.next_header, o.l4_is);
}

pub looks : Looks
looks = record {
  ipv4 = ipv4_is;
  ipv4_sound = ipv4_says;
  ipv6 = ipv6_is;
  ipv6_sound = ipv6_says;
  test = test_is;
  test_sound = test_says;
  transport = transport_is;
  transport_sound = transport_found;
  hints = hints_are;
}
