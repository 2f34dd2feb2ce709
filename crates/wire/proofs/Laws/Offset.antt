-- The byte that a row names is the first that breaks its rule (Offset.antt).
use Rattle.std.specs.Prelude.{◌≡◌, ℕ, ◌+◌, ◌-◌, ◌*◌, ◌/◌, ◌%◌, ◌<◌, ◌≤◌, Bool, true, false, not, ◌&&◌, ◌||◌, ltb, List, [], ◌∷◌, length, drop, ◌==◌, nat_lt}
use Rattle.std.specs.Prelude.{slice_index, slice_index_or}
use Rattle.std.proofs.Math.Path.{refl, ap}
use Rattle.std.proofs.Common.{◌∙◌}
use native.Mathlib.Omega.{arith}
use borrow.Author.Tests.{ltb-false, eqb-true, eq-eqb, ne_eqb}
use Rattle.wire.specs.Bytes.{be_at, part}
use Rattle.wire.proofs.Laws.Bytes.{case_b, be_one, be-take, be-drop, part_is, part_length}
use Rattle.wire.specs.Checks.{◌⇒◌, first, Passed}
use Rattle.wire.proofs.Laws.Checks.{Each, by_each, neither, or_false-l, or_false_r}
use Rattle.wire.specs.Inner.{carries_transport}
use Rattle.wire.specs.Refusal.{Finding, only}
use Rattle.wire.specs.Table.{Rows, ◌and_then◌, ◌otherwise◌, told, header_length_of, total_length_of, protocol_of, source_of, destination_of, payload_of}
use Rattle.wire.specs.Table.{ipv4_rows}
use Rattle.wire.specs.Table.{payload_rows, vxlan_rows, nvgre_rows, stt_rows}
use Rattle.wire.proofs.Laws.Table.{payload_is}
use Rattle.wire.specs.Offset.{breaks_vxlan, breaks_nvgre, breaks_stt, FirstOf}

-- ---- rows that name no byte

abbrev pub Low : Rows → Type 0
Low rows = Each (λ (y : Finding). y.number ≤ 17) rows

-- where the number is higher, none of them applies
pub skip : (a b : Rows) (x : Finding) → Low a → 25 ≤ (a and_then b otherwise x).number → Passed a × ((a and_then b otherwise x) ≡ (b otherwise x))
unfolding first
skip [] b x l n = (tt, refl)
skip ((true ⇒ y) ∷ a) b x l n = absurd (omega (arith, l.0, n))
skip ((false ⇒ y) ∷ a) b x l n =
    let r = skip a b x l.1 n in
    ((refl, r.0), r.1)

abbrev pub Higher : Finding → Type 0
Higher x = 25 ≤ x.number

-- a number from them alone is not higher
none_higher : {C : Type 0} (a : Rows) → Low a → 25 ≤ (told a).number → C
none_higher a l n = absurd (omega (arith, n, by_each (λ (y : Finding). y.number ≤ 17) (λ (y : Finding). y) a (only 0) l (omega arith)))

-- ---- bytes and tests

-- a test of byte c alone
off : (i c : ℕ) (test : Bool) → (i ≡ c → test ≡ false) → (i == c && test) ≡ false
off i c test h = case_b (i == c) (λ q. rw (q, h (eqb-true i c q))) (λ q. rw q)

none_of_four : (a b c d : Bool) → a ≡ false → b ≡ false → c ≡ false → d ≡ false → (a || b || c || d) ≡ false
none_of_four a b c d p q r s = rw (p, q, r, s)

-- byte i of the payload is byte start + i of the packet
payload_byte : (k : List ℕ) (start end i : ℕ) → i < end - start → be_at (part k start end) i 1 ≡ slice_index k (start + i)
payload_byte k start end i l =
    ap (λ (s : List ℕ). be_at s i 1) (part_is k start end)
    ∙ be-take (drop start k) (end - start) i 1 (omega arith)
    ∙ be-drop k start i 1
    ∙ be_one k (start + i)

module _ (k : List ℕ) where
  abbrev start : ℕ
  start = header_length_of k

  abbrev end : ℕ
  end = total_length_of k

  abbrev protocol : ℕ
  protocol = protocol_of k

  abbrev payload : List ℕ
  payload = payload_of k

  pub ipv4_low : Low (ipv4_rows k)
  unfolding ipv4_rows
  ipv4_low = (omega arith, (omega arith, (omega arith, tt)))

  -- the packet ends within the bytes given
  ipv4_within : Passed (ipv4_rows k) → end ≤ length k
  unfolding ipv4_rows total_length_of
  ipv4_within p =
      let words : ℕ = be_at k 0 1 % 16 in
      ltb-false (length k) (be_at k 2 2)
      (or_false_r (nat_lt (length k) 20 || not (be_at k 0 1 / 16 == 4) || nat_lt words 5 || nat_lt (be_at k 2 2) (4 * words)) (nat_lt (length k) (be_at k 2 2)) p.0)

  payload-size : end ≤ length k → length payload ≡ end - start
  payload-size l = ap (λ (s : List ℕ). length s) (payload_is k) ∙ part_length k start end l

  byte_at_lem : (i : ℕ) → i < length payload → end ≤ length k → be_at payload i 1 ≡ slice_index k (start + i)
  byte_at_lem i l w = ap (λ (s : List ℕ). be_at s i 1) (payload_is k) ∙ payload_byte k start end i (omega (arith, payload-size w))

  module _ (port : ℕ) where
    abbrev carriage : Rows
    carriage = payload_rows protocol (source_of k) (destination_of k) port payload

    pub carriage_low : Low carriage
    unfolding payload_rows
    carriage_low = (omega arith, (omega arith, (omega arith, (omega arith, tt))))

    -- it has room for the header
    vxlan-room : protocol ≡ 17 → Passed carriage → 16 ≤ length payload
    unfolding payload_rows
    vxlan-room q p =
        let wrong : Bool = not (be_at payload 4 2 == length payload) in
        let short : Bool = ltb (length payload) 16 in
        let z : (wrong || short || false || false) ≡ false = rw q at p.1.1.0 in
        ltb-false (length payload) 16 (or_false_r wrong short (or_false-l (wrong || short) false (or_false-l (wrong || short || false) false z)))

    nvgre-room : protocol ≡ 47 → Passed carriage → 8 ≤ length payload
    unfolding payload_rows
    nvgre-room q p =
        let short : Bool = ltb (length payload) 8 in
        let z : (short || false) ≡ false = rw q at p.1.1.0 in
        ltb-false (length payload) 8 (or_false-l short false z)

  -- the rules of GRE's four bytes
  abbrev flags : ℕ → Bool
  flags b = nat_lt b 0x20 || nat_lt 0x23 b

  abbrev version : ℕ → Bool
  version b = not (b % 8 == 0)

  abbrev is_type_high : ℕ → Bool
  is_type_high b = not (b == 0x65)

  abbrev is_type_low : ℕ → Bool
  is_type_low b = not (b == 0x58)

  -- the four tests at byte start + n: only its own counts
  gre-here : flags (slice_index k start) ≡ true → breaks_nvgre k start ≡ true
  unfolding breaks_nvgre
  gre-here t = rw (eq-eqb start start refl, t)

  gre-here_1 : version (slice_index k (start + 1)) ≡ true → breaks_nvgre k (start + 1) ≡ true
  unfolding breaks_nvgre
  gre-here_1 t = rw (ne_eqb (start + 1) start (λ z. omega arith), eq-eqb (start + 1) (start + 1) refl, t)

  gre-here_2 : is_type_high (slice_index k (start + 2)) ≡ true → breaks_nvgre k (start + 2) ≡ true
  unfolding breaks_nvgre
  gre-here_2 t = rw (ne_eqb (start + 2) start (λ z. omega arith), ne_eqb (start + 2) (start + 1) (λ z. omega arith), eq-eqb (start + 2) (start + 2) refl, t)

  gre-here_3 : is_type_low (slice_index k (start + 3)) ≡ true → breaks_nvgre k (start + 3) ≡ true
  unfolding breaks_nvgre
  gre-here_3 t =
      rw (
        ne_eqb (start + 3) start (λ z. omega arith),
        ne_eqb (start + 3) (start + 1) (λ z. omega arith),
        ne_eqb (start + 3) (start + 2) (λ z. omega arith),
        eq-eqb (start + 3) (start + 3) refl,
        t,
      )

  -- byte start + n is the first, where those in front of it keep their rules
  gre-first : end ≤ length k → 8 ≤ length payload → (n at : ℕ) → at ≡ start + n → n < 4
      → (0 < n → flags (slice_index k start) ≡ false) → (1 < n → version (slice_index k (start + 1)) ≡ false) → (2 < n → is_type_high (slice_index k (start + 2)) ≡ false)
      → breaks_nvgre k at ≡ true → FirstOf k (breaks_nvgre k) at
  unfolding breaks_nvgre
  gre-first w long n at is few a b c here = record {
    inside = omega (arith, payload-size w);
    here = here;
    before = λ i l. none_of_four _ _ _ _
        (off i start (flags (slice_index k i)) (λ z. rw z (a (omega arith))))
        (off i (start + 1) (version (slice_index k i)) (λ z. rw z (b (omega arith))))
        (off i (start + 2) (is_type_high (slice_index k i)) (λ z. rw z (c (omega arith))))
        (off i (start + 3) (is_type_low (slice_index k i)) (λ z. absurd (omega arith)));
  }

  -- ---- of a packet that passes 3 to 10: what the rows of its tunnel header name. Others, of no byte, may follow

  module _ (header : Passed (ipv4_rows k)) (port : ℕ) (transport : Passed (carriage port)) (rest : Rows) (low : Low rest) where
    abbrev inside : end ≤ length k
    inside = ipv4_within header

    pub vxlan_named : protocol ≡ 17 → Higher (told (vxlan_rows start payload and_then rest))
        → ((told (vxlan_rows start payload and_then rest)).number ≡ 25) × FirstOf k (breaks_vxlan k) (told (vxlan_rows start payload and_then rest)).offset
    unfolding vxlan_rows first breaks_vxlan
    vxlan_named q n =
        let long : 16 ≤ length payload = vxlan-room port q transport in
        let byte : be_at payload 8 1 ≡ slice_index_or k (start + 8) 0 = byte_at_lem 8 (omega arith) inside in
        case_b (not (be_at payload 8 1 / 8 % 2 == 1))
        (λ t. rw t (
          refl,
          record {
            inside = omega (arith, payload-size inside, inside);
            here = rw (eq-eqb (start + 8) (start + 8) refl) (rw byte at t);
            before = λ i l. off i (start + 8) _ (λ z. absurd (omega arith));
          },
        ))
        (λ t. none_higher rest low (rw t at n))

    abbrev Nvgre : Finding → Type 0
    Nvgre x = ((26 ≤ x.number) × (x.number ≤ 27)) × FirstOf k (breaks_nvgre k) x.offset

    pub nvgre_named : protocol ≡ 47 → Higher (told (nvgre_rows start payload and_then rest)) → Nvgre (told (nvgre_rows start payload and_then rest))
    unfolding nvgre_rows first
    nvgre_named q n =
        let long : 8 ≤ length payload = nvgre-room port q transport in
        let b0 : be_at payload 0 1 ≡ slice_index_or k start 0 = byte_at_lem 0 (omega arith) inside ∙ ap (λ (i : ℕ). slice_index k i) (omega arith) in
        let b1 : be_at payload 1 1 ≡ slice_index_or k (start + 1) 0 = byte_at_lem 1 (omega arith) inside in
        let b2 : be_at payload 2 1 ≡ slice_index_or k (start + 2) 0 = byte_at_lem 2 (omega arith) inside in
        let b3 : be_at payload 3 1 ≡ slice_index_or k (start + 3) 0 = byte_at_lem 3 (omega arith) inside in
        case_b (flags (be_at payload 0 1))
        (λ t0. rw t0 (
          (omega arith, omega arith),
          gre-first inside long 0 start (omega arith) (omega arith)
              (λ z. absurd (omega arith)) (λ z. absurd (omega arith)) (λ z. absurd (omega arith)) (gre-here (rw b0 at t0)),
        ))
        (λ f0. case_b (version (be_at payload 1 1))
        (λ t1. rw (f0, t1) (
          (omega arith, omega arith),
          gre-first inside long 1 (start + 1) refl (omega arith)
              (λ z. rw b0 at f0) (λ z. absurd (omega arith)) (λ z. absurd (omega arith)) (gre-here_1 (rw b1 at t1)),
        ))
        (λ f1. case_b (is_type_high (be_at payload 2 1))
        (λ t2. rw (f0, f1, t2) (
          (omega arith, omega arith),
          gre-first inside long 2 (start + 2) refl (omega arith)
              (λ z. rw b0 at f0) (λ z. rw b1 at f1) (λ z. absurd (omega arith)) (gre-here_2 (rw b2 at t2)),
        ))
        (λ f2. case_b (is_type_low (be_at payload 3 1))
        (λ t3. rw (f0, f1, f2, t3) (
          (omega arith, omega arith),
          gre-first inside long 3 (start + 3) refl (omega arith)
              (λ z. rw b0 at f0) (λ z. rw b1 at f1) (λ z. rw b2 at f2) (gre-here_3 (rw b3 at t3)),
        ))
        (λ f3. none_higher rest low (rw (f0, f1, f2, f3) at n)))))

-- ---- of a complete STT frame, likewise

pub stt_named : (frame : List ℕ) → 18 ≤ length frame → (rest : Rows) → Low rest → Higher (told (stt_rows frame and_then rest))
    → (28 ≤ (told (stt_rows frame and_then rest)).number) × FirstOf frame (breaks_stt frame) (told (stt_rows frame and_then rest)).offset
unfolding stt_rows first breaks_stt
stt_named frame long rest low n =
    let b0 : be_at frame 0 1 ≡ slice_index_or frame 0 0 = be_one frame 0 in
    let b1 : be_at frame 1 1 ≡ slice_index_or frame 1 0 = be_one frame 1 in
    case_b (not (be_at frame 0 1 == 0))
    (λ t. let here : not (slice_index frame 0 == 0) ≡ true = rw b0 at t in
    rw t (omega arith, record { inside = omega arith; here = rw here; before = λ i l. absurd (omega arith) }))
    (λ f. case_b (be_at frame 1 1 % 4 == 3 && carries_transport (drop 18 frame))
    (λ t. let here : (slice_index frame 1 % 4 == 3 && carries_transport (drop 18 frame)) ≡ true = rw b1 at t in
    rw (f, t) (
      omega arith,
      record {
        inside = omega arith;
        here = here;
        before = λ i l. neither _ _
            (off i 0 (not (slice_index frame i == 0)) (λ z. rw z (rw b0 at f)))
            (off i 1 (slice_index frame i % 4 == 3 && carries_transport (drop 18 frame)) (λ z. absurd (omega arith)));
      },
    ))
    (λ t. none_higher rest low (rw (f, t) at n)))
