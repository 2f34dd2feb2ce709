-- The reader of IPv4 is sound and complete for the format.
use Rattle.std.specs.Prelude.{◌≡◌, ℕ, ◌+◌, ◌-◌, ◌*◌, ◌/◌, ◌%◌, ◌^◌, ◌≤◌, false, ltb, List, [], ◌∷◌, ◌++◌, length, take, drop, nat_lt, refl, Ok, Err}
use Rattle.std.proofs.Common.{sym, ap, subst, ◌∙◌, arith, length-append, take_at, take-take}
use borrow.Author.Tests.{le-ltb, ltb-false}
use Rattle.wire.specs.Bytes.{Bytes, be, be_at, part}
use Rattle.wire.proofs.Laws.Bytes.{as_fields, be_value, be-lt, be-take, part_cut, part_mid, part_length, case_b}
use Rattle.wire.specs.Sum.{total, ones}
use Rattle.wire.specs.Checks.{first, Passed}
use Rattle.wire.proofs.Laws.Checks.{pass, through, tests, passing}
use Rattle.wire.specs.Ipv4.{Header, header, Fits, version_at, ihl_at, size_at, offset_at, ipv4_at, IsIpv4, ipv4_checks, ipv4_of, ReadsIpv4}
use Rattle.wire.specs.declared.ipv4.Ipv4.{Ipv4}

pub header-length : (f : Header) → length (header f) ≡ 20 + length f.options
unfolding header be
header-length f = omega arith

-- ---- written, then read

-- the fields that are read of a header's bytes, whatever stands behind them, are those that were written
pub record ReadsBack (f : Header) (s : List ℕ) : Type 0 where
  pub first : be_at s 0 1 ≡ 4 * 16 + (5 + f.option_words)
  pub size : be_at s 2 2 ≡ f.size
  pub fragment : be_at s 6 2 ≡ f.flags * 2 ^ 13 + f.offset
  pub protocol : be_at s 9 1 ≡ f.protocol
  pub source : be_at s 12 4 ≡ f.source
  pub destination : be_at s 16 4 ≡ f.destination

pub reads_back : (f : Header) → Fits f → (rest : List ℕ) → ReadsBack f (header f ++ rest)
unfolding header be be_at
reads_back f w rest = record {
  first = be_value 1 (4 * 16 + (5 + f.option_words)) (omega (arith, w.option_words));
  size = be_value 2 f.size w.size;
  fragment = be_value 2 (f.flags * 2 ^ 13 + f.offset) (omega (arith, w.flags, w.offset));
  protocol = be_value 1 f.protocol w.protocol;
  source = be_value 4 f.source w.source;
  destination = be_value 4 f.destination w.destination;
}

-- ---- read, then written

-- all the fields of the header at a packet's front
unfoldable pub header_at : List ℕ → Header
header_at s = record {
  option_words = ihl_at s - 5;
  tos = be_at s 1 1;
  size = size_at s;
  id = be_at s 4 2;
  flags = be_at s 6 2 / 2 ^ 13;
  offset = offset_at s;
  ttl = be_at s 8 1;
  protocol = be_at s 9 1;
  checksum = be_at s 10 2;
  source = be_at s 12 4;
  destination = be_at s 16 4;
  options = part s 20 (4 * ihl_at s);
}

-- a list that says version 4 and a header length that fits it begins with that header
pub as_header : (s : List ℕ) → Bytes s → version_at s ≡ 4 → 5 ≤ ihl_at s → 4 * ihl_at s ≤ length s
    → s ≡ header (header_at s) ++ drop (4 * ihl_at s) s
unfolding header header_at be
as_header s b v l h =
    let n = 4 * ihl_at s in
    let e0 : be_at s 0 1 ≡ 4 * 16 + (5 + (ihl_at s - 5)) = omega arith in
    let k : 20 ≤ n = omega arith in
    let e6 : be_at s 6 2 ≡ be_at s 6 2 / 2 ^ 13 * 2 ^ 13 + be_at s 6 2 % 2 ^ 13 = omega arith in
    rw (← e0, ← e6, ← part_cut s 20 n) (as_fields s b (1 ∷ 1 ∷ 2 ∷ 2 ∷ 2 ∷ 1 ∷ 1 ∷ 2 ∷ 4 ∷ 4 ∷ []) 0 (omega arith))

pub header-fits : (s : List ℕ) → Bytes s → 5 ≤ ihl_at s → 4 * ihl_at s ≤ length s → Fits (header_at s)
unfolding header_at
header-fits s b l h = record {
  option_words = omega arith;
  tos = omega (arith, be-lt s b 1 1);
  size = be-lt s b 2 2;
  id = be-lt s b 4 2;
  flags = omega (arith, be-lt s b 6 2);
  offset = omega arith;
  ttl = omega (arith, be-lt s b 8 1);
  protocol = omega (arith, be-lt s b 9 1);
  checksum = be-lt s b 10 2;
  source = be-lt s b 12 4;
  destination = be-lt s b 16 4;
  options = part_length s 20 (4 * ihl_at s) h ∙ omega arith;
}

-- ---- complete: what is a packet is read as one

-- a packet ends where its payload does, or behind it
pub ends_within : {source destination protocol : ℕ} {payload s : List ℕ} (w : IsIpv4 source destination protocol payload s)
    → length (header w.f) + length payload ≤ length s
ends_within {source} {destination} {protocol} {payload} {s} w = rw w.whole (simp length-append (omega arith))

pub complete : {source destination protocol : ℕ} {payload s : List ℕ} (w : IsIpv4 source destination protocol payload s)
    → let n = length (header w.f) in
    (ipv4_of s ≡ Ok (record { start = n; end = n + length payload; source = source; destination = destination; protocol = protocol }))
    × (part s n (n + length payload) ≡ payload)
unfolding ipv4_of ipv4_checks ipv4_at
complete {source} {destination} {protocol} {payload} {s} w =
    let h : List ℕ = header w.f in
    let rest : List ℕ = payload ++ w.trailing in
    let r : ReadsBack w.f s = rw w.whole (reads_back w.f w.fits rest) in
    let n : length h ≡ 20 + length w.f.options = header-length w.f in
    let l : length s ≡ length h + (length payload + length w.trailing) = ap length w.whole ∙ simp length-append in
    let start : 4 * ihl_at s ≡ length h = omega (arith, r.first, w.fits.option_words, w.fits.options) in
    let end : be_at s 2 2 ≡ length h + length payload = r.size ∙ w.size in
    let t : take (length h) s ≡ h = ap (take (length h)) w.whole ∙ take_at h rest (length h) refl in
    let c : ones (total (take (4 * ihl_at s) s)) ≡ 65535 = rw (start, t) w.checksum in (
      pass Err (ipv4_checks s) _ (omega (arith, passing, r.first, r.fragment, w.fits.option_words, w.fits.offset, w.last, w.offset))
          ∙ rw (start, end, r.source, r.destination, r.protocol, w.source_is, w.destination_is, w.protocol_is),
      rw w.whole (part_mid h payload w.trailing (length h) (length h + length payload) refl refl),
    )

-- ---- sound: what is read as a packet is one, and its payload lies in it

pub record Accepted (s : List ℕ) (h : Ipv4) : Type 0 where
  pub is : IsIpv4 h.source h.destination h.protocol (part s h.start h.end) s
  pub ordered : h.start ≤ h.end
  pub within : h.end ≤ length s

sound_at : (s : List ℕ) → Bytes s → Passed (ipv4_checks s) → Accepted s (ipv4_at s)
unfolding ipv4_checks ipv4_at header_at
sound_at s b p =
    let n = 4 * ihl_at s in
    let size = be_at s 2 2 in
    let least : 5 ≤ ihl_at s = omega (arith, tests) in
    let ordered : n ≤ size = omega (arith, tests) in
    let within : size ≤ length s = omega (arith, tests) in
    let c : ones (total (take n s)) ≡ 65535 = omega (arith, tests) in
    let h : List ℕ = header (header_at s) in
    let fits : Fits (header_at s) = header-fits s b least (omega arith) in
    let lh : length h ≡ n = header-length (header_at s) ∙ omega (arith, fits.options) in
    let whole : s ≡ h ++ drop n s = as_header s b (omega (arith, tests)) least (omega arith) in
    let front : take n s ≡ h = ap (take n) whole ∙ take_at h (drop n s) n lh in
    record {
      is = record {
        f = header_at s;
        fits = fits;
        trailing = drop size s;
        whole = whole ∙ ap (λ (l : List ℕ). h ++ l) (part_cut s n size ordered);
        size = omega (arith, part_length s n size within);
        checksum = rw (← front) c;
        last = omega (arith, tests);
        offset = omega (arith, tests);
        source_is = refl;
        destination_is = refl;
        protocol_is = refl;
      };
      ordered = ordered;
      within = within;
    }

pub sound : (s : List ℕ) → Bytes s → (h : Ipv4) → ipv4_of s ≡ Ok h → Accepted s h
unfolding ipv4_of
sound s b h eq =
    let p = through (ipv4_checks s) (Ok (ipv4_at s)) h eq in
    subst (Accepted s) (cc p.1) (sound_at s b p.0)

-- ---- what is ignored: bytes past the total length. Two lists that agree up to a length n which covers the total length give the same answer

module _ (s t : List ℕ) (n : ℕ) (same : take n s ≡ take n t) where
  same-field : (at k : ℕ) → at + k ≤ n → be_at s at k ≡ be_at t at k
  same-field at k h = sym (be-take s n at k h) ∙ ap (λ (l : List ℕ). be_at l at k) same ∙ be-take t n at k h

  same_front : (k : ℕ) → k ≤ n → take k s ≡ take k t
  same_front k h = sym (take-take k n s h) ∙ ap (take k) same ∙ take-take k n t h

  pub ignores_trailing : 20 ≤ n → n ≤ length s → n ≤ length t → be_at s 2 2 ≤ n → ipv4_of s ≡ ipv4_of t
  unfolding ipv4_of ipv4_checks ipv4_at first
  ignores_trailing a ls lt total-within =
      let e0 : be_at s 0 1 ≡ be_at t 0 1 = same-field 0 1 (omega arith) in
      let e2 : be_at s 2 2 ≡ be_at t 2 2 = same-field 2 2 (omega arith) in
      let e6 : be_at s 6 2 ≡ be_at t 6 2 = same-field 6 2 (omega arith) in
      let e9 : be_at s 9 1 ≡ be_at t 9 1 = same-field 9 1 (omega arith) in
      let e12 : be_at s 12 4 ≡ be_at t 12 4 = same-field 12 4 (omega arith) in
      let e16 : be_at s 16 4 ≡ be_at t 16 4 = same-field 16 4 (omega arith) in
      let s20 : ltb (length s) 20 ≡ false = le-ltb (length s) 20 (omega arith) in
      let t20 : ltb (length t) 20 ≡ false = le-ltb (length t) 20 (omega arith) in
      let sn : ltb (length s) (be_at t 2 2) ≡ false = le-ltb (length s) (be_at t 2 2) (omega arith) in
      let tn : ltb (length t) (be_at t 2 2) ≡ false = le-ltb (length t) (be_at t 2 2) (omega arith) in
      case_b (nat_lt (be_at t 2 2) (4 * (be_at t 0 1 % 16)))
      (λ short. rw (e0, e2, s20, t20, short))
      (λ fits.
      let front : take (4 * (be_at t 0 1 % 16)) s ≡ take (4 * (be_at t 0 1 % 16)) t =
      same_front (4 * (be_at t 0 1 % 16)) (omega (arith, ltb-false (be_at t 2 2) (4 * (be_at t 0 1 % 16)) fits)) in
      rw (e0, e2, e6, e9, e12, e16, s20, t20, sn, tn, front))

-- ---- where the payload of what is accepted lies, for any list
pub ipv4_bounds : (s : List ℕ) (h : Ipv4) → ipv4_of s ≡ Ok h → (h.start ≤ h.end) × (h.end ≤ length s)
unfolding ipv4_of ipv4_checks ipv4_at
ipv4_bounds s h eq =
    let p = through (ipv4_checks s) (Ok (ipv4_at s)) h eq in
    let e : ipv4_at s ≡ h = cc p.1 in
    rw (← e) (omega (arith, tests), omega (arith, tests))

-- fifteen words at most
pub ipv4_start : (s : List ℕ) (h : Ipv4) → ipv4_of s ≡ Ok h → h.start ≤ 60
unfolding ipv4_of ipv4_at
ipv4_start s h eq =
    let p = through (ipv4_checks s) (Ok (ipv4_at s)) h eq in
    let e : ipv4_at s ≡ h = cc p.1 in
    rw (← e) (omega arith)

pub reads_ipv4 : ReadsIpv4
reads_ipv4 = record {
  complete = λ source destination protocol payload s w. complete w;
  sound = λ s b h e. let a = sound s b h e in (a.is, a.ordered, a.within);
  ignores_trailing = λ n s t e. ignores_trailing s t n e;
}
