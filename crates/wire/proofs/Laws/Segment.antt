-- The reader of STT segments is sound and complete for the format, and blind to what document 01 ignores.
use Rattle.std.specs.Prelude.{◌≡◌, ℕ, ◌+◌, ◌-◌, ◌*◌, ◌/◌, ◌%◌, ◌≤◌, List, [], ◌∷◌, ◌++◌, length, drop, refl, Ok, Err}
use Rattle.std.proofs.Common.{ap, subst, ◌∙◌, arith, length-append, drop_at}
use Rattle.wire.specs.Bytes.{Bytes, be, be_at, part}
use Rattle.wire.proofs.Laws.Bytes.{as_fields, be_value, be-lt, part_cut, part_length}
use Rattle.wire.specs.Sum.{total, ones, pseudo}
use Rattle.wire.specs.Checks.{Passed}
use Rattle.wire.proofs.Laws.Checks.{pass, through, tests, passing}
use Rattle.wire.specs.Segment.{Header, header, Fits, IsSegment, data_offset_at, segment_checks, segment_at, segment_of}
use Rattle.wire.specs.declared.segment.Segment.{Segment}

pub header-length : (f : Header) → length (header f) ≡ 20 + length f.options
unfolding header be
header-length f = omega arith

-- ---- complete

record ReadsBack (f : Header) (s : List ℕ) : Type 0 where
  destination_port : be_at s 2 2 ≡ f.destination_port
  frame_length : be_at s 4 2 ≡ f.frame_length
  offset : be_at s 6 2 ≡ f.offset
  identifier : be_at s 8 4 ≡ f.identifier
  option_words : be_at s 12 1 ≡ (5 + f.option_words) * 16 + f.reserved

reads_back : (f : Header) → Fits f → (rest : List ℕ) → ReadsBack f (header f ++ rest)
unfolding header be be_at
reads_back f w rest = record {
  destination_port = be_value 2 f.destination_port w.destination_port;
  frame_length = be_value 2 f.frame_length w.frame_length;
  offset = be_value 2 f.offset w.offset;
  identifier = be_value 4 f.identifier w.identifier;
  option_words = be_value 1 ((5 + f.option_words) * 16 + f.reserved) (omega (arith, w.option_words, w.reserved));
}

pub complete : {source destination port frame_length_at offset identifier : ℕ} {bytes s : List ℕ}
    (w : IsSegment source destination port frame_length_at offset identifier bytes s)
    → let n = length (header w.f) in
    (segment_of source destination port s ≡ Ok (record { start = n; identifier = identifier; frame_length = frame_length_at; offset = offset }))
    × (drop n s ≡ bytes)
unfolding segment_of segment_checks segment_at
complete {source} {destination} {port} {frame_length_at} {offset} {identifier} {bytes} {s} w =
    let h : List ℕ = header w.f in
    let r : ReadsBack w.f s = rw w.whole (reads_back w.f w.fits bytes) in
    let n : length h ≡ 20 + length w.f.options = header-length w.f in
    let l : length s ≡ length h + length bytes = ap length w.whole ∙ length-append h bytes in
    let skip : 4 * data_offset_at s ≡ length h = omega (arith, r.option_words, w.fits.option_words, w.fits.reserved, w.fits.options) in (
      pass Err (segment_checks source destination port s) _ (omega (arith, passing, r.destination_port, w.port_is, w.checksum, w.short))
          ∙ rw (skip, r.frame_length, r.offset, r.identifier, w.frame_length_is, w.offset_is, w.identifier_is),
      rw w.whole (drop_at h bytes (length h) refl),
    )

-- ---- sound

-- All the fields of the header at a payload's front.
header_at : List ℕ → Header
header_at s = record {
  source_port = be_at s 0 2;
  destination_port = be_at s 2 2;
  frame_length = be_at s 4 2;
  offset = be_at s 6 2;
  identifier = be_at s 8 4;
  option_words = data_offset_at s - 5;
  reserved = be_at s 12 1 % 16;
  flags = be_at s 13 1;
  window = be_at s 14 2;
  checksum = be_at s 16 2;
  urgent = be_at s 18 2;
  options = part s 20 (4 * data_offset_at s);
}

as_header : (s : List ℕ) → Bytes s → 5 ≤ data_offset_at s → 4 * data_offset_at s ≤ length s → s ≡ header (header_at s) ++ drop (4 * data_offset_at s) s
unfolding header header_at be
as_header s b l h =
    let n = 4 * data_offset_at s in
    let k : 20 ≤ n = omega arith in
    let e : be_at s 12 1 ≡ (5 + (data_offset_at s - 5)) * 16 + be_at s 12 1 % 16 = omega arith in
    rw (← e, ← part_cut s 20 n) (as_fields s b (2 ∷ 2 ∷ 2 ∷ 2 ∷ 4 ∷ 1 ∷ 1 ∷ 2 ∷ 2 ∷ 2 ∷ []) 0 (omega arith))

pub record Accepted (source destination port : ℕ) (s : List ℕ) (g : Segment) : Type 0 where
  pub is : IsSegment source destination port g.frame_length g.offset g.identifier (drop g.start s) s
  pub within : g.start ≤ length s

sound_at : (source destination port : ℕ) (s : List ℕ) → Bytes s → Passed (segment_checks source destination port s)
    → Accepted source destination port s (segment_at s)
unfolding segment_checks segment_at header_at
sound_at source destination port s b p =
    let least : 5 ≤ data_offset_at s = omega (arith, tests) in
    let within : 4 * data_offset_at s ≤ length s = omega (arith, tests) in
    record {
      is = record {
        f = header_at s;
        fits = record {
          destination_port = be-lt s b 2 2;
          frame_length = be-lt s b 4 2;
          offset = be-lt s b 6 2;
          identifier = be-lt s b 8 4;
          option_words = omega (arith, be-lt s b 12 1);
          reserved = omega arith;
          options = part_length s 20 (4 * data_offset_at s) within ∙ omega arith;
        };
        whole = as_header s b least within;
        short = omega (arith, tests);
        checksum = omega (arith, tests);
        port_is = omega (arith, tests);
        frame_length_is = refl;
        offset_is = refl;
        identifier_is = refl;
      };
      within = within;
    }

pub sound : (source destination port : ℕ) (s : List ℕ) → Bytes s → (g : Segment) → segment_of source destination port s ≡ Ok g
    → Accepted source destination port s g
unfolding segment_of
sound source destination port s b g eq =
    let p = through (segment_checks source destination port s) (Ok (segment_at s)) g eq in
    subst (Accepted source destination port s) (cc p.1) (sound_at source destination port s b p.0)

-- ---- what is ignored: the answer depends on the length, the port, the data offset, the checksum being right, and the three numbers of the segment;
-- not on the source port, the reserved bits, the flags, the window, the urgent pointer or the options (but through the checksum, which is over all of them)

pub ignores : (source destination port : ℕ) (s t : List ℕ) → length s ≡ length t → be_at s 2 2 ≡ be_at t 2 2 → be_at s 12 1 / 16 ≡ be_at t 12 1 / 16
    → ones (total (pseudo source destination 6 (length s) ++ s)) ≡ ones (total (pseudo source destination 6 (length t) ++ t))
    → be_at s 4 2 ≡ be_at t 4 2 → be_at s 6 2 ≡ be_at t 6 2 → be_at s 8 4 ≡ be_at t 8 4 → segment_of source destination port s ≡ segment_of source destination port t
unfolding segment_of segment_checks segment_at
ignores source destination port s t l p w c e1 e2 e3 = rw (c, l, p, w, e1, e2, e3)

-- where the bytes of what is accepted start, for any list
pub segment-room : (source destination port : ℕ) (s : List ℕ) (g : Segment) → segment_of source destination port s ≡ Ok g → g.start ≤ length s
unfolding segment_of segment_checks segment_at
segment-room source destination port s g eq =
    let p = through (segment_checks source destination port s) (Ok (segment_at s)) g eq in
    let e : segment_at s ≡ g = cc p.1 in
    rw (← e) (omega (arith, tests))
