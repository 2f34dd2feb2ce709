-- The records that are read are those of the form, and no others.
use Rattle.std.specs.Prelude.{◌≡◌, refl, true, ◌↔◌, Option, Some, None, Result, Ok, Err, leb, eqb, get_or, drop}
use Rattle.std.proofs.Math.Path.{sym, ap}
use Rattle.std.proofs.Common.{ap₂, ◌∙◌, arith, eqb-true, leb-true, le-leb, length-drop, drop_at}
use mathlib.Core.List.{List, [], ◌∷◌, ◌++◌, append_assoc}
use Prim.Native.Nat.{ℕ, zero, suc, ◌+◌, ◌≤◌, ◌<◌}
use Rattle.std.proofs.Math.ListN.{length, length-append}
use Rattle.std.proofs.Math.Seq.{drop-append_seam}
use Rattle.lookup.proofs.Laws.Cases.{clash, and_l, and_r}
use Rattle.wire.specs.Bytes.{Bytes, be, be_at, part}
use Rattle.wire.proofs.Laws.Bytes.{be-length, be_one, be_front, be-behind, be_value, as_fields, be-field, part_cut, part_length, part_mid, bytes_drop}
use Rattle.trace.specs.Trace.{Record, tick, packet, record_bytes, Allowed, records_bytes, AllAllowed, header, NoRecord, Reads}
use Rattle.trace.specs.Reader.{headed, begins_trace, packet_length, packet_most, record_at, behind, stopped, read_next, read_of}
use Rattle.trace.proofs.Laws.Reader.{told, IsTick, IsPacket, stands-tick, stands-packet, read_next_lem}
use Rattle.trace.specs.declared.reader.Broken.{Broken}
use Rattle.trace.specs.declared.reader.Complete.{Complete}
use Rattle.trace.specs.declared.reader.Complete.TheVariants as C

-- ---- what stands at the front is a record of the form

tick_form : (s : List ℕ) → Bytes s → IsTick s → s ≡ record_bytes tick ++ drop 1 s
unfolding record_bytes
tick_form s b x =
    be-field s b 0 1 x.some ∙ ap (λ (n : ℕ). be 1 n ++ drop 1 s) (be_one s 0 ∙ x.tag)

packet_form : (s : List ℕ) → Bytes s → IsPacket s → s ≡ record_bytes (packet (part s 3 (3 + packet_length s))) ++ drop (3 + packet_length s) s
unfolding record_bytes packet_length
packet_form s b x =
    let n : ℕ = packet_length s in
    let k : List ℕ = part s 3 (3 + n) in
    let l : length k ≡ n = part_length s 3 (3 + n) x.complete ∙ omega arith in
    let cut : drop 3 s ≡ k ++ drop (3 + n) s = part_cut s 3 (3 + n) (omega arith) in
    let tag : be_at s 0 1 ≡ 2 = be_one s 0 ∙ x.tag in
    let size : be_at s 1 2 ≡ length k = sym l in
    as_fields s b (1 ∷ 2 ∷ []) 0 x.head
    ∙ ap₂ (λ (t z : ℕ). be 1 t ++ (be 2 z ++ drop 3 s)) tag size
    ∙ ap (λ (u : List ℕ). be 1 2 ++ (be 2 (length k) ++ u)) cut
    ∙ simp append_assoc

-- ---- and a record of the form is read

tick-stands : (t : List ℕ) → IsTick (record_bytes tick ++ t)
unfolding record_bytes
tick-stands t =
    let s : List ℕ = be 1 1 ++ t in
    let n : length (be 1 1) ≡ 1 = be-length 1 1 in
    let a : 1 ≤ length s = omega (arith, length-append (be 1 1) t) in
    let b : get_or s 0 0 ≡ 1 = sym (be_one s 0) ∙ be_front (be 1 1) t 0 1 (omega arith) ∙ be_value 1 1 (omega arith) in
    record { some = a; tag = b; is = stands-tick s a b }

packet-length : (k : List ℕ) → length (record_bytes (packet k)) ≡ 3 + length k
unfolding record_bytes
packet-length k =
    length-append (be 1 2) (be 2 (length k) ++ k) ∙ omega (arith, be-length 1 2, be-length 2 (length k), length-append (be 2 (length k)) k)

tick-length : length (record_bytes tick) ≡ 1
unfolding record_bytes
tick-length = be-length 1 1

packet_allowed : (s : List ℕ) → IsPacket s → length (part s 3 (3 + packet_length s)) ≤ 1600
packet_allowed s x = omega (arith, part_length s 3 (3 + packet_length s) x.complete, x.small)

module _ (k t : List ℕ) (w : length k ≤ 1600) where
  packet_tag : get_or (record_bytes (packet k) ++ t) 0 0 ≡ 2
  unfolding record_bytes
  packet_tag =
      sym (be_one (record_bytes (packet k) ++ t) 0) ∙ be_front (record_bytes (packet k)) t 0 1 (omega (arith, packet-length k))
      ∙ be_front (be 1 2) (be 2 (length k) ++ k) 0 1 (omega (arith, be-length 1 2)) ∙ be_value 1 2 (omega arith)

  packet-size : packet_length (record_bytes (packet k) ++ t) ≡ length k
  unfolding packet_length record_bytes
  packet-size =
      be_front (record_bytes (packet k)) t 1 2 (omega (arith, packet-length k))
      ∙ be-behind (be 1 2) (be 2 (length k) ++ k) 1 0 2 (be-length 1 2)
      ∙ be_front (be 2 (length k)) k 0 2 (omega (arith, be-length 2 (length k))) ∙ be_value 2 (length k) (omega arith)

  packet-stands : IsPacket (record_bytes (packet k) ++ t)
  packet-stands =
      let s : List ℕ = record_bytes (packet k) ++ t in
      let n : length s ≡ 3 + length k + length t = length-append (record_bytes (packet k)) t ∙ omega (arith, packet-length k) in
      let z : packet_length s ≡ length k = packet-size in
      let a : 3 ≤ length s = omega arith in
      let c : packet_length s ≤ packet_most = omega arith in
      let d : 3 + packet_length s ≤ length s = omega arith in
      record { head = a; tag = packet_tag; small = c; complete = d; is = stands-packet s a packet_tag c d }

  packet-bytes : part (record_bytes (packet k) ++ t) 3 (3 + length k) ≡ k
  unfolding record_bytes
  packet-bytes =
      let a : List ℕ = be 1 2 ++ be 2 (length k) in
      let n : length a ≡ 3 = length-append (be 1 2) (be 2 (length k)) ∙ omega (arith, be-length 1 2, be-length 2 (length k)) in
      let e : record_bytes (packet k) ++ t ≡ a ++ (k ++ t) = simp append_assoc in
      ap (λ (l : List ℕ). part l 3 (3 + length k)) e ∙ part_mid a k t 3 (3 + length k) n (omega arith)

-- a record at the front is read, and then what stands behind it
pub read_record : (r : Record) → Allowed r → (t : List ℕ) → read_of (record_bytes r ++ t) ≡ behind r (read_of t)
read_record tick w t =
    let n : length (record_bytes tick) ≡ 1 = tick-length in
    read_next_lem (record_bytes tick ++ t)
    ∙ rw (tick-stands t).is.event (ap (λ (l : List ℕ). behind tick (read_of l)) (drop_at (record_bytes tick) t 1 n))
read_record (packet k) w t =
    let s : List ℕ = record_bytes (packet k) ++ t in
    read_next_lem s
    ∙ rw ((packet-stands k t w).is.event, packet-size k t w)
    (ap₂ (λ (p l : List ℕ). behind (packet p) (read_of l)) (packet-bytes k t w) (drop_at (record_bytes (packet k)) t (3 + length k) (packet-length k)))

-- ---- the records and the rest

-- where no record stands, nothing is read
none_read : (s : List ℕ) → Bytes s → NoRecord s → read_of s ≡ stopped s
none_read s b none = read_next_lem s ∙ by (record_at s) refl
  where
    by : (e : Result (Option Complete) Broken) → record_at s ≡ e → read_next e s read_of ≡ stopped s
    by (Ok None) r = refl
    by (Ok (Some C.Tick)) r = absurd (none tick (drop 1 s) tt (tick_form s b (told s (Ok (Some C.Tick)) r)))
    by (Ok (Some C.Packet)) r =
        let x : IsPacket s = told s (Ok (Some C.Packet)) r in
        absurd (none (packet (part s 3 (3 + packet_length s))) (drop (3 + packet_length s) s) (packet_allowed s x) (packet_form s b x))
    by (Err e) r = refl

-- and where none is given, none stands
none-stands : (s : List ℕ) (e : Result (Option Complete) Broken) → record_at s ≡ e → (e ≡ (Ok (Some C.Tick)) → ⊥) → (e ≡ (Ok (Some C.Packet)) → ⊥) → NoRecord s
none-stands s e r f g tick t w q = f (sym r ∙ ap record_at q ∙ (tick-stands t).is.event)
none-stands s e r f g (packet k) t w q = g (sym r ∙ ap record_at q ∙ (packet-stands k t w).is.event)

-- a record before them
one_more : (s t : List ℕ) (r : Record) (rs : List Record) (rest : List ℕ) → Allowed r → s ≡ record_bytes r ++ t → Reads t rs rest → Reads s (r ∷ rs) rest
unfolding records_bytes
one_more s t r rs rest w e x = record {
  is = e ∙ ap (λ (l : List ℕ). record_bytes r ++ l) x.is ∙ sym (append_assoc (record_bytes r) (records_bytes rs) rest);
  allowed = (w, x.allowed);
  stops = x.stops;
}

nothing_read : (s : List ℕ) → NoRecord s → Reads s [] s
unfolding records_bytes
nothing_read s none = record { is = refl; allowed = tt; stops = none }

module _ (s : List ℕ) (b : Bytes s) (shorter : (t : List ℕ) → length t < length s → Bytes t → Reads t (read_of t).records (read_of t).rest) where
  reads-step : (e : Result (Option Complete) Broken) → record_at s ≡ e → Reads s (read_next e s read_of).records (read_next e s read_of).rest
  reads-step (Ok None) r = nothing_read s (none-stands s (Ok None) r (λ q. clash (cc)) (λ q. clash (cc)))
  reads-step (Ok (Some C.Tick)) r =
      let x : IsTick s = told s (Ok (Some C.Tick)) r in
      let t : List ℕ = drop 1 s in
      one_more s t tick (read_of t).records (read_of t).rest tt (tick_form s b x)
      (shorter t (omega (arith, length-drop 1 s, x.some)) (bytes_drop s b 1))
  reads-step (Ok (Some C.Packet)) r =
      let x : IsPacket s = told s (Ok (Some C.Packet)) r in
      let n : ℕ = 3 + packet_length s in
      let t : List ℕ = drop n s in
      one_more s t (packet (part s 3 n)) (read_of t).records (read_of t).rest (packet_allowed s x) (packet_form s b x)
      (shorter t (omega (arith, length-drop n s, x.head)) (bytes_drop s b n))
  reads-step (Err e) r = nothing_read s (none-stands s (Err e) r (λ q. clash (cc)) (λ q. clash (cc)))

reads_by : (n : ℕ) (s : List ℕ) → length s < n → Bytes s → Reads s (read_of s).records (read_of s).rest
reads_by zero s l b = absurd (omega arith)
reads_by (suc n) s l b =
    rw (read_next_lem s)
    (reads-step s b (λ t (k : length t < length s) (c : Bytes t). reads_by n t (omega arith) c) (record_at s) refl)

pub reads : (s : List ℕ) → Bytes s → Reads s (read_of s).records (read_of s).rest
reads s b = reads_by (suc (length s)) s (omega arith) b

-- there is no other reading
only_by : (rs : List Record) (rest : List ℕ) → AllAllowed rs → Bytes rest → NoRecord rest
    → ((read_of (records_bytes rs ++ rest)).records ≡ rs) × ((read_of (records_bytes rs ++ rest)).rest ≡ rest)
unfolding records_bytes
only_by [] rest a b none =
    let e : read_of rest ≡ stopped rest = none_read rest b none in
    (rw e, rw e)
only_by (r ∷ rs) rest a b none =
    let t : List ℕ = records_bytes rs ++ rest in
    let e : read_of ((record_bytes r ++ records_bytes rs) ++ rest) ≡ behind r (read_of t) =
    ap read_of (append_assoc (record_bytes r) (records_bytes rs) rest) ∙ read_record r a.0 t in
    let x = only_by rs rest a.1 b none in
    (rw e (ap (λ (l : List Record). r ∷ l) x.0), rw e x.1)

bytes-behind : (a b : List ℕ) → Bytes (a ++ b) → Bytes b
bytes-behind a b h = rw drop-append_seam at (bytes_drop (a ++ b) h (length a))

pub only : (s : List ℕ) (rs : List Record) (rest : List ℕ) → Bytes s → Reads s rs rest → ((read_of s).records ≡ rs) × ((read_of s).rest ≡ rest)
only s rs rest b x = rw x.is (only_by rs rest x.allowed (bytes-behind (records_bytes rs) rest (rw x.is at b)) x.stops)

-- ---- the header

header-length : length header ≡ 5
unfolding header
header-length = length-append (be 3 0x545250) (be 2 1) ∙ omega (arith, be-length 3 0x545250, be-length 2 1)

header-begins : (t : List ℕ) → begins_trace (header ++ t) ≡ true
unfolding begins_trace headed header
header-begins t =
    let s : List ℕ = header ++ t in
    let n : length s ≡ 5 + length t = length-append header t ∙ omega (arith, header-length) in
    let a : be_at s 0 3 ≡ 0x545250 =
    be_front header t 0 3 (omega (arith, header-length)) ∙ be_front (be 3 0x545250) (be 2 1) 0 3 (omega (arith, be-length 3 0x545250))
    ∙ be_value 3 0x545250 (omega arith) in
    let b : be_at s 3 2 ≡ 1 =
    be_front header t 3 2 (omega (arith, header-length)) ∙ be-behind (be 3 0x545250) (be 2 1) 3 0 2 (be-length 3 0x545250) ∙ be_value 2 1 (omega arith) in
    rw (le-leb 5 (length s) (omega arith), a, b)

begins-header : (s : List ℕ) → Bytes s → begins_trace s ≡ true → s ≡ header ++ drop 5 s
unfolding begins_trace headed header
begins-header s b e =
    let l : 5 ≤ length s = leb-true 5 (length s) (and_l (leb 5 (length s)) (headed s) e) in
    let h : headed s ≡ true = and_r (leb 5 (length s)) (headed s) e in
    let x : be_at s 0 3 ≡ 0x545250 = eqb-true (be_at s 0 3) 0x545250 (and_l (eqb (be_at s 0 3) 0x545250) (eqb (be_at s 3 2) 1) h) in
    let y : be_at s 3 2 ≡ 1 = eqb-true (be_at s 3 2) 1 (and_r (eqb (be_at s 0 3) 0x545250) (eqb (be_at s 3 2) 1) h) in
    as_fields s b (3 ∷ 2 ∷ []) 0 l ∙ ap₂ (λ (x y : ℕ). be 3 x ++ (be 2 y ++ drop 5 s)) x y ∙ sym (append_assoc (be 3 0x545250) (be 2 1) (drop 5 s))

pub begins : (s : List ℕ) → Bytes s → (begins_trace s ≡ true) ↔ ((t : List ℕ) × (s ≡ header ++ t))
begins s b = (λ e. (drop 5 s, begins-header s b e), λ x. ap begins_trace x.1 ∙ header-begins x.0)

pub header_body : (s t : List ℕ) → s ≡ header ++ t → drop 5 s ≡ t
header_body s t e = ap (drop 5) e ∙ drop_at header t 5 header-length
