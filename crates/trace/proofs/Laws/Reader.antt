-- What bytes held and a piece behind them give, whatever follows: the laws of the reader.
use Rattle.std.specs.Prelude.{◌≡◌, refl, Bool, true, false, List, [], ◌++◌, Option, Some, None, Result, Ok, Err, ℕ, zero, suc, ◌+◌, ◌-◌, ◌≤◌, ◌<◌, min, ltb}
use Rattle.std.specs.Prelude.{eqb, get_or, take, drop}
use Rattle.std.proofs.Common.{sym, ap₂, ◌∙◌, append_assoc, arith, length-drop, length-take-le}
use Rattle.std.proofs.Math.Path.{ap}
use borrow.Author.Tests.{ltb-true, ltb-false, eqb-true, eqb-false, lt-ltb, le-ltb, le-leb, lt-leb, ne_eqb}
use Rattle.std.proofs.Math.ListN.{length, length-append, get_or-append}
use Rattle.std.proofs.Math.Seq.{take-length, drop-length, take-append-add, drop-append-add}
use Rattle.std.proofs.lemmas.List.{take-append-le, drop-append-le}
use Rattle.lookup.proofs.Laws.Cases.{clash}
use Rattle.wire.specs.Bytes.{part}
use Rattle.wire.proofs.Laws.Bytes.{case_b, be_front, drop-take, part_is}
use Rattle.trace.specs.Trace.{tick, packet}
use Rattle.trace.specs.declared.reader.Broken.{Broken}
use Rattle.trace.specs.declared.reader.Complete.{Complete}
use Rattle.trace.specs.declared.reader.Complete.TheVariants as C
use Rattle.trace.specs.Reader.{bad, headed, header_at, header_end, begins_trace, packet_length, packet_most, record_most, record_at, record_end}
use Rattle.trace.specs.Reader.{Reading, behind, stopped, read_next, read_by, read_of, HeaderWaits, Waits}

-- ---- what stands at the front, by cases

-- the event that the front of s gives, and where it ends
pub record Stands (s : List ℕ) (e : Result (Option Complete) Broken) (n : ℕ) : Type 0 where
  pub event : record_at s ≡ e
  pub end : record_end s ≡ n

module _ (s : List ℕ) where
  pub stands-nothing : length s < 1 → Stands s (Ok None) 0
  unfolding record_at record_end
  stands-nothing a = record { event = rw (lt-ltb (length s) 1 a); end = rw (lt-ltb (length s) 1 a) }

  pub stands-tick : 1 ≤ length s → get_or s 0 0 ≡ 1 → Stands s (Ok (Some C.Tick)) 1
  unfolding record_at record_end
  stands-tick a b = record { event = rw (le-ltb (length s) 1 a, b); end = rw (le-ltb (length s) 1 a, b) }

  pub stands-other : 1 ≤ length s → (get_or s 0 0 ≡ 1 → ⊥) → (get_or s 0 0 ≡ 2 → ⊥) → Stands s (Err bad) 1
  unfolding record_at record_end
  stands-other a b c = record {
    event = rw (le-ltb (length s) 1 a, ne_eqb (get_or s 0 0) 1 b, ne_eqb (get_or s 0 0) 2 c);
    end = rw (le-ltb (length s) 1 a, ne_eqb (get_or s 0 0) 2 c);
  }

  pub stands-short : 1 ≤ length s → get_or s 0 0 ≡ 2 → length s < 3 → Stands s (Ok None) (length s)
  unfolding record_at record_end
  stands-short a b c = record {
    event = rw (le-ltb (length s) 1 a, b, lt-ltb (length s) 3 c);
    end = rw (le-ltb (length s) 1 a, b, lt-ltb (length s) 3 c);
  }

  module _ (a : 3 ≤ length s) (b : get_or s 0 0 ≡ 2) where
    pub stands-large : packet_most < packet_length s → Stands s (Err bad) 3
    unfolding record_at record_end
    stands-large c = record {
      event = rw (le-ltb (length s) 1 (omega arith), b, le-ltb (length s) 3 a, lt-ltb packet_most (packet_length s) c);
      end = rw (le-ltb (length s) 1 (omega arith), b, le-ltb (length s) 3 a, lt-ltb packet_most (packet_length s) c);
    }

    module _ (c : packet_length s ≤ packet_most) where
      pub stands-cut : length s < 3 + packet_length s → Stands s (Ok None) (length s)
      unfolding record_at record_end
      stands-cut d = record {
        event = rw (
          le-ltb (length s) 1 (omega arith),
          b,
          le-ltb (length s) 3 a,
          le-ltb packet_most (packet_length s) c,
          lt-ltb (length s) (3 + packet_length s) d,
        );
        end = rw (le-ltb (length s) 1 (omega arith), b, le-ltb (length s) 3 a, le-ltb packet_most (packet_length s) c, lt-ltb (length s) (3 + packet_length s) d);
      }

      pub stands-packet : 3 + packet_length s ≤ length s → Stands s (Ok (Some C.Packet)) (3 + packet_length s)
      unfolding record_at record_end
      stands-packet d = record {
        event = rw (
          le-ltb (length s) 1 (omega arith),
          b,
          le-ltb (length s) 3 a,
          le-ltb packet_most (packet_length s) c,
          le-ltb (length s) (3 + packet_length s) d,
        );
        end = rw (le-ltb (length s) 1 (omega arith), b, le-ltb (length s) 3 a, le-ltb packet_most (packet_length s) c, le-ltb (length s) (3 + packet_length s) d);
      }

pub data Front (s : List ℕ) : Type 0 where
  nothing : length s < 1 → Front s
  ticks : 1 ≤ length s → get_or s 0 0 ≡ 1 → Front s
  other : 1 ≤ length s → (get_or s 0 0 ≡ 1 → ⊥) → (get_or s 0 0 ≡ 2 → ⊥) → Front s
  short : 1 ≤ length s → get_or s 0 0 ≡ 2 → length s < 3 → Front s
  large : 3 ≤ length s → get_or s 0 0 ≡ 2 → packet_most < packet_length s → Front s
  cut : 3 ≤ length s → get_or s 0 0 ≡ 2 → packet_length s ≤ packet_most → length s < 3 + packet_length s → Front s
  all : 3 ≤ length s → get_or s 0 0 ≡ 2 → packet_length s ≤ packet_most → 3 + packet_length s ≤ length s → Front s

pub front : (s : List ℕ) → Front s
front s =
    case_b (ltb (length s) 1) (λ e. nothing (ltb-true (length s) 1 e)) (λ e.
    let a : 1 ≤ length s = ltb-false (length s) 1 e in
    case_b (eqb (get_or s 0 0) 1) (λ f. ticks a (eqb-true (get_or s 0 0) 1 f)) (λ f.
    case_b (eqb (get_or s 0 0) 2) (λ g.
    let b : get_or s 0 0 ≡ 2 = eqb-true (get_or s 0 0) 2 g in
    case_b (ltb (length s) 3) (λ k. short a b (ltb-true (length s) 3 k)) (λ k.
    let c : 3 ≤ length s = ltb-false (length s) 3 k in
    case_b (ltb packet_most (packet_length s)) (λ l. large c b (ltb-true packet_most (packet_length s) l)) (λ l.
    let d : packet_length s ≤ packet_most = ltb-false packet_most (packet_length s) l in
    case_b (ltb (length s) (3 + packet_length s)) (λ m. cut c b d (ltb-true (length s) (3 + packet_length s) m))
    (λ m. all c b d (ltb-false (length s) (3 + packet_length s) m)))))
    (λ g. other a (eqb-false (get_or s 0 0) 1 f) (eqb-false (get_or s 0 0) 2 g))))

-- and what an event says of the bytes
pub record IsTick (s : List ℕ) : Type 0 where
  pub some : 1 ≤ length s
  pub tag : get_or s 0 0 ≡ 1
  pub is : Stands s (Ok (Some C.Tick)) 1

pub record IsPacket (s : List ℕ) : Type 0 where
  pub head : 3 ≤ length s
  pub tag : get_or s 0 0 ≡ 2
  pub small : packet_length s ≤ packet_most
  pub complete : 3 + packet_length s ≤ length s
  pub is : Stands s (Ok (Some C.Packet)) (3 + packet_length s)

pub data IsBroken (s : List ℕ) : Type 0 where
  no_tag : 1 ≤ length s → (get_or s 0 0 ≡ 1 → ⊥) → (get_or s 0 0 ≡ 2 → ⊥) → IsBroken s
  too_large : 3 ≤ length s → get_or s 0 0 ≡ 2 → packet_most < packet_length s → IsBroken s

pub data Lacks (s : List ℕ) : Type 0 where
  all_of_it : length s < 1 → Lacks s
  its_length : 1 ≤ length s → get_or s 0 0 ≡ 2 → length s < 3 → Lacks s
  its_bytes : 3 ≤ length s → get_or s 0 0 ≡ 2 → packet_length s ≤ packet_most → length s < 3 + packet_length s → Lacks s

abbrev pub Told : Result (Option Complete) Broken → List ℕ → Type 0
Told (Ok None) s = Lacks s
Told (Ok (Some C.Tick)) s = IsTick s
Told (Ok (Some C.Packet)) s = IsPacket s
Told (Err e) s = IsBroken s

pub told : (s : List ℕ) (e : Result (Option Complete) Broken) → record_at s ≡ e → Told e s
told s e r = rw (← r) (by (front s))
  where
    by : Front s → Told (record_at s) s
    by (nothing a) = rw (stands-nothing s a).event (all_of_it a)
    by (ticks a b) = rw (stands-tick s a b).event (record { some = a; tag = b; is = stands-tick s a b })
    by (other a b c) = rw (stands-other s a b c).event (no_tag a b c)
    by (short a b c) = rw (stands-short s a b c).event (its_length a b c)
    by (large a b c) = rw (stands-large s a b c).event (too_large a b c)
    by (cut a b c d) = rw (stands-cut s a b c d).event (its_bytes a b c d)
    by (all a b c d) =
        rw (stands-packet s a b c d).event (record { head = a; tag = b; small = c; complete = d; is = stands-packet s a b c d })

lacks : (h : List ℕ) → Waits h → Lacks h
lacks h w = told h (Ok None) w

-- ---- what more bytes behind them change

-- the first byte and the length are the same
first_stays : (s t : List ℕ) → 1 ≤ length s → get_or (s ++ t) 0 0 ≡ get_or s 0 0
first_stays s t a = get_or-append s t 0 0 a

length_stays : (s t : List ℕ) → 3 ≤ length s → packet_length (s ++ t) ≡ packet_length s
unfolding packet_length
length_stays s t a = be_front s t 1 2 a

-- what is given stays, and ends where it did
pub stays : (s t : List ℕ) (e : Result (Option Complete) Broken) → record_at s ≡ e → (e ≡ (Ok None) → ⊥) → Stands (s ++ t) e (record_end s)
stays s t e r m = by (front s)
  where
    n : length (s ++ t) ≡ length s + length t
    n = length-append s t

    by : Front s → Stands (s ++ t) e (record_end s)
    by (nothing a) = absurd (m (sym r ∙ (stands-nothing s a).event))
    by (ticks a b) =
        let x = stands-tick s a b in
        rw (sym r ∙ x.event, x.end) (stands-tick (s ++ t) (omega (arith, n)) (first_stays s t a ∙ b))
    by (other a b c) =
        let x = stands-other s a b c in
        rw (sym r ∙ x.event, x.end) (stands-other (s ++ t) (omega (arith, n)) (λ z. b (sym (first_stays s t a) ∙ z)) (λ z. c (sym (first_stays s t a) ∙ z)))
    by (short a b c) = absurd (m (sym r ∙ (stands-short s a b c).event))
    by (large a b c) =
        let x = stands-large s a b c in
        rw (sym r ∙ x.event, x.end) (stands-large (s ++ t) (omega (arith, n)) (first_stays s t (omega arith) ∙ b) (rw length_stays c))
    by (cut a b c d) = absurd (m (sym r ∙ (stands-cut s a b c d).event))
    by (all a b c d) =
        let x = stands-packet s a b c d in
        let k : packet_length (s ++ t) ≡ packet_length s = length_stays s t a in
        rw (sym r ∙ x.event, x.end, ← k)
        (stands-packet (s ++ t) (omega (arith, n)) (first_stays s t (omega arith) ∙ b) (omega (arith, n)) (omega (arith, n)))

-- ---- what waits

pub empty-waits : Waits []
unfolding record_at
empty-waits = refl

pub empty-header-waits : HeaderWaits []
unfolding header_at
empty-header-waits = refl

-- where it ends there are bytes
pub ends_within : (s : List ℕ) → record_end s ≤ length s
ends_within s = by (front s)
  where
    by : Front s → record_end s ≤ length s
    by (nothing a) = omega (arith, (stands-nothing s a).end)
    by (ticks a b) = omega (arith, (stands-tick s a b).end)
    by (other a b c) = omega (arith, (stands-other s a b c).end)
    by (short a b c) = omega (arith, (stands-short s a b c).end)
    by (large a b c) = omega (arith, (stands-large s a b c).end)
    by (cut a b c d) = omega (arith, (stands-cut s a b c d).end)
    by (all a b c d) = omega (arith, (stands-packet s a b c d).end)

-- that which waits is not past its end, and a byte more is taken where there is one
ends_behind : (h piece : List ℕ) → Waits h → length h + min 1 (length piece) ≤ record_end (h ++ piece)
ends_behind h piece w = by (lacks h w) (front s)
  where
    s : List ℕ
    s = h ++ piece

    n : length s ≡ length h + length piece
    n = length-append h piece

    by : Lacks h → Front s → length h + min 1 (length piece) ≤ record_end s
    by (all_of_it z) (nothing a) = omega (arith, n, (stands-nothing s a).end)
    by (all_of_it z) (ticks a b) = omega (arith, n, (stands-tick s a b).end)
    by (all_of_it z) (other a b c) = omega (arith, n, (stands-other s a b c).end)
    by (all_of_it z) (short a b c) = omega (arith, n, (stands-short s a b c).end)
    by (all_of_it z) (large a b c) = omega (arith, n, (stands-large s a b c).end)
    by (all_of_it z) (cut a b c d) = omega (arith, n, (stands-cut s a b c d).end)
    by (all_of_it z) (all a b c d) = omega (arith, n, (stands-packet s a b c d).end)
    by (its_length x y z) (nothing a) = omega (arith, n, (stands-nothing s a).end)
    by (its_length x y z) (ticks a b) = omega (arith, n, first_stays h piece x)
    by (its_length x y z) (other a b c) = absurd (c (first_stays h piece x ∙ y))
    by (its_length x y z) (short a b c) = omega (arith, n, (stands-short s a b c).end)
    by (its_length x y z) (large a b c) = omega (arith, n, (stands-large s a b c).end)
    by (its_length x y z) (cut a b c d) = omega (arith, n, (stands-cut s a b c d).end)
    by (its_length x y z) (all a b c d) = omega (arith, n, (stands-packet s a b c d).end)
    by (its_bytes x y z l) (nothing a) = omega (arith, n, (stands-nothing s a).end)
    by (its_bytes x y z l) (ticks a b) = omega (arith, n, first_stays h piece (omega arith))
    by (its_bytes x y z l) (other a b c) = absurd (c (first_stays h piece (omega arith) ∙ y))
    by (its_bytes x y z l) (short a b c) = omega (arith, n, (stands-short s a b c).end)
    by (its_bytes x y z l) (large a b c) = omega (arith, n, length_stays h piece x)
    by (its_bytes x y z l) (cut a b c d) = omega (arith, n, (stands-cut s a b c d).end)
    by (its_bytes x y z l) (all a b c d) = omega (arith, n, length_stays h piece x, (stands-packet s a b c d).end)

-- more is asked for where the bytes are used up
waits-all : (s : List ℕ) → Waits s → record_end s ≡ length s
waits-all s w = by (lacks s w)
  where
    by : Lacks s → record_end s ≡ length s
    by (all_of_it a) = omega (arith, (stands-nothing s a).end)
    by (its_length a b c) = (stands-short s a b c).end
    by (its_bytes a b c d) = (stands-cut s a b c d).end

-- ---- the records, one more

next-same : (f g : List ℕ → Reading) (s : List ℕ) → ((t : List ℕ) → length t < length s → f t ≡ g t)
    → read_next (record_at s) s f ≡ read_next (record_at s) s g
next-same f g s h = by (front s)
  where
    by : Front s → read_next (record_at s) s f ≡ read_next (record_at s) s g
    by (nothing a) = rw (stands-nothing s a).event
    by (ticks a b) = rw (stands-tick s a b).event (ap (behind tick) (h (drop 1 s) (omega (arith, length-drop 1 s))))
    by (other a b c) = rw (stands-other s a b c).event
    by (short a b c) = rw (stands-short s a b c).event
    by (large a b c) = rw (stands-large s a b c).event
    by (cut a b c d) = rw (stands-cut s a b c d).event
    by (all a b c d) =
        rw (stands-packet s a b c d).event
        (ap (behind (packet (part s 3 (3 + packet_length s))))
        (h (drop (3 + packet_length s) s) (omega (arith, length-drop (3 + packet_length s) s))))

-- enough fuel is enough
enough : (n m : ℕ) (s : List ℕ) → length s ≤ n → length s ≤ m → read_by n s ≡ read_by m s
unfolding read_by
enough zero zero s a b = refl
enough zero (suc m) s a b = rw (stands-nothing s (omega arith)).event
enough (suc n) zero s a b = rw (stands-nothing s (omega arith)).event
enough (suc n) (suc m) s a b =
    next-same (read_by n) (read_by m) s (λ t (l : length t < length s). enough n m t (omega arith) (omega arith))

pub read_next_lem : (s : List ℕ) → read_of s ≡ read_next (record_at s) s read_of
unfolding read_of read_by
read_next_lem s =
    enough (length s) (suc (length s)) s (omega arith) (omega arith)
    ∙ next-same (read_by (length s)) read_of s (λ t (l : length t < length s). enough (length s) (length t) t (omega arith) (omega arith))

-- nothing is read of what waits
pub waits-read : (h : List ℕ) → Waits h → read_of h ≡ stopped h
waits-read h w = read_next_lem h ∙ rw w

-- ---- bytes held and a piece behind them, whatever follows

-- where some bytes end that end behind those held, in the piece
module _ (h piece : List ℕ) (c e : ℕ) (l : length h ≡ c) (from : c ≤ e) (to : e ≤ length (h ++ piece)) where
  cut_fits : e - c ≤ length piece
  cut_fits = omega (arith, length-append h piece)

  cut-held : h ++ take (e - c) piece ≡ take e (h ++ piece)
  cut-held =
      let k : length h + (e - c) ≡ e = omega arith in
      sym (take-append-add h piece (e - c)) ∙ ap (λ (n : ℕ). take n (h ++ piece)) k

  cut_left : (t : List ℕ) → drop e (h ++ (piece ++ t)) ≡ drop (e - c) piece ++ t
  cut_left t =
      let k : e ≡ length h + (e - c) = omega arith in
      ap (λ (n : ℕ). drop n (h ++ (piece ++ t))) k ∙ drop-append-add h (piece ++ t) (e - c) ∙ drop-append-le (e - c) piece t cut_fits

broken-length : {s : List ℕ} → IsBroken s → 1 ≤ length s
broken-length (no_tag a b c) = a
broken-length (too_large a b c) = omega arith

-- `used` of a piece's bytes are taken behind the c bytes held, which wait
module _ (h piece : List ℕ) (c : ℕ) (l : length h ≡ c) (w : Waits h) where
  from : c ≤ record_end (h ++ piece)
  from = omega (arith, ends_behind h piece w)

  pub used_fits : record_end (h ++ piece) - c ≤ length piece
  used_fits = cut_fits h piece c (record_end (h ++ piece)) l from (ends_within (h ++ piece))

  pub used_some : 0 < length piece → 0 < record_end (h ++ piece) - c
  used_some a = omega (arith, ends_behind h piece w)

  left : (t : List ℕ) → drop (record_end (h ++ piece)) (h ++ (piece ++ t)) ≡ drop (record_end (h ++ piece) - c) piece ++ t
  left = cut_left h piece c (record_end (h ++ piece)) l from (ends_within (h ++ piece))

  held : h ++ take (record_end (h ++ piece) - c) piece ≡ take (record_end (h ++ piece)) (h ++ piece)
  held = cut-held h piece c (record_end (h ++ piece)) l from (ends_within (h ++ piece))

  -- the record that stands there is read
  module _ (t : List ℕ) where
    all_of : h ++ (piece ++ t) ≡ (h ++ piece) ++ t
    all_of = sym (append_assoc h piece t)

    pub tick-read : record_at (h ++ piece) ≡ Ok (Some C.Tick) → read_of (h ++ (piece ++ t)) ≡ behind tick (read_of (drop (record_end (h ++ piece) - c) piece ++ t))
    tick-read r =
        let x : Stands (h ++ piece ++ t) (Ok (Some C.Tick)) (record_end (h ++ piece)) = stays (h ++ piece) t (Ok (Some C.Tick)) r (λ e. clash (cc)) in
        let y : record_at (h ++ (piece ++ t)) ≡ Ok (Some C.Tick) = ap record_at all_of ∙ x.event in
        let z : record_end (h ++ piece) ≡ 1 = (told (h ++ piece) (Ok (Some C.Tick)) r).is.end in
        read_next_lem (h ++ (piece ++ t)) ∙ rw y (ap (λ (u : List ℕ). behind tick (read_of u)) (ap (λ (n : ℕ). drop n (h ++ (piece ++ t))) (sym z) ∙ left t))

    pub packet-read : record_at (h ++ piece) ≡ Ok (Some C.Packet)
        → read_of (h ++ (piece ++ t))
        ≡ behind (packet (drop 3 (h ++ take (record_end (h ++ piece) - c) piece))) (read_of (drop (record_end (h ++ piece) - c) piece ++ t))
    packet-read r =
        let e : ℕ = record_end (h ++ piece) in
        let u : List ℕ = h ++ (piece ++ t) in
        let x : Stands (h ++ piece ++ t) (Ok (Some C.Packet)) e = stays (h ++ piece) t (Ok (Some C.Packet)) r (λ e. clash (cc)) in
        let y : record_at u ≡ Ok (Some C.Packet) = ap record_at all_of ∙ x.event in
        let z : 3 + packet_length u ≡ e = sym (told u (Ok (Some C.Packet)) y).is.end ∙ ap record_end all_of ∙ x.end in
        let k : packet_length u ≡ e - 3 = omega arith in
        let p : part u 3 (3 + packet_length u) ≡ drop 3 (h ++ take (e - c) piece) =
        ap (part u 3) z ∙ part_is u 3 e ∙ sym (drop-take 3 e u)
        ∙ ap (drop 3) (ap (take e) all_of ∙ take-append-le e (h ++ piece) t (ends_within (h ++ piece)) ∙ sym held) in
        read_next_lem u ∙ rw y (ap₂ (λ (a b : List ℕ). behind (packet a) (read_of b)) p (ap (λ (n : ℕ). drop n u) z ∙ left t))

    pub broken-read : record_at (h ++ piece) ≡ Err bad → read_of (h ++ (piece ++ t)) ≡ stopped (h ++ (piece ++ t))
    broken-read r =
        let x : Stands (h ++ piece ++ t) (Err bad) (record_end (h ++ piece)) = stays (h ++ piece) t (Err bad) r (λ e. clash (cc)) in
        let y : record_at (h ++ (piece ++ t)) ≡ Err bad = ap record_at all_of ∙ x.event in
        read_next_lem (h ++ (piece ++ t)) ∙ rw y

    pub broken-some : record_at (h ++ piece) ≡ Err bad → 0 < length (h ++ (piece ++ t))
    broken-some r = omega (arith, broken-length (told (h ++ piece) (Err bad) r), ap length all_of, length-append (h ++ piece) t)

  -- the bytes of a packet are held, behind tag and length
  pub packet-held : record_at (h ++ piece) ≡ Ok (Some C.Packet)
      → (3 ≤ length (h ++ take (record_end (h ++ piece) - c) piece)) × (length (h ++ take (record_end (h ++ piece) - c) piece) ≤ record_most)
  packet-held r =
      let n : length (h ++ take (record_end (h ++ piece) - c) piece) ≡ record_end (h ++ piece) =
      ap length held ∙ length-take-le (record_end (h ++ piece)) (h ++ piece) (ends_within (h ++ piece)) in
      let b : IsPacket (h ++ piece) = told (h ++ piece) (Ok (Some C.Packet)) r in
      (omega arith, omega arith)

  -- where more is asked for, all of the piece is taken, and what is held waits again
  module _ (r : record_at (h ++ piece) ≡ Ok None) where
    pub more_used : record_end (h ++ piece) - c ≡ length piece
    more_used = omega (arith, waits-all (h ++ piece) r, length-append h piece)

    pub more-held : h ++ take (record_end (h ++ piece) - c) piece ≡ h ++ piece
    more-held = ap (λ (l : List ℕ). h ++ l) (ap (λ (n : ℕ). take n piece) more_used ∙ take-length piece)

    pub more_left : drop (record_end (h ++ piece) - c) piece ≡ []
    more_left = ap (λ (n : ℕ). drop n piece) more_used ∙ drop-length piece

-- ---- the header likewise

pub record HeaderStands (s : List ℕ) (e : Result Bool Broken) (n : ℕ) : Type 0 where
  pub event : header_at s ≡ e
  pub end : header_end s ≡ n

module _ (s : List ℕ) where
  pub header-short : length s < 5 → HeaderStands s (Ok false) (length s)
  unfolding header_at header_end
  header-short a = record { event = rw (lt-ltb (length s) 5 a); end = rw (lt-ltb (length s) 5 a) }

  module _ (a : 5 ≤ length s) where
    pub header-stands : headed s ≡ true → HeaderStands s (Ok true) 5
    unfolding header_at header_end
    header-stands b = record { event = rw (le-ltb (length s) 5 a, b); end = rw (le-ltb (length s) 5 a) }

    pub header-other : headed s ≡ false → HeaderStands s (Err bad) 5
    unfolding header_at header_end
    header-other b = record { event = rw (le-ltb (length s) 5 a, b); end = rw (le-ltb (length s) 5 a) }

record Five (s : List ℕ) (b : Bool) : Type 0 where
  some : 5 ≤ length s
  is : headed s ≡ b
  end : header_end s ≡ 5

record Fewer (s : List ℕ) : Type 0 where
  few : length s < 5
  end : header_end s ≡ length s

abbrev HeaderTold : Result Bool Broken → List ℕ → Type 0
HeaderTold (Ok false) s = Fewer s
HeaderTold (Ok true) s = Five s true
HeaderTold (Err e) s = Five s false

header-told : (s : List ℕ) (e : Result Bool Broken) → header_at s ≡ e → HeaderTold e s
header-told s e r =
    rw (← r) (
    case_b (ltb (length s) 5)
    (λ x.
    let a : length s < 5 = ltb-true (length s) 5 x in
    rw (header-short s a).event (record { few = a; end = (header-short s a).end }))
    (λ x.
    let a : 5 ≤ length s = ltb-false (length s) 5 x in
    case_b (headed s)
    (λ y. rw (header-stands s a y).event (record { some = a; is = y; end = (header-stands s a y).end }))
    (λ y. rw (header-other s a y).event (record { some = a; is = y; end = (header-other s a y).end }))))

headed_stays : (s t : List ℕ) → 5 ≤ length s → headed (s ++ t) ≡ headed s
unfolding headed
headed_stays s t a = rw (be_front s t 0 3 (omega arith), be_front s t 3 2 (omega arith))

pub header-waits-short : (h : List ℕ) → HeaderWaits h → length h < 5
header-waits-short h w = (header-told h (Ok false) w).few

-- bytes too few for a header begin no trace
pub header-waits-read : (h : List ℕ) → HeaderWaits h → begins_trace h ≡ false
unfolding begins_trace
header-waits-read h w = rw (lt-leb 5 (length h) (header-waits-short h w))

pub header_ends_within : (s : List ℕ) → header_end s ≤ length s
unfolding header_end
header_ends_within s = case_b (ltb (length s) 5) (λ e. rw e (omega arith)) (λ e. rw e (ltb-false (length s) 5 e))

header_ends_behind : (h piece : List ℕ) → HeaderWaits h → length h + min 1 (length piece) ≤ header_end (h ++ piece)
unfolding header_end
header_ends_behind h piece w =
    let n : length (h ++ piece) ≡ length h + length piece = length-append h piece in
    let m : length h < 5 = header-waits-short h w in
    case_b (ltb (length (h ++ piece)) 5) (λ e. rw e (omega arith)) (λ e. rw e (omega arith))

module _ (h piece : List ℕ) (c : ℕ) (l : length h ≡ c) (w : HeaderWaits h) where
  header-from : c ≤ header_end (h ++ piece)
  header-from = omega (arith, header_ends_behind h piece w)

  pub header_used_fits : header_end (h ++ piece) - c ≤ length piece
  header_used_fits = cut_fits h piece c (header_end (h ++ piece)) l header-from (header_ends_within (h ++ piece))

  pub header_used_some : 0 < length piece → 0 < header_end (h ++ piece) - c
  header_used_some a = omega (arith, header_ends_behind h piece w)

  module _ (t : List ℕ) where
    all_is : h ++ (piece ++ t) ≡ (h ++ piece) ++ t
    all_is = sym (append_assoc h piece t)

    begins_so : (b : Bool) → Five (h ++ piece) b → begins_trace (h ++ (piece ++ t)) ≡ b
    unfolding begins_trace
    begins_so b x =
        let n : length (h ++ (piece ++ t)) ≡ length (h ++ piece) + length t = ap length all_is ∙ length-append (h ++ piece) t in
        rw (le-leb 5 (length (h ++ (piece ++ t))) (omega (arith, x.some))) (ap headed all_is ∙ headed_stays (h ++ piece) t x.some ∙ x.is)

    pub header_read : header_at (h ++ piece) ≡ Ok true → begins_trace (h ++ (piece ++ t)) ≡ true
    header_read r = begins_so true (header-told (h ++ piece) (Ok true) r)

    pub header-behind : header_at (h ++ piece) ≡ Ok true → drop 5 (h ++ (piece ++ t)) ≡ drop (header_end (h ++ piece) - c) piece ++ t
    header-behind r =
        let z : header_end (h ++ piece) ≡ 5 = (header-told (h ++ piece) (Ok true) r).end in
        ap (λ (n : ℕ). drop n (h ++ (piece ++ t))) (sym z)
        ∙ cut_left h piece c (header_end (h ++ piece)) l header-from (header_ends_within (h ++ piece)) t

    pub header-broken : header_at (h ++ piece) ≡ Err bad → begins_trace (h ++ (piece ++ t)) ≡ false
    header-broken r = begins_so false (header-told (h ++ piece) (Err bad) r)

  module _ (r : header_at (h ++ piece) ≡ Ok false) where
    pub header-more_used : header_end (h ++ piece) - c ≡ length piece
    header-more_used = omega (arith, (header-told (h ++ piece) (Ok false) r).end, length-append h piece)

    pub header-more-held : h ++ take (header_end (h ++ piece) - c) piece ≡ h ++ piece
    header-more-held = ap (λ (l : List ℕ). h ++ l) (ap (λ (n : ℕ). take n piece) header-more_used ∙ take-length piece)

    pub header-more-left : drop (header_end (h ++ piece) - c) piece ≡ []
    header-more-left = ap (λ (n : ℕ). drop n piece) header-more_used ∙ drop-length piece
