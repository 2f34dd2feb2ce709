-- `traces`: reading a trace does what THE STATEMENT (Traces.antt) says.
use Rattle.std.specs.Prelude.{◌≡◌, refl, Bool, true, false, List, [], ◌∷◌, ◌++◌, Option, Some, None, Result, Ok, Err, ℕ, zero, suc, ◌+◌, ◌-◌, ◌<◌, length, drop}
use Rattle.std.proofs.Common.{sym, ap, ap₂, ◌∙◌, append_assoc, append-nil, arith, length-drop, drop-drop}
use Rattle.std.proofs.Math.Seq.{drop-append_seam}
use Rattle.lookup.proofs.Laws.Cases.{clash}
use Rattle.wire.specs.Bytes.{Bytes}
use Rattle.wire.proofs.Laws.Bytes.{bytes_drop}
use Rattle.trace.specs.Trace.{Record, tick, packet, records_bytes, Reads, Outcome, no_trace, read, ReadsAs}
use Rattle.trace.specs.Reader.{header_at, header_end, begins_trace, record_at, record_end, Reading, behind, read_of, HeaderWaits, Waits}
use Rattle.trace.specs.Traces.{kept, left, Gives, joined, Records, done, next, more, given, broken}
use Rattle.trace.specs.Traces.{Run, too_short, next-piece, more-header, header-given, no_header, Traces}
use Rattle.trace.proofs.Laws.Reader.{empty-waits, waits-read, tick-read, packet-read, broken-read, more-held, more_left, used_some}
use Rattle.trace.proofs.Laws.Reader.{empty-header-waits, header-waits-read, header_read, header-behind, header-broken, header-more-held, header-more-left}
use Rattle.trace.proofs.Laws.Reader.{header_used_some}
use Rattle.trace.proofs.Laws.Reads.{reads, only, begins, header_body}
use Rattle.trace.proofs.Laws.WorkedTrace.{worked_trace}
use Rattle.trace.specs.declared.reader.Broken.{Broken}
use Rattle.trace.specs.declared.reader.Complete.{Complete}
use Rattle.trace.specs.declared.reader.Complete.TheVariants as C

-- ---- what is given call by call is what all the pieces read as

reading : List Record → List ℕ → Reading
reading rs rest = record { records = rs; rest = rest }

given-read : (h p t : List ℕ) → Waits h → (r : Record) → Gives h p r → read_of (h ++ (p ++ t)) ≡ behind r (read_of (left record_end h p ++ t))
given-read h p t w tick g = tick-read h p (length h) refl w t g
given-read h p t w (packet k) g =
    packet-read h p (length h) refl w t g.0 ∙ ap (λ (l : List ℕ). behind (packet l) (read_of (left record_end h p ++ t))) g.1

records_read : {h : List ℕ} {ps : List (List ℕ)} {rs : List Record} {rest : List ℕ} → Waits h → Records h ps rs rest
    → read_of (h ++ joined ps) ≡ reading rs rest
unfolding reading
records_read {h} w done = ap read_of (append-nil h) ∙ waits-read h w
records_read w (next x) = records_read w x
records_read w (more {h} {p} {ps} r x) =
    let k : kept record_end h p ≡ h ++ p = more-held h p (length h) refl w r in
    let l : left record_end h p ≡ [] = more_left h p (length h) refl w r in
    let e : kept record_end h p ++ (left record_end h p ++ joined ps) ≡ h ++ (p ++ joined ps) = rw (k, l) (append_assoc h p (joined ps)) in
    ap read_of (sym e) ∙ records_read (ap record_at k ∙ r) x
records_read w (given {h} {p} {ps} {r} g x) = given-read h p (joined ps) w r g ∙ ap (behind r) (records_read empty-waits x)
records_read w (broken {h} {p} {ps} r) = broken-read h p (length h) refl w (joined ps) r

no_beginning : (s : List ℕ) → Bytes s → begins_trace s ≡ false → ReadsAs s no_trace
no_beginning s b f t e = let z : true ≡ false = sym ((begins s b).1 (t, e)) ∙ f in clash (cc)

beginning : (s t : List ℕ) (rs : List Record) (rest : List ℕ) → Bytes s → begins_trace s ≡ true → drop 5 s ≡ t → read_of t ≡ reading rs rest
    → ReadsAs s (read rs rest)
unfolding reading
beginning s t rs rest b e d r =
    let x = (begins s b).0 e in
    let u : List ℕ = x.0 in
    let q : read_of u ≡ reading rs rest = ap read_of (sym (header_body s u x.1) ∙ d) ∙ r in
    let y : Reads u (read_of u).records (read_of u).rest = reads u (rw (header_body s u x.1) at (bytes_drop s b 5)) in
    (u, x.1, rw q at y)

run-reads : {h : List ℕ} {ps : List (List ℕ)} {o : Outcome} → HeaderWaits h → Run h ps o → Bytes (h ++ joined ps) → ReadsAs (h ++ joined ps) o
run-reads {h} w too_short b = no_beginning (h ++ []) b (ap begins_trace (append-nil h) ∙ header-waits-read h w)
run-reads w (next-piece x) b = run-reads w x b
run-reads w (more-header {h} {p} {ps} r x) b =
    let k : kept header_end h p ≡ h ++ p = header-more-held h p (length h) refl w r in
    let l : left header_end h p ≡ [] = header-more-left h p (length h) refl w r in
    let e : kept header_end h p ++ (left header_end h p ++ joined ps) ≡ h ++ (p ++ joined ps) = rw (k, l) (append_assoc h p (joined ps)) in
    rw e at (run-reads (ap header_at k ∙ r) x (rw e b))
run-reads w (header-given {h} {p} {ps} {rs} {rest} r x) b =
    beginning (h ++ (p ++ joined ps)) (left header_end h p ++ joined ps) rs rest b (header_read h p (length h) refl w (joined ps) r)
    (header-behind h p (length h) refl w (joined ps) r) (records_read empty-waits x)
run-reads w (no_header {h} {p} {ps} r) b = no_beginning (h ++ (p ++ joined ps)) b (header-broken h p (length h) refl w (joined ps) r)

-- ---- the calls come to an end

some_or_none : {C : Type 0} (p : List ℕ) → (p ≡ [] → C) → (0 < length p → C) → C
some_or_none [] f g = f refl
some_or_none (b ∷ p) f g = g (omega arith)

abbrev Ended : List ℕ → List (List ℕ) → Type 0
Ended h ps = (rs : List Record) × (rest : List ℕ) × Records h ps rs rest

module _ (h p : List ℕ) (ps : List (List ℕ)) (w : Waits h) (on : (k : List ℕ) → Waits k → Ended k (left record_end h p ∷ ps)) where
  step : (e : Result (Option Complete) Broken) → record_at (h ++ p) ≡ e → Ended h (p ∷ ps)
  step (Ok None) r =
      let x = on (kept record_end h p) (ap record_at (more-held h p (length h) refl w r) ∙ r) in
      (x.0, x.1, more r x.2)
  step (Ok (Some C.Tick)) r = let x = on [] empty-waits in (tick ∷ x.0, x.1, given {r = tick} r x.2)
  step (Ok (Some C.Packet)) r =
      let x = on [] empty-waits in
      (packet (drop 3 (kept record_end h p)) ∷ x.0, x.1, given {r = packet (drop 3 (kept record_end h p))} (r, refl) x.2)
  step (Err e) r = ([], h ++ (p ++ joined ps), broken r)

piece_ends : (n : ℕ) (h p : List ℕ) (ps : List (List ℕ)) → Waits h → length p < n → ((k : List ℕ) → Waits k → Ended k ps) → Ended h (p ∷ ps)
piece_ends zero h p ps w l on = absurd (omega arith)
piece_ends (suc n) h p ps w l on =
    some_or_none p (λ e. let x = on h w in rw e (x.0, x.1, next x.2)) (λ m.
    let u : ℕ = record_end (h ++ p) - length h in
    let s : 0 < u = used_some h p (length h) refl w m in
    step h p ps w (λ k (v : Waits k). piece_ends n k (drop u p) ps v (omega (arith, length-drop u p)) on) (record_at (h ++ p)) refl)

records_end : (ps : List (List ℕ)) (h : List ℕ) → Waits h → Ended h ps
records_end [] h w = ([], h, done)
records_end (p ∷ ps) h w = piece_ends (suc (length p)) h p ps w (omega arith) (λ k (v : Waits k). records_end ps k v)

abbrev RunEnded : List ℕ → List (List ℕ) → Type 0
RunEnded h ps = (o : Outcome) × Run h ps o

module _ (h p : List ℕ) (ps : List (List ℕ)) (w : HeaderWaits h) (on : (k : List ℕ) → HeaderWaits k → RunEnded k (left header_end h p ∷ ps)) where
  header-step : (e : Result Bool Broken) → header_at (h ++ p) ≡ e → RunEnded h (p ∷ ps)
  header-step (Ok false) r =
      let x = on (kept header_end h p) (ap header_at (header-more-held h p (length h) refl w r) ∙ r) in
      (x.0, more-header r x.1)
  header-step (Ok true) r =
      let x = records_end (left header_end h p ∷ ps) [] empty-waits in
      (read x.0 x.1, header-given r x.2)
  header-step (Err e) r = (no_trace, no_header r)

header-piece_ends : (n : ℕ) (h p : List ℕ) (ps : List (List ℕ)) → HeaderWaits h → length p < n
    → ((k : List ℕ) → HeaderWaits k → RunEnded k ps) → RunEnded h (p ∷ ps)
header-piece_ends zero h p ps w l on = absurd (omega arith)
header-piece_ends (suc n) h p ps w l on =
    some_or_none p (λ e. let x = on h w in rw e (x.0, next-piece x.1)) (λ m.
    let u : ℕ = header_end (h ++ p) - length h in
    let s : 0 < u = header_used_some h p (length h) refl w m in
    header-step h p ps w (λ k (v : HeaderWaits k). header-piece_ends n k (drop u p) ps v (omega (arith, length-drop u p)) on) (header_at (h ++ p)) refl)

run_ends : (ps : List (List ℕ)) (h : List ℕ) → HeaderWaits h → RunEnded h ps
run_ends [] h w = (no_trace, too_short)
run_ends (p ∷ ps) h w = header-piece_ends (suc (length p)) h p ps w (omega arith) (λ k (v : HeaderWaits k). run_ends ps k v)

-- ---- one reading, and its place

one_reading : (s : List ℕ) (o p : Outcome) → Bytes s → ReadsAs s o → ReadsAs s p → o ≡ p
one_reading s no_trace no_trace b x y = refl
one_reading s no_trace (read rs rest) b x y = absurd (x y.0 y.1)
one_reading s (read rs rest) no_trace b x y = absurd (y x.0 x.1)
one_reading s (read rs rest) (read qs last) b x y =
    let t : List ℕ = drop 5 s in
    let c : Bytes t = bytes_drop s b 5 in
    let d : t ≡ x.0 = header_body s x.0 x.1 in
    let e : t ≡ y.0 = header_body s y.0 y.1 in
    let f = only t rs rest c (rw (← d) at x.2) in
    let g = only t qs last c (rw (← e) at y.2) in
    ap₂ read (sym f.0 ∙ g.0) (sym f.1 ∙ g.1)

place : (s : List ℕ) (rs : List Record) (rest : List ℕ) → ReadsAs s (read rs rest) → drop (5 + length (records_bytes rs)) s ≡ rest
place s rs rest x =
    sym (drop-drop (length (records_bytes rs)) 5 s)
    ∙ ap (drop (length (records_bytes rs))) (header_body s x.0 x.1 ∙ x.2.is)
    ∙ drop-append_seam (records_bytes rs) rest

pub traces : Traces
traces = record {
  in_pieces = λ pieces o b x. run-reads empty-header-waits x b;
  ends = λ pieces. run_ends pieces [] empty-header-waits;
  one_reading = one_reading;
  place = place;
  begins = begins;
  reads = reads;
  only = only;
  worked = worked_trace;
}
