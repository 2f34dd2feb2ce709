-- What a run will still write: at each step of its reader, what was written and what will be is together the same.
use Rattle.std.specs.Prelude.{ℕ, ◌+◌, ◌-◌, ◌≤◌, ◌<◌, ◌≡◌, Option, None, Some, Result, Ok, Err, length, drop}
use Rattle.std.proofs.Math.Path.{refl, ap, subst}
use Rattle.std.proofs.Common.{sym, ◌∙◌, arith, length-append, length-drop, length-take-le, take-append-drop}
use Rattle.std.proofs.Math.Bool.{true, false}
use mathlib.Core.List.{List, [], ◌∷◌, ◌++◌, append_assoc, append-nil}
use Rattle.std.proofs.Math.ListN.{take}
use Rattle.wire.specs.Checks.{pick}
use Rattle.endpoint.specs.Answer.{values_of}
use Rattle.endpoint.specs.Config.{tick_of}
use Rattle.endpoint.specs.Receive.{step_of, receipt_of}
use Rattle.endpoint.specs.Run.{Left}
use Rattle.endpoint.proofs.Laws.Calls.{receipt_left}
use Rattle.endpoint.specs.declared.answer.Drop.{Drop}
use Rattle.endpoint.specs.declared.answer.Received.{Received}
use Rattle.endpoint.specs.declared.config.Endpoint.{Endpoint}
use Rattle.trace.specs.Trace.{Record, tick, packet}
use Rattle.trace.specs.Reader.{bad, behind, stopped, bytes_of, begins_trace, record_at, record_end, header_at, header_end, read_of, HeaderWaits, Waits}
use Rattle.trace.specs.Reader as T
use Rattle.trace.specs.declared.reader.Complete.{Complete}
use Rattle.trace.specs.declared.reader.Complete.TheVariants as C
use Rattle.trace.specs.declared.reader.Reader.{Reader}
use Rattle.trace.proofs.Laws.Reader.{empty-waits, empty-header-waits, waits-read, used_fits, used_some, tick-read, packet-read, packet-held, broken-read}
use Rattle.trace.proofs.Laws.Reader.{broken-some, more-held}
use Rattle.trace.proofs.Laws.Reader.{header_read, header-behind, header-broken, header-more-held, header_used_fits, header_used_some, header-waits-read}
use Rattle.image.specs.Answer.{load_code}
use Rattle.image.specs.Load.{load_of}
use Rattle.image.specs.declared.answer.LoadResult.{LoadResult}
use Rattle.rerun.specs.Rerun.{ticked, answered, line_text, event_of, said_of, lines_of, bad_trace, bad_settings}
use Rattle.rerun.specs.Standing.{ending, records_text, trace_text, text_from, Standing, stands, standing, goes_on, Incomplete, Ready, Quiet, Completes}
use Rattle.rerun.specs.Standing.{behind_record, Stepped, Through, Started}
use Rattle.rerun.specs.declared.input.Input.{Input}
use Rattle.rerun.specs.declared.input.Phase.{Phase}
use Rattle.rerun.specs.declared.input.Phase.TheVariants as P
use Rattle.rerun.specs.declared.run.Run.{Run}

ending-some : (s : List ℕ) → 0 < length s → ending s ≡ bad_trace
unfolding ending
ending-some [] h = absurd (omega arith)
ending-some (x ∷ s) h = refl

-- ---- what a step reads: `u` bytes of the piece are taken behind those held

module _ (end : ℕ) (r : Reader) (piece : List ℕ) (r' : Reader) (piece' : List ℕ) (f : T.Fed end r piece r' piece') where
  whole : (t : List ℕ) → bytes_of r ++ (piece ++ t) ≡ bytes_of r' ++ (piece' ++ t)
  whole t =
      let u : ℕ = end - r.count in
      ap (λ (l : List ℕ). bytes_of r ++ l)
      (ap (λ (l : List ℕ). l ++ t) (sym (take-append-drop u piece)) ∙ append_assoc (take u piece) (drop u piece) t)
      ∙ sym (append_assoc (bytes_of r) (take u piece) (drop u piece ++ t))
      ∙ ap (λ (l : List ℕ). l ++ (drop u piece ++ t)) (sym f.held)
      ∙ ap (λ (l : List ℕ). bytes_of r' ++ (l ++ t)) (sym f.rest)

  module _ (size : length (bytes_of r) ≡ r.count) (fits : end - r.count ≤ length piece) where
    count_is : length (bytes_of r') ≡ r'.count
    count_is =
        ap length f.held
        ∙ length-append (bytes_of r) (take (end - r.count) piece)
        ∙ omega (arith, length-take-le (end - r.count) piece fits, f.count)

    fewer : 0 < end - r.count → length piece' < length piece
    fewer some = omega (arith, ap length f.rest, length-drop (end - r.count) piece)

module _ (i : Input) (piece : List ℕ) (r' : Reader) (piece' : List ℕ) (size : length (bytes_of i.reader) ≡ i.reader.count) (some : 0 < length piece) where
  abbrev held : List ℕ
  held = bytes_of i.reader

  -- ---- in the header

  module _ (phase : i.phase ≡ P.Header) (ready : Incomplete i.phase held) (f : T.Fed (header_end (held ++ piece)) i.reader piece r' piece') where
    header-waits : HeaderWaits held
    header-waits = subst (λ (q : Phase). Incomplete q held) phase ready

    in-header : {i' : Input} → length (bytes_of i'.reader) ≡ i'.reader.count → Quiet i piece i' piece' → Stepped i piece None i' piece'
    in-header {i'} count quiet = record {
      less = fewer _ i.reader piece r' piece' f size (header_used_fits held piece i.reader.count size header-waits)
          (header_used_some held piece i.reader.count size header-waits some);
      held = count;
      quiet = λ z. quiet;
      ticks = λ z. cc;
      packets = λ z. cc;
    }

    pub header-incomplete : header_at (held ++ piece) ≡ Ok false → Stepped i piece None (record { reader = r'; phase = i.phase }) piece'
    unfolding goes_on
    header-incomplete e =
        let all : bytes_of r' ≡ held ++ piece = f.held ∙ header-more-held held piece i.reader.count size header-waits e in
        in-header (count_is _ i.reader piece r' piece' f size (header_used_fits held piece i.reader.count size header-waits))
        (λ n w t. ap (text_from i.phase w n) (whole _ i.reader piece r' piece' f t), rw phase (ap header_at all ∙ e))

    pub header-complete : header_at (held ++ piece) ≡ Ok true
        → Stepped i piece None (record { reader = record { held = r'.held; count = 0 }; phase = P.Records }) piece'
    unfolding goes_on trace_text
    header-complete e =
        in-header refl (
          λ n w t. rw phase
              (ap (λ (b : _). pick b (records_text w n (read_of (drop 5 (held ++ (piece ++ t))))) bad_trace) (header_read held piece i.reader.count size header-waits t e)
              ∙ ap (λ (s : List ℕ). records_text w n (read_of s))
              (header-behind held piece i.reader.count size header-waits t e ∙ ap (λ (l : List ℕ). l ++ t) (sym f.rest))),
          empty-waits,
        )

    pub header-bad : header_at (held ++ piece) ≡ Err bad → Stepped i piece None (record { reader = r'; phase = P.Broken }) piece'
    unfolding goes_on trace_text
    header-bad e =
        in-header (count_is _ i.reader piece r' piece' f size (header_used_fits held piece i.reader.count size header-waits)) (
          λ n w t. rw phase
              (ap (λ (b : _). pick b (records_text w n (read_of (drop 5 (held ++ (piece ++ t))))) bad_trace) (header-broken held piece i.reader.count size header-waits t e)),
          tt,
        )

  -- ---- behind it

  module _ (phase : i.phase ≡ P.Records) (ready : Incomplete i.phase held) (f : T.Fed (record_end (held ++ piece)) i.reader piece r' piece') where
    waits : Waits held
    waits = subst (λ (q : Phase). Incomplete q held) phase ready

    fits : record_end (held ++ piece) - i.reader.count ≤ length piece
    fits = used_fits held piece i.reader.count size waits

    less : length piece' < length piece
    less = fewer _ i.reader piece r' piece' f size fits (used_some held piece i.reader.count size waits some)

    count : length (bytes_of r') ≡ r'.count
    count = count_is _ i.reader piece r' piece' f size fits

    completes : (r : Record) → ((t : List ℕ) → read_of (held ++ (piece ++ t)) ≡ behind r (read_of (piece' ++ t)))
        → Completes r i piece (record { reader = r'; phase = i.phase }) piece'
    unfolding goes_on records_text lines_of
    completes r reads =
        (λ n w t. rw phase (ap (records_text w n) (reads t) ∙ append_assoc (line_text (n + 1) (said_of w r)) _ _), rw phase empty-waits)

    pub record-read : (x : Option Complete) → record_at (held ++ piece) ≡ Ok x → Stepped i piece x (record { reader = r'; phase = i.phase }) piece'
    unfolding goes_on
    record-read x is = record {
      less = less;
      held = count;
      quiet = λ z.
          let e : record_at (held ++ piece) ≡ Ok None = is ∙ ap Ok z in
          let all : bytes_of r' ≡ held ++ piece = f.held ∙ more-held held piece i.reader.count size waits e in
          (λ n w t. ap (text_from i.phase w n) (whole _ i.reader piece r' piece' f t), rw phase (ap record_at all ∙ e));
      ticks = λ z.
          completes tick
          (λ t. tick-read held piece i.reader.count size waits t (is ∙ ap Ok z)
          ∙ ap (λ (l : List ℕ). behind tick (read_of (l ++ t))) (sym f.rest));
      packets = λ z.
          let e : record_at (held ++ piece) ≡ Ok (Some C.Packet) = is ∙ ap Ok z in
          let bounds = packet-held held piece i.reader.count size waits e in
          let n : length (held ++ take (record_end (held ++ piece) - i.reader.count) piece) ≡ r'.count = ap length (sym f.held) ∙ count in (
            completes (packet (drop 3 (bytes_of r')))
                (λ t. packet-read held piece i.reader.count size waits t e
                ∙ ap (λ (l : List ℕ). behind (packet (drop 3 l)) (read_of (drop (record_end (held ++ piece) - i.reader.count) piece ++ t))) (sym f.held)
                ∙ ap (λ (l : List ℕ). behind (packet (drop 3 (bytes_of r'))) (read_of (l ++ t))) (sym f.rest)),
            omega (arith, bounds.0, n),
            omega (arith, bounds.1, n),
          );
    }

    pub record-bad : record_at (held ++ piece) ≡ Err bad → Stepped i piece None (record { reader = r'; phase = P.Broken }) piece'
    unfolding goes_on records_text lines_of
    record-bad e = record {
      less = less;
      held = count;
      quiet = λ z. (
        λ n w t. rw phase
            (ap (records_text w n) (broken-read held piece i.reader.count size waits t e)
            ∙ ending-some (held ++ (piece ++ t)) (broken-some held piece i.reader.count size waits t e)),
        tt,
      );
      ticks = λ z. cc;
      packets = λ z. cc;
    }

  -- ---- at a broken record

  pub nothing-read : i.phase ≡ P.Broken → Stepped i piece None i []
  unfolding goes_on
  nothing-read phase = record {
    less = some;
    held = size;
    quiet = λ z. (λ n w t. rw phase refl, rw phase tt);
    ticks = λ z. cc;
    packets = λ z. cc;
  }

-- ---- through a piece, step by step

module _ (x : Standing) (piece : List ℕ) where
  module _ (i i' : Input) (n : ℕ) (w : Left) (rest rest' : List ℕ) (end : ℕ) (out : List ℕ) (a : Through x piece (stands i n w) rest end out) where
    pub quietly : length rest' < length rest → Quiet i rest i' rest' → Through x piece (stands i' n w) rest' end out
    unfolding Ready
    quietly less q = record {
      goes = λ t. a.goes t ∙ ap (λ (l : List ℕ). take end out ++ l) (q.0 n w t);
      room = omega (arith, a.room, less);
      told = omega (arith, a.told, less);
      ready = q.1;
    }

    pub with_line : (r : Record) → Completes r i rest i' rest' → length rest' < length rest → (end' : ℕ) (out' : List ℕ) → end' ≤ end + 64
        → take end' out' ≡ take end out ++ line_text (n + 1) (said_of w r) → Through x piece (behind_record r i' n w) rest' end' out'
    unfolding Ready
    with_line r c less end' out' room text = record {
      goes = λ t. a.goes t ∙ ap (λ (l : List ℕ). take end out ++ l) (c.0 n w t)
          ∙ sym (append_assoc (take end out) (line_text (n + 1) (said_of w r)) _)
          ∙ ap (λ (l : List ℕ). l ++ goes_on (behind_record r i' n w) (rest' ++ t)) (sym text);
      room = omega (arith, a.room, less, room);
      told = omega (arith, a.told, less);
      ready = c.1;
    }

    module _ (less : length rest' < length rest) (end' : ℕ) (out' : List ℕ) (room : end' ≤ end + 64) where
      pub with_tick : Completes tick i rest i' rest' → take end' out' ≡ take end out ++ line_text (n + 1) ticked
          → (e' : Endpoint) → e' ≡ (tick_of w.endpoint).endpoint
          → Through x piece (record { phase = i'.phase; held = []; number = n + 1; left = record { endpoint = e'; mem = w.mem } }) rest' end' out'
      unfolding said_of event_of
      with_tick c text e' is = rw is (with_line tick c less end' out' room text)

      pub with_packet : (k : List ℕ) → Completes (packet k) i rest i' rest' → (y : Result Received Drop)
          → take end' out' ≡ take end out ++ line_text (n + 1) (answered (values_of y).number (values_of y).tenant)
          → (e' : Endpoint) (m' : List ℕ) → y ≡ (step_of w.endpoint w.mem k).answer
          → e' ≡ (receipt_of w.endpoint (step_of w.endpoint w.mem k)).endpoint → m' ≡ (step_of w.endpoint w.mem k).mem
          → Through x piece (record { phase = i'.phase; held = []; number = n + 1; left = record { endpoint = e'; mem = m' } }) rest' end' out'
      unfolding said_of event_of
      with_packet k c y text e' m' answer endpoint mem =
          rw (endpoint ∙ receipt_left w.endpoint (step_of w.endpoint w.mem k), mem)
          (with_line (packet k) c less end' out' room
          (text
          ∙ ap (λ (z : Result Received Drop). take end out ++ line_text (n + 1) (answered (values_of z).number (values_of z).tenant)) answer))

-- ---- at the end of the trace

module _ (run : Run) (m : List ℕ) (ready : Ready (standing run m)) where
  pub ends-header : run.input.phase ≡ P.Header → goes_on (standing run m) [] ≡ bad_trace
  unfolding goes_on standing trace_text Ready
  ends-header p =
      let h : List ℕ = bytes_of run.input.reader in
      let waits : HeaderWaits h = subst (λ (q : Phase). Incomplete q h) p ready in
      let n : begins_trace (h ++ []) ≡ false = ap begins_trace (append-nil h) ∙ header-waits-read h waits in
      rw (p, n) refl

  pub ends-broken : run.input.phase ≡ P.Broken → goes_on (standing run m) [] ≡ bad_trace
  unfolding goes_on standing
  ends-broken p = rw p refl

  module _ (here : run.input.phase ≡ P.Records) where
    stops : read_of (bytes_of run.input.reader ++ []) ≡ stopped (bytes_of run.input.reader)
    unfolding Ready standing
    stops =
        ap read_of (append-nil (bytes_of run.input.reader))
        ∙ waits-read (bytes_of run.input.reader) (subst (λ (q : Phase). Incomplete q (bytes_of run.input.reader)) here ready)

    pub ends-between : run.input.reader.count ≡ 0 → goes_on (standing run m) [] ≡ []
    unfolding goes_on standing records_text lines_of ending
    ends-between c = rw (here, stops, c) refl

    pub ends-within : length (bytes_of run.input.reader) ≡ run.input.reader.count → (run.input.reader.count ≡ 0 → ⊥) → goes_on (standing run m) [] ≡ bad_trace
    unfolding goes_on standing records_text lines_of
    ends-within size c = rw (here, stops) (ending-some (bytes_of run.input.reader) (omega arith))

-- ---- at the beginning

module _ (r : Run) (m : List ℕ) (phase : r.input.phase ≡ P.Header) (count : r.input.reader.count ≡ 0) where
  pub begin_ready : Ready (standing r m)
  unfolding Ready standing
  begin_ready = rw (phase, count) empty-header-waits

  pub begin_goes : r.number ≡ 0 → (t : List ℕ) → goes_on (standing r m) t ≡ trace_text (record { endpoint = r.endpoint; mem = m }) 0 t
  unfolding goes_on standing
  begin_goes number t = rw (phase, count, number) refl

-- so many bytes are held as it counts
pub none-held : (r : Run) → r.input.reader.count ≡ 0 → length (bytes_of r.input.reader) ≡ r.input.reader.count
none-held r c = rw c refl

module _ (settings : List ℕ) (l : LoadResult) (is : l ≡ load_of settings) (out : List ℕ) where
  pub started-good : load_code l.answer ≡ 0 → (r : Run) → ((m : List ℕ) → Ready (standing r m))
      → ((m t : List ℕ) → goes_on (standing r m) t ≡ trace_text (record { endpoint = l.endpoint; mem = m }) 0 t) → Started settings (Ok r) out
  started-good good r ready goes = (
    ap (λ (x : LoadResult). load_code x.answer) (sym is) ∙ good,
    λ m t. goes m t ∙ ap (λ (x : LoadResult). trace_text (record { endpoint = x.endpoint; mem = m }) 0 t) is,
    ready,
  )

  pub started-bad : (load_code l.answer ≡ 0 → ⊥) → (end : ℕ) → take end out ≡ bad_settings → Started settings (Err end) out
  started-bad bad end text = (λ z. bad (ap (λ (x : LoadResult). load_code x.answer) is ∙ z), text)
