-- What rerun promises (Reruns.antt), proved.
use Rattle.std.specs.Prelude.{ℕ, ◌+◌, ◌≤◌, ◌<◌, ◌≡◌, ◌≢◌, ltb, length, take, Result}
use Rattle.std.proofs.Math.Path.{refl, ap}
use Rattle.std.proofs.Common.{sym, subst, ◌∙◌, arith, eq-eqb, ne_eqb, ltb-true, ltb-false, take_all, length-take-le}
use Rattle.std.proofs.Math.Bool.{true}
use mathlib.Core.List.{List, [], ◌∷◌, ◌++◌, map, append_assoc, append-nil}
use Rattle.std.proofs.Math.ListN.{drop}
use Rattle.wire.specs.Bytes.{Bytes}
use Rattle.wire.proofs.Laws.Bytes.{case_b, bytes_drop, bytes_take}
use Rattle.endpoint.specs.Config.{set_up}
use Rattle.endpoint.specs.Account.{Accounts}
use Rattle.endpoint.specs.Answer.{values_of}
use Rattle.endpoint.specs.Receive.{step_of}
use Rattle.endpoint.specs.Run.{Left, called, calls}
use Rattle.endpoint.specs.declared.answer.Received.{Received}
use Rattle.endpoint.proofs.Laws.Account.{accounting}
use Rattle.image.specs.Answer.{load_code}
use Rattle.image.specs.Images.{SavedFrom}
use Rattle.image.specs.Load.{load_of}
use Rattle.image.proofs.Laws.Images.{images}
use Rattle.trace.specs.Trace.{Record, packet, no_trace, read, ReadsAs}
use Rattle.trace.specs.Traces.{joined}
use Rattle.trace.specs.Reader.{begins_trace}
use Rattle.trace.proofs.Laws.Reads.{header_body}
use Rattle.trace.proofs.Laws.Traces.{traces}
use Rattle.rerun.specs.Rerun.{answered, line_text, loaded, event_of, said_of, lines_of, bad_trace, bad_settings}
use Rattle.rerun.specs.declared.input.Phase.TheVariants as P
use Rattle.rerun.specs.Standing.{ending, records_text, trace_text, output_of, Standing, goes_on}
use Rattle.rerun.specs.Reruns.{Call, Calls, pieces, written, last, Writes, Reruns}
use Rattle.rerun.proofs.Laws.WorkedRerun.{worked_rerun}
use Rattle.endpoint.specs.declared.answer.Drop.{Drop}

-- ---- what is written

module _ (settings trace : List ℕ) where
  good : load_code (load_of settings).answer ≡ 0 → output_of settings trace ≡ trace_text (loaded settings) 0 trace
  unfolding output_of
  good g = rw (eq-eqb (load_code (load_of settings).answer) 0 g) refl

  bad : load_code (load_of settings).answer ≢ 0 → output_of settings trace ≡ bad_settings
  unfolding output_of
  bad g = rw (ne_eqb (load_code (load_of settings).answer) 0 g) refl

module _ (settings trace : List ℕ) (bytes : Bytes trace) where
  none : ReadsAs trace no_trace → trace_text (loaded settings) 0 trace ≡ bad_trace
  unfolding trace_text
  none n = case_b (begins_trace trace) (λ e. let t = (traces.begins trace bytes).0 e in absurd (n t.0 t.1)) (λ e. rw e refl)

  some : (rs : List Record) (rest : List ℕ) → ReadsAs trace (read rs rest) → trace_text (loaded settings) 0 trace ≡ lines_of (loaded settings) 0 rs ++ ending rest
  unfolding trace_text records_text
  some rs rest r =
      let b : begins_trace trace ≡ true = (traces.begins trace bytes).1 (r.0, r.1) in
      let d : drop 5 trace ≡ r.0 = header_body trace r.0 r.1 in
      let only = traces.only r.0 rs rest (subst Bytes d (bytes_drop trace bytes 5)) r.2 in
      rw (b, d, only.0, only.1) refl

  pub writes : Writes settings trace (output_of settings trace)
  unfolding ending
  writes = record {
    bad_settings_lem = bad settings trace;
    no_trace_lem = λ g n. good settings trace g ∙ none n;
    lines = λ g rs r. good settings trace g ∙ some rs [] r ∙ append-nil (lines_of (loaded settings) 0 rs);
    broken = λ g rs rest d r. good settings trace g ∙ some rs rest r ∙ ap (λ (l : List ℕ). lines_of (loaded settings) 0 rs ++ l) (ends rest d);
  }
    where
      ends : (rest : List ℕ) → rest ≢ [] → ending rest ≡ bad_trace
      ends [] d = absurd (d refl)
      ends (x ∷ rest) d = refl

-- ---- piece by piece

calls_go : (x : Standing) (cs : List Call) → Calls x cs → (t : List ℕ) → goes_on x (joined (pieces cs) ++ t) ≡ written cs ++ goes_on (last x cs) t
calls_go x [] c t = refl
calls_go x (k ∷ cs) c t =
    ap (goes_on x) (append_assoc k.piece (joined (pieces cs)) t)
    ∙ c.0.goes (joined (pieces cs) ++ t)
    ∙ ap (λ (l : List ℕ). k.text ++ l) (calls_go k.after cs c.1 t)
    ∙ sym (append_assoc k.text (written cs) (goes_on (last k.after cs) t))

-- ---- the settings

-- no image has more than 815 bytes
long_bad : (s : List ℕ) → Bytes s → 815 < length s → load_code (load_of s).answer ≢ 0
long_bad s b l g =
    let f : SavedFrom s = (images.load s b).exact.only g in
    let n : length s ≤ 815 = subst (λ (x : List ℕ). length x ≤ 815) f.is (images.most (set_up f.own f.port f.mtu f.adds)) in
    absurd (omega arith)

front_enough : (settings trace : List ℕ) → Bytes settings → output_of (take 1024 settings) trace ≡ output_of settings trace
front_enough settings trace b =
    case_b (ltb 1024 (length settings))
    (λ e.
    let l : 1024 < length settings = ltb-true 1024 (length settings) e in
    let n : length (take 1024 settings) ≡ 1024 = length-take-le 1024 settings (omega arith) in
    bad (take 1024 settings) trace (long_bad (take 1024 settings) (bytes_take settings b 1024) (omega arith))
    ∙ sym (bad settings trace (long_bad settings b (omega arith))))
    (λ e. ap (λ (s : List ℕ). output_of s trace) (take_all 1024 settings (ltb-false 1024 (length settings) e)))

accounted : (settings : List ℕ) → Bytes settings → load_code (load_of settings).answer ≡ 0 → Accounts (load_of settings).endpoint
accounted settings b g =
    let f : SavedFrom settings = (images.load settings b).exact.only g in
    subst Accounts (sym ((images.load settings b).set_up_from f)) (accounting f.own f.port f.mtu f.adds)

stops : (x : Standing) → x.phase ≡ P.Broken → (t : List ℕ) → goes_on x t ≡ bad_trace
unfolding goes_on
stops x p t = rw p refl

-- ---- the lines of a run

follows : (w : Left) (n : ℕ) (rs : List Record) (r : Record)
    → lines_of w n (rs ++ (r ∷ [])) ≡ lines_of w n rs ++ line_text (n + length rs + 1) (said_of (calls w (map event_of rs)) r)
unfolding lines_of
follows w n [] r = append-nil (line_text (n + 1) (said_of w r)) ∙ ap (λ (k : ℕ). line_text k (said_of w r)) {x = n + 1} {y = n + 0 + 1} (omega arith)
follows w n (x ∷ rs) r =
    ap (λ (l : List ℕ). line_text (n + 1) (said_of w x) ++ l)
    (follows (called w (event_of x)) (n + 1) rs r
    ∙ ap (λ (k : ℕ). lines_of (called w (event_of x)) (n + 1) rs ++ line_text k (said_of (calls (called w (event_of x)) (map event_of rs)) r))
    {x = n + 1 + length rs + 1} {y = n + length (x ∷ rs) + 1} (omega arith))
    ∙ sym (append_assoc (line_text (n + 1) (said_of w x)) _ _)

-- what is told of an answer
said : (w : Left) (k : List ℕ) (a : Result Received Drop) → (step_of w.endpoint w.mem k).answer ≡ a
    → said_of w (packet k) ≡ answered (values_of a).number (values_of a).tenant
unfolding said_of
said w k a e = ap (λ (x : Result Received Drop). answered (values_of x).number (values_of x).tenant) e

pub reruns : Reruns
reruns = record {
  writes = writes;
  in_pieces = λ settings x b cs c t. sym (calls_go x cs c t) ∙ b.goes (joined (pieces cs) ++ t) ∙ sym (good settings (joined (pieces cs) ++ t) b.good);
  stopped = stops;
  follows = follows;
  delivered = λ w k t p e. said w k _ e;
  pending = λ w k e. said w k _ e;
  dropped = λ w k d e. said w k _ e;
  front = front_enough;
  accounts = accounted;
  worked = worked_rerun;
}
