-- An answer other than 25 to 29 names no byte (document 02, §4).
use Rattle.std.specs.Prelude.{ℕ, ◌≤◌, ◌≡◌, refl, true, false, List, [], ◌∷◌, length, drop, ltb, eqb, Result, Ok, Err}
use Rattle.std.proofs.Common.{inl, inr, arith}
use Rattle.std.proofs.Math.Option.{Option, none, some}
use Rattle.std.proofs.lemmas.Bool.{eqb-false}
use Rattle.wire.specs.Refusal.{code_of, finding_of}
use Rattle.wire.proofs.Laws.Refusal.{Told, refusal-number, refusal-told}
use Rattle.wire.specs.Stt.{stt_of}
use Rattle.wire.specs.Frame.{frame_of}
use Rattle.wire.specs.declared.refusal.Refusal.{Refusal}
use Rattle.reassembly.proofs.Laws.Base.{case_b, clash}
use Rattle.reassembly.proofs.Laws.Answers.{bad_reply, good_reply, rejected_reply, pending_reply, complete_reply, no_memory_reply}
use Rattle.reassembly.specs.Slots.{Note}
use Rattle.reassembly.specs.Take.{Seg, Effect, slot_no, frame_in}
use Rattle.reassembly.specs.Store.{bytes_of, take_in}
use Rattle.reassembly.specs.declared.take.Outcome.{Outcome}
use Rattle.reassembly.specs.declared.take.Outcome.TheVariants as O
use Rattle.reassembly.specs.Receive.{Reading, other_sender, direct, segment, frame_answer, take_answer, Verdict, bad, good}
use Rattle.endpoint.specs.Answer.{drop_of, values_of}
use Rattle.endpoint.specs.Search.{lowest}
use Rattle.endpoint.specs.Config.{Config, config_of, binds}
use Rattle.endpoint.specs.Receive.{broken_at, answers, by_binding, inner_from, answer_at, tunnel_from, header_of}
use Rattle.endpoint.specs.Receive.{by_stt, stt_from, judge_of, row_at, stepped, step_of}
use Rattle.endpoint.proofs.Laws.Receive.{header-all}
use Rattle.endpoint.specs.Demand1.{◌among◌}
use Rattle.endpoint.specs.declared.answer.Place.{Place}
use Rattle.endpoint.specs.declared.answer.Drop.{Drop}
use Rattle.endpoint.specs.declared.answer.Received.{Received}
use Rattle.endpoint.specs.declared.config.Endpoint.{Endpoint}

-- ---- a refusal

-- the numbers that name a byte
abbrev naming : List ℕ
naming = 25 ∷ 26 ∷ 27 ∷ 28 ∷ 29 ∷ []

in_naming : (n : ℕ) → 25 ≤ n → n ≤ 29 → n among naming ≡ true
in_naming n least most =
    case_b (eqb n 25) (λ p. rw p) (λ a.
    case_b (eqb n 26) (λ p. rw (a, p)) (λ b.
    case_b (eqb n 27) (λ p. rw (a, b, p)) (λ c.
    case_b (eqb n 28) (λ p. rw (a, b, c, p)) (λ d.
    let last : n ≡ 29 = omega (arith, eqb-false n 25 a, eqb-false n 26 b, eqb-false n 27 c, eqb-false n 28 d) in rw last))))

abbrev Silent : Drop → Type 0
Silent d = (drop_of d).number among naming ≡ false → (drop_of d).offset ≡ 0

abbrev SilentAnswer : Result Received Drop → Type 0
SilentAnswer a = (values_of a).number among naming ≡ false → (values_of a).offset ≡ 0

broken_silent : (start : ℕ) (r : Refusal) → Silent (broken_at start r)
broken_silent start r silent = by (refusal-told start r)
  where
    by : Told start (finding_of start r) → (finding_of start r).offset ≡ 0
    by (inl x) = x.1.1
    by (inr (inl x)) = x.1
    by (inr (inr x)) =
        let same : (finding_of start r).number ≡ code_of r = refusal-number start r in
        clash (cc (silent, in_naming (code_of r) (omega (arith, x.0)) (omega (arith, x.1.0))))

-- ---- what is made of a frame

abbrev SilentVerdict : Verdict answers → Type 0
SilentVerdict (bad d) = Silent d
SilentVerdict (good t) = Unit {0}

inner_silent : (networks kinds owners tenants : List ℕ) (n peer kind network : ℕ) (frame : List ℕ)
    → SilentVerdict (inner_from networks kinds owners tenants n peer kind network frame)
unfolding inner_from
inner_silent networks kinds owners tenants n peer kind network frame =
    by (lowest (binds networks kinds owners peer kind network) n) (frame_of frame)
  where
    by : (o : Option ℕ) (r : Result (Unit {0}) Refusal) → SilentVerdict (by_binding tenants o r)
    by none r = λ silent. refl
    by (some b) (Ok tt) = tt
    by (some b) (Err r) = λ silent. refl

judge_silent : (c : Config) (p : ℕ) (note : Note) (frame : List ℕ) → SilentVerdict (judge_of c p note frame)
unfolding judge_of stt_from
judge_silent c p note frame = by (stt_of frame)
  where
    by : (r : Result ℕ Refusal)
        → SilentVerdict (by_stt r (λ context. inner_from c.networks c.kinds c.owners c.tenants c.bindings p 3 context (drop 18 frame)))
    by (Err r) = broken_silent 0 r
    by (Ok context) = inner_silent c.networks c.kinds c.owners c.tenants c.bindings p 3 context (drop 18 frame)

-- ---- what is made of a packet

abbrev SilentReading : Reading answers → Type 0
SilentReading (other_sender a) = SilentAnswer a
SilentReading (direct p a) = SilentAnswer a
SilentReading (segment p g) = Unit {0}

at_silent : (x : Verdict answers) (place : Place) → SilentVerdict x → SilentAnswer (answer_at x place)
at_silent (bad d) place s = s
at_silent (good t) place s = λ silent. refl

header_silent : (c : Config) (k : List ℕ) → SilentReading (header_of c k)
unfolding tunnel_from
header_silent c k =
    header-all c k SilentReading
    (λ d none silent. none)
    (λ a p q start r. broken_silent start r)
    (λ a p q kind network at frame.
    at_silent (inner_from c.networks c.kinds c.owners c.tenants c.bindings p kind network frame)
    (record { start = at; length = length frame; in_memory = false })
    (inner_silent c.networks c.kinds c.owners c.tenants c.bindings p kind network frame))
    (λ a p q g start end. tt)

-- ---- a receive

verdict_silent : (x : Verdict answers) (i n : ℕ) (frame : List ℕ) → SilentVerdict x → SilentAnswer (frame_answer answers x i n frame).reply
verdict_silent (bad d) i n frame s = rw (bad_reply answers d i n frame) s
verdict_silent (good t) i n frame s = rw (good_reply answers t i n frame) (λ silent. refl)

module _ (e : Endpoint) (m : List ℕ) where
  taken_silent : (p : ℕ) (g : Seg) (o : Effect bytes_of) (x : Outcome)
      → SilentAnswer (take_answer answers (judge_of (config_of e)) bytes_of p g o x).reply
  taken_silent p g o (O.Rejected r) = rw (rejected_reply answers (judge_of (config_of e)) bytes_of p g o r) (λ silent. refl)
  taken_silent p g o O.Pending = rw (pending_reply answers (judge_of (config_of e)) bytes_of p g o) (λ silent. refl)
  taken_silent p g o O.NoMemory = rw (no_memory_reply answers (judge_of (config_of e)) bytes_of p g o) (λ silent. refl)
  taken_silent p g o (O.Complete s) =
      let frame : List ℕ = frame_in bytes_of o.mem (slot_no p s) g.frame_length in
      rw (complete_reply answers (judge_of (config_of e)) bytes_of p g o s)
      (verdict_silent (judge_of (config_of e) p o.note frame) (slot_no p s) g.frame_length frame (judge_silent (config_of e) p o.note frame))

  stepped_silent : (x : Reading answers) → SilentReading x → SilentAnswer (stepped e m x).answer
  stepped_silent (other_sender a) s = s
  stepped_silent (direct p a) s = s
  stepped_silent (segment p g) s = taken_silent p g (take_in p (row_at e p) m g) (take_in p (row_at e p) m g).outcome

  pub step_silent : (k : List ℕ) → SilentAnswer (step_of e m k).answer
  unfolding step_of
  step_silent k =
      case_b (ltb (length m) 55296)
      (λ b. rw b (λ silent. refl))
      (λ b. rw b (stepped_silent (header_of (config_of e) k) (header_silent (config_of e) k)))
