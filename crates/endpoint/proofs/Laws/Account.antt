-- The accounting of every run of the calls from a set-up: the calls are the steps of the theory of runs, and their numbers tell what became of a segment.
use Rattle.std.specs.Prelude.{ℕ, ◌+◌, ◌≤◌, ◌<◌, ◌≡◌, refl, ◌≢◌, Bool, true, false, cond, not, ◌&&◌, List, [], ◌∷◌, ◌++◌, length, eqb, Result}
use Rattle.std.proofs.Common.{sym, ap, subst, ◌∙◌, inl, inr, arith, eqb-true}
use Rattle.reassembly.proofs.Laws.Base.{either, clash, or_cases}
use Rattle.reassembly.specs.Take.{Seg}
use Rattle.reassembly.specs.Receive.{Reading, segment, Event, receive, tick}
use Rattle.reassembly.specs.SetUp.{World, Replied, receives, next}
use Rattle.reassembly.specs.Account as A
use Rattle.reassembly.specs.Account.{along, takes, completes, bytes_taken, bytes_completed, bytes_pending, bytes_aged}
use Rattle.reassembly.proofs.Laws.Account as L
use Rattle.reassembly.proofs.Laws.Sums.{along_by, along-none, along_snoc}
use Rattle.endpoint.specs.Answer.{drop_code, values_of}
use Rattle.endpoint.specs.Config.{Config, config_of, Adding, set_up}
use Rattle.endpoint.specs.Receive.{answers, layers, header_of, world_of}
use Rattle.endpoint.proofs.Laws.Calls.{receive_is, tick_is, called_is, calls_are, promised}
use Rattle.endpoint.proofs.Laws.Demand1Receive.{judge-bad}
use Rattle.endpoint.proofs.Laws.Demand3.{set_up_every}
use Rattle.endpoint.specs.Run.{Left, called, calls, left, ends_of}
use Rattle.endpoint.specs.Demand1.{◌among◌}
use Rattle.endpoint.specs.declared.answer.Received.{Received}
use Rattle.endpoint.specs.declared.config.Endpoint.{Endpoint}
use Rattle.endpoint.specs.Account.{number_of, is_pending, taken_by, completed_by, aged_out_by, taken, completed, aged_out, pending_now, Accounts}
use Rattle.endpoint.specs.Account.{Adds, SegmentAdds, CallByCall, SlotBySlot}
use Rattle.endpoint.specs.declared.answer.Drop.{Drop}

abbrev number : Result Received Drop → ℕ
number a = (values_of a).number

abbrev world : Left → World Config
world w = world_of w.endpoint w.mem

-- ---- the numbers: of a complete frame that is found bad, one of 28, 29, 12 and 13

-- a number among those of a list is one of them
among_one : (P : ℕ → Type 0) (n x : ℕ) (xs : List ℕ) → P x → (n among xs ≡ true → P n) → n among (x ∷ xs) ≡ true → P n
among_one P n x xs h k e = either (or_cases (eqb n x) (n among xs) e) (λ q. subst P (sym (eqb-true n x q)) h) k

completes_low : (n : ℕ) → n ≢ 1 → n ≢ 2 → n < 14 → completes n ≡ true
completes_low n a b l = L.completes-other n a b (inl l)

completes_high : (n : ℕ) → 17 < n → completes n ≡ true
completes_high n l = L.completes-other n (λ z. omega arith) (λ z. omega arith) (inr l)

bad-completes : (n : ℕ) → n among (28 ∷ 29 ∷ 12 ∷ 13 ∷ []) ≡ true → completes n ≡ true
bad-completes n =
    let P : ℕ → Type 0 = λ x. completes x ≡ true in
    among_one P n 28 (29 ∷ 12 ∷ 13 ∷ []) (completes_high 28 (omega arith))
    (among_one P n 29 (12 ∷ 13 ∷ []) (completes_high 29 (omega arith))
    (among_one P n 12 (13 ∷ []) (completes_low 12 (λ z. omega arith) (λ z. omega arith) (omega arith))
    (among_one P n 13 [] (completes_low 13 (λ z. omega arith) (λ z. omega arith) (omega arith)) (λ q. clash (cc (q))))))

complete-completes : (n : ℕ) → n among (0 ∷ 12 ∷ 13 ∷ 28 ∷ 29 ∷ []) ≡ true → completes n ≡ true
complete-completes n =
    let P : ℕ → Type 0 = λ x. completes x ≡ true in
    among_one P n 0 (12 ∷ 13 ∷ 28 ∷ 29 ∷ []) (completes_low 0 (λ z. omega arith) (λ z. omega arith) (omega arith))
    (among_one P n 12 (13 ∷ 28 ∷ 29 ∷ []) (completes_low 12 (λ z. omega arith) (λ z. omega arith) (omega arith))
    (among_one P n 13 (28 ∷ 29 ∷ []) (completes_low 13 (λ z. omega arith) (λ z. omega arith) (omega arith))
    (among_one P n 28 (29 ∷ []) (completes_high 28 (omega arith))
    (among_one P n 29 [] (completes_high 29 (omega arith)) (λ q. clash (cc (q)))))))

refused_takes : (n : ℕ) → n among (2 ∷ 14 ∷ 15 ∷ 16 ∷ 17 ∷ []) ≡ true → takes n ≡ false
refused_takes n =
    let P : ℕ → Type 0 = λ x. takes x ≡ false in
    among_one P n 2 (14 ∷ 15 ∷ 16 ∷ 17 ∷ []) (L.takes_none 2 (inl refl))
    (among_one P n 14 (15 ∷ 16 ∷ 17 ∷ []) (L.takes_none 14 (inr (omega arith, omega arith)))
    (among_one P n 15 (16 ∷ 17 ∷ []) (L.takes_none 15 (inr (omega arith, omega arith)))
    (among_one P n 16 (17 ∷ []) (L.takes_none 16 (inr (omega arith, omega arith)))
    (among_one P n 17 [] (L.takes_none 17 (inr (omega arith, omega arith))) (λ q. clash (cc (q)))))))

numbered : (c : Config) → L.Numbered answers Config layers number c
numbered c = record {
  rejected = λ r. refl;
  pending = refl;
  delivered = λ t start n. refl;
  found_bad = λ p note frame d l q. bad-completes (drop_code d) (judge-bad c p note frame d (omega arith) q);
}

-- ---- the calls are the steps of the theory of runs

number_is : (w : Left) (k : List ℕ) → number_of w k ≡ number (receives answers Config layers (world w) k).reply
number_is w k = ap (λ (s : Replied answers Config layers). number s.reply) (receive_is w.endpoint w.mem k)

taken_is : (c : Config) (w : Left) (v : Event) → taken_by c w v ≡ A.taken_at answers Config layers number c (world w) v
taken_is c w tick = refl
taken_is c w (receive k) = ap (λ (n : ℕ). bytes_taken answers n (header_of c k)) (number_is w k)

completed_is : (c : Config) (w : Left) (v : Event) → completed_by c w v ≡ A.completed_at answers Config layers number c (world w) v
completed_is c w tick = refl
completed_is c w (receive k) = ap (λ (n : ℕ). bytes_completed answers n (header_of c k)) (number_is w k)

aged_is : (c : Config) (w : Left) (v : Event) → aged_out_by w v ≡ A.aged_at answers Config layers number c (world w) v
aged_is c w tick = ap (λ (x : World Config). bytes_aged (is_pending w) (A.is_pending x) w.mem) (tick_is w.endpoint w.mem)
aged_is c w (receive k) = refl

-- ---- the proof

module _ (own port mtu : ℕ) (adds : List Adding) (m : List ℕ) (enough : 55296 ≤ length m) (es : List Event) where
  abbrev e : Endpoint
  e = set_up own port mtu adds

  abbrev began : Left
  began = record { endpoint = e; mem = m }

  account : taken e m es ≡ completed e m es + aged_out e m es + pending_now e m es
  account =
      let c : Config = config_of e in
      rw (
        along_by called (next answers Config layers) world (taken_by c) (A.taken_at answers Config layers number c) called_is (taken_is c) es began,
        along_by called (next answers Config layers) world (completed_by c) (A.completed_at answers Config layers number c) called_is (completed_is c) es began,
        along_by called (next answers Config layers) world aged_out_by (A.aged_at answers Config layers number c) called_is (aged_is c) es began,
        ap (λ (x : World Config). bytes_pending (A.is_pending x) x.mem) (calls_are began es),
      )
      (L.accounting answers Config layers number (ends_of e) (set_up_every own port mtu adds) (promised e).kept (numbered c) m enough es)

-- ---- what each sum is

module _ (e : Endpoint) (m : List ℕ) (es : List Event) where
  abbrev start : Left
  start = record { endpoint = e; mem = m }

  abbrev w : Left
  w = left e m es

  summed : (f : Left → Event → ℕ) (v : Event) → along called f start (es ++ (v ∷ [])) ≡ along called f start es + f w v
  summed f v = along_snoc called calls f (λ w. refl) (λ w e es. refl) es start v

  adds : (v : Event) (t c a : ℕ) → taken_by (config_of e) w v ≡ t → completed_by (config_of e) w v ≡ c → aged_out_by w v ≡ a → Adds e m es v t c a
  adds v t c a i j k = record {
    to_taken = summed (taken_by (config_of e)) v ∙ ap (λ (x : ℕ). taken e m es + x) i;
    to_completed = summed (completed_by (config_of e)) v ∙ ap (λ (x : ℕ). completed e m es + x) j;
    to_aged = summed aged_out_by v ∙ ap (λ (x : ℕ). aged_out e m es + x) k;
  }

  -- a segment's packet, by what its number tells
  module _ (k : List ℕ) (p : ℕ) (g : Seg) (h : header_of (config_of e) k ≡ segment p g) where
    told : (t d : Bool) → takes (number_of w k) ≡ t → completes (number_of w k) ≡ d
        → Adds e m es (receive k) (cond t (length g.bytes) 0) (cond d g.frame_length 0) 0
    told t d i j =
        let counts = L.counts_segment answers (number_of w k) p g in
        adds (receive k) (cond t (length g.bytes) 0) (cond d g.frame_length 0) 0
        (ap (λ (x : Reading answers). bytes_taken answers (number_of w k) x) h ∙ counts.0 ∙ ap (λ (b : Bool). cond b (length g.bytes) 0) i)
        (ap (λ (x : Reading answers). bytes_completed answers (number_of w k) x) h ∙ counts.1 ∙ ap (λ (b : Bool). cond b g.frame_length 0) j)
        refl

    segment_adds : SegmentAdds e m es k g (number_of w k)
    segment_adds = record {
      refused = λ q. let u : takes (number_of w k) ≡ false = refused_takes (number_of w k) q in told false false u (L.rejected_counts (number_of w k) u);
      pending = λ q. told true false (ap takes q ∙ (L.pending-takes).0) (ap completes q ∙ (L.pending-takes).1);
      complete = λ q. let u : completes (number_of w k) ≡ true = complete-completes (number_of w k) q in
          told true true (L.completes-takes (number_of w k) u) u;
    }

  call_by_call : CallByCall e m es w
  call_by_call = record {
    carried = segment_adds;
    no_segment = λ k h. let counts = L.counts_none answers (number_of w k) (header_of (config_of e) k) h in adds (receive k) 0 0 0 counts.0 counts.1 refl;
    ticked =
        adds tick 0 0 (bytes_pending (λ p s. is_pending w p s && not (is_pending (called w tick) p s)) w.mem) refl refl
        (L.aged_is (is_pending w) (is_pending (called w tick)) w.mem);
    now = refl;
  }

slot_by_slot : (m : List ℕ) → SlotBySlot m
slot_by_slot m = record { none = λ f. L.pending-none f m; one_more = λ f g. L.pending-more f g m }

-- ---- of every set-up
pub accounting : (own port mtu : ℕ) (adds : List Adding) → Accounts (set_up own port mtu adds)
accounting own port mtu adds =
    let e : Endpoint = set_up own port mtu adds in
    record {
      balance = account own port mtu adds;
      begins = λ m. let w : Left = record { endpoint = e; mem = m } in
          (along-none called (taken_by (config_of e)) w, (along-none called (completed_by (config_of e)) w, along-none called aged_out_by w));
      call_by_call = call_by_call e;
      slot_by_slot = slot_by_slot;
    }
