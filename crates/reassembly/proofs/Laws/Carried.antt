-- The segments taken for a frame since it opened make it up, byte by byte: proved over the memory of pieces, whose pieces are the log's (Log), and carried
-- to the bytes. Each of them came in the run.
use Rattle.std.specs.Prelude.{◌≡◌, true, false, cond, ℕ, zero, suc, ◌≤◌, ◌<◌, length, get_or, set, eqb}
use Rattle.std.proofs.Math.Path.{refl, ap, subst}
use Rattle.std.proofs.Common.{sym, ◌∙◌, arith, get_or-set_same, eq-eqb, eqb-true}
use mathlib.Core.List.{List, [], ◌∷◌, ◌++◌, append_assoc, append-nil}
use Rattle.reassembly.proofs.Laws.Base.{case_b, clash}
use Rattle.reassembly.specs.Slots.{Slot, Peer, Note, no_row, free, empty_rows, empty_row, most_peers, most_slots}
use Rattle.reassembly.specs.Take.{slot_no, Seg, Outcome, Rejected, Pending, Complete, NoMemory, Choice, reject, old, fresh, chosen, Effect, frame_in}
use Rattle.reassembly.specs.Take.{take_segment}
use Rattle.reassembly.specs.Store.{bytes_of, take_in}
use Rattle.reassembly.proofs.Laws.Store.{take_in_lem, bytes_laws}
use Rattle.reassembly.specs.Receive.{Answers, Verdict, Reading, other_sender, direct, segment, Event, receive, tick}
use Rattle.reassembly.proofs.Laws.Runs.{State, react, after, run, mine, own, Listed, Sim, event_sim, rows-older}
use Rattle.reassembly.proofs.Laws.Sim.{Alike, take_alike}
use Rattle.reassembly.specs.SetUp.{keeps, Layers, Promised, World, next, runs, receives}
use Rattle.reassembly.proofs.Laws.NonInterference.{empty-at, empty-free, start, ghost_start}
use Rattle.reassembly.proofs.Laws.Ghost.{ghost, ghost_laws}
use Rattle.reassembly.proofs.Laws.Claim.{kept-listed, next-at, begins}
use Rattle.reassembly.specs.History.{Log, enters, entered, logged, no_seg, OneOf, taking, log_seen, log_next, log_run, CameIn}
use Rattle.reassembly.proofs.Laws.Log.{Logs, Logged, take_logs, tick_logs, pieced_byte}

module _ (W : Answers) (Config : Type 0) (U : Layers W Config) (p : ℕ) where
  abbrev pub Came : Config → List Event → List Seg → Type 0
  Came c es [] = Unit {0}
  Came c es (g ∷ gs) = CameIn W Config U p c es g × Came c es gs

  pub came_at : (c : Config) (es : List Event) (gs : List Seg) → Came c es gs → (j : ℕ) → j < length gs → CameIn W Config U p c es (get_or gs j no_seg)
  came_at c es [] a j l = absurd (omega arith)
  came_at c es (g ∷ gs) a zero l = a.0
  came_at c es (g ∷ gs) a (suc j) l = came_at c es gs a.1 j (omega arith)

  came_more : (c : Config) (es : List Event) (e : Event) (gs : List Seg) → Came c es gs → Came c (es ++ (e ∷ [])) gs
  came_more c es e [] a = tt
  came_more c es e (g ∷ gs) a = (
    record {
      before = a.0.before;
      packet = a.0.packet;
      after = a.0.after ++ (e ∷ []);
      is = ap (λ (x : List Event). x ++ (e ∷ [])) a.0.is ∙ append_assoc a.0.before (receive a.0.packet ∷ a.0.after) (e ∷ []);
      sound = a.0.sound;
    },
    came_more c es e gs a.1,
  )

  module _ (p< : p < most_peers) (c : Config) (promise : Promised W Config U c) where
    abbrev pub header : List ℕ → Reading W
    header k = U.header c k

    abbrev pub judge : ℕ → Note → List ℕ → Verdict W
    judge q t f = U.judge c q t f

    pub listed : (k : List ℕ) → Listed W (header k)
    listed k = kept-listed W (header k) (promise.kept k)

    abbrev pub world : State bytes_of → World Config
    world s = record { ends = record { config = c; peers = s.peers }; mem = s.mem }

    -- what holds after the events so far
    pub record Inv (past : List Event) (s : State bytes_of) (g : State ghost) (L : Log) : Type 0 where
      pub sim : Sim bytes_of ghost p s g
      pub logs : Logs p (get_or g.peers p no_row).slots g.mem L
      pub came : (t : ℕ) → Came c past (L t)

    -- what the log gains came in the run
    enters_came : (past : List Event) (L : Log) (g : Seg) (x : Choice) → CameIn W Config U p c past g → ((t : ℕ) → Came c past (L t)) → (t : ℕ)
        → Came c past (enters L g x t)
    enters_came past L g (reject r) i a t = a t
    enters_came past L g (old s) i a t = case_b (eqb t s) (λ q. rw q (i, a s)) (λ q. rw q (a t))
    enters_came past L g (fresh s) i a t = case_b (eqb t s) (λ q. rw q (i, tt)) (λ q. rw q (a t))

    entered_came : (past : List Event) (L : Log) (g : Seg) (x : Choice) (o : Outcome) → CameIn W Config U p c past g → ((t : ℕ) → Came c past (L t))
        → (t : ℕ) → Came c past (entered L g x o t)
    entered_came past L g x (Rejected r) i a t = a t
    entered_came past L g x Pending i a t = enters_came past L g x i a t
    entered_came past L g x (Complete s) i a t = enters_came past L g x i a t
    entered_came past L g x NoMemory i a t = a t

    seen_came : (past : List Event) (s : State bytes_of) (L : Log) (x : Reading W)
        → ((q : ℕ) (g : Seg) → x ≡ segment q g → q ≡ p → CameIn W Config U p c past g) → ((t : ℕ) → Came c past (L t)) → (t : ℕ)
        → Came c past (log_seen W Config U p (world s) L x t)
    seen_came past s L (other_sender a) i h t = h t
    seen_came past s L (direct q a) i h t = h t
    seen_came past s L (segment q g) i h t =
        case_b (eqb q p)
        (λ e. rw e (entered_came past L g (chosen (get_or s.peers p no_row).slots g) (taking W Config U p (world s) g).outcome
        (i q g refl (eqb-true q p e)) h t))
        (λ e. rw e (h t))

    -- the real row and outcome are the ghost's
    logged-same : (s : State bytes_of) (g : State ghost) (L : Log) (x : Seg) → Sim bytes_of ghost p s g
        → logged L (get_or s.peers p no_row).slots x (taking W Config U p (world s) x).outcome
        ≡ logged L (get_or g.peers p no_row).slots x (take_segment ghost p (get_or g.peers p no_row) g.mem x).outcome
    logged-same s g L x h =
        let r : get_or s.peers p no_row ≡ get_or g.peers p no_row = ap (λ (l : List Slot). record { slots = l }) h.row in
        let l : Alike bytes_of ghost p x.frame_length (take_segment bytes_of p (get_or s.peers p no_row) s.mem x)
        (take_segment ghost p (get_or s.peers p no_row) g.mem x) =
        take_alike bytes_of ghost bytes_laws ghost_laws p p< (get_or s.peers p no_row) s.mem g.mem x h.same in
        rw (take_in_lem p (get_or s.peers p no_row) s.mem x p< h.same.ok_a, l.outcome, r)

    mine_logs : (s : State bytes_of) (g : State ghost) (L : Log) (x : Reading W) → mine W p x ≡ true → Sim bytes_of ghost p s g
        → Logs p (get_or g.peers p no_row).slots g.mem L
        → Logs p (get_or (react W judge ghost g x).state.peers p no_row).slots (react W judge ghost g x).state.mem (log_seen W Config U p (world s) L x)
    mine_logs s g L (other_sender a) m h l = l
    mine_logs s g L (direct q a) m h l = l
    mine_logs s g L (segment q x) m h l =
        let z : q ≡ p = eqb-true q p m in
        let o : Effect ghost = take_segment ghost p (get_or g.peers p no_row) g.mem x in
        let r : get_or (set g.peers p o.row) p no_row ≡ o.row = get_or-set_same g.peers p o.row no_row (omega (arith, h.eight_b)) in
        rw (m, z, logged-same s g L x h) (rw r (take_logs p (get_or g.peers p no_row) g.mem L x l).logs)

    other_log : (s : State bytes_of) (L : Log) (x : Reading W) → mine W p x ≡ false → log_seen W Config U p (world s) L x ≡ L
    other_log s L (other_sender a) m = refl
    other_log s L (direct q a) m = refl
    other_log s L (segment q x) m = rw m

    -- one event
    pub step : (past : List Event) (s : State bytes_of) (g : State ghost) (L : Log) (e : Event) → Inv past s g L
        → Inv (past ++ (e ∷ [])) (after W judge bytes_of header s e) (run W judge ghost header g (cond (keeps (own W header p) e) (e ∷ []) []))
        (log_next W Config U p (world s) L e)
    step past s g L tick h =
        record {
          sim = event_sim W judge bytes_of ghost bytes_laws ghost_laws header listed p p< s g tick h.sim;
          logs = rw (rows-older g.peers p) (tick_logs p _ _ L h.logs);
          came = λ t. came_more c past tick (L t) (h.came t);
        }
    step past s g L (receive k) h =
        record {
          sim = event_sim W judge bytes_of ghost bytes_laws ghost_laws header listed p p< s g (receive k) h.sim;
          logs =
              case_b (mine W p (header k))
              (λ m. rw m (mine_logs s g L (header k) m h.sim h.logs))
              (λ m. rw (m, other_log s L (header k) m) h.logs);
          came = seen_came (past ++ (receive k ∷ [])) s L (header k)
              (λ q x e z. record { before = past; packet = k; after = []; is = refl; sound = e ∙ ap (λ (n : ℕ). segment n x) z })
              (λ t. came_more c past (receive k) (L t) (h.came t));
        }

    -- a run comes to a state of which it still holds
    pub record Reach (past es : List Event) (s : State bytes_of) (L : Log) : Type 0 where
      pub state : State bytes_of
      pub ghosts : State ghost
      pub is : runs W Config U (world s) es ≡ world state
      pub inv : Inv (past ++ es) state ghosts (log_run W Config U p (world s) L es)

    pub reach : (es past : List Event) (s : State bytes_of) (g : State ghost) (L : Log) → Inv past s g L → Reach past es s L
    unfolding runs next receives
    reach [] past s g L h = record { state = s; ghosts = g; is = refl; inv = subst (λ (x : List Event). Inv x s g L) (sym (append-nil past)) h }
    reach (v ∷ es) past s g L h =
        let q : next W Config U (world s) v ≡ world (after W judge bytes_of header s v) = next-at W Config U c promise p p< s g v h.sim in
        let r : Reach (past ++ (v ∷ [])) es (after W judge bytes_of header s v) (log_next W Config U p (world s) L v) =
        reach es (past ++ (v ∷ [])) _ _ (log_next W Config U p (world s) L v) (step past s g L v h) in
        record {
          state = r.state;
          ghosts = r.ghosts;
          is = ap (λ (w : World Config). runs W Config U w es) q ∙ r.is;
          inv =
              subst (λ (x : List Event). Inv x r.state r.ghosts
              (log_run W Config U p (next W Config U (world s) v) (log_next W Config U p (world s) L v) es)) (append_assoc past (v ∷ []) es)
              (subst (λ (w : World Config). Inv ((past ++ (v ∷ [])) ++ es) r.state r.ghosts
              (log_run W Config U p w (log_next W Config U p (world s) L v) es)) (sym q) r.inv);
        }

    pub log_snoc : (es : List Event) (w : World Config) (L : Log) (e : Event)
        → log_run W Config U p w L (es ++ (e ∷ [])) ≡ log_next W Config U p (runs W Config U w es) (log_run W Config U p w L es) e
    unfolding runs
    log_snoc [] w L e = refl
    log_snoc (v ∷ es) w L e = log_snoc es (next W Config U w v) (log_next W Config U p w L v) e

    -- one more packet, which carries segment x of peer p's
    module _ (past : List Event) (s : State bytes_of) (g : State ghost) (L : Log) (h : Inv past s g L) (k : List ℕ) (x : Seg) (e : header k ≡ segment p x) where
      abbrev pub row : Peer
      row = get_or s.peers p no_row

      abbrev pub ghostly : Effect ghost
      ghostly = take_segment ghost p row g.mem x

      pub in_memory : take_in p row s.mem x ≡ take_segment bytes_of p row s.mem x
      in_memory = take_in_lem p row s.mem x p< h.sim.same.ok_a

      pub alike : Alike bytes_of ghost p x.frame_length (take_segment bytes_of p row s.mem x) ghostly
      alike = take_alike bytes_of ghost bytes_laws ghost_laws p p< row s.mem g.mem x h.sim.same

      pub same_outcome : (taking W Config U p (world s) x).outcome ≡ ghostly.outcome
      same_outcome = ap (λ (o : Effect bytes_of). o.outcome) in_memory ∙ alike.outcome

      pub log_now : log_next W Config U p (world s) L (receive k) ≡ logged L row.slots x ghostly.outcome
      log_now = rw (e, eq-eqb p p refl, same_outcome)

      kept_log : Logged p x ghostly (log_next W Config U p (world s) L (receive k))
      kept_log = rw log_now (take_logs p row g.mem L x (subst (λ (r : List Slot). Logs p r g.mem L) (sym h.sim.row) h.logs))

      -- the frame in the memory is made up of the segments of its log
      pub completes : (t : ℕ) → (taking W Config U p (world s) x).outcome ≡ Complete t → (i : ℕ) → i < x.frame_length
          → OneOf (log_next W Config U p (world s) L (receive k) t) i
          (get_or (frame_in bytes_of (take_segment bytes_of p row s.mem x).mem (slot_no p t) x.frame_length) i 0)
      completes t o i l =
          let w = kept_log.pieced t (sym same_outcome ∙ o) in
          rw (alike.frame t (rw in_memory at o)) (pieced_byte p t x ghostly.mem (log_next W Config U p (world s) L (receive k) t) w.0 w.1 i l)

    pub begin : (m : List ℕ) → 55296 ≤ length m → Inv [] (start bytes_of m) ghost_start (λ t. [])
    begin m o =
        let row : (get_or empty_rows p no_row).slots ≡ empty_row = empty-at p p< in
        let no_slot : (s : ℕ) → s < most_slots → get_or (get_or empty_rows p no_row).slots s free ≡ free = λ s l. rw row (empty-free s l) in
        record {
          sim = begins W Config U c promise p p< m o;
          logs = record { four = rw row; pieces = λ s l. refl; all_of = λ s l e. clash (cc (no_slot s l)); all_apart = λ s l e. clash (cc (no_slot s l)) };
          came = λ t. tt;
        }

    abbrev pub from : List ℕ → World Config
    from m = world (start bytes_of m)

    pub reached : (m : List ℕ) → 55296 ≤ length m → (es : List Event) → Reach [] es (start bytes_of m) (λ t. [])
    reached m o es = reach es [] (start bytes_of m) ghost_start (λ t. []) (begin m o)
