-- One receive, one tick, and a run of them, over any memory that is asked as `Ops` says; and for one peer: the endpoint that sees every event, and another
-- that sees only the ticks and this peer's packets, agree on this peer throughout.
use Rattle.std.specs.Prelude.{◌≡◌, ◌≢◌, Bool, true, false, cond, ℕ, ◌≤◌, ◌<◌, length, set, eqb}
use Rattle.std.proofs.Math.Path.{refl, ap}
use Rattle.std.proofs.Common.{sym, ◌∙◌, arith, get_or-set_same}
use mathlib.Core.List.{List, [], ◌∷◌, ◌++◌, map}
use Rattle.std.proofs.Math.ListN.{get_or, length-set, get_or-map}
use Rattle.std.proofs.lemmas.List.{length-map}
use Rattle.std.proofs.Math.Seq.{get_or-set_other}
use borrow.Author.Tests.{eqb-true, eqb-false}
use Rattle.reassembly.proofs.Laws.Base.{case_b, either}
use Rattle.reassembly.specs.Slots.{Slot, Peer, Note, no_row, free, older, older_row, most_peers, most_slots}
use Rattle.reassembly.proofs.Laws.Slots.{slots_of, older-pending}
use Rattle.reassembly.specs.Take.{slot_no, Seg, Ops, Outcome, Rejected, Pending, Complete, NoMemory, Effect, take_segment}
use Rattle.reassembly.proofs.Laws.Memory.{Laws}
use Rattle.reassembly.specs.Receive.{row_of, Answers, Event, receive, tick, Answer, bare, Verdict, Reading, other_sender, direct, segment, take_answer}
use Rattle.reassembly.specs.Receive.{part_of_slice}
use Rattle.reassembly.proofs.Laws.Sim.{RowOk, Same, Alike, take_alike, take_apart, set_cases}
use Rattle.reassembly.specs.SetUp.{keeps, strike}

-- the rows and the memory
pub record State (O : Ops) : Type 0 where
  pub peers : List Peer
  pub mem : O.S

module _ (W : Answers) where
  -- an answer that names a part of the packet has its bytes from there
  -- Open: two cases of a place, of which an answer that needs no reassembly has one
  abbrev pub fill : List ℕ → Answer W → Answer W
  fill k a = cond (W.place a.reply).in_lent_memory a (record { reply = a.reply; bytes = part_of_slice k (W.place a.reply).start (W.place a.reply).len })

  module _ (judge : ℕ → Note → List ℕ → Verdict W) (O : Ops) where
    pub record Out : Type 0 where
      pub answer : Answer W
      pub state : State O

    -- Open: one case for each reading of a packet
    abbrev pub react : State O → Reading W → Out
    react e (other_sender a) = record { answer = bare W a; state = e }
    react e (direct p a) = record { answer = bare W a; state = e }
    react e (segment p g) =
        let o : Effect O = take_segment O p (get_or e.peers (row_of p) no_row) e.mem g in
        record { answer = take_answer W judge O p g o o.outcome; state = record { peers = set e.peers (row_of p) o.row; mem = o.mem } }

    module _ (header : List ℕ → Reading W) where
      -- Open: one case for each event
      abbrev pub after : State O → Event → State O
      after e tick = record { peers = map older_row e.peers; mem = e.mem }
      after e (receive k) = (react e (header k)).state

      -- the state that a list of events leaves
      abbrev pub run : State O → List Event → State O
      run e [] = e
      run e (ev ∷ evs) = run (after e ev) evs

pub strike_ext : (own own' : List ℕ → Bool) → ((k : List ℕ) → own k ≡ own' k) → (es : List Event) → strike own es ≡ strike own' es
unfolding strike
strike_ext own own' h [] = refl
strike_ext own own' h (tick ∷ es) = ap (λ (x : List Event). tick ∷ x) (strike_ext own own' h es)
strike_ext own own' h (receive k ∷ es) = cc (h k, strike_ext own own' h es)

module _ (W : Answers) where
  -- is the packet that was seen so peer p's
  -- Open: one case for each reading of a packet
  abbrev pub mine : ℕ → Reading W → Bool
  mine p (other_sender a) = false
  mine p (direct q a) = eqb q p
  mine p (segment q g) = eqb q p

  -- the header layer names a listed peer, of which there are at most eight
  abbrev pub Listed : Reading W → Type 0
  Listed (other_sender a) = Unit {0}
  Listed (direct q a) = q < most_peers
  Listed (segment q g) = q < most_peers

  module _ (header : List ℕ → Reading W) (p : ℕ) where
    abbrev pub own : List ℕ → Bool
    own k = mine p (header k)

    module _ (judge : ℕ → Note → List ℕ → Verdict W) (O : Ops) where
      abbrev pub answer1 : State O → Event → List (Answer W)
      answer1 e tick = []
      answer1 e (receive k) = cond (own k) (fill W k (react W judge O e (header k)).answer ∷ []) []

      -- the peer's answers in a run, in order
      abbrev pub answers : State O → List Event → List (Answer W)
      answers e [] = []
      answers e (ev ∷ evs) = answer1 e ev ++ answers (after W judge O header e ev) evs

-- a state that sees every event and one that sees this peer's alone
pub record Sim (A B : Ops) (p : ℕ) (e : State A) (g : State B) : Type 0 where
  pub rows_ok : (q : ℕ) → q < most_peers → RowOk (get_or e.peers q no_row).slots
  pub eight_a : length e.peers ≡ most_peers
  pub eight_b : length g.peers ≡ most_peers
  pub row : (get_or e.peers (row_of p) no_row).slots ≡ (get_or g.peers (row_of p) no_row).slots
  pub same : Same A B p (get_or e.peers (row_of p) no_row).slots e.mem g.mem

pub older-at : (r : List Slot) (s : ℕ) → get_or (map older r) s free ≡ older (get_or r s free)
unfolding older
older-at r s = get_or-map older r s free

pub row-older : (r : List Slot) → RowOk r → RowOk (map older r)
row-older r h =
    record {
      four = length-map r older ∙ h.four;
      sizes = λ s l t.
          let z : get_or (map older r) s free ≡ older (get_or r s free) = older-at r s in
          let b = older-pending (get_or r s free) (rw z at t) in
          rw (z, b.1) (h.sizes s l b.0);
    }

pub rows-older : (rows : List Peer) (q : ℕ) → (get_or (map older_row rows) q no_row).slots ≡ map older (get_or rows q no_row).slots
unfolding older_row
rows-older rows q = ap slots_of (get_or-map older_row rows q no_row)

module _ (W : Answers) (judge : ℕ → Note → List ℕ → Verdict W) (A B : Ops) (LA : Laws A) (LB : Laws B) (header : List ℕ → Reading W)
    (listed : (k : List ℕ) → Listed W (header k)) (p : ℕ) (p< : p < most_peers) where
  tick_sim : (e : State A) (g : State B) → Sim A B p e g → Sim A B p (after W judge A header e tick) (after W judge B header g tick)
  tick_sim e g h =
      record {
        rows_ok = λ q l. rw (rows-older e.peers q) (row-older _ (h.rows_ok q l));
        eight_a = length-map e.peers _ ∙ h.eight_a;
        eight_b = length-map g.peers _ ∙ h.eight_b;
        row = rows-older e.peers (row_of p) ∙ ap (map older) h.row ∙ sym (rows-older g.peers (row_of p));
        same =
            rw (rows-older e.peers (row_of p))
            (record {
              row_ok = row-older _ h.same.row_ok;
              ok_a = h.same.ok_a;
              ok_b = h.same.ok_b;
              agree = λ s l t.
                  let z : get_or (map older (get_or e.peers (row_of p) no_row).slots) s free ≡ older (get_or (get_or e.peers (row_of p) no_row).slots s free) =
                  older-at (get_or e.peers (row_of p) no_row).slots s in
                  let b = older-pending (get_or (get_or e.peers (row_of p) no_row).slots s free) (rw z at t) in
                  rw (z, b.1) (h.same.agree s l b.0);
            });
      }

  stored : (n : ℕ) (e : State A) (g : State B) (x : Effect A) (y : Effect B) → Sim A B p e g → Alike A B p n x y
      → Sim A B p (record { peers = set e.peers (row_of p) x.row; mem = x.mem }) (record { peers = set g.peers (row_of p) y.row; mem = y.mem })
  stored n e g x y h l =
      let r₁ : get_or (set e.peers (row_of p) x.row) (row_of p) no_row ≡ x.row =
      get_or-set_same e.peers (row_of p) x.row no_row (omega (arith, h.eight_a)) in
      let r₂ : get_or (set g.peers (row_of p) y.row) (row_of p) no_row ≡ y.row =
      get_or-set_same g.peers (row_of p) y.row no_row (omega (arith, h.eight_b)) in
      record {
        rows_ok = λ q k.
            either (set_cases e.peers (row_of p) x.row no_row q (omega (arith, h.eight_a)))
            (λ c. rw c.1 l.same.row_ok)
            (λ c. rw c.1 (h.rows_ok q k));
        eight_a = length-set e.peers (row_of p) x.row ∙ h.eight_a;
        eight_b = length-set g.peers (row_of p) y.row ∙ h.eight_b;
        row = ap slots_of (r₁ ∙ l.row ∙ sym r₂);
        same = rw r₁ l.same;
      }

  outcome-same : (x : Effect A) (y : Effect B) (g : Seg) (o : Outcome) → x.outcome ≡ o → Alike A B p g.frame_length x y
      → take_answer W judge A p g x o ≡ take_answer W judge B p g y o
  unfolding take_answer
  outcome-same x y g (Rejected r) q l = refl
  outcome-same x y g Pending q l = refl
  outcome-same x y g (Complete s) q l = rw (l.note, l.frame s q)
  outcome-same x y g NoMemory q l = refl

  -- the peer's own packet: the same answer, and they still agree
  pub mine_sim : (e : State A) (g : State B) (x : Reading W) → Listed W x → mine W p x ≡ true → Sim A B p e g
      → ((react W judge A e x).answer ≡ (react W judge B g x).answer) × Sim A B p (react W judge A e x).state (react W judge B g x).state
  mine_sim e g (other_sender a) li m h = (refl, h)
  mine_sim e g (direct q a) li m h = (refl, h)
  mine_sim e g (segment q x) li m h =
      rw (eqb-true q p m)
      (let r : get_or e.peers (row_of p) no_row ≡ get_or g.peers (row_of p) no_row = ap (λ (l : List Slot). record { slots = l }) h.row in
      let l : Alike A B p x.frame_length (take_segment A p (get_or e.peers (row_of p) no_row) e.mem x)
      (take_segment B p (get_or g.peers (row_of p) no_row) g.mem x) =
      rw (← r) (take_alike A B LA LB p p< (get_or e.peers (row_of p) no_row) e.mem g.mem x h.same) in (
        outcome-same _ _ x _ refl l ∙ ap (take_answer W judge B p x (take_segment B p (get_or g.peers (row_of p) no_row) g.mem x)) l.outcome,
        stored x.frame_length e g _ _ h l,
      ))

  -- another sender's packet: what the first one sees of it does not matter to the peer
  other_sim : (e : State A) (g : State B) (x : Reading W) → Listed W x → mine W p x ≡ false → Sim A B p e g → Sim A B p (react W judge A e x).state g
  unfolding slot_no
  other_sim e g (other_sender a) li m h = h
  other_sim e g (direct q a) li m h = h
  other_sim e g (segment q x) li m h =
      let w : Effect A = take_segment A q (get_or e.peers (row_of q) no_row) e.mem x in
      let o = take_apart A LA q li (get_or e.peers (row_of q) no_row) e.mem x (h.rows_ok (row_of q) (omega arith)) h.same.ok_a in
      let n : p ≢ q = λ z. eqb-false q p m (sym z) in
      let rows : row_of p ≢ row_of q = λ z. n (omega arith) in
      let r : get_or (set e.peers (row_of q) w.row) (row_of p) no_row ≡ get_or e.peers (row_of p) no_row =
      get_or-set_other e.peers (row_of q) (row_of p) _ no_row rows in
      let far : (s : ℕ) → s < most_slots → (t : ℕ) → t < most_slots → slot_no p s ≢ slot_no q t = λ s l t k w. n (omega arith) in
      record {
        rows_ok = λ t k.
            either (set_cases e.peers (row_of q) w.row no_row t (omega (arith, h.eight_a)))
            (λ c. rw c.1 o.1)
            (λ c. rw c.1 (h.rows_ok t k));
        eight_a = length-set e.peers (row_of q) _ ∙ h.eight_a;
        eight_b = h.eight_b;
        row = ap slots_of r ∙ h.row;
        same =
            rw r
            (record {
              row_ok = h.same.row_ok;
              ok_a = o.0.ok;
              ok_b = h.same.ok_b;
              agree = λ s l t.
                  let a = h.same.agree s l t in
                  let z : (get_or (get_or e.peers (row_of p) no_row).slots s free).frame_length ≤ 1532 = h.same.row_ok.sizes s l t in
                  record {
                    received = λ i k. cc (o.0.received (slot_no p s) i (far s l) (omega arith), a.received i k);
                    byte = λ i k w. cc (
                      o.0.byte (slot_no p s) i (far s l) (omega arith),
                      a.byte i k (cc (o.0.received (slot_no p s) i (far s l) (omega arith))),
                    );
                  };
            });
      }

  -- one event, and a list of them
  pub event_sim : (e : State A) (g : State B) (ev : Event) → Sim A B p e g
      → Sim A B p (after W judge A header e ev) (run W judge B header g (cond (keeps (own W header p) ev) (ev ∷ []) []))
  event_sim e g tick h = tick_sim e g h
  event_sim e g (receive k) h =
      case_b (mine W p (header k))
      (λ m. rw m (mine_sim e g (header k) (listed k) m h).1)
      (λ m. rw m (other_sim e g (header k) (listed k) m h))

  pub run_sim : (es : List Event) (e : State A) (g : State B) → Sim A B p e g
      → Sim A B p (run W judge A header e es) (run W judge B header g (strike (own W header p) es))
  unfolding strike
  run_sim [] e g h = h
  run_sim (ev ∷ es) e g h =
      case_b (keeps (own W header p) ev)
      (λ m. rw m (run_sim es _ _ (rw m at (event_sim e g ev h))))
      (λ m. rw m (run_sim es _ _ (rw m at (event_sim e g ev h))))

  -- the peer's answers are those of the run of its own packets and the ticks
  pub answers_sim : (es : List Event) (e : State A) (g : State B) → Sim A B p e g
      → answers W header p judge A e es ≡ answers W header p judge B g (strike (own W header p) es)
  unfolding strike
  answers_sim [] e g h = refl
  answers_sim (tick ∷ es) e g h = answers_sim es _ _ (tick_sim e g h)
  answers_sim (receive k ∷ es) e g h =
      case_b (mine W p (header k))
      (λ m. let s = mine_sim e g (header k) (listed k) m h in
      simp m (cc (s.0, answers_sim es _ _ s.1)))
      (λ m. simp m (answers_sim es _ _ (other_sim e g (header k) (listed k) m h)))
