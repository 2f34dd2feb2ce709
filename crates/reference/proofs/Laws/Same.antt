-- The proof of `Same`: for each of the eight peers, the bytes of the first one's memory simulate the memory of pieces (reassembly, Laws/Runs), and that matches
-- the reference's list of frames (Match.antt).
use Rattle.std.specs.Prelude.{◌≡◌, refl, ◌≢◌, false, List, [], ◌∷◌, map, ℕ, ◌+◌, ◌-◌, ◌≤◌, ◌<◌, length, get_or, set, replicate, eqb}
use Rattle.std.proofs.Common.{sym, ap, subst, ◌∙◌, arith, length-set, get_or-set_same, get_or-set_other, le-ltb, eqb-true, eq-eqb}
use Rattle.std.proofs.Math.Option.{some}
use Rattle.std.proofs.lemmas.List.{length-map, get_or-replicate}
use Rattle.std.proofs.Math.ListN.{get_or-map}
use Rattle.std.proofs.lemmas.Bool.{eqb-false}
use Rattle.reassembly.proofs.Laws.Base.{case_b, clash}
use Rattle.reassembly.specs.Slots.{Note, no_row, free, empty_row, empty_rows}
use Rattle.reassembly.specs.declared.slot.Peer.{Peer}
use Rattle.reassembly.specs.declared.take.Outcome.{Outcome}
use Rattle.reassembly.specs.declared.take.Outcome.TheVariants.{Rejected, Pending, Complete, NoMemory}
use Rattle.reassembly.specs.Take.{slot_no, Seg, Effect, frame_in, take_segment}
use Rattle.reassembly.specs.Store.{slot_start, bytes_of}
use Rattle.reassembly.specs.Receive.{Place, view_of, Answers, Answer, bare, Event, receive, tick, Verdict, bad, good, Reading, other_sender, direct, segment}
use Rattle.reassembly.specs.Receive.{frame_answer, take_answer}
use Rattle.reassembly.specs.SetUp.{Layers, Kept, Promised, Endpoint, World, set_up}
use Rattle.reassembly.proofs.Laws.Answers.{view_packet, bad_reply, bad-bytes, good_reply, good-bytes, rejected_reply, rejected-bytes, pending_reply}
use Rattle.reassembly.proofs.Laws.Answers.{pending-bytes, complete_reply}
use Rattle.reassembly.proofs.Laws.TakeFacts.{length-frame}
use Rattle.reassembly.proofs.Laws.Store.{bytes_laws}
use Rattle.reassembly.proofs.Laws.Runs.{State, fill, react, after, mine, Listed, Sim, mine_sim, event_sim, rows-older}
use Rattle.reassembly.proofs.Laws.Ghost.{ghost, ghost_laws}
use Rattle.reassembly.proofs.Laws.NonInterference.{empty-at, empty-free, ghost_start, start_sim}
use Rattle.reassembly.proofs.Laws.NonInterference as N
use Rattle.reassembly.proofs.Laws.Claim.{set_up-rows, kept-listed, next-at, answer_is_at, seg-fill}
use Rattle.reference.proofs.Laws.Keyed.{find-nothing}
use Rattle.reference.specs.Reassembler.{Frame, older, Result, too_many, taken}
use Rattle.reference.specs.Run as Q
use Rattle.reference.specs.Run.{rebuilt_at, need, start, Reply, said, said32, judged, replied, heard, hears, replies}
use Rattle.reference.specs.Calls.{replies_in}
use Rattle.reference.proofs.Laws.Match.{Match, tick_match, result_of, Agrees, take_same}
use Rattle.reference.specs.Same.{Compared, tells, first_tells, reply_tells, Never32, AsFirst, Same, SameCalls, SameAny}

older-peers : (peers : List (List Frame)) (q : ℕ) → get_or (map older peers) q [] ≡ older (get_or peers q [])
unfolding older
older-peers peers q = get_or-map older peers q []

empty_match : (p : ℕ) → Match p empty_row (λ k. []) []
empty_match p =
    record {
      four = refl;
      apart = λ s t ls lt ps pt e. let z : get_or empty_row s free ≡ free = empty-free s ls in clash (cc);
      distinct = tt;
      unknown = λ id f. find-nothing _ id;
      known = λ s l t. let z : get_or empty_row s free ≡ free = empty-free s l in clash (cc);
    }

-- an answer that lies in the packet
in_packet : (W : Answers) (k : List ℕ) (a : W.A) → (W.place a).in_lent_memory ≡ false
    → fill W k (bare W a) ≡ record { reply = a; bytes = view_of k [] (W.place a) }
in_packet W k a e = rw (view_packet k [] (W.place a) e, e)

module _ (W : Answers) (R : Compared W) (Config : Type 0) (U : Layers W Config) (c : Config) (promise : Promised W Config U c) where
  abbrev header : List ℕ → Reading W
  header k = U.header c k

  abbrev judge : ℕ → Note → List ℕ → Verdict W
  judge q t f = U.judge c q t f

  listed : (k : List ℕ) → Listed W (header k)
  listed k = kept-listed W (header k) (promise.kept k)

  -- ---- one peer, and all

  record OnePeer (q : ℕ) (s : State bytes_of) (fs : List Frame) : Type 0 where
    pieces : State ghost
    sim : Sim bytes_of ghost q s pieces
    match : Match q (get_or pieces.peers q no_row).slots pieces.mem fs

  record All (s : State bytes_of) (peers : List (List Frame)) : Type 0 where
    eight : length peers ≡ 8
    each : (q : ℕ) → q < 8 → OnePeer q s (get_or peers q [])

  abbrev state : List (List Frame) → Q.State W Config U
  state peers = record { config = c; peers = peers }

  tick-all : (s : State bytes_of) (peers : List (List Frame)) → All s peers → All (after W judge bytes_of header s tick) (map older peers)
  tick-all s peers h =
      record {
        eight = length-map peers older ∙ h.eight;
        each = λ q l.
            let x : OnePeer q s (get_or peers q []) = h.each q l in
            record {
              pieces = after W judge ghost header x.pieces tick;
              sim = event_sim W judge bytes_of ghost bytes_laws ghost_laws header listed q l s x.pieces tick x.sim;
              match =
                  rw (older-peers peers q, rows-older x.pieces.peers q)
                  (tick_match q (get_or x.pieces.peers q no_row).slots x.pieces.mem (get_or peers q []) x.match);
            };
      }

  -- a segment of peer q's
  module _ (s : State bytes_of) (peers : List (List Frame)) (h : All s peers) (q : ℕ) (g : Seg) (q< : q < 8)
      (few : (taken (get_or peers q []) g).result ≢ too_many) where
    abbrev x : OnePeer q s (get_or peers q [])
    x = h.each q q<

    abbrev o : Effect ghost
    o = take_segment ghost q (get_or x.pieces.peers q no_row) x.pieces.mem g

    agrees : Agrees q g o (taken (get_or peers q []) g)
    agrees = take_same q (get_or x.pieces.peers q no_row) x.pieces.mem (get_or peers q []) g few x.match

    frame-told : (v : Verdict W) (k n : ℕ) (frame : List ℕ) → length frame ≡ n
        → reply_tells W R Config U (said (judged W Config U v frame)) ≡ some (tells W R (frame_answer W v k n frame))
    frame-told (bad b) k n frame e = rw (bad_reply W b k n frame, bad-bytes W b k n frame)
    frame-told (good v) k n frame e =
        rw (good_reply W v k n frame, good-bytes W v k n frame, e, R.no_place v (rebuilt_at + 18) (slot_start k + 18) (n - 18))

    result_told : (e : Effect ghost) (r : Outcome) → result_of q g e r ≢ too_many
        → reply_tells W R Config U (replied W Config U c q (result_of q g e r)) ≡ some (tells W R (take_answer W judge ghost q g e r))
    result_told e (Rejected r) n = rw (rejected_reply W judge ghost q g e r, rejected-bytes W judge ghost q g e r)
    result_told e Pending n = rw (pending_reply W judge ghost q g e, pending-bytes W judge ghost q g e)
    result_told e (Complete t) n =
        let frame : List ℕ = frame_in ghost e.mem (slot_no q t) g.frame_length in
        frame-told (judge q e.note frame) (slot_no q t) g.frame_length frame (length-frame ghost e.mem (slot_no q t) g.frame_length)
        ∙ ap (λ (a : Answer W). some (tells W R a)) (sym (complete_reply W judge ghost q g e t))
    result_told e NoMemory n = absurd (n refl)

    segment_reply : (k : List ℕ) → header k ≡ segment q g
        → reply_tells W R Config U (replied W Config U c q (taken (get_or peers q []) g).result)
        ≡ some (tells W R (fill W k (react W judge bytes_of s (header k)).answer))
    segment_reply k e =
        let f : fill W k (react W judge bytes_of s (header k)).answer ≡ (react W judge bytes_of s (header k)).answer =
        seg-fill W Config U c promise q q< s x.pieces k q g e x.sim in
        let a : (react W judge bytes_of s (segment q g)).answer ≡ take_answer W judge ghost q g o o.outcome =
        (mine_sim W judge bytes_of ghost bytes_laws ghost_laws header listed q q< s x.pieces (segment q g) q< (eq-eqb q q refl) x.sim).0 in
        let n : result_of q g o o.outcome ≢ too_many = λ z. few (agrees.result ∙ z) in
        ap (λ (r : Result). reply_tells W R Config U (replied W Config U c q r)) agrees.result
        ∙ result_told o o.outcome n
        ∙ ap (λ (b : Answer W). some (tells W R b)) (sym a ∙ ap (λ (y : Reading W). (react W judge bytes_of s y).answer) (sym e) ∙ sym f)

    segment-all : (k : List ℕ) → header k ≡ segment q g
        → All (react W judge bytes_of s (segment q g)).state (set peers q (taken (get_or peers q []) g).frames)
    segment-all k e =
        record {
          eight = length-set peers q (taken (get_or peers q []) g).frames ∙ h.eight;
          each = λ t l. case_b (eqb q t) (λ m. rw (← eqb-true q t m) own-peer) (λ m. other-peer t l m);
        }
      where
        own-peer : OnePeer q (react W judge bytes_of s (segment q g)).state (get_or (set peers q (taken (get_or peers q []) g).frames) q [])
        own-peer =
            record {
              pieces = (react W judge ghost x.pieces (segment q g)).state;
              sim = (mine_sim W judge bytes_of ghost bytes_laws ghost_laws header listed q q< s x.pieces (segment q g) q< (eq-eqb q q refl) x.sim).1;
              match =
                  rw (
                    get_or-set_same peers q (taken (get_or peers q []) g).frames [] (omega (arith, h.eight)),
                    get_or-set_same x.pieces.peers q o.row no_row (omega (arith, x.sim.eight_b)),
                  ) agrees.match;
            }

        other-peer : (t : ℕ) → t < 8 → eqb q t ≡ false
            → OnePeer t (react W judge bytes_of s (segment q g)).state (get_or (set peers q (taken (get_or peers q []) g).frames) t [])
        other-peer t l m =
            let y : OnePeer t s (get_or peers t []) = h.each t l in
            let n : t ≢ q = λ z. eqb-false q t m (sym z) in
            let not-mine : mine W t (header k) ≡ false = rw e m in
            let v : Sim bytes_of ghost t (react W judge bytes_of s (header k)).state y.pieces =
            rw not-mine at (event_sim W judge bytes_of ghost bytes_laws ghost_laws header listed t l s y.pieces (receive k) y.sim) in
            record {
              pieces = y.pieces;
              sim = rw e at v;
              match = rw (get_or-set_other peers q t (taken (get_or peers q []) g).frames [] n) y.match;
            }

  -- ---- one packet

  record Step (s : State bytes_of) (peers : List (List Frame)) (k : List ℕ) (y : Reading W) : Type 0 where
    reply : reply_tells W R Config U (heard W Config U (state peers) k y).reply ≡ some (tells W R (fill W k (react W judge bytes_of s y).answer))
    config : (heard W Config U (state peers) k y).left.config ≡ c
    all : All (react W judge bytes_of s y).state (heard W Config U (state peers) k y).left.peers

  packet-told : (k : List ℕ) (a : W.A) → (W.place a).in_lent_memory ≡ false
      → reply_tells W R Config U (said (record { reply = a; bytes = view_of k [] (W.place a) })) ≡ some (tells W R (fill W k (bare W a)))
  packet-told k a e = ap (λ (b : Answer W). some (tells W R b)) (sym (in_packet W k a e))

  packet : (s : State bytes_of) (peers : List (List Frame)) (k : List ℕ) (y : Reading W) → header k ≡ y → Kept W y
      → (heard W Config U (state peers) k y).reply ≢ said32 → All s peers → Step s peers k y
  packet s peers k (other_sender a) e kept few h =
      record { reply = packet-told k a (ap (λ (x : Place). x.in_lent_memory) kept); config = refl; all = h }
  packet s peers k (direct q a) e kept few h = record { reply = packet-told k a kept.1; config = refl; all = h }
  packet s peers k (segment q g) e kept few h =
      let n : (taken (get_or peers q []) g).result ≢ too_many = λ z. few (ap (replied W Config U c q) z) in
      record {
        reply = rw e at (segment_reply s peers h q g kept n k e);
        config = refl;
        all = segment-all s peers h q g kept n k e;
      }

  -- ---- a run

  hears_is : (lent : ℕ) → need ≤ lent → (peers : List (List Frame)) (k : List ℕ)
      → hears W Config U lent (state peers) k ≡ heard W Config U (state peers) k (header k)
  unfolding hears
  hears_is lent l peers k = rw (le-ltb lent need l)

  never_head : (r : Reply W Config U) (rs : List (Reply W Config U)) → Never32 W R Config U (r ∷ rs) → r ≢ said32
  never_head (said a) rs n z = clash (cc)
  never_head said32 rs n z = n

  never_tail : (r : Reply W Config U) (rs : List (Reply W Config U)) → Never32 W R Config U (r ∷ rs) → Never32 W R Config U rs
  never_tail (said a) rs n = n
  never_tail said32 rs n = absurd n

  abbrev world : State bytes_of → World Config
  world s = record { ends = record { config = c; peers = s.peers }; mem = s.mem }

  zero< : 0 < 8
  zero< = omega arith

  left_is : (w : Q.State W Config U) → w.config ≡ c → w ≡ state w.peers
  left_is w e = ap (λ (x : Config). record { config = x; peers = w.peers }) e

  joins : {A : Type 0} (a b : A) (l r : List A) → a ≡ b → l ≡ r → a ∷ l ≡ b ∷ r
  joins a b l r p q = cc (p, q)

  run-same : (lent : ℕ) → need ≤ lent → (es : List Event) (s : State bytes_of) (peers : List (List Frame)) → All s peers
      → AsFirst W R Config U (replies W Config U lent (state peers) es) (world s) es
  run-same lent l [] s peers h n = refl
  run-same lent l (tick ∷ es) s peers h n =
      let y : OnePeer 0 s (get_or peers 0 []) = h.each 0 zero< in
      run-same lent l es (after W judge bytes_of header s tick) (map older peers) (tick-all s peers h) n
      ∙ ap (λ (z : World Config). map some (first_tells W R Config U z es)) (sym (next-at W Config U c promise 0 zero< s y.pieces tick y.sim))
  run-same lent l (receive k ∷ es) s peers h n =
      let y : OnePeer 0 s (get_or peers 0 []) = h.each 0 zero< in
      let e : hears W Config U lent (state peers) k ≡ heard W Config U (state peers) k (header k) = hears_is lent l peers k in
      let first : Reply W Config U = (heard W Config U (state peers) k (header k)).reply in
      let left : Q.State W Config U = (heard W Config U (state peers) k (header k)).left in
      let rest : List (Reply W Config U) = replies W Config U lent left es in
      let n' : Never32 W R Config U ((heard W Config U (state peers) k (header k)).reply
      ∷ replies W Config U lent (heard W Config U (state peers) k (header k)).left es) = rw e at n in
      let d : Step s peers k (header k) = packet s peers k (header k) refl (promise.kept k) (never_head first rest n') h in
      let w : left ≡ state left.peers = left_is left d.config in
      let r = run-same lent l es (react W judge bytes_of s (header k)).state left.peers d.all
      (subst (λ (z : Q.State W Config U). Never32 W R Config U (replies W Config U lent z es)) w (never_tail first rest n')) in
      rw e
      (joins _ _ _ _
      (d.reply ∙ ap (λ (a : Answer W). some (tells W R a)) (sym (answer_is_at W Config U c promise 0 zero< s y.pieces k y.sim)))
      (ap (λ (z : Q.State W Config U). map (reply_tells W R Config U) (replies W Config U lent z es)) w
      ∙ r
      ∙ ap (λ (z : World Config). map some (first_tells W R Config U z es)) (sym (next-at W Config U c promise 0 zero< s y.pieces (receive k) y.sim))))

  begin : (m : List ℕ) → 55296 ≤ length m → All (N.start bytes_of m) (replicate 8 [])
  begin m o =
      record {
        eight = refl;
        each = λ q l.
            record {
              pieces = ghost_start;
              sim = start_sim bytes_of q l m o;
              match = rw (empty-at q l, get_or-replicate {A = List Frame} 8 q [] [] l) (empty_match q);
            };
      }

  fixed : Same W R Config U (record { config = c; peers = empty_rows })
  fixed m o lent l es n = run-same lent l es (N.start bytes_of m) (replicate 8 []) (begin m o) n

-- THE THEOREM: of every set-up whose configuration's layers keep their promise, and whatever is compared of an answer
pub same : SameAny
same W R Config Adding adds U c calls promise =
    of (set_up Config Adding adds c calls) (set_up-rows Config Adding adds calls (record { config = c; peers = empty_rows })) promise
  where
    of : (e : Endpoint Config) → e.peers ≡ empty_rows → Promised W Config U e.config → Same W R Config U e
    of e q promise = subst (λ (r : List Peer). Same W R Config U (record { config = e.config; peers = r })) (sym q) (fixed W R Config U e.config promise)

-- calls that follow the definition tell the same
pub same_calls : (W : Answers) (R : Compared W) (Config : Type 0) (U : Layers W Config) (e : Endpoint Config)
    → ((m' : List ℕ) → need ≤ length m' → (es : List Event)
    → replies_in W Config U (record { config = e.config; peers = replicate 8 []; mem = m' }) es
    ≡ replies W Config U (length m') (start W Config U e.config) es)
    → Same W R Config U e → SameCalls W R Config U e
same_calls W R Config U e follow same m m' o o' es =
    subst (λ (rs : List (Reply W Config U)). AsFirst W R Config U rs (record { ends = e; mem = m }) es) (sym (follow m' o' es)) (same m o (length m') o' es)
