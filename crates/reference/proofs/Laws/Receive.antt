-- The stages of a receive add up to `hears_in`.
use Rattle.std.specs.Prelude.{◌≡◌, true, false, ◌||◌, List, [], map, ℕ, ◌+◌, ◌-◌, ◌≤◌, ◌<◌, get_or, set, leb, eqb, Result, Ok, Err}
use Rattle.std.proofs.Math.Path.{refl}
use Rattle.std.proofs.Common.{sym, ap, subst, ◌∙◌, arith}
use Rattle.std.proofs.Math.Option.{Option, none, some}
use Rattle.std.proofs.Math.ListN.{length, get_or-map}
use Rattle.std.proofs.Math.Dec.{ltb}
use borrow.Author.Tests.{ltb-false, eqb-true, lt-ltb, le-ltb}
use Rattle.reassembly.specs.Take.{Seg, seg_of}
use Rattle.reassembly.specs.Receive.{part_of_slice, Verdict, bad, good, Reading, other_sender, direct, segment}
use Rattle.reassembly.proofs.Laws.Base.{case_b, clash, or_false-l, or_false_r, map-set}
use Rattle.reassembly.proofs.Laws.Answers.{part-fits}
use Rattle.reassembly.proofs.Laws.TakeIn.{table-part}
use Rattle.endpoint.specs.Config.{Config, config_of}
use Rattle.endpoint.specs.Receive.{answers, layers, answer_at, judge_of, header_of}
use Rattle.endpoint.specs.Stages.{Offer, offer_at, brings_segment, untaken_of, opened_by, delivered_by}
use Rattle.endpoint.proofs.Laws.Stands.{StandsFor, opened-stands, stands-segment, judged_by}
use Rattle.endpoint.specs.declared.answer.Drop.{Drop}
use Rattle.endpoint.specs.declared.answer.Drop.TheVariants as D
use Rattle.endpoint.specs.declared.answer.Received.{Received}
use Rattle.endpoint.specs.declared.answer.Received.TheVariants as R
use Rattle.endpoint.specs.declared.config.Endpoint.{Endpoint}
use Rattle.endpoint.specs.declared.receive.Arrival.{Arrival}
use Rattle.endpoint.specs.declared.receive.Content.{Content}
use Rattle.endpoint.specs.declared.receive.Content.TheVariants as A
use Rattle.endpoint.specs.declared.receive.Due.{Due}
use Rattle.reference.specs.Keyed.{find}
use Rattle.reference.specs.Reassembler as Def
use Rattle.reference.specs.Reassembler.{Part, rebuilt, repeats, part_of, rejects, too_many, waits, complete}
use Rattle.reference.specs.Run.{need, rebuilt_at}
use Rattle.reference.specs.Layout.{kept, begins, bytes_at, stored, added, block_at, frame_in, identifier_in, buffers_of, spare, blank, Effect, settled_in}
use Rattle.reference.specs.Layout.{joined_in, opened_in, further_in, looked_in, taken_in, outcome_of, TakenAs}
use Rattle.reference.specs.Calls.{viewed, judged_in, replied_in, heard_in, hears_in, left_of, passed, reply_of}
use Rattle.reference.specs.Stages.{settled_as, HeardAs}
use Rattle.reference.proofs.Laws.Parts.{length-stored}
use Rattle.reference.proofs.Laws.Layout.{rebuilt-length}
use Rattle.reference.proofs.Laws.Tick.{no_buffers}
use Rattle.reference.specs.declared.answer.Refusal.{Refusal}
use Rattle.reference.specs.declared.answer.Refusal.TheVariants.{Dropped}
use Rattle.reference.specs.declared.buffer.Buffer.{Buffer}
use Rattle.reference.specs.declared.list.Buffers.{Buffers}
use Rattle.reference.specs.declared.reassembler.Reassembler.{Reassembler}
use Rattle.reference.specs.declared.take.Progress.{Progress}
use Rattle.reference.specs.declared.take.Progress.TheVariants as P

-- ---- taking leaves a memory of the same length, and a complete frame is as long as its segments say

abbrev Sized : ℕ → Def.Result → Type 0
Sized n (rejects r) = Unit {0}
Sized n too_many = Unit {0}
Sized n waits = Unit {0}
Sized n (complete note frame) = (length frame ≡ n) × ((32 ≤ n) × (n ≤ 1532))

record Keeps (n : ℕ) (m : List ℕ) (x : Effect) : Type 0 where
  pub sized : Sized n x.result
  pub room : length x.mem ≡ length m

settled-keeps : (bs : List Buffer) (m m' : List ℕ) (b : Buffer) (gs : List Part) (n : ℕ) → 32 ≤ n → n ≤ 1532 → length m' ≡ length m → (x : Option (List ℕ))
    → rebuilt gs n ≡ x → Keeps n m (settled_in bs m' b gs x)
settled-keeps bs m m' b gs n l u q none e = record { sized = tt; room = q }
settled-keeps bs m m' b gs n l u q (some frame) e =
    record { sized = (rebuilt-length gs n frame e, (l, u)); room = length-stored m' rebuilt_at frame ∙ q }

module _ (p : ℕ) (bs : List Buffer) (m : List ℕ) (g : Seg) where
  abbrev after : Buffer → List ℕ
  after b = stored m (block_at p b.block + begins b.extents (kept b)) g.bytes

  abbrev parts : Buffer → List Part
  parts b = (frame_in p (after b) (added b g.offset (length g.bytes))).parts

  joined_keeps : (b : Buffer) → 32 ≤ b.frame_length → b.frame_length ≤ 1532 → Keeps b.frame_length m (joined_in p bs m g b)
  unfolding joined_in
  joined_keeps b l u =
      settled-keeps bs m (after b) (added b g.offset (length g.bytes)) (parts b) b.frame_length l u
      (length-stored m (block_at p b.block + begins b.extents (kept b)) g.bytes) (rebuilt (parts b) b.frame_length) refl

  module _ (l : 32 ≤ g.frame_length) (u : g.frame_length ≤ 1532) where
    looked-keeps : (x : Option Buffer) → Keeps g.frame_length m (looked_in p bs m g x)
    unfolding opened_in further_in
    looked-keeps none =
        case_b (leb 4 (length bs))
        (λ a. rw a (record { sized = tt; room = refl }))
        (λ a. rw a (joined_keeps (blank (spare bs) g.identifier g.frame_length) l u))
    looked-keeps (some b) =
        case_b (eqb b.frame_length g.frame_length)
        (λ a. let z : b.frame_length ≡ g.frame_length = eqb-true b.frame_length g.frame_length a in
        case_b (repeats (frame_in p m b).parts (part_of g))
        (λ c. rw (a, c) (record { sized = tt; room = refl }))
        (λ c. case_b (leb 64 (kept b))
        (λ d. rw (a, c, d) (record { sized = tt; room = refl }))
        (λ d. rw (a, c, d) (subst (λ (n : ℕ). Keeps n m (joined_in p bs m g b)) z (joined_keeps b (omega arith) (omega arith))))))
        (λ a. rw a (record { sized = tt; room = refl }))

  taken-keeps : Keeps g.frame_length m (taken_in p bs m g)
  unfolding taken_in
  taken-keeps =
      case_b (eqb (length g.bytes) 0)
      (λ a. rw a (record { sized = tt; room = refl }))
      (λ a. case_b (ltb g.frame_length 32 || ltb 1532 g.frame_length)
      (λ b. rw (a, b) (record { sized = tt; room = refl }))
      (λ b. case_b (ltb g.frame_length (g.offset + length g.bytes))
      (λ c. rw (a, b, c) (record { sized = tt; room = refl }))
      (λ c. rw (a, b, c)
      (looked-keeps (ltb-false g.frame_length 32 (or_false-l (ltb g.frame_length 32) (ltb 1532 g.frame_length) b))
      (ltb-false 1532 g.frame_length (or_false_r (ltb g.frame_length 32) (ltb 1532 g.frame_length) b)) (find identifier_in g.identifier bs)))))

-- ---- the ways out of the answer

module _ (e : Endpoint) (p : ℕ) (o : Result Progress Refusal) (n : ℕ) (k m : List ℕ) where
  pub settled_refused : (why : Refusal) → o ≡ Err why → Err why ≡ settled_as e p o n k m
  unfolding settled_as
  settled_refused why q = rw q refl

  pub settled_pending : (x : Progress) → o ≡ Ok x → x ≡ P.Pending → Ok R.Pending ≡ settled_as e p o n k m
  unfolding settled_as
  settled_pending x q g = rw (q, g) refl

  pub settled-complete : (x : Progress) → o ≡ Ok x → x ≡ P.Complete → (f : Offer) (a : Result Received Drop)
      → f ≡ offer_at rebuilt_at (part_of_slice m rebuilt_at n) → a ≡ delivered_by e p f k m → passed a ≡ settled_as e p o n k m
  unfolding settled_as
  settled-complete x q g f a lies gave = rw (q, g, gave, lies) refl

-- ---- the reply is that of the run

verdict_is : (v : Verdict answers) (n : ℕ)
    → answer_at v (record { start = rebuilt_at + 18; length = n - 18; in_memory = true }) ≡ judged_in answers Config layers v n
verdict_is (bad d) n = refl
verdict_is (good t) n = refl

settled-replied : (e : Endpoint) (p : ℕ) (k m : List ℕ) (n : ℕ) (x : Def.Result) → need ≤ length m → Sized n x
    → settled_as e p (outcome_of x) n k m ≡ reply_of (replied_in answers Config layers (config_of e) p k m x)
unfolding settled_as
settled-replied e p k m n (rejects r) o s = refl
settled-replied e p k m n too_many o s = refl
settled-replied e p k m n waits o s = refl
settled-replied e p k m n (complete note frame) o s =
    let inside : rebuilt_at + n ≤ length m = omega (arith, s.1.1) in
    let lies : part_of_slice m rebuilt_at n ≡ bytes_at m rebuilt_at n = part-fits m rebuilt_at n inside ∙ sym (table-part m rebuilt_at n inside) in
    rw s.0
    (ap passed (judged_by e p k m rebuilt_at n (omega (arith, s.1.0)) inside note
    ∙ ap (λ (f : List ℕ). answer_at (judge_of (config_of e) p note f) (record { start = rebuilt_at + 18; length = n - 18; in_memory = true })) lies
    ∙ verdict_is (judge_of (config_of e) p note (bytes_at m rebuilt_at n)) n))

-- ---- a segment that is due: what taking it gave, and the memory that it left

module _ (r : Reassembler) (p : ℕ) (d : Due) (k m : List ℕ) (enough : need ≤ length m) (bytes : List ℕ)
    (are : bytes ≡ part_of_slice k d.start d.length) (o : Result Progress Refusal) (t : Buffers) (m' : List ℕ)
    (took : TakenAs (taken_in p (buffers_of (get_or r.peers p no_buffers)) m (seg_of d.header bytes)) o (buffers_of t) m')
    (a : Result Received Refusal) (gave : a ≡ settled_as r.endpoint p o d.header.frame_length k m') where
  abbrev g : Seg
  g = seg_of d.header (part_of_slice k d.start d.length)

  abbrev x : Effect
  x = taken_in p (get_or (map buffers_of r.peers) p []) m g

  same : TakenAs x o (buffers_of t) m'
  same = rw (get_or-map buffers_of r.peers p no_buffers, ← are) took

  pub due_out : HeardAs (heard_in answers Config layers (left_of r m) k (segment p g)) r (record { endpoint = r.endpoint; peers = set r.peers p t }) a m'
  due_out =
      let keeps : Keeps g.frame_length m x = taken-keeps p (get_or (map buffers_of r.peers) p []) m g in
      record {
        reply =
            gave
            ∙ ap (λ y. settled_as r.endpoint p y d.header.frame_length k m') same.outcome
            ∙ ap (settled_as r.endpoint p (outcome_of x.result) d.header.frame_length k) same.mem
            ∙ settled-replied r.endpoint p k x.mem g.frame_length x.result (omega (arith, keeps.room)) keeps.sized;
        left = rw (map-set buffers_of r.peers p t, same.buffers, same.mem);
        endpoint = refl;
      }

-- ---- a receive

module _ (r : Reassembler) (k m : List ℕ) where
  pub small_out : length m < need → HeardAs (hears_in answers Config layers (left_of r m) k) r r (Err (Dropped D.MemoryTooSmall)) m
  unfolding hears_in
  small_out l = rw (lt-ltb (length m) need l) (record { reply = refl; left = refl; endpoint = refl })

  module _ (enough : need ≤ length m) (v : Arrival) (opened : v ≡ opened_by r.endpoint k 55296) where
    stands : StandsFor r.endpoint k v (header_of (config_of r.endpoint) k)
    stands = rw opened (opened-stands r.endpoint k 55296 (omega arith))

    heard_is : hears_in answers Config layers (left_of r m) k ≡ heard_in answers Config layers (left_of r m) k (header_of (config_of r.endpoint) k)
    unfolding hears_in
    heard_is = rw (le-ltb (length m) need enough)

    direct-heard : (y : Reading answers) → StandsFor r.endpoint k v y → brings_segment v.content ≡ false
        → heard_in answers Config layers (left_of r m) k y
        ≡ record { reply = viewed answers Config layers k m (delivered_by r.endpoint v.peer (untaken_of v.content) k m); left = left_of r m }
    direct-heard (other_sender a) s q = rw (s.1.answer m)
    direct-heard (direct p a) s q = rw (s.1.answer m)
    direct-heard (segment p g) s q = clash (cc (s.content, q))

    -- no segment: the packet has its answer
    pub untaken_out : brings_segment v.content ≡ false → (f : Offer) (a : Result Received Drop) → f ≡ untaken_of v.content
        → a ≡ delivered_by r.endpoint v.peer f k m → HeardAs (hears_in answers Config layers (left_of r m) k) r r (passed a) m
    untaken_out q f a is gave =
        rw (heard_is, direct-heard (header_of (config_of r.endpoint) k) stands q) (record { reply = rw (gave, is) refl; left = refl; endpoint = refl })

    -- a segment: it is taken
    pub segment_out : (y : Content) (d : Due) (r' : Reassembler) (a : Result Received Refusal) (m' : List ℕ) → v.content ≡ Ok y → y ≡ A.Segment d
        → HeardAs (heard_in answers Config layers (left_of r m) k (segment v.peer (seg_of d.header (part_of_slice k d.start d.length)))) r r' a m'
        → HeardAs (hears_in answers Config layers (left_of r m) k) r r' a m'
    segment_out y d r' a m' q s out =
        rw (heard_is, stands-segment r.endpoint k v (header_of (config_of r.endpoint) k) d stands (q ∙ ap Ok s)) out
