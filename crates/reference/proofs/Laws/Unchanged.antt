-- A refusal changes nothing: neither the pending frames nor the memory, whatever they are.
use Rattle.std.specs.Prelude.{◌≡◌, refl, Bool, true, false, ◌||◌, get_or, leb, eqb}
use mathlib.Core.List.{List, [], ◌∷◌}
use Rattle.std.proofs.Math.Option.{Option, none, some}
use Prim.Native.Nat.{ℕ, ◌+◌, ◌≤◌}
use Rattle.std.proofs.Common.{arith}
use Rattle.std.proofs.Math.ListN.{length}
use Rattle.std.proofs.lemmas.List.{set-get_or}
use Rattle.std.proofs.Math.Dec.{ltb}
use borrow.Author.Tests.{ltb-false, eqb-true}
use Rattle.reassembly.proofs.Laws.Base.{case_b, clash, or_false-l, length-table}
use Rattle.reassembly.specs.Take.{Seg}
use Rattle.reassembly.specs.Receive.{Reading, other_sender, direct, segment, Verdict, bad, good}
use Rattle.endpoint.specs.Answer.{drop_code}
use Rattle.endpoint.specs.Config.{Config}
use Rattle.endpoint.specs.Receive.{answers, layers, judge_of}
use Rattle.endpoint.specs.Demand1.{◌among◌}
use Rattle.endpoint.proofs.Laws.Demand1Receive.{judge-bad}
use Rattle.endpoint.specs.declared.answer.Drop.{Drop}
use Rattle.reference.specs.Reassembler.{Part, rebuilt, repeats, Result, rejects, too_many, waits, complete, part_of, most_segments}
use Rattle.reference.specs.Keyed.{find}
use Rattle.reference.specs.Run.{need, rebuilt_at, said}
use Rattle.reference.specs.Layout.{kept, begins, stored, added, block_at, frame_in, identifier_in, spare, blank, bytes_at}
use Rattle.reference.specs.Layout.{Effect, settled_in, joined_in, opened_in, further_in, looked_in, taken_in}
use Rattle.reference.specs.Calls.{Left, judged_in, replied_in, heard_in, hears_in, reply_of, number_of}
use Rattle.reference.proofs.Laws.Layout.{rebuilt-length}
use Rattle.reference.specs.declared.buffer.Buffer.{Buffer}

-- ---- of a segment

-- what is refused leaves frames and memory; what is complete has at least the bytes of an STT header
abbrev Quiet : List Buffer → List ℕ → Effect → Result → Type 0
Quiet bs m e (rejects r) = (e.buffers ≡ bs) × (e.mem ≡ m)
Quiet bs m e too_many = (e.buffers ≡ bs) × (e.mem ≡ m)
Quiet bs m e waits = Unit {0}
Quiet bs m e (complete note frame) = 18 ≤ length frame

settled_quiet : (bs bs' : List Buffer) (m m' : List ℕ) (b : Buffer) (gs : List Part) (x : Option (List ℕ))
    → ((frame : List ℕ) → x ≡ some frame → 18 ≤ length frame) → Quiet bs m (settled_in bs' m' b gs x) (settled_in bs' m' b gs x).result
settled_quiet bs bs' m m' b gs none h = tt
settled_quiet bs bs' m m' b gs (some frame) h = h frame refl

module _ (p : ℕ) (bs : List Buffer) (m : List ℕ) (g : Seg) where
  joined_quiet : (b : Buffer) → 18 ≤ b.frame_length → Quiet bs m (joined_in p bs m g b) (joined_in p bs m g b).result
  unfolding joined_in
  joined_quiet b l =
      let m' : List ℕ = stored m (block_at p b.block + begins b.extents (kept b)) g.bytes in
      let b' : Buffer = added b g.offset (length g.bytes) in
      settled_quiet bs bs m m' b' (frame_in p m' b').parts (rebuilt (frame_in p m' b').parts b.frame_length)
      (λ frame e. omega (arith, rebuilt-length (frame_in p m' b').parts b.frame_length frame e))

  looked_quiet : (x : Option Buffer) → 18 ≤ g.frame_length → Quiet bs m (looked_in p bs m g x) (looked_in p bs m g x).result
  unfolding opened_in further_in
  looked_quiet none l =
      case_b (leb 4 (length bs)) (λ a. rw a (refl, refl)) (λ a. rw a (joined_quiet (blank (spare bs) g.identifier g.frame_length) l))
  looked_quiet (some b) l =
      case_b (eqb b.frame_length g.frame_length)
      (λ a. case_b (repeats (frame_in p m b).parts (part_of g))
      (λ r. rw (a, r) (refl, refl))
      (λ r. case_b (leb most_segments (kept b))
      (λ q. rw (a, r, q) (refl, refl))
      (λ q. rw (a, r, q) (joined_quiet b (omega (arith, eqb-true b.frame_length g.frame_length a))))))
      (λ a. rw a (refl, refl))

  taken_quiet : Quiet bs m (taken_in p bs m g) (taken_in p bs m g).result
  unfolding taken_in
  taken_quiet =
      case_b (eqb (length g.bytes) 0)
      (λ a. rw a (refl, refl))
      (λ a. case_b (ltb g.frame_length 32 || ltb 1532 g.frame_length)
      (λ b. rw (a, b) (refl, refl))
      (λ b. case_b (ltb g.frame_length (g.offset + length g.bytes))
      (λ c. rw (a, b, c) (refl, refl))
      (λ c. rw (a, b, c)
      (looked_quiet (find identifier_in g.identifier bs)
      (omega (arith, ltb-false g.frame_length 32 (or_false-l (ltb g.frame_length 32) (ltb 1532 g.frame_length) b)))))))

-- ---- of a receive

abbrev Open : ℕ → Bool
Open n = n among (0 ∷ 1 ∷ 28 ∷ 29 ∷ 12 ∷ 13 ∷ [])

wider : (n : ℕ) → n among (28 ∷ 29 ∷ 12 ∷ 13 ∷ []) ≡ true → Open n ≡ true
wider n e = case_b (eqb n 0) (λ a. rw a) (λ a. rw a (case_b (eqb n 1) (λ b. rw b) (λ b. rw b e)))

module _ (w : Left answers Config layers) (k : List ℕ) where
  judged_open : (v : Verdict answers) (n : ℕ) (m : List ℕ) → ((d : Drop) → v ≡ bad d → drop_code d among (28 ∷ 29 ∷ 12 ∷ 13 ∷ []) ≡ true)
      → Open (number_of (reply_of (said (record { reply = judged_in answers Config layers v n; bytes = m })))) ≡ true
  judged_open (bad d) n m h = wider (drop_code d) (h d refl)
  judged_open (good t) n m h = refl

  module _ (p : ℕ) (g : Seg) where
    abbrev e : Effect
    e = taken_in p (get_or w.peers p []) w.mem g

    same_left : (e.buffers ≡ get_or w.peers p []) × (e.mem ≡ w.mem) → (heard_in answers Config layers w k (segment p g)).left ≡ w
    same_left q = rw (q.0, q.1, set-get_or w.peers p [])

    taken-unchanged : (r : Result) → Quiet (get_or w.peers p []) w.mem e r
        → Open (number_of (reply_of (replied_in answers Config layers w.config p k e.mem r))) ≡ false
        → (heard_in answers Config layers w k (segment p g)).left ≡ w
    taken-unchanged (rejects r) q o = same_left q
    taken-unchanged too_many q o = same_left q
    taken-unchanged waits q o = clash (cc (o))
    taken-unchanged (complete note frame) q o =
        let f : List ℕ = bytes_at e.mem rebuilt_at (length frame) in
        clash (cc (
          o,
          judged_open (judge_of w.config p note (bytes_at e.mem rebuilt_at (length frame))) (length frame) _
              (λ d h. judge-bad w.config p note (bytes_at e.mem rebuilt_at (length frame)) d
              (omega (arith, length-table (length frame) (λ i. get_or e.mem (rebuilt_at + i) 0))) h),
        ))

  heard-unchanged : (x : Reading answers) → Open (number_of (reply_of (heard_in answers Config layers w k x).reply)) ≡ false
      → (heard_in answers Config layers w k x).left ≡ w
  heard-unchanged (other_sender a) o = refl
  heard-unchanged (direct p a) o = refl
  heard-unchanged (segment p g) o =
      taken-unchanged p g (taken_in p (get_or w.peers p []) w.mem g).result (taken_quiet p (get_or w.peers p []) w.mem g) o

  pub unchanged : Open (number_of (reply_of (hears_in answers Config layers w k).reply)) ≡ false → (hears_in answers Config layers w k).left ≡ w
  unfolding hears_in
  unchanged =
      case_b (ltb (length w.mem) need)
      (λ a. rw a (λ o. refl))
      (λ a. rw a (heard-unchanged (layers.header w.config k)))
