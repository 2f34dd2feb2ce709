-- A run, one call at a time: what the crates above know of receives, ticks and a peer's packets.
use Rattle.std.specs.Prelude.{ℕ, ◌≤◌, ◌<◌, ◌≡◌, Bool, false, cond, List, [], ◌∷◌, ◌++◌, map, length, get_or, set, eqb}
use Rattle.std.proofs.Math.Path.{refl}
use Rattle.std.proofs.Common.{ap, lt-ltb, le-ltb}
use Rattle.std.proofs.Math.Option.{none, some}
use Rattle.reassembly.specs.Slots.{no_row, older_row}
use Rattle.reassembly.specs.Take.{Seg, Effect}
use Rattle.reassembly.specs.Store.{bytes_of, take_in}
use Rattle.reassembly.specs.Receive.{row_of, view_of, Answers, other_sender, direct, segment, Event, receive, tick, take_answer}
use Rattle.reassembly.specs.Mix.{Frame, part_of, Item, other, frame_of, event}
use Rattle.reassembly.specs.SetUp.{Layers, is_peer, peer_of, strike, World, receive_by, receives, next, runs, handed_back, answer_of, from}
use Rattle.reassembly.specs.Claim.{answer_in}

-- ---- whose packet it is

pub peer-other : (W : Answers) (a : W.A) → peer_of W (other_sender a) ≡ none
unfolding peer_of
peer-other W a = refl

pub peer-direct : (W : Answers) (q : ℕ) (a : W.A) → peer_of W (direct q a) ≡ some q
unfolding peer_of
peer-direct W q a = refl

pub peer-segment : (W : Answers) (q : ℕ) (g : Seg) → peer_of W (segment q g) ≡ some q
unfolding peer_of
peer-segment W q g = refl

-- a packet whose source is no peer, or another one, is not peer p's
pub from-none : (W : Answers) (Config : Type 0) (U : Layers W Config) (c : Config) (p : ℕ) (k : List ℕ) → U.source c k ≡ none → from W Config U c p k ≡ false
unfolding from is_peer
from-none W Config U c p k q = rw q

pub from_another : (W : Answers) (Config : Type 0) (U : Layers W Config) (c : Config) (p q : ℕ) (k : List ℕ) → U.source c k ≡ some q → eqb q p ≡ false
    → from W Config U c p k ≡ false
unfolding from is_peer
from_another W Config U c p q k s e = rw s e

-- another sender's packet among the items of a run is struck out
strike-behind : (mine : List ℕ → Bool) (e : Event) (xs ys : List Event) → strike mine xs ≡ strike mine ys → strike mine (e ∷ xs) ≡ strike mine (e ∷ ys)
unfolding strike
strike-behind mine tick xs ys q = ap (λ (x : List Event). tick ∷ x) q
strike-behind mine (receive k) xs ys q = ap (λ (x : List Event). cond (mine k) (receive k ∷ x) x) q

pub struck_out : (frames : List Frame) (mine : List ℕ → Bool) (before after : List Item) (k : List ℕ) → mine k ≡ false
    → strike mine (map (event frames) (before ++ (other (receive k) ∷ after))) ≡ strike mine (map (event frames) (before ++ after))
unfolding strike event
struck_out frames mine [] after k e = rw e
struck_out frames mine (x ∷ before) after k e =
    strike-behind mine (event frames x) (map (event frames) (before ++ (other (receive k) ∷ after))) (map (event frames) (before ++ after))
    (struck_out frames mine before after k e)

-- ---- the calls of a run

module _ (W : Answers) (Config : Type 0) (U : Layers W Config) where
  pub receives_small : (w : World Config) (k : List ℕ) → length w.mem < 55296 → receives W Config U w k ≡ record { reply = W.too_small; world = w }
  unfolding receives
  receives_small w k h = rw (lt-ltb (length w.mem) 55296 h)

  pub receives_by : (w : World Config) (k : List ℕ) → 55296 ≤ length w.mem → receives W Config U w k ≡ receive_by W Config U w (U.header w.ends.config k)
  unfolding receives
  receives_by w k h = rw (le-ltb (length w.mem) 55296 h)

  pub receive_other : (w : World Config) (a : W.A) → receive_by W Config U w (other_sender a) ≡ record { reply = a; world = w }
  unfolding receive_by
  receive_other w a = refl

  pub receive-direct : (w : World Config) (p : ℕ) (a : W.A) → receive_by W Config U w (direct p a) ≡ record { reply = a; world = w }
  unfolding receive_by
  receive-direct w p a = refl

  pub receive-segment : (w : World Config) (p : ℕ) (g : Seg)
      → let o : Effect bytes_of = take_in p (get_or w.ends.peers (row_of p) no_row) w.mem g in
      receive_by W Config U w (segment p g)
      ≡ record {
        reply = (take_answer W (U.judge w.ends.config) bytes_of p g o o.outcome).reply;
        world = record { ends = record { config = w.ends.config; peers = set w.ends.peers (row_of p) o.row }; mem = o.mem };
      }
  unfolding receive_by
  receive-segment w p g = refl

  pub next-tick : (w : World Config)
      → next W Config U w tick ≡ record { ends = record { config = w.ends.config; peers = map older_row w.ends.peers }; mem = w.mem }
  unfolding next
  next-tick w = refl

  pub next-receive : (w : World Config) (k : List ℕ) → next W Config U w (receive k) ≡ (receives W Config U w k).world
  unfolding next
  next-receive w k = refl

  pub runs_none : (w : World Config) → runs W Config U w [] ≡ w
  unfolding runs
  runs_none w = refl

  pub runs-more : (w : World Config) (e : Event) (es : List Event) → runs W Config U w (e ∷ es) ≡ runs W Config U (next W Config U w e) es
  unfolding runs
  runs-more w e es = refl

  -- an answer of a run is the receive's, and the bytes of its place in the packet or in the memory that the receive left
  pub answer_reply : (w : World Config) (k : List ℕ) → (answer_of W Config U w k).reply ≡ (receives W Config U w k).reply
  unfolding answer_of
  answer_reply w k = refl

  pub answer-bytes : (w : World Config) (k : List ℕ)
      → (answer_of W Config U w k).bytes ≡ view_of k (receives W Config U w k).world.mem (W.place (receives W Config U w k).reply)
  unfolding answer_of handed_back runs
  answer-bytes w k = refl

  -- the answer to a segment among the items of a run
  pub answer_in_lem : (w : World Config) (frames : List Frame) (before : List Item) (f j : ℕ)
      → answer_in W Config U w frames before f j
      ≡ answer_of W Config U (runs W Config U w (map (event frames) before)) (part_of (frame_of frames f) j).packet
  unfolding answer_in
  answer_in_lem w frames before f j = refl
