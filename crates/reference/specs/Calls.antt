-- THE CALLS of the reference reassembler: what its code gives back and leaves (contracts of src/receive.rt and src/tick.rt), and a run of them, each given the
-- state and the memory that the last one left. What one call does need not be believed: Same.antt states it.
use Rattle.std.specs.Prelude.{◌≡◌, cond, List, [], ◌∷◌, map, ℕ, ◌+◌, ◌-◌, ◌≤◌, length, get_or, set, replicate, ltb, Result, Ok, Err}
use Rattle.reassembly.specs.Receive.{view_of, Answers, Verdict, bad, good, Reading, other_sender, direct, segment, Event, receive, tick}
use Rattle.reassembly.specs.SetUp.{Layers}
use Rattle.endpoint.specs.Answer.{values_of}
use Rattle.endpoint.specs.Config.{Config, config_of}
use Rattle.endpoint.specs.Receive.{answers, layers}
use Rattle.endpoint.specs.declared.answer.Drop.{Drop}
use Rattle.endpoint.specs.declared.answer.Received.{Received}
use Rattle.endpoint.specs.declared.config.Endpoint.{Endpoint}
use Rattle.reference.specs.Reassembler as D
use Rattle.reference.specs.Reassembler.{rejects, too_many, waits, complete}
use Rattle.reference.specs.Run.{need, rebuilt_at, Reply, said, said32}
use Rattle.reference.specs.Layout.{bytes_at, buffers_of, older_buffers, Effect, taken_in}
use Rattle.reference.specs.declared.buffer.Buffer.{Buffer}
use Rattle.reference.specs.declared.answer.Refusal.{Refusal}
use Rattle.reference.specs.declared.answer.Refusal.TheVariants.{Dropped, TooManySegments}
use Rattle.reference.specs.declared.reassembler.Reassembler.{Reassembler}

-- ---- need not be believed: one call, over any answers and layers

module _ (W : Answers) (Config : Type 0) (U : Layers W Config) where
  -- the configuration, the pending frames of each peer, and the memory
  pub record Left : Type 0 where
    pub config : Config
    pub peers : List (List Buffer)
    pub mem : List ℕ

  -- an answer, with the bytes that the view hands back from the packet and from the memory
  abbrev pub viewed : List ℕ → List ℕ → W.A → Reply W Config U
  viewed k m a = said (record { reply = a; bytes = view_of k m (W.place a) })

  abbrev pub judged_in : Verdict W → ℕ → W.A
  judged_in (bad b) n = W.refused b
  judged_in (good v) n = W.gives v (rebuilt_at + 18) (n - 18)

  -- a complete frame is judged where it lies
  abbrev pub replied_in : Config → ℕ → List ℕ → List ℕ → D.Result → Reply W Config U
  replied_in c p k m (rejects r) = viewed k m (W.rejected r)
  replied_in c p k m too_many = said32
  replied_in c p k m waits = viewed k m W.pending
  replied_in c p k m (complete note frame) = viewed k m (judged_in (U.judge c p note (bytes_at m rebuilt_at (length frame))) (length frame))

  pub record HeardIn : Type 0 where
    pub reply : Reply W Config U
    pub left : Left

  abbrev pub heard_in : Left → List ℕ → Reading W → HeardIn
  heard_in w k (other_sender a) = record { reply = viewed k w.mem a; left = w }
  heard_in w k (direct p a) = record { reply = viewed k w.mem a; left = w }
  heard_in w k (segment p g) =
      let e : Effect = taken_in p (get_or w.peers p []) w.mem g in
      record {
        reply = replied_in w.config p k e.mem e.result;
        left = record { config = w.config; peers = set w.peers p e.buffers; mem = e.mem };
      }

  -- ---- a receive, a tick, and a run of them: the answers to every sender, in order

  unfoldable pub hears_in : Left → List ℕ → HeardIn
  hears_in w k = cond (ltb (length w.mem) need) (record { reply = viewed k w.mem W.too_small; left = w }) (heard_in w k (U.header w.config k))

  abbrev pub ticked_in : Left → Left
  ticked_in w = record { config = w.config; peers = map older_buffers w.peers; mem = w.mem }

  abbrev pub replies_in : Left → List Event → List (Reply W Config U)
  replies_in w [] = []
  replies_in w (tick ∷ es) = replies_in (ticked_in w) es
  replies_in w (receive k ∷ es) = (hears_in w k).reply ∷ replies_in (hears_in w k).left es

  -- what a run leaves
  abbrev pub ran_in : Left → List Event → Left
  ran_in w [] = w
  ran_in w (tick ∷ es) = ran_in (ticked_in w) es
  ran_in w (receive k ∷ es) = ran_in (hears_in w k).left es

  -- the bytes of an answer are those that the view hands back from this packet and this memory
  abbrev pub HandedBack : List ℕ → List ℕ → Reply W Config U → Type 0
  HandedBack k m (said a) = a.bytes ≡ view_of k m (W.place a.reply)
  HandedBack k m said32 = Unit {0}

-- of the second memory only the first 50,688 bytes may differ from the first one
pub record OnlyFront (m m' : List ℕ) : Type 0 where
  pub size : length m' ≡ length m
  pub behind : (i : ℕ) → 50688 ≤ i → get_or m' i 0 ≡ get_or m i 0

-- ---- the endpoint's

-- what the calls read of a reassembler: its endpoint's configuration, and of each peer the frames up to its count
abbrev pub left_of : Reassembler → List ℕ → Left answers Config layers
left_of r m = record { config = config_of r.endpoint; peers = map buffers_of r.peers; mem = m }

-- what a start leaves
abbrev pub begun_of : Endpoint → List ℕ → Left answers Config layers
begun_of e m = record { config = config_of e; peers = replicate 8 []; mem = m }

-- what the endpoint gives, with its refusal as one of the reference's
abbrev pub passed : {A : Type 0} → Result A Drop → Result A Refusal
passed (Ok x) = Ok x
passed (Err why) = Err (Dropped why)

-- an answer, as the code has it
abbrev pub reply_of : Reply answers Config layers → Result Received Refusal
reply_of (said a) = passed a.reply
reply_of said32 = Err TooManySegments

-- its number
abbrev pub number_of : Result Received Refusal → ℕ
number_of (Ok a) = (values_of (Ok a)).number
number_of (Err (Dropped why)) = (values_of (Err why)).number
number_of (Err TooManySegments) = 32
