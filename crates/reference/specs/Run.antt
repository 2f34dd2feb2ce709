-- A RUN of the reference reassembler: a receive, a tick, and a list of them, over the definition (Reassembler.antt). Parameters are those of the first one:
-- what an answer is (`Answers`), and the layers that read a packet and judge a complete frame (`Layers`). Only definitions.
use Rattle.std.specs.Prelude.{cond, List, [], ◌∷◌, map, ℕ, ◌+◌, ◌-◌, length, get_or, set, drop, replicate, ltb}
use Rattle.reassembly.specs.Receive.{view_of, Answers, Answer, bare, Verdict, bad, good, Reading, other_sender, direct, segment, Event, receive, tick}
use Rattle.reassembly.specs.SetUp.{Layers}
use Rattle.reference.specs.Reassembler.{Frame, older, Result, rejects, too_many, waits, complete, Taken, taken}

-- the memory that it is to be lent, its limit for 2 (docs/ARCHITECTURE.md); a complete frame is rebuilt in the last 1,536 bytes of it
abbrev pub need : ℕ
need = 50688

abbrev pub rebuilt_at : ℕ
rebuilt_at = 49152

module _ (W : Answers) (Config : Type 0) (U : Layers W Config) where
  -- the configuration, and the pending frames of each of the eight peers
  pub record State : Type 0 where
    pub config : Config
    pub peers : List (List Frame)

  abbrev pub start : Config → State
  start c = record { config = c; peers = replicate 8 [] }

  -- an answer as the first one gives it, with the bytes handed back; or 32
  pub data Reply : Type 0 where
    said : Answer W → Reply
    said32 : Reply

  abbrev pub judged : Verdict W → List ℕ → Answer W
  judged (bad b) frame = bare W (W.refused b)
  judged (good v) frame = record { reply = W.gives v (rebuilt_at + 18) (length frame - 18); bytes = drop 18 frame }

  abbrev pub replied : Config → ℕ → Result → Reply
  replied c p (rejects r) = said (bare W (W.rejected r))
  replied c p too_many = said32
  replied c p waits = said (bare W W.pending)
  replied c p (complete note frame) = said (judged (U.judge c p note frame) frame)

  pub record Heard : Type 0 where
    pub reply : Reply
    pub left : State

  -- an answer that needs no reassembly lies in the packet
  abbrev pub direct_reply : List ℕ → W.A → Reply
  direct_reply k a = said (record { reply = a; bytes = view_of k [] (W.place a) })

  abbrev pub heard : State → List ℕ → Reading W → Heard
  heard w k (other_sender a) = record { reply = direct_reply k a; left = w }
  heard w k (direct p a) = record { reply = direct_reply k a; left = w }
  heard w k (segment p g) =
      let t : Taken = taken (get_or w.peers p []) g in
      record { reply = replied w.config p t.result; left = record { config = w.config; peers = set w.peers p t.frames } }

  -- a packet, with a memory of this length lent. Check 2 is first
  unfoldable pub hears : ℕ → State → List ℕ → Heard
  hears lent w k = cond (ltb lent need) (record { reply = said (bare W W.too_small); left = w }) (heard w k (U.header w.config k))

  abbrev pub ticked : State → State
  ticked w = record { config = w.config; peers = map older w.peers }

  -- its answers in a run, to every sender, in order
  abbrev pub replies : ℕ → State → List Event → List Reply
  replies lent w [] = []
  replies lent w (tick ∷ es) = replies lent (ticked w) es
  replies lent w (receive k ∷ es) = (hears lent w k).reply ∷ replies lent (hears lent w k).left es
