-- A RUN (document 01, "Whose packet it is"): a set-up, receives and ticks over the bytes of one lent memory, and a peer's answers. Only definitions; what
-- is claimed of runs stands in Claim.antt and EveryRun.antt. A user supplies what an answer is (`Answers`), and the layers that read a configuration:
-- header, judgement and source (`Layers`).
use Rattle.std.specs.Prelude.{◌≡◌, Bool, true, false, cond, List, [], ◌∷◌, ◌++◌, map, ℕ, ◌<◌, length, get_or, set, replicate, ltb, eqb}
use Rattle.std.proofs.Math.Option.{Option, none, some}
use Rattle.reassembly.specs.Slots.{Peer, Note, no_row, older_row, empty_rows}
use Rattle.reassembly.specs.Take.{Effect}
use Rattle.reassembly.specs.Store.{bytes_of, take_in}
use Rattle.reassembly.specs.Receive.{nowhere, row_of, view_of, Answers, Answer, Verdict, Reading, other_sender, direct, segment, Event, receive, tick}
use Rattle.reassembly.specs.Receive.{take_answer}

-- what reads a configuration: what a packet is taken for; what 28, 29, 12 and 13 say of a complete frame from this peer, of whose segments this was noted;
-- and the peer whose packet it is: it passes checks 3 to 6 and its source is that peer
pub record Layers (W : Answers) (Config : Type 0) : Type 0 where
  pub header : Config → List ℕ → Reading W
  pub judge : Config → ℕ → Note → List ℕ → Verdict W
  pub source : Config → List ℕ → Option ℕ

unfoldable pub is_peer : ℕ → Option ℕ → Bool
is_peer p none = false
is_peer p (some q) = eqb q p

-- ---- need not be believed: what a configuration's layers promise

unfoldable pub peer_of : (W : Answers) → Reading W → Option ℕ
peer_of W (other_sender a) = none
peer_of W (direct q a) = some q
peer_of W (segment q g) = some q

-- what a configuration's layers promise: a listed peer's number is below 8; an answer that needs no reassembly does not name the memory; and the header
-- layer's peer is the packet's source
abbrev pub Kept : (W : Answers) → Reading W → Type 0
Kept W (other_sender a) = W.place a ≡ nowhere
Kept W (direct q a) = (q < 8) × ((W.place a).in_lent_memory ≡ false)
Kept W (segment q g) = q < 8

pub record Promised (W : Answers) (Config : Type 0) (U : Layers W Config) (c : Config) : Type 0 where
  pub kept : (k : List ℕ) → Kept W (U.header c k)
  pub whose : (k : List ℕ) → peer_of W (U.header c k) ≡ U.source c k

-- ---- the endpoint with its memory, and the packets of a run

-- other senders' packets struck out, where `own` says of a packet that it is the peer's
abbrev pub keeps : (List ℕ → Bool) → Event → Bool
keeps own tick = true
keeps own (receive k) = own k

unfoldable pub strike : (List ℕ → Bool) → List Event → List Event
strike own [] = []
strike own (e ∷ es) = cond (keeps own e) (e ∷ strike own es) (strike own es)

-- the endpoint: its configuration, and its eight rows
pub record Endpoint (Config : Type 0) : Type 0 where
  pub config : Config
  pub peers : List Peer

-- the endpoint with the memory that it is lent
pub record World (Config : Type 0) : Type 0 where
  pub ends : Endpoint Config
  pub mem : List ℕ

-- ---- need not be believed: a set-up. The crate above has its own, `set_up`

module _ (Config Adding : Type 0) (adds : Config → Adding → Config) where
  -- adding calls, of which only the configuration's part matters here: they leave the rows. A refused one gives the configuration back
  abbrev pub added : Endpoint Config → List Adding → Endpoint Config
  added e [] = e
  added e (a ∷ as') = added (record { config = adds e.config a; peers = e.peers }) as'

  -- a set-up: what a start leaves (every slot free), and any adding calls
  -- Open: short for `added` from what a start leaves
  abbrev pub set_up : Config → List Adding → Endpoint Config
  set_up c as' = added (record { config = c; peers = empty_rows }) as'

-- ---- a receive, a tick, and a run of them

module _ (W : Answers) (Config : Type 0) (U : Layers W Config) where
  pub record Replied : Type 0 where
    pub reply : W.A
    pub world : World Config

  -- ---- need not be believed: how a receive comes to it

  -- one receive: what it answers, the endpoint and the memory that it leaves. Check 2 is first
  unfoldable pub receive_by : World Config → Reading W → Replied
  receive_by w (other_sender a) = record { reply = a; world = w }
  receive_by w (direct p a) = record { reply = a; world = w }
  receive_by w (segment p g) =
      let o : Effect bytes_of = take_in p (get_or w.ends.peers (row_of p) no_row) w.mem g in
      record {
        reply = (take_answer W (U.judge w.ends.config) bytes_of p g o o.outcome).reply;
        world = record { ends = record { config = w.ends.config; peers = set w.ends.peers (row_of p) o.row }; mem = o.mem };
      }

  unfoldable pub receives : World Config → List ℕ → Replied
  receives w k = cond (ltb (length w.mem) 55296) (record { reply = W.too_small; world = w }) (receive_by w (U.header w.ends.config k))

  -- ---- a run and its answers

  -- a receive or a tick, and a run of them: each gets the endpoint and the memory that the last one left
  unfoldable pub next : World Config → Event → World Config
  next w tick = record { ends = record { config = w.ends.config; peers = map older_row w.ends.peers }; mem = w.mem }
  next w (receive k) = (receives w k).world

  unfoldable pub runs : World Config → List Event → World Config
  runs w [] = w
  runs w (e ∷ es) = runs (next w e) es

  -- an answer as a run has it: what the receive answers, and the bytes that the second call hands back from the packet and the memory,
  -- n ticks after this receive, which gives the same for every n (`Claim.whenever`)
  unfoldable pub handed_back : ℕ → World Config → List ℕ → List ℕ
  handed_back n w k = view_of k (runs (receives w k).world (replicate n tick)).mem (W.place (receives w k).reply)

  unfoldable pub answer_of : World Config → List ℕ → Answer W
  answer_of w k = record { reply = (receives w k).reply; bytes = handed_back 0 w k }

  -- whose packet it is; the peer's answers in a run, in order
  unfoldable pub from : Config → ℕ → List ℕ → Bool
  from c p k = is_peer p (U.source c k)

  abbrev pub answers_at : ℕ → World Config → Event → List (Answer W)
  answers_at p w tick = []
  answers_at p w (receive k) = cond (from w.ends.config p k) (answer_of w k ∷ []) []

  unfoldable pub answers_of : ℕ → World Config → List Event → List (Answer W)
  answers_of p w [] = []
  answers_of p w (e ∷ es) = answers_at p w e ++ answers_of p (next w e) es
