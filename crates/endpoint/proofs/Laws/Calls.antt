-- The calls, as their contracts give them, are the steps of the theory of runs: a receive is `receives`, a tick is `next .. tick`, a set-up has every slot
-- free.
-- So what is proved of `runs` is proved of every list of these calls, each given the endpoint and the memory that the last one left.
use Rattle.std.specs.Prelude.{ℕ, ◌≡◌, refl, List, [], ◌∷◌, length, get_or, set, ltb, Err}
use Rattle.std.proofs.Common.{sym, ap, ◌∙◌, ltb-true, ltb-false}
use Rattle.std.proofs.lemmas.List.{set-get_or}
use Rattle.reassembly.proofs.Laws.Base.{case_b}
use Rattle.reassembly.specs.Slots.{no_row}
use Rattle.reassembly.specs.Receive.{Reading, other_sender, direct, segment, Event, receive, tick}
use Rattle.reassembly.specs.SetUp.{World, Replied, receives, receive_by, next, runs, Promised}
use Rattle.reassembly.proofs.Laws.SetUp.{receives_small, receives_by, receive_other, receive-direct, receive-segment, next-tick, next-receive, runs_none}
use Rattle.reassembly.proofs.Laws.SetUp.{runs-more}
use Rattle.reassembly.specs.declared.slot.Peer.{Peer}
use Rattle.endpoint.specs.Config.{Config, config_of, tick_of}
use Rattle.endpoint.proofs.Laws.Config.{rows-tick, config_tick}
use Rattle.endpoint.specs.Receive.{answers, layers, header_of, Step, row_at, stepped, step_of, with_row, world_of, receipt_of}
use Rattle.endpoint.proofs.Laws.Receive.{header-kept, header_whose, config_few}
use Rattle.endpoint.specs.declared.answer.Drop.TheVariants as D
use Rattle.endpoint.specs.declared.config.Endpoint.{Endpoint}
use Rattle.endpoint.specs.Run.{Left, called, calls}

-- ---- a row put back

pub config_row : (e : Endpoint) (p : ℕ) (row : Peer) → config_of (with_row e p row) ≡ config_of e
unfolding config_of
config_row e p row = refl

pub rows_row : (e : Endpoint) (p : ℕ) (row : Peer) → (with_row e p row).peers ≡ set e.peers p row
rows_row e p row = refl

pub world_row : (e : Endpoint) (p : ℕ) (row : Peer) (m : List ℕ)
    → world_of (with_row e p row) m ≡ record { ends = record { config = config_of e; peers = set e.peers p row }; mem = m }
world_row e p row m = rw (config_row e p row, rows_row e p row)

same-world : (e : Endpoint) (p : ℕ) (m : List ℕ) → world_of (with_row e p (row_at e p)) m ≡ world_of e m
same-world e p m = world_row e p (get_or e.peers p no_row) m ∙ rw (set-get_or e.peers p no_row)

-- ---- a receive

-- the endpoint that it gives back
pub receipt_left : (e : Endpoint) (s : Step) → (receipt_of e s).endpoint ≡ with_row e s.peer s.row
unfolding receipt_of
receipt_left e s = refl

-- what the call answers, and the endpoint and memory that it leaves
abbrev after_step : Endpoint → Step → Replied answers Config layers
after_step e s = record { reply = s.answer; world = world_of (with_row e s.peer s.row) s.mem }

stepped_is : (e : Endpoint) (m : List ℕ) (x : Reading answers) → after_step e (stepped e m x) ≡ receive_by answers Config layers (world_of e m) x
stepped_is e m (other_sender a) =
    ap (λ (w : World Config). record { reply = a; world = w }) (same-world e 0 m) ∙ sym (receive_other answers Config layers (world_of e m) a)
stepped_is e m (direct p a) =
    ap (λ (w : World Config). record { reply = a; world = w }) (same-world e p m) ∙ sym (receive-direct answers Config layers (world_of e m) p a)
stepped_is e m (segment p g) =
    ap (λ (w : World Config). record { reply = (stepped e m (segment p g)).answer; world = w })
    (world_row e p (stepped e m (segment p g)).row (stepped e m (segment p g)).mem)
    ∙ sym (receive-segment answers Config layers (world_of e m) p g)

pub receive_is : (e : Endpoint) (m k : List ℕ) → after_step e (step_of e m k) ≡ receives answers Config layers (world_of e m) k
unfolding step_of
receive_is e m k =
    case_b (ltb (length m) 55296)
    (λ b. rw b (ap (λ (w : World Config). record { reply = Err D.MemoryTooSmall; world = w }) (same-world e 0 m)
    ∙ sym (receives_small answers Config layers (world_of e m) k (ltb-true (length m) 55296 b))))
    (λ b. rw b (stepped_is e m (header_of (config_of e) k) ∙ sym (receives_by answers Config layers (world_of e m) k (ltb-false (length m) 55296 b))))

-- ---- a tick

pub tick_is : (e : Endpoint) (m : List ℕ) → world_of (tick_of e).endpoint m ≡ next answers Config layers (world_of e m) tick
tick_is e m = rw (config_tick e, rows-tick e, next-tick answers Config layers (world_of e m))

-- ---- a run

pub called_is : (w : Left) (e : Event) → world_of (called w e).endpoint (called w e).mem ≡ next answers Config layers (world_of w.endpoint w.mem) e
called_is w tick = tick_is w.endpoint w.mem
called_is w (receive k) =
    ap (λ (s : Replied answers Config layers). s.world) (receive_is w.endpoint w.mem k)
    ∙ sym (next-receive answers Config layers (world_of w.endpoint w.mem) k)

pub calls_are : (w : Left) (es : List Event) → world_of (calls w es).endpoint (calls w es).mem ≡ runs answers Config layers (world_of w.endpoint w.mem) es
calls_are w [] = sym (runs_none answers Config layers (world_of w.endpoint w.mem))
calls_are w (e ∷ es) =
    calls_are (called w e) es
    ∙ ap (λ (x : World Config). runs answers Config layers x es) (called_is w e)
    ∙ sym (runs-more answers Config layers (world_of w.endpoint w.mem) e es)

-- ---- what the theory of runs asks of the layers

pub promised : (e : Endpoint) → Promised answers Config layers (config_of e)
promised e = record { kept = header-kept (config_of e) (config_few e); whose = header_whose (config_of e) (config_few e) }
