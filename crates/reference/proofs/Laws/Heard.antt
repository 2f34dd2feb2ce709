-- A receive of the reference reassembler: when it answers 32, when 2, and what its answer's bytes are.
use Rattle.std.specs.Prelude.{◌≡◌, refl, List, [], ℕ, ◌≤◌, ◌<◌, length, get_or, ltb}
use Rattle.std.proofs.Common.{ap, arith}
use borrow.Author.Tests.{ltb-false, lt-ltb, le-ltb}
use Rattle.reassembly.specs.Take.{Seg}
use Rattle.reassembly.specs.Receive.{Answers, Reading, other_sender, direct, segment}
use Rattle.reassembly.specs.SetUp.{Layers}
use Rattle.reassembly.proofs.Laws.Base.{case_b, clash}
use Rattle.endpoint.specs.Config.{Config}
use Rattle.endpoint.specs.Receive.{answers, layers}
use Rattle.reference.specs.Reassembler.{Result, rejects, too_many, waits, complete, taken}
use Rattle.reference.specs.Run.{need, State, said32, replied, heard, hears}
use Rattle.reference.specs.Many.{Brings}
use Rattle.reference.specs.Layout.{taken_in}
use Rattle.reference.specs.Calls.{Left, HandedBack, replied_in, heard_in, hears_in, reply_of, number_of}
use Rattle.reference.proofs.Laws.Room.{many_only, many_given}

module _ (W : Answers) (Config : Type 0) (U : Layers W Config) where
  is_many : (c : Config) (p : ℕ) (r : Result) → replied W Config U c p r ≡ said32 → r ≡ too_many
  is_many c p (rejects r) e = clash (cc (e))
  is_many c p too_many e = refl
  is_many c p waits e = clash (cc (e))
  is_many c p (complete note frame) e = clash (cc (e))

  heard-many : (lent : ℕ) (w : State W Config U) (k : List ℕ) (x : Reading W) → need ≤ lent → U.header w.config k ≡ x
      → (heard W Config U w k x).reply ≡ said32 → Brings W Config U lent w k
  heard-many lent w k (other_sender a) o h e = clash (cc (e))
  heard-many lent w k (direct p a) o h e = clash (cc (e))
  heard-many lent w k (segment p g) o h e =
      record {
        enough = o;
        peer = p;
        seg = g;
        carried = h;
        full = (many_only (get_or w.peers p []) g (is_many w.config p (taken (get_or w.peers p []) g).result e)).0;
      }

  pub hears-many-only : (lent : ℕ) (w : State W Config U) (k : List ℕ) → (hears W Config U lent w k).reply ≡ said32 → Brings W Config U lent w k
  unfolding hears
  hears-many-only lent w k =
      case_b (ltb lent need)
      (λ a. rw a (λ e. clash (cc (e))))
      (λ a. rw a (heard-many lent w k (U.header w.config k) (omega (arith, ltb-false lent need a)) refl))

  pub hears-many-given : (lent : ℕ) (w : State W Config U) (k : List ℕ) → Brings W Config U lent w k → (hears W Config U lent w k).reply ≡ said32
  unfolding hears
  hears-many-given lent w k b =
      rw (le-ltb lent need b.enough, b.carried) (ap (replied W Config U w.config b.peer) (many_given (get_or w.peers b.peer []) b.seg b.full))

  replied_handed : (c : Config) (p : ℕ) (k m : List ℕ) (r : Result) → HandedBack W Config U k m (replied_in W Config U c p k m r)
  replied_handed c p k m (rejects r) = refl
  replied_handed c p k m too_many = tt
  replied_handed c p k m waits = refl
  replied_handed c p k m (complete note frame) = refl

  heard_handed : (w : Left W Config U) (k : List ℕ) (x : Reading W)
      → HandedBack W Config U k (heard_in W Config U w k x).left.mem (heard_in W Config U w k x).reply
  heard_handed w k (other_sender a) = refl
  heard_handed w k (direct p a) = refl
  heard_handed w k (segment p g) =
      replied_handed w.config p k (taken_in p (get_or w.peers p []) w.mem g).mem (taken_in p (get_or w.peers p []) w.mem g).result

  pub hears_handed : (w : Left W Config U) (k : List ℕ)
      → HandedBack W Config U k (hears_in W Config U w k).left.mem (hears_in W Config U w k).reply
  unfolding hears_in
  hears_handed w k = case_b (ltb (length w.mem) need) (λ a. rw a refl) (λ a. rw a (heard_handed w k (U.header w.config k)))

pub hears_small : (w : Left answers Config layers) (k : List ℕ) → length w.mem < need → number_of (reply_of (hears_in answers Config layers w k).reply) ≡ 2
unfolding hears_in
hears_small w k l = rw (lt-ltb (length w.mem) need l) refl

heard_quiet : (w : Left answers Config layers) (k : List ℕ) (x : Reading answers) → ((p : ℕ) (g : Seg) → x ≡ segment p g → ⊥)
    → (heard_in answers Config layers w k x).left ≡ w
heard_quiet w k (other_sender a) n = refl
heard_quiet w k (direct p a) n = refl
heard_quiet w k (segment p g) n = absurd (n p g refl)

pub hears_quiet : (w : Left answers Config layers) (k : List ℕ) → ((p : ℕ) (g : Seg) → layers.header w.config k ≡ segment p g → ⊥)
    → (hears_in answers Config layers w k).left ≡ w
unfolding hears_in
hears_quiet w k n = case_b (ltb (length w.mem) need) (λ a. rw a refl) (λ a. rw a (heard_quiet w k (layers.header w.config k) n))
