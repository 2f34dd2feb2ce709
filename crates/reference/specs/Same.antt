-- THE STATEMENT (document 02, §7): take any run of packets and ticks from one set-up, with enough memory lent to both reassemblers, whatever it holds at first.
-- If the reference never answers 32 in it, then it answers every packet, whoever sent it, as the first reassembler does: the same values, and the same bytes
-- delivered. Of the endpoint's answers the values are number, offset, tenant, binding and length; where the frame lies may differ.
-- A run up to its first 32 is a run without it, so the answers before a first 32 are covered too. When 32 is given is stated in Many.antt.
-- Only definitions; proved in Laws/Same, and of the endpoint in Laws/Endpoint.
use Rattle.std.specs.Prelude.{◌≡◌, refl, List, [], ◌∷◌, map, ℕ, ◌≤◌, length, replicate, Result}
use Rattle.std.proofs.Math.Option.{Option, none, some}
use Rattle.reassembly.specs.Receive.{Answers, Answer, Event, receive, tick}
use Rattle.reassembly.specs.SetUp as S
use Rattle.reassembly.specs.SetUp.{Layers, Promised, Endpoint, World, next, answer_of}
use Rattle.endpoint.specs.Answer.{values_of}
use Rattle.endpoint.specs.Config.{Config, Adding, set_up}
use Rattle.endpoint.specs.Receive.{answers, layers}
use Rattle.endpoint.specs.Run.{ends_of}
use Rattle.endpoint.specs.declared.answer.Received.{Received}
use Rattle.reference.specs.Run.{start, Reply, said, said32, replies}
use Rattle.reference.specs.Calls.{replies_in}
use Rattle.endpoint.specs.declared.answer.Drop.{Drop}

-- what is compared of an answer: any values that it carries, but not where in the memory its frame lies
pub record Compared (W : Answers) : Type 1 where
  pub Values : Type 0
  pub values : W.A → Values
  pub no_place : (v : W.Good) (start start' len : ℕ) → values (W.gives v start len) ≡ values (W.gives v start' len)

module _ (W : Answers) (R : Compared W) where
  -- what a receive tells: these values, and the bytes handed back before the next receive
  pub record Told : Type 0 where
    pub values : R.Values
    pub bytes : List ℕ

  abbrev pub tells : Answer W → Told
  tells a = record { values = R.values a.reply; bytes = a.bytes }

  module _ (Config : Type 0) (U : Layers W Config) where
    -- what the first reassembler tells in a run: to every sender, in order
    abbrev pub first_tells : World Config → List Event → List Told
    first_tells w [] = []
    first_tells w (tick ∷ es) = first_tells (next W Config U w tick) es
    first_tells w (receive k ∷ es) = tells (answer_of W Config U w k) ∷ first_tells (next W Config U w (receive k)) es

    -- what a reply of the reference tells; 32 tells nothing. None of them is 32
    abbrev pub reply_tells : Reply W Config U → Option Told
    reply_tells (said a) = some (tells a)
    reply_tells said32 = none

    abbrev pub Never32 : List (Reply W Config U) → Type 0
    Never32 [] = Unit {0}
    Never32 (said a ∷ rs) = Never32 rs
    Never32 (said32 ∷ rs) = ⊥

    -- these replies of the reference, if none is 32, tell what the first one tells
    abbrev pub AsFirst : List (Reply W Config U) → World Config → List Event → Type 0
    AsFirst rs w es = Never32 rs → map reply_tells rs ≡ map some (first_tells w es)

    -- ---- of an endpoint that is a set-up: each is lent at least what it needs, and the first one's memory holds anything at first

    -- the definition (Run.antt), which has no memory, but is told how long it is
    abbrev pub Same : Endpoint Config → Type 0
    Same e = (m : List ℕ) → 55296 ≤ length m → (lent : ℕ) → 50688 ≤ lent → (es : List Event)
        → AsFirst (replies W Config U lent (start W Config U e.config) es) (record { ends = e; mem = m }) es

    -- the calls (Calls.antt), whose memory holds anything at first
    abbrev pub SameCalls : Endpoint Config → Type 0
    SameCalls e = (m m' : List ℕ) → 55296 ≤ length m → 50688 ≤ length m' → (es : List Event)
        → AsFirst (replies_in W Config U (record { config = e.config; peers = replicate 8 []; mem = m' }) es) (record { ends = e; mem = m }) es

-- over any answers, whatever is compared of them, any layers that keep their promise, any note that slots keep, and any set-up
abbrev pub SameAny : Type 1
SameAny = (W : Answers) (R : Compared W) (Config Adding : Type 0) (adds : Config → Adding → Config) (U : Layers W Config) (c : Config) (calls : List Adding)
    → Promised W Config U (S.set_up Config Adding adds c calls).config → Same W R Config U (S.set_up Config Adding adds c calls)

-- ---- the endpoint's answers

-- what document 02 names, and the length of the frame that is delivered
pub record ComparedValues : Type 0 where
  pub number : ℕ
  pub offset : ℕ
  pub tenant : Option ℕ
  pub binding : Option ℕ
  pub len : ℕ

abbrev pub compared_of : Result Received Drop → ComparedValues
compared_of a =
    record {
      number = (values_of a).number;
      offset = (values_of a).offset;
      tenant = (values_of a).tenant;
      binding = (values_of a).binding;
      len = (values_of a).place.len;
    }

abbrev pub compared : Compared answers
compared = record { Values = ComparedValues; values = compared_of; no_place = λ t start start' n. refl }

-- of every set-up of the endpoint
abbrev pub SameAnswers : Type 0
SameAnswers = (own port mtu : ℕ) (adds : List Adding) → Same answers compared Config layers (ends_of (set_up own port mtu adds))

abbrev pub SameCallAnswers : Type 0
SameCallAnswers = (own port mtu : ℕ) (adds : List Adding) → SameCalls answers compared Config layers (ends_of (set_up own port mtu adds))
