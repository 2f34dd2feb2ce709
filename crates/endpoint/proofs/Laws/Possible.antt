-- Demand 3 is not empty (document 01, "Whose packet it is"): a set-up and real packets meet its hypotheses. Five frames of one peer's, each cut into two
-- segments, are mixed, four pending at once and one under an identifier that is used again, with ticks, packets of the peer's own and other senders'
-- between; and by the claim each is delivered once in that run, to the tenant of its Context ID.
use Rattle.std.specs.Prelude.{◌≡◌, refl, Bool, false, List, [], ◌++◌, map, ℕ, zero, suc, ◌+◌, ◌-◌, ◌≤◌, ◌<◌, length, take, drop, Ok}
use Rattle.std.proofs.Common.{sym, ap, subst, ◌∙◌, arith}
use Rattle.reassembly.proofs.Laws.Base.{below_two}
use Rattle.reassembly.specs.Take.{slot_no}
use Rattle.reassembly.specs.Store.{slot_start}
use Rattle.reassembly.specs.Receive.{Answer, bare, Reading, segment}
use Rattle.reassembly.specs.SetUp.{strike, peer_of, World, from, answers_of}
use Rattle.reassembly.proofs.Laws.SetUp.{peer-other, peer-direct, peer-segment, from-none, from_another, struck_out}
use Rattle.reassembly.specs.Mix.{Right, Frame, part_of, states, frame_of, event, Cut, Item, IsNoSegment, Mixing, InTurn}
use Rattle.reassembly.proofs.Laws.MixTest.{mixing}
use Rattle.reassembly.proofs.Laws.OneByOne.{turns-in_turn}
use Rattle.reassembly.specs.Claim.{SameFrame, answer_in, deliveries, Cuts, Claim}
use Rattle.endpoint.proofs.Laws.Demand3.{set_up_claims}
use Rattle.endpoint.specs.Config.{Config, config_of}
use Rattle.endpoint.specs.Receive.{answers, in_lent_memory, header_of, judge_of, layers, world_of}
use Rattle.endpoint.proofs.Laws.Receive.{header_whose}
use Rattle.endpoint.specs.declared.answer.Received.TheVariants as R
use Rattle.endpoint.proofs.Laws.PossibleRun.{calls, ready, listed, inner_a, inner_b, frame-a, frame-b, frame-c, frame-d, frames, own-packet, broken-packet}
use Rattle.endpoint.proofs.Laws.PossibleRun.{vxlan-packet, rival_packet, stray_packet, mixed, alone, turn}
use Rattle.endpoint.proofs.Laws.WorkedRun.{ready_config, read_a0, read_a1, read_b0, read_b1, read_c0, read_c1, read_d0, read_d1, worth_a, worth_b}
use Rattle.endpoint.proofs.Laws.WorkedRun.{read-own, read-broken, read-vxlan, read_rival, read_stray, mixes-frames, turns-frames}

-- ---- what demand 3 asks for, of a configuration and a peer: cuts of good frames, a mixing of them, the same segments one after another, and a second run
-- that is alike for the peer

pub record Hypotheses (c : Config) (p : ℕ) (frames : List Frame) (items less turn : List Item) : Type 0 where
  pub cuts : Cuts answers Config layers c p frames
  pub mixing : Mixing answers (header_of c) p frames items
  pub in_turn_lem : InTurn frames turn
  pub alike : strike (from answers Config layers c p) (map (event frames) items) ≡ strike (from answers Config layers c p) (map (event frames) less)

-- ---- the cuts

abbrev cut-a : Cut answers (header_of listed) (judge_of listed) 0 frame-a
cut-a = record {
  verdict = record { tenant = 7; binding = 0 };
  is_good = worth_a _;
  least = omega arith;
  most = omega arith;
  bytes = refl;
  some_byte = below_two (λ j. 0 < length (part_of frame-a j).bytes) (omega arith) (omega arith);
  sound = below_two (λ j. header_of listed (part_of frame-a j).packet ≡ segment 0 (states frame-a j)) read_a0 read_a1;
}

abbrev cut-b : Cut answers (header_of listed) (judge_of listed) 0 frame-b
cut-b = record {
  verdict = record { tenant = 8; binding = 1 };
  is_good = worth_b _;
  least = omega arith;
  most = omega arith;
  bytes = refl;
  some_byte = below_two (λ j. 0 < length (part_of frame-b j).bytes) (omega arith) (omega arith);
  sound = below_two (λ j. header_of listed (part_of frame-b j).packet ≡ segment 0 (states frame-b j)) read_b0 read_b1;
}

abbrev cut-c : Cut answers (header_of listed) (judge_of listed) 0 frame-c
cut-c = record {
  verdict = record { tenant = 7; binding = 0 };
  is_good = worth_a _;
  least = omega arith;
  most = omega arith;
  bytes = refl;
  some_byte = below_two (λ j. 0 < length (part_of frame-c j).bytes) (omega arith) (omega arith);
  sound = below_two (λ j. header_of listed (part_of frame-c j).packet ≡ segment 0 (states frame-c j)) read_c0 read_c1;
}

abbrev cut-d : Cut answers (header_of listed) (judge_of listed) 0 frame-d
cut-d = record {
  verdict = record { tenant = 8; binding = 1 };
  is_good = worth_b _;
  least = omega arith;
  most = omega arith;
  bytes = refl;
  some_byte = below_two (λ j. 0 < length (part_of frame-d j).bytes) (omega arith) (omega arith);
  sound = below_two (λ j. header_of listed (part_of frame-d j).packet ≡ segment 0 (states frame-d j)) read_d0 read_d1;
}

-- what is to be shown of each number below five
abbrev below_five : (P : ℕ → Type 0) → P 0 → P 1 → P 2 → P 3 → P 4 → (j : ℕ) → j < 5 → P j
below_five P a b c d e zero l = a
below_five P a b c d e (suc zero) l = b
below_five P a b c d e (suc (suc zero)) l = c
below_five P a b c d e (suc (suc (suc zero))) l = d
below_five P a b c d e (suc (suc (suc (suc zero)))) l = e
below_five P a b c d e (suc (suc (suc (suc (suc j))))) l = absurd (omega arith)

abbrev cuts : Cuts answers Config layers listed 0 frames
cuts = below_five (λ f. Cut answers (header_of listed) (judge_of listed) 0 (frame_of frames f)) cut-a cut-b cut-c cut-d cut-a

-- ---- the mixing: none of the other packets is a segment of peer 0's

free_own : IsNoSegment answers 0 (header_of listed own-packet)
free_own = rw read-own tt

free-broken : IsNoSegment answers 0 (header_of listed broken-packet)
free-broken = rw read-broken tt

free-vxlan : IsNoSegment answers 0 (header_of listed vxlan-packet)
free-vxlan = rw read-vxlan tt

free_stray : IsNoSegment answers 0 (header_of listed stray_packet)
free_stray = rw read_stray tt

free_rival : IsNoSegment answers 0 (header_of listed rival_packet)
free_rival = rw read_rival (λ q. absurd (omega arith))

is_mixing : Mixing answers (header_of listed) 0 frames mixed
is_mixing = mixing frames answers (header_of listed) 0 mixed mixes-frames
    (tt, (tt, (tt, (free_own, (tt, (free-broken, (tt, (free-vxlan, (tt, (free_stray, (free_rival, (tt, (tt, (tt, (tt, (tt, (tt, (tt, tt))))))))))))))))))

-- ---- whose packets they are

source_is : (k : List ℕ) (x : Reading answers) → header_of listed k ≡ x → layers.source listed k ≡ peer_of answers x
source_is k x e = sym (header_whose listed (omega arith) k) ∙ ap (peer_of answers) e

not_vxlan : from answers Config layers listed 0 vxlan-packet ≡ false
not_vxlan = from_another answers Config layers listed 0 1 vxlan-packet (source_is vxlan-packet _ read-vxlan ∙ peer-direct answers 1 _) refl

not_stray : from answers Config layers listed 0 stray_packet ≡ false
not_stray = from-none answers Config layers listed 0 stray_packet (source_is stray_packet _ read_stray ∙ peer-other answers _)

not_rival : from answers Config layers listed 0 rival_packet ≡ false
not_rival = from_another answers Config layers listed 0 1 rival_packet (source_is rival_packet _ read_rival ∙ peer-segment answers 1 _) refl

is_alike : strike (from answers Config layers listed 0) (map (event frames) mixed) ≡ strike (from answers Config layers listed 0) (map (event frames) alone)
is_alike =
    let mine : List ℕ → Bool = from answers Config layers listed 0 in
    struck_out frames mine (take 7 mixed) (drop 8 mixed) vxlan-packet not_vxlan
    ∙ struck_out frames mine (take 7 mixed ++ take 1 (drop 8 mixed)) (drop 10 mixed) stray_packet not_stray
    ∙ struck_out frames mine (take 7 mixed ++ take 1 (drop 8 mixed)) (drop 11 mixed) rival_packet not_rival

-- ---- THE THEOREM: the hypotheses are met

pub possible : Hypotheses (config_of ready) 0 frames mixed alone turn
possible = rw ready_config (record { cuts = cuts; mixing = is_mixing; in_turn_lem = subst (InTurn frames) turns-frames (turns-in_turn frames); alike = is_alike })

-- ---- the consequences, over every memory of 55,296 bytes or more

claimed : Claim answers Config layers (record { config = config_of ready; peers = ready.peers }) 0
claimed = set_up_claims 167772161 7471 1500 calls 0 (omega arith)

-- an answer that delivers this inner frame from the memory, to this tenant by this binding
pub record Delivers (tenant binding : ℕ) (frame : List ℕ) (a : Answer answers) : Type 0 where
  pub place : ℕ
  pub reply : a.reply ≡ in_lent_memory (record { tenant = tenant; binding = binding }) place (length frame)
  pub bytes : a.bytes ≡ frame

-- what peer 0 is answered: to each frame's first segment in the run 1, though four are pending; to its last, 0; frame 4, under frame 0's identifier, is a
-- frame of its own
pub record Answered (w : World Config) : Type 0 where
  pub waits_0 : answer_in answers Config layers w frames [] 0 1 ≡ bare answers (Ok R.Pending)
  pub waits_1 : answer_in answers Config layers w frames (take 2 mixed) 1 0 ≡ bare answers (Ok R.Pending)
  pub waits_2 : answer_in answers Config layers w frames (take 4 mixed) 2 0 ≡ bare answers (Ok R.Pending)
  pub waits_3 : answer_in answers Config layers w frames (take 6 mixed) 3 1 ≡ bare answers (Ok R.Pending)
  pub last_0 : Delivers 7 0 inner_a (answer_in answers Config layers w frames (take 12 mixed) 0 0)
  pub waits_4 : answer_in answers Config layers w frames (take 13 mixed) 4 0 ≡ bare answers (Ok R.Pending)
  pub last_1 : Delivers 8 1 inner_b (answer_in answers Config layers w frames (take 14 mixed) 1 1)
  pub last_4 : Delivers 7 0 inner_a (answer_in answers Config layers w frames (take 15 mixed) 4 1)
  pub last_2 : Delivers 7 0 inner_a (answer_in answers Config layers w frames (take 16 mixed) 2 1)
  pub last_3 : Delivers 8 1 inner_b (answer_in answers Config layers w frames (take 17 mixed) 3 0)

-- the last segment of frame f, with the right answer
delivered : (tenant binding : ℕ) (fr : Frame) (inner : List ℕ) (a : Answer answers) → length fr.content - 18 ≡ length inner → drop 18 fr.content ≡ inner
    → Right answers 0 fr (record { tenant = tenant; binding = binding }) 0 a → Delivers tenant binding inner a
delivered tenant binding fr inner a n q r =
    let place : ℕ = slot_start (slot_no 0 r.slot) + 18 in
    record {
      place = place;
      reply = r.delivers refl ∙ ap (λ (x : ℕ). in_lent_memory (record { tenant = tenant; binding = binding }) place x) n;
      bytes = r.bytes refl ∙ q;
    }

module _ (m : List ℕ) (enough : 55296 ≤ length m) where
  -- each frame is delivered once in the run
  pub delivered_once : (f : ℕ) → f < 5 → deliveries answers Config layers frames f (world_of ready m) mixed ≡ 1
  delivered_once f l = claimed.once frames possible.cuts mixed possible.mixing m enough f l

  -- with what its Context ID says
  pub answered : Answered (world_of ready m)
  answered = rw ready_config (
      let c : Claim answers Config layers (record { config = listed; peers = ready.peers }) 0 = rw ready_config at claimed in
      let right = c.delivers frames cuts mixed is_mixing m enough in
      record {
        waits_0 = (right [] (drop 1 mixed) 0 1 (omega arith) refl).waits (omega arith);
        waits_1 = (right (take 2 mixed) (drop 3 mixed) 1 0 (omega arith) refl).waits (omega arith);
        waits_2 = (right (take 4 mixed) (drop 5 mixed) 2 0 (omega arith) refl).waits (omega arith);
        waits_3 = (right (take 6 mixed) (drop 7 mixed) 3 1 (omega arith) refl).waits (omega arith);
        last_0 = delivered 7 0 frame-a inner_a _ refl refl (right (take 12 mixed) (drop 13 mixed) 0 0 (omega arith) refl);
        waits_4 = (right (take 13 mixed) (drop 14 mixed) 4 0 (omega arith) refl).waits (omega arith);
        last_1 = delivered 8 1 frame-b inner_b _ refl refl (right (take 14 mixed) (drop 15 mixed) 1 1 (omega arith) refl);
        last_4 = delivered 7 0 frame-a inner_a _ refl refl (right (take 15 mixed) (drop 16 mixed) 4 1 (omega arith) refl);
        last_2 = delivered 7 0 frame-c inner_a _ refl refl (right (take 16 mixed) (drop 17 mixed) 2 1 (omega arith) refl);
        last_3 = delivered 8 1 frame-d inner_b _ refl refl (right (take 17 mixed) (drop 18 mixed) 3 0 (omega arith) refl);
      }
      )

  -- one after another, over another memory of that length, each last segment is answered the same
  module _ (m' : List ℕ) (same : length m ≡ length m') where
    pub in_turn_0 : SameFrame answers (answer_in answers Config layers (world_of ready m) frames (take 12 mixed) 0 0)
        (answer_in answers Config layers (world_of ready m') frames (take 1 turn) 0 1)
    in_turn_0 =
        claimed.one_after_another frames possible.cuts mixed turn possible.mixing possible.in_turn_lem m m' enough same
        (take 12 mixed) (drop 13 mixed) (take 1 turn) (drop 2 turn) 0 0 1 (omega arith) refl refl refl refl

    pub in_turn_4 : SameFrame answers (answer_in answers Config layers (world_of ready m) frames (take 15 mixed) 4 1)
        (answer_in answers Config layers (world_of ready m') frames (take 9 turn) 4 1)
    in_turn_4 =
        claimed.one_after_another frames possible.cuts mixed turn possible.mixing possible.in_turn_lem m m' enough same
        (take 15 mixed) (drop 16 mixed) (take 9 turn) (drop 10 turn) 4 1 1 (omega arith) refl refl refl refl

    -- and other senders' packets change none of its answers
    pub undisturbed : answers_of answers Config layers 0 (world_of ready m) (map (event frames) mixed)
        ≡ answers_of answers Config layers 0 (world_of ready m') (map (event frames) alone)
    undisturbed = claimed.same m m' enough same (map (event frames) mixed) (map (event frames) alone) possible.alike
