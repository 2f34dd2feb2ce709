-- The definitions, tried: a toy header (peer, identifier, frame length, offset, then the segment's bytes), cases 9 and 10 of the worked cases and each
-- rejection, computed; and the claim of the toy, applied to a mixing, so that no clause of it is empty.
use Rattle.std.specs.Prelude.{◌≡◌, refl, true, false, cond, List, [], ◌∷◌, ◌++◌, map, ℕ, zero, suc, ◌+◌, ◌≤◌, ◌<◌, length, get_or, drop, replicate, ltb, eqb}
use Rattle.std.proofs.Math.Option.{Option, none, some}
use Rattle.std.proofs.Common.{arith, ltb-true}
use Rattle.reassembly.proofs.Laws.Base.{case_b, below_two}
use Rattle.reassembly.specs.Base.{some_below, all_below, table, within}
use Rattle.reassembly.specs.Slots.{Note, no_mark, older, older_row, first, bears, is_free_slot, most_peers}
use Rattle.reassembly.specs.Take.{Seg, Rejection, Empty, FrameLength, PastEnd, LengthDiffers, AlreadyReceived, NoSlot, rejection_code, chosen, complete}
use Rattle.reassembly.specs.Take.{slot_no}
use Rattle.reassembly.specs.Take.{overlaps, frame_in, take_segment}
use Rattle.reassembly.specs.Store.{is_on, bit_at, set_bit, set_bits, slot_start, map_start, clear_at, put_at, received_at, byte_at, bytes_of}
use Rattle.reassembly.specs.Receive.{Place, nowhere, Answers, Answer, Verdict, good, bad, Reading, other_sender, segment, Event, receive, tick}
use Rattle.reassembly.specs.Receive.{frame_answer, take_answer}
use Rattle.reassembly.proofs.Laws.Runs.{answers}
use Rattle.reassembly.proofs.Laws.NonInterference.{start, ghost_start}
use Rattle.reassembly.proofs.Laws.Ghost.{ghost}
use Rattle.reassembly.specs.Mix.{Part, Frame, part_of, states, frame_of, Cut, Item, given, other, Mixing}
use Rattle.reassembly.proofs.Laws.MixTest.{mixing, mixes}
use Rattle.reassembly.specs.SetUp.{Layers, peer_of, Kept, Promised, Endpoint, set_up}
use Rattle.reassembly.specs.Claim.{deliveries, Claim}
use Rattle.reassembly.proofs.Laws.Claim.{claim}

-- an answer: its number, a tenant, and its place
record Toy : Type 0 where
  code : ℕ
  tenant : ℕ
  place : Place

abbrev empty : ℕ → Toy
empty n = record { code = n; tenant = 0; place = nowhere }

rejected_not : (r : Rejection) → eqb (rejection_code r) 0 ≡ false
unfolding rejection_code
rejected_not Empty = refl
rejected_not FrameLength = refl
rejected_not PastEnd = refl
rejected_not LengthDiffers = refl
rejected_not AlreadyReceived = refl
rejected_not NoSlot = refl

abbrev toy_answers : Answers
toy_answers =
    record {
      A = Toy;
      Bad = Unit {0};
      Good = ℕ;
      place = λ a. a.place;
      delivered = λ a. eqb a.code 0;
      too_small = empty 2;
      pending = empty 1;
      rejected = λ r. empty (rejection_code r);
      refused = λ b. empty 13;
      gives = λ v start len. record { code = 0; tenant = v; place = record { in_lent_memory = true; start = start; len = len } };
      too_small_place = refl;
      pending_place = refl;
      rejected_place = λ r. refl;
      refused_place = λ b. refl;
      gives_place = λ v start len. refl;
      too_small_not = refl;
      pending_not = refl;
      rejected_not = rejected_not;
      refused_not = λ b. refl;
      gives_is = λ v start len. refl;
    }

abbrev seg_in : List ℕ → Seg
seg_in k = record { identifier = get_or k 0 0; frame_length = get_or k 1 0; offset = get_or k 2 0; bytes = drop 3 k; mark = no_mark }

abbrev toy : List ℕ → Reading toy_answers
toy [] = other_sender (empty 3)
toy (p ∷ k) = cond (ltb p most_peers) (segment p (seg_in k)) (other_sender (empty 7))

abbrev toy_source : List ℕ → Option ℕ
toy_source [] = none
toy_source (p ∷ k) = cond (ltb p most_peers) (some p) none

-- frames that begin with 9 are bad; the rest are tenant 5's
abbrev toy_judge : ℕ → Note → List ℕ → Verdict toy_answers
toy_judge p t f = cond (eqb (get_or f 0 0) 9) (bad tt) (good 5)

-- ---- computed

abbrev seg : ℕ → ℕ → ℕ → ℕ → Event
seg id size at n = receive (2 ∷ id ∷ size ∷ at ∷ replicate n (id + at))

abbrev codes : List Event → List ℕ
codes es = map (λ (a : Answer toy_answers). a.reply.code) (answers toy_answers toy 2 toy_judge ghost ghost_start es)

case9 : codes (seg 1 40 0 8 ∷ seg 2 40 0 8 ∷ seg 3 40 0 8 ∷ seg 4 40 0 8 ∷ seg 5 32 0 32 ∷ seg 3 40 8 32 ∷ seg 5 32 0 32 ∷ []) ≡ 1 ∷ 1 ∷ 1 ∷ 1 ∷ 17 ∷ 0 ∷ 0 ∷ []
unfolding take_segment chosen first bears is_free_slot complete overlaps frame_in all_below some_below table within frame_answer rejection_code slot_no take_answer
case9 = refl

case10 : codes (seg 1 40 0 8 ∷ tick ∷ tick ∷ tick ∷ seg 1 40 8 32 ∷ seg 1 40 0 8 ∷ tick ∷ tick ∷ tick ∷ tick ∷ seg 1 40 8 32 ∷ []) ≡ 1 ∷ 0 ∷ 1 ∷ 1 ∷ []
unfolding take_segment chosen first bears is_free_slot complete overlaps frame_in all_below some_below table within older older_row frame_answer slot_no take_answer
case10 = refl

-- another length, a byte already received, past the end, too short, empty; then a bad frame, whose slot is free again
rejections : codes (seg 1 40 0 8 ∷ seg 1 41 8 8 ∷ seg 1 40 7 8 ∷ seg 1 40 8 33 ∷ seg 1 31 0 8 ∷ seg 1 40 8 0 ∷ seg 9 32 0 32 ∷ seg 9 33 0 8 ∷ []) ≡ 1 ∷ 15 ∷ 16
    ∷ 14 ∷ 14 ∷ 14 ∷ 13 ∷ 1 ∷ []
unfolding take_segment chosen first bears is_free_slot complete overlaps frame_in all_below some_below table within frame_answer rejection_code slot_no take_answer
rejections = refl

-- over bytes, in the memory of peer 0's first slot only, full of ones at first
abbrev seg0 : ℕ → ℕ → ℕ → ℕ → Event
seg0 id size at n = receive (0 ∷ id ∷ size ∷ at ∷ replicate n (id + at))

bytes10 : map (λ (a : Answer toy_answers). a.reply.code) (answers toy_answers toy 0 toy_judge bytes_of (start bytes_of (replicate 1728 255))
    (seg0 1 32 0 8 ∷ tick ∷ seg0 1 32 8 24 ∷ seg0 1 32 0 8 ∷ [])) ≡ 1 ∷ 0 ∷ 1 ∷ []
unfolding take_segment chosen first bears is_free_slot complete overlaps frame_in all_below some_below table is_on bit_at set_bit set_bits slot_start map_start clear_at
    put_at frame_answer slot_no take_answer received_at byte_at older older_row
bytes10 = refl

-- ---- the claim of the toy, and a mixing

abbrev toy_layers : Layers toy_answers (Unit {0})
toy_layers = record { header = λ c k. toy k; judge = λ c p t f. toy_judge p t f; source = λ c k. toy_source k }

toy_promise : (c : Unit {0}) → Promised toy_answers (Unit {0}) toy_layers c
unfolding peer_of
toy_promise c = record { kept = kept; whose = whose }
  where
    kept : (k : List ℕ) → Kept toy_answers (toy k)
    kept [] = refl
    kept (p ∷ k) = case_b (ltb p most_peers) (λ e. rw e (ltb-true p most_peers e)) (λ e. rw e refl)

    whose : (k : List ℕ) → peer_of toy_answers (toy k) ≡ toy_source k
    whose [] = refl
    whose (p ∷ k) = case_b (ltb p most_peers) (λ e. rw e) (λ e. rw e)

abbrev toy_set_up : Endpoint (Unit {0})
toy_set_up = set_up (Unit {0}) (Unit {0}) (λ c a. c) tt []

toy_claim : (p : ℕ) → p < most_peers → Claim toy_answers (Unit {0}) toy_layers toy_set_up p
toy_claim p p< = claim toy_answers (Unit {0}) toy_layers (Unit {0}) (λ c a. c) tt [] (toy_promise tt) p p<

-- two frames of peer 2's pending together, the first backwards; between them a segment of peer 3's under the same identifier, an empty packet, and three ticks
abbrev part : ℕ → ℕ → ℕ → ℕ → List ℕ → Part
part id size at n bs = record { packet = 2 ∷ id ∷ size ∷ at ∷ bs; bytes = bs; mark = no_mark }

abbrev frame-a : Frame
frame-a = record { identifier = 7; content = replicate 20 1 ++ replicate 16 2; parts = part 7 36 0 20 (replicate 20 1) ∷ part 7 36 20 16 (replicate 16 2) ∷ [] }

abbrev frame-b : Frame
frame-b = record { identifier = 8; content = replicate 8 3 ++ replicate 24 4; parts = part 8 32 0 8 (replicate 8 3) ∷ part 8 32 8 24 (replicate 24 4) ∷ [] }

abbrev two : List Frame
two = frame-a ∷ frame-b ∷ []

abbrev mixture : List Item
mixture = given 0 1 ∷ given 1 0 ∷ other tick ∷ other (receive (3 ∷ 7 ∷ 36 ∷ 0 ∷ 1 ∷ [])) ∷ other tick ∷ other (receive []) ∷ other tick ∷ given 0 0 ∷ given 1 1
    ∷ other tick ∷ []

is_mixing : Mixing toy_answers toy 2 two mixture
unfolding all_below mixes
is_mixing = mixing two toy_answers toy 2 mixture refl (tt, (tt, (tt, ((λ e. absurd (omega arith)), (tt, (tt, (tt, (tt, (tt, (tt, tt))))))))))

cut-a : Cut toy_answers toy toy_judge 2 frame-a
unfolding states
cut-a =
    record {
      verdict = 5;
      is_good = refl;
      least = omega arith;
      most = omega arith;
      bytes = refl;
      some_byte = below_two (λ j. 0 < length (part_of frame-a j).bytes) (omega arith) (omega arith);
      sound = below_two (λ j. toy (part_of frame-a j).packet ≡ segment 2 (states frame-a j)) refl refl;
    }

cut-b : Cut toy_answers toy toy_judge 2 frame-b
unfolding states
cut-b =
    record {
      verdict = 5;
      is_good = refl;
      least = omega arith;
      most = omega arith;
      bytes = refl;
      some_byte = below_two (λ j. 0 < length (part_of frame-b j).bytes) (omega arith) (omega arith);
      sound = below_two (λ j. toy (part_of frame-b j).packet ≡ segment 2 (states frame-b j)) refl refl;
    }

cuts : (f : ℕ) → f < length two → Cut toy_answers toy toy_judge 2 (frame_of two f)
cuts zero l = cut-a
cuts (suc zero) l = cut-b
cuts (suc (suc f)) l = absurd (omega arith)

-- each of the two is delivered once, over every memory that is large enough
possible : (m : List ℕ) → 55296 ≤ length m → (f : ℕ) → f < 2
    → deliveries toy_answers (Unit {0}) toy_layers two f (record { ends = toy_set_up; mem = m }) mixture ≡ 1
possible m o f l = (toy_claim 2 (omega arith)).once two cuts mixture is_mixing m o f l
