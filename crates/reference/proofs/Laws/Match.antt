-- One peer: the slots of the first reassembler, over the memory of pieces (reassembly, Laws/Ghost), and the pending frames of the reference. They match, and a
-- segment or a tick keeps that, with the same result, unless the reference refuses with 32.
use Rattle.std.specs.Prelude.{◌≡◌, ◌≢◌, Bool, true, false, cond, List, [], ◌∷◌, map, ℕ, zero, suc, ◌+◌, ◌<◌, get_or, set, ltb, leb, eqb}
use Rattle.std.proofs.Math.Path.{refl}
use Rattle.std.proofs.Common.{sym, ap, ◌∙◌, arith, length-set, get_or-set_same, ltb-true, ltb-false, eqb-true, le-leb}
use Rattle.std.proofs.Math.Option.{none, some}
use Rattle.std.proofs.Math.ListN.{length}
use Rattle.std.proofs.lemmas.List.{length-map}
use Rattle.std.proofs.lemmas.Bool.{eqb-false, lt-leb}
use Rattle.reassembly.specs.Base.{some_below, all_below, table, within}
use Rattle.reassembly.proofs.Laws.Base.{case_b, case_o, either, clash, some_below_ext, all_below-none, all_below-more, table_none, table_more}
use Rattle.reassembly.specs.Slots.{Note, no_note, note_of, free, pending_slot, first, bears, is_free_slot}
use Rattle.reassembly.specs.Slots as S
use Rattle.reassembly.proofs.Laws.Slots.{note_of-pending, older-pending, First, first_some, first-none}
use Rattle.reassembly.specs.declared.slot.Slot.{Slot}
use Rattle.reassembly.specs.declared.slot.Peer.{Peer}
use Rattle.reassembly.specs.declared.take.Rejection.{Rejection}
use Rattle.reassembly.specs.declared.take.Rejection.TheVariants.{Empty, FrameLength, PastEnd, LengthDiffers, AlreadyReceived, NoSlot}
use Rattle.reassembly.specs.declared.take.Outcome.{Outcome}
use Rattle.reassembly.specs.declared.take.Outcome.TheVariants.{Rejected, Pending, Complete, NoMemory}
use Rattle.reassembly.specs.Take.{slot_no, Seg, Choice, old, fresh, choose_new, choose, chosen, note_after, opened_slot, further_slot, Effect, overlaps}
use Rattle.reassembly.specs.Take.{frame_in}
use Rattle.reassembly.specs.Take.{finish, placed, take_segment}
use Rattle.reassembly.specs.Take as T
use Rattle.reassembly.proofs.Laws.TakeFacts.{bears_is, bears-pending, bears_identifier, is_free-false, not_free}
use Rattle.reassembly.proofs.Laws.Sim.{set_cases}
use Rattle.reassembly.proofs.Laws.Answers.{slot_no_lem}
use Rattle.reassembly.proofs.Laws.Table.{chosen_is}
use Rattle.reassembly.proofs.Laws.RulesTake.{take_by}
use Rattle.reassembly.proofs.Laws.Deliver.{complete_is, overlaps_is, frame_is}
use Rattle.reassembly.proofs.Laws.Runs.{older-at}
use Rattle.reassembly.proofs.Laws.TakeTouch.{older_younger, older_gone}
use Rattle.reassembly.proofs.Laws.Ghost.{Piece, received_in, byte_in, ghost, upd_same, upd_other}
use Rattle.reassembly.specs.Mix.{how_many}
use Rattle.reassembly.proofs.Laws.Sums.{count_none, count_all, count_less, count_one}
use Rattle.reference.specs.Keyed.{find, put, without, Distinct}
use Rattle.reference.proofs.Laws.Keyed.{find-nothing, find-here, find_past, find-put-same, find-put-other, find-without-same, find-without-other}
use Rattle.reference.proofs.Laws.Keyed.{without-put, distinct_put, distinct_without}
use Rattle.reference.proofs.Laws.Frames.{find-older-none, distinct_older, find-older, has_within}
use Rattle.reference.specs.Reassembler.{Part, Frame, has, byte_at, rebuilt, is_some, repeats, notes, aged, older, Result, rejects, too_many, waits}
use Rattle.reference.specs.Reassembler.{most_segments}
use Rattle.reference.specs.Reassembler.{complete, Taken, identifier_of, refuses, takes, part_of, opened, further, looked, taken}

-- ---- a frame rebuilt is the frame of the pieces

abbrev pub piece_of : Part → Piece
piece_of g = record { offset = g.offset; bytes = g.bytes }

abbrev pub pieces : List Part → List Piece
pieces gs = map piece_of gs

byte_at_lem : (gs : List Part) (i : ℕ) → byte_at gs i ≡ cond (received_in (pieces gs) i) (some (byte_in (pieces gs) i)) none
unfolding byte_at
byte_at_lem [] i = refl
byte_at_lem (g ∷ gs) i =
    let h : has g i ≡ within g.offset (length g.bytes) i = has_within g i in
    case_b (within g.offset (length g.bytes) i)
    (λ e. rw (h, e))
    (λ e. rw (h, e) (byte_at_lem gs i))

some_at : (gs : List Part) (i : ℕ) → is_some (byte_at gs i) ≡ received_in (pieces gs) i
some_at gs i = rw (byte_at_lem gs i) (case_b (received_in (pieces gs) i) (λ e. rw e) (λ e. rw e))

rebuilt_is : (gs : List Part) (n : ℕ)
    → rebuilt gs n ≡ cond (all_below n (λ i. received_in (pieces gs) i)) (some (table n (λ i. byte_in (pieces gs) i))) none
unfolding rebuilt
rebuilt_is gs zero = rw (all_below-none (λ i. received_in (pieces gs) i), table_none (λ i. byte_in (pieces gs) i))
rebuilt_is gs (suc n) =
    rw (rebuilt_is gs n, byte_at_lem gs n, all_below-more n (λ i. received_in (pieces gs) i), table_more n (λ i. byte_in (pieces gs) i))
    (case_b (all_below n (λ i. received_in (pieces gs) i))
    (λ a. case_b (received_in (pieces gs) n) (λ b. rw (a, b)) (λ b. rw (a, b)))
    (λ a. case_b (received_in (pieces gs) n) (λ b. rw (a, b)) (λ b. rw (a, b))))

repeats_is : (gs : List Part) (g : Part) → repeats gs g ≡ some_below (length g.bytes) (λ i. received_in (pieces gs) (g.offset + i))
unfolding repeats
repeats_is gs g = some_below_ext (length g.bytes) _ _ (λ i l. some_at gs (g.offset + i))

-- ---- a row and a list of frames that match

-- slot s of peer p, which is v, holds the frame
pub record Held (p : ℕ) (m : ℕ → List Piece) (s : ℕ) (v : Slot) (fr : Frame) : Type 0 where
  pub identifier : fr.identifier ≡ v.identifier
  pub size : fr.size ≡ v.frame_length
  pub age : fr.age ≡ v.age
  pub note : notes fr.parts ≡ note_of v
  pub kept : m (slot_no p s) ≡ pieces fr.parts

pub record Found (p : ℕ) (m : ℕ → List Piece) (fs : List Frame) (s : ℕ) (v : Slot) : Type 0 where
  pub frame : Frame
  pub found : find identifier_of v.identifier fs ≡ some frame
  pub held : Held p m s v frame

-- no two pending slots bear one identifier
abbrev pub Apart : List Slot → Type 0
Apart row = (s t : ℕ) → s < 4 → t < 4 → (get_or row s free).pending ≡ true → (get_or row t free).pending ≡ true
    → (get_or row s free).identifier ≡ (get_or row t free).identifier → s ≡ t

-- no slot bears the identifier
abbrev pub NoBearer : List Slot → ℕ → Type 0
NoBearer row id = (t : ℕ) → t < 4 → bears id (get_or row t free) ≡ false

pub record Match (p : ℕ) (row : List Slot) (m : ℕ → List Piece) (fs : List Frame) : Type 0 where
  pub four : length row ≡ 4
  pub apart : Apart row
  pub distinct : Distinct identifier_of fs
  pub unknown : (id : ℕ) → NoBearer row id → find identifier_of id fs ≡ none
  pub known : (s : ℕ) → s < 4 → (get_or row s free).pending ≡ true → Found p m fs s (get_or row s free)

bears_not : (id : ℕ) (v : Slot) → v.identifier ≢ id → bears id v ≡ false
bears_not id v n = case_b (bears id v) (λ e. absurd (n (bears_identifier id v e))) (λ e. e)

bears-free : (id : ℕ) (v : Slot) → v.pending ≡ false → bears id v ≡ false
bears-free id v n = case_b (bears id v) (λ e. clash (cc (bears-pending id v e))) (λ e. e)

freed_apart : (row : List Slot) (s : ℕ) → s < 4 → length row ≡ 4 → Apart row → Apart (set row s free)
freed_apart row s l four apart a b la lb pa pb e =
    either (set_cases row s free free a (omega arith))
    (λ c. clash (cc c.1))
    (λ c. either (set_cases row s free free b (omega arith))
    (λ d. clash (cc d.1))
    (λ d. apart a b la lb (rw c.1 at pa) (rw d.1 at pb) (rw (c.1, d.1) at e)))

-- a slot that is freed bore one identifier: none else has another bearer for it
freed_bearer : (row : List Slot) (s id : ℕ) → s < 4 → length row ≡ 4 → (get_or row s free).identifier ≢ id → NoBearer (set row s free) id → NoBearer row id
freed_bearer row s id l four n f a la =
    either (set_cases row s free free a (omega arith))
    (λ c. rw c.0 (bears_not id (get_or row s free) n))
    (λ c. rw c.1 at (f a la))

-- ---- as many frames as pending slots

abbrev is_taken : List Slot → ℕ → Bool
is_taken row s = (get_or row s free).pending

record Named (row : List Slot) (fs : List Frame) : Type 0 where
  four : length row ≡ 4
  apart : Apart row
  distinct : Distinct identifier_of fs
  unknown : (id : ℕ) → NoBearer row id → find identifier_of id fs ≡ none
  listed : (s : ℕ) → s < 4 → (get_or row s free).pending ≡ true → is_some (find identifier_of (get_or row s free).identifier fs) ≡ true

as_many : (fs : List Frame) (row : List Slot) → Named row fs → length fs ≡ how_many 4 (is_taken row)
as_many [] row h =
    sym (count_none 4 (is_taken row) (λ s l.
    case_b (get_or row s free).pending
    (λ e. clash (cc (h.listed s l e, find-nothing identifier_of (get_or row s free).identifier)))
    (λ e. e)))
as_many (fr ∷ fs) row h =
    case_o (first (bears fr.identifier) row)
    (λ e. clash (cc (h.unknown fr.identifier (first-none (bears fr.identifier) row e), find-here identifier_of fr fs)))
    (λ s e. let b : First (bears fr.identifier) row s = first_some (bears fr.identifier) row s e in
    let l : s < 4 = b.is_slot in
    let t : (get_or row s free).pending ≡ true = bears-pending fr.identifier (get_or row s free) b.passes in
    let i : (get_or row s free).identifier ≡ fr.identifier = bears_identifier fr.identifier (get_or row s free) b.passes in
    ap suc (as_many fs (set row s free) (rest s l t i)) ∙ sym (less s l t))
  where
    rest : (s : ℕ) → s < 4 → (get_or row s free).pending ≡ true → (get_or row s free).identifier ≡ fr.identifier → Named (set row s free) fs
    rest s l t i =
        record {
          four = length-set row s free ∙ h.four;
          apart = freed_apart row s l h.four h.apart;
          distinct = h.distinct.1;
          unknown = λ id f.
              case_b (eqb fr.identifier id)
              (λ q. rw (← eqb-true fr.identifier id q) h.distinct.0)
              (λ q. let n : fr.identifier ≢ id = eqb-false fr.identifier id q in
              sym (find_past identifier_of fr fs id n) ∙ h.unknown id (freed_bearer row s id l h.four (λ z. n (sym i ∙ z)) f));
          listed = λ a la pa.
              either (set_cases row s free free a (omega (arith, h.four)))
              (λ c. clash (cc c.1))
              (λ c. let pa' : (get_or row a free).pending ≡ true = rw c.1 at pa in
              let n : fr.identifier ≢ (get_or row a free).identifier = λ z. c.0 (h.apart a s la l pa' t (sym z ∙ sym i)) in
              rw c.1 (ap is_some (sym (find_past identifier_of fr fs (get_or row a free).identifier n)) ∙ h.listed a la pa'));
        }

    less : (s : ℕ) → s < 4 → (get_or row s free).pending ≡ true → how_many 4 (is_taken row) ≡ suc (how_many 4 (is_taken (set row s free)))
    less s l t =
        count_one 4 (is_taken row) (is_taken (set row s free)) s l t
        (ap (λ (v : Slot). v.pending) (get_or-set_same row s free free (omega (arith, h.four))))
        (λ a la n.
        either (set_cases row s free free a (omega (arith, h.four)))
        (λ c. absurd (n c.0))
        (λ c. ap (λ (v : Slot). v.pending) (sym c.1)))

match_count : (p : ℕ) (row : List Slot) (m : ℕ → List Piece) (fs : List Frame) → Match p row m fs → length fs ≡ how_many 4 (is_taken row)
match_count p row m fs h =
    as_many fs row
    (record { four = h.four; apart = h.apart; distinct = h.distinct; unknown = h.unknown; listed = λ s l t. ap is_some (h.known s l t).found })

-- ---- a slot written, freed, aged

module _ (p : ℕ) where
  held_moves : (m m' : ℕ → List Piece) (s : ℕ) (v : Slot) (fr : Frame) → m' (slot_no p s) ≡ m (slot_no p s) → Held p m s v fr → Held p m' s v fr
  held_moves m m' s v fr e h = record { identifier = h.identifier; size = h.size; age = h.age; note = h.note; kept = e ∙ h.kept }

  -- the slots of a peer have different numbers
  slots_differ : (s t : ℕ) → t ≢ s → slot_no p t ≢ slot_no p s
  slots_differ s t n z = n (omega (arith, slot_no_lem p s, slot_no_lem p t))

  -- slot s takes v, which holds the frame: no other slot bears its identifier, and slot s bore no other
  put_match : (row : List Slot) (m m' : ℕ → List Piece) (fs : List Frame) (s : ℕ) (v : Slot) (fr : Frame) → s < 4 → v.pending ≡ true → Match p row m fs
      → ((t : ℕ) → t < 4 → t ≢ s → (get_or row t free).pending ≡ true → v.identifier ≢ (get_or row t free).identifier)
      → ((id : ℕ) → v.identifier ≢ id → bears id (get_or row s free) ≡ false)
      → ((t : ℕ) → t ≢ s → m' (slot_no p t) ≡ m (slot_no p t)) → Held p m' s v fr
      → Match p (set row s v) m' (put identifier_of fr fs)
  put_match row m m' fs s v fr l pv h others own left here =
      record {
        four = length-set row s v ∙ h.four;
        apart = λ a b la lb pa pb e.
            either (set_cases row s v free a (omega (arith, h.four)))
            (λ c. either (set_cases row s v free b (omega (arith, h.four)))
            (λ d. c.0 ∙ sym d.0)
            (λ d. absurd (others b lb d.0 (rw d.1 at pb) (rw (c.1, d.1) at e))))
            (λ c. either (set_cases row s v free b (omega (arith, h.four)))
            (λ d. absurd (others a la c.0 (rw c.1 at pa) (sym (rw (c.1, d.1) at e))))
            (λ d. h.apart a b la lb (rw c.1 at pa) (rw d.1 at pb) (rw (c.1, d.1) at e)));
        distinct = distinct_put identifier_of fr fs h.distinct;
        unknown = λ id f.
            let sv : get_or (set row s v) s free ≡ v = get_or-set_same row s v free (omega (arith, h.four)) in
            let n : v.identifier ≢ id = λ z. clash (cc (f s l, sv, bears_is id v pv z)) in
            find-put-other identifier_of fr fs id (λ z. n (sym here.identifier ∙ z)) ∙ h.unknown id (λ a la.
            either (set_cases row s v free a (omega (arith, h.four)))
            (λ c. rw c.0 (own id n))
            (λ c. rw c.1 at (f a la)));
        known = λ a la pa.
            either (set_cases row s v free a (omega (arith, h.four)))
            (λ c. rw (c.1, c.0)
            (record {
              frame = fr;
              found = ap (λ (i : ℕ). find identifier_of i (put identifier_of fr fs)) (sym here.identifier) ∙ find-put-same identifier_of fr fs;
              held = here;
            }))
            (λ c. let pa' : (get_or row a free).pending ≡ true = rw c.1 at pa in
            let f : Found p m fs a (get_or row a free) = h.known a la pa' in
            rw c.1
            (record {
              frame = f.frame;
              found = find-put-other identifier_of fr fs (get_or row a free).identifier (λ z. others a la c.0 pa' (sym here.identifier ∙ z)) ∙ f.found;
              held = held_moves m m' a (get_or row a free) f.frame (left a c.0) f.held;
            }));
      }

  free_match : (row : List Slot) (m : ℕ → List Piece) (fs : List Frame) (s id : ℕ) → s < 4 → Match p row m fs → (get_or row s free).pending ≡ true
      → (get_or row s free).identifier ≡ id → Match p (set row s free) m (without identifier_of id fs)
  free_match row m fs s id l h t i =
      record {
        four = length-set row s free ∙ h.four;
        apart = freed_apart row s l h.four h.apart;
        distinct = distinct_without identifier_of id fs h.distinct;
        unknown = λ j f.
            case_b (eqb id j)
            (λ q. rw (← eqb-true id j q) (find-without-same identifier_of id fs))
            (λ q. let n : id ≢ j = eqb-false id j q in
            find-without-other identifier_of id j fs n ∙ h.unknown j (freed_bearer row s j l h.four (λ z. n (sym i ∙ z)) f));
        known = λ a la pa.
            either (set_cases row s free free a (omega (arith, h.four)))
            (λ c. clash (cc c.1))
            (λ c. let pa' : (get_or row a free).pending ≡ true = rw c.1 at pa in
            let f : Found p m fs a (get_or row a free) = h.known a la pa' in
            rw c.1
            (record {
              frame = f.frame;
              found = find-without-other identifier_of id (get_or row a free).identifier fs (λ z. c.0 (h.apart a s la l pa' t (sym z ∙ sym i))) ∙ f.found;
              held = f.held;
            }));
      }

  -- a slot that stays pending is young
  young : (v : Slot) → (S.older v).pending ≡ true → ltb (v.age + 1) 4 ≡ true
  young v e =
      case_b (ltb (v.age + 1) 4)
      (λ q. q)
      (λ q. let z : S.older v ≡ free = older_gone v (older-pending v e).0 (ltb-false (v.age + 1) 4 q) in clash (cc))

  pub tick_match : (row : List Slot) (m : ℕ → List Piece) (fs : List Frame) → Match p row m fs → Match p (map S.older row) m (older fs)
  tick_match row m fs h =
      record {
        four = length-map row S.older ∙ h.four;
        apart = λ a b la lb pa pb e.
            let ya = older-pending (get_or row a free) (rw (older-at row a) at pa) in
            let yb = older-pending (get_or row b free) (rw (older-at row b) at pb) in
            h.apart a b la lb ya.0 yb.0 (rw (older-at row a, older-at row b, ya.1, yb.1) at e);
        distinct = distinct_older fs h.distinct;
        unknown = λ id f.
            case_o (first (bears id) row)
            (λ e. find-older-none id fs (h.unknown id (first-none (bears id) row e)))
            (λ s e. let b : First (bears id) row s = first_some (bears id) row s e in
            let t : (get_or row s free).pending ≡ true = bears-pending id (get_or row s free) b.passes in
            let i : (get_or row s free).identifier ≡ id = bears_identifier id (get_or row s free) b.passes in
            gone id s (get_or row s free) t i (h.known s b.is_slot t) (rw (older-at row s) at (f s b.is_slot)));
        known = λ a la pa.
            let pa' : (S.older (get_or row a free)).pending ≡ true = rw (older-at row a) at pa in
            let y = older-pending (get_or row a free) pa' in
            rw (older-at row a, y.1) (aged-found a (get_or row a free) (young (get_or row a free) pa') (h.known a la y.0));
      }
    where
      gone : (id s : ℕ) (v : Slot) → v.pending ≡ true → v.identifier ≡ id → Found p m fs s v → bears id (S.older v) ≡ false
          → find identifier_of id (older fs) ≡ none
      gone id s v t i w f =
          case_b (ltb (v.age + 1) 4)
          (λ q. let y = older_younger v t (ltb-true (v.age + 1) 4 q) in
          clash (cc (f, bears_is id (S.older v) (ap (λ (x : Slot). x.pending) y) (ap (λ (x : Slot). x.identifier) y ∙ i))))
          (λ q. find-older id fs w.frame h.distinct (rw i at w.found) ∙ rw (w.held.age, q))

      aged-found : (s : ℕ) (v : Slot) → ltb (v.age + 1) 4 ≡ true → Found p m fs s v
          → Found p m (older fs) s (pending_slot v.identifier v.frame_length (v.age + 1) (note_of v))
      aged-found s v q w =
          record {
            frame = aged w.frame;
            found = find-older v.identifier fs w.frame h.distinct w.found ∙ rw (w.held.age, q);
            held =
                record {
                  identifier = w.held.identifier;
                  size = w.held.size;
                  age = ap (λ (x : ℕ). x + 1) w.held.age;
                  note = w.held.note ∙ sym (note_of-pending v.identifier v.frame_length (v.age + 1) (note_of v));
                  kept = w.held.kept;
                };
          }

  -- ---- a segment

  -- what the first one's effect comes to
  abbrev pub result_of : Seg → Effect ghost → Outcome → Result
  result_of g o (Rejected r) = rejects r
  result_of g o Pending = waits
  result_of g o (Complete s) = complete o.note (frame_in ghost o.mem (slot_no p s) g.frame_length)
  result_of g o NoMemory = too_many

  pub record Agrees (g : Seg) (o : Effect ghost) (t : Taken) : Type 0 where
    pub result : t.result ≡ result_of g o o.outcome
    pub match : Match p o.row.slots o.mem t.frames

  refused_same : (row : List Slot) (m : ℕ → List Piece) (fs : List Frame) (g : Seg) (r : Rejection) → Match p row m fs
      → Agrees g (T.rejects ghost r row m) (refuses fs (rejects r))
  refused_same row m fs g r h = record { result = refl; match = h }

  -- slot s has been written, and so has the list: the frame is complete in both or in neither
  settled_same : (row : List Slot) (m : ℕ → List Piece) (fs : List Frame) (s : ℕ) (v : Slot) (fr : Frame) (g : Seg) (note : Note) → s < 4
      → Match p row m (put identifier_of fr fs) → get_or row s free ≡ v → v.pending ≡ true → Held p m s v fr → v.frame_length ≡ g.frame_length
      → note ≡ notes fr.parts → Agrees g (finish ghost p s row m g note) (takes fs fr)
  settled_same row m fs s v fr g note l h sv pv here n e =
      let k : ℕ = slot_no p s in
      let size : ℕ = g.frame_length in
      let c : T.complete ghost m k size ≡ all_below size (λ i. received_in (pieces fr.parts) i) = complete_is m k size (pieces fr.parts) here.kept in
      let f : frame_in ghost m k size ≡ table size (λ i. byte_in (pieces fr.parts) i) = frame_is m k size (pieces fr.parts) here.kept in
      let r : rebuilt fr.parts fr.size ≡ cond (T.complete ghost m k size) (some (frame_in ghost m k size)) none =
      ap (rebuilt fr.parts) (here.size ∙ n) ∙ rebuilt_is fr.parts size ∙ rw (c, f) in
      case_b (T.complete ghost m (slot_no p s) g.frame_length)
      (λ q. let r' : rebuilt fr.parts fr.size ≡ some (frame_in ghost m k size) = r ∙ rw q in
      rw (q, r')
      (record {
        result = ap (λ (x : Note). complete x (frame_in ghost m k size)) (sym e);
        match =
            rw (← without-put identifier_of fr fs)
            (free_match row m (put identifier_of fr fs) s fr.identifier l h (rw sv pv) (rw sv (sym here.identifier)));
      }))
      (λ q. let r' : rebuilt fr.parts fr.size ≡ none = r ∙ rw q in
      rw (q, r') (record { result = refl; match = h }))

  note_one : (g : Seg) → notes (part_of g ∷ []) ≡ note_after no_note g
  unfolding notes
  note_one g = refl

  note_more : (g : Seg) (gs : List Part) → notes (part_of g ∷ gs) ≡ note_after (notes gs) g
  unfolding notes
  note_more g gs = refl

  fresh-same : (row : List Slot) (m : ℕ → List Piece) (fs : List Frame) (g : Seg) (s : ℕ) → s < 4 → (get_or row s free).pending ≡ false
      → NoBearer row g.identifier → Match p row m fs → Agrees g (placed ghost p row m g (fresh s)) (takes fs (opened g))
  fresh-same row m fs g s l f unknown h =
      let k : ℕ = slot_no p s in
      let v : Slot = opened_slot g in
      let m₁ : ℕ → List Piece = ghost.clear m k in
      let m' : ℕ → List Piece = ghost.put m₁ k g.offset g.bytes in
      let kept : m' k ≡ piece_of (part_of g) ∷ [] =
      upd_same m₁ k (piece_of (part_of g) ∷ m₁ k) ∙ ap (λ (x : List Piece). piece_of (part_of g) ∷ x) (upd_same m k []) in
      let here : Held p m' s v (opened g) =
      record {
        identifier = refl;
        size = refl;
        age = refl;
        note = note_one g ∙ sym (note_of-pending g.identifier g.frame_length 0 (note_after no_note g));
        kept = kept;
      } in
      let sv : get_or (set row s v) s free ≡ v = get_or-set_same row s v free (omega (arith, h.four)) in
      settled_same (set row s v) m' fs s v (opened g) g (note_after no_note g) l
      (put_match row m m' fs s v (opened g) l refl h
      (λ t lt n pt z. clash (cc (unknown t lt, bears_is g.identifier (get_or row t free) pt (sym z))))
      (λ id n. bears-free id (get_or row s free) f)
      (λ t n. upd_other m₁ k (piece_of (part_of g) ∷ m₁ k) (slot_no p t) (slots_differ s t n) ∙ upd_other m k [] (slot_no p t) (slots_differ s t n))
      here)
      sv refl here refl (sym (note_one g))

  further_same : (row : List Slot) (m : ℕ → List Piece) (fs : List Frame) (g : Seg) (s : ℕ) (w : Found p m fs s (get_or row s free)) → s < 4
      → (get_or row s free).pending ≡ true → (get_or row s free).frame_length ≡ g.frame_length → overlaps ghost m (slot_no p s) g ≡ false → Match p row m fs
      → Agrees g (placed ghost p row m g (old s)) (takes fs (further w.frame g))
  further_same row m fs g s w l t n e h =
      let k : ℕ = slot_no p s in
      let u : Slot = get_or row s free in
      let v : Slot = further_slot (get_or row s free) g in
      let m' : ℕ → List Piece = ghost.put m k g.offset g.bytes in
      let fr : Frame = further w.frame g in
      let kept : m' k ≡ piece_of (part_of g) ∷ pieces w.frame.parts =
      upd_same m k (piece_of (part_of g) ∷ m k) ∙ ap (λ (x : List Piece). piece_of (part_of g) ∷ x) w.held.kept in
      let note : notes (part_of g ∷ w.frame.parts) ≡ note_after (note_of (get_or row s free)) g =
      note_more g w.frame.parts ∙ ap (λ (x : Note). note_after x g) w.held.note in
      let here : Held p m' s v fr =
      record {
        identifier = w.held.identifier;
        size = w.held.size;
        age = w.held.age;
        note = note ∙ sym (note_of-pending u.identifier u.frame_length u.age (note_after (note_of u) g));
        kept = kept;
      } in
      let sv : get_or (set row s v) s free ≡ v = get_or-set_same row s v free (omega (arith, h.four)) in
      rw e
      (settled_same (set row s v) m' fs s v fr g (note_after (note_of (get_or row s free)) g) l
      (put_match row m m' fs s v fr l refl h
      (λ a la d pa z. d (h.apart a s la l pa t (sym z)))
      (λ id d. bears_not id (get_or row s free) d)
      (λ a d. upd_other m k (piece_of (part_of g) ∷ m k) (slot_no p a) (slots_differ s a d))
      here)
      sv refl here n (sym note))

  -- the identifier is new to both
  new-same : (row : List Slot) (m : ℕ → List Piece) (fs : List Frame) (g : Seg) → NoBearer row g.identifier → Match p row m fs
      → Agrees g (placed ghost p row m g (choose_new (first is_free_slot row))) (looked fs g none)
  new-same row m fs g unknown h =
      let n : length fs ≡ how_many 4 (is_taken row) = match_count p row m fs h in
      case_o (first is_free_slot row)
      (λ e. let c : how_many 4 (is_taken row) ≡ 4 = count_all 4 (is_taken row) (λ i l. not_free (get_or row i free) (first-none is_free_slot row e i l)) in
      let q : leb 4 (length fs) ≡ true = le-leb 4 (length fs) (omega arith) in
      rw (e, q) (refused_same row m fs g NoSlot h))
      (λ s e. let b : First is_free_slot row s = first_some is_free_slot row s e in
      let f : (get_or row s free).pending ≡ false = is_free-false (get_or row s free) b.passes in
      let c : how_many 4 (is_taken row) < 4 = count_less 4 (is_taken row) s b.is_slot f in
      let q : leb 4 (length fs) ≡ false = lt-leb 4 (length fs) (omega arith) in
      rw (e, q) (fresh-same row m fs g s b.is_slot f unknown h))

  -- the identifier is pending in both
  known_same : (row : List Slot) (m : ℕ → List Piece) (fs : List Frame) (g : Seg) (s : ℕ) (w : Found p m fs s (get_or row s free)) → s < 4
      → (get_or row s free).pending ≡ true → (looked fs g (some w.frame)).result ≢ too_many → Match p row m fs
      → Agrees g (placed ghost p row m g (choose row g (some s))) (looked fs g (some w.frame))
  known_same row m fs g s w l t few h =
      let z : w.frame.size ≡ (get_or row s free).frame_length = w.held.size in
      let r : repeats w.frame.parts (part_of g) ≡ overlaps ghost m (slot_no p s) g =
      repeats_is w.frame.parts (part_of g) ∙ sym (overlaps_is m (slot_no p s) g (pieces w.frame.parts) w.held.kept) in
      case_b (eqb (get_or row s free).frame_length g.frame_length)
      (λ a. let a' : eqb w.frame.size g.frame_length ≡ true = ap (λ (x : ℕ). eqb x g.frame_length) z ∙ a in
      case_b (overlaps ghost m (slot_no p s) g)
      (λ b. let b' : repeats w.frame.parts (part_of g) ≡ true = r ∙ b in
      rw (a, a', b, b') (refused_same row m fs g AlreadyReceived h))
      (λ b. let b' : repeats w.frame.parts (part_of g) ≡ false = r ∙ b in
      case_b (leb most_segments (length w.frame.parts))
      (λ c. absurd (few (rw (a', b', c))))
      (λ c. rw (a, a', b', c) (further_same row m fs g s w l t (eqb-true (get_or row s free).frame_length g.frame_length a) b h))))
      (λ a. let a' : eqb w.frame.size g.frame_length ≡ false = ap (λ (x : ℕ). eqb x g.frame_length) z ∙ a in
      rw (a, a') (refused_same row m fs g LengthDiffers h))

  looked-same : (row : List Slot) (m : ℕ → List Piece) (fs : List Frame) (g : Seg)
      → (looked fs g (find identifier_of g.identifier fs)).result ≢ too_many → Match p row m fs
      → Agrees g (placed ghost p row m g (choose row g (first (bears g.identifier) row))) (looked fs g (find identifier_of g.identifier fs))
  looked-same row m fs g few h =
      case_o (first (bears g.identifier) row)
      (λ e. let unknown : NoBearer row g.identifier = first-none (bears g.identifier) row e in
      rw (e, h.unknown g.identifier unknown) (new-same row m fs g unknown h))
      (λ s e. let b : First (bears g.identifier) row s = first_some (bears g.identifier) row s e in
      let t : (get_or row s free).pending ≡ true = bears-pending g.identifier (get_or row s free) b.passes in
      let w : Found p m fs s (get_or row s free) = h.known s b.is_slot t in
      let f : find identifier_of g.identifier fs ≡ some w.frame =
      ap (λ (i : ℕ). find identifier_of i fs) (sym (bears_identifier g.identifier (get_or row s free) b.passes)) ∙ w.found in
      rw (e, f) (known_same row m fs g s w b.is_slot t (rw f at few) h))

  -- ONE SEGMENT: the same result, and they still match
  pub take_same : (row : Peer) (m : ℕ → List Piece) (fs : List Frame) (g : Seg) → (taken fs g).result ≢ too_many → Match p row.slots m fs
      → Agrees g (take_segment ghost p row m g) (taken fs g)
  unfolding taken
  take_same row m fs g few h =
      rw (take_by ghost p row m g (chosen row.slots g) refl, chosen_is (λ (c : Choice). c) row.slots g)
      (case_b (eqb (length g.bytes) 0)
      (λ a. rw a (refused_same row.slots m fs g Empty h))
      (λ a. case_b (ltb g.frame_length 32)
      (λ b. rw (a, b) (refused_same row.slots m fs g FrameLength h))
      (λ b. case_b (ltb 1532 g.frame_length)
      (λ c. rw (a, b, c) (refused_same row.slots m fs g FrameLength h))
      (λ c. case_b (ltb g.frame_length (g.offset + length g.bytes))
      (λ d. rw (a, b, c, d) (refused_same row.slots m fs g PastEnd h))
      (λ d. rw (a, b, c, d) (looked-same row.slots m fs g (rw (a, b, c, d) at few) h))))))
