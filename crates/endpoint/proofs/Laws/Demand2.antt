-- Demand 2, receiving, proved of every set-up: first of one receive (`sound`, `complete-packet`, `complete_memory`), then over runs, joined with EveryRun.
use Prim.Native.Nat.{ℕ, ◌+◌, ◌-◌, ◌<◌, ◌≤◌}
use Rattle.std.specs.Prelude.{◌≡◌, ◌⊎◌, Bool, false, take, drop, ltb, Ok, Err}
use Rattle.std.proofs.Math.Path.{refl, ap}
use Rattle.std.proofs.Common.{sym, subst, ◌∙◌, inl, inr, arith, le-ltb}
use Rattle.std.proofs.Math.Bool.{true}
use mathlib.Core.List.{List, [], ◌∷◌}
use Rattle.std.proofs.Math.ListN.{length}
use Rattle.wire.specs.Bytes.{Bytes, part}
use Rattle.wire.proofs.Laws.Bytes.{part_is, bytes-part}
use Rattle.reassembly.proofs.Laws.Base.{case_b}
use Rattle.reassembly.specs.Take.{Seg, slot_no, frame_in}
use Rattle.reassembly.specs.Store.{bytes_of, take_in, slot_start}
use Rattle.reassembly.proofs.Laws.Store.{slot-inside}
use Rattle.reassembly.proofs.Laws.Answers.{part-fits, view_packet, bad_reply, good_reply, rejected_reply, pending_reply, no_memory_reply, complete_reply}
use Rattle.reassembly.proofs.Laws.TakeIn.{take_whole, take-length, frame-part}
use Rattle.reassembly.specs.Receive.{view_of, Answer, Reading, other_sender, direct, segment, Verdict, bad, good, frame_answer, take_answer, Event, receive}
use Rattle.reassembly.specs.Receive.{tick}
use Rattle.reassembly.specs.declared.take.Outcome.{Outcome}
use Rattle.reassembly.specs.declared.take.Outcome.TheVariants as O
use Rattle.reassembly.specs.EveryRun.{IfAndOnlyIf}
use Rattle.endpoint.specs.Answer.{place_of}
use Rattle.endpoint.specs.Config.{Config, config_of, Adding, set_up}
use Rattle.endpoint.proofs.Laws.Receive.{header-all, Conclusive, header_conclusive, slot_view}
use Rattle.endpoint.specs.Receive.{answers, is_delivered, header_of, judge_of, row_at, stepped, step_of, layers}
use Rattle.endpoint.specs.Receive.{world_of}
use Rattle.endpoint.specs.Formats.{CarriesFrame, CarriesSegment, GoodFrame}
use Rattle.endpoint.proofs.Laws.Formats.{Lies, judge_sound, judge-complete, segment_sound, segment_complete, frame_sound, frame-complete}
use Rattle.endpoint.specs.declared.answer.Place.{Place}
use Rattle.endpoint.specs.declared.answer.Target.{Target}
use Rattle.endpoint.specs.declared.answer.Received.TheVariants as R
use Rattle.endpoint.specs.declared.answer.Drop.TheVariants as D
use Rattle.endpoint.specs.declared.config.Endpoint.{Endpoint}
use Rattle.reassembly.proofs.Laws.StoreBytes.{take-bytes}
use Rattle.reassembly.specs.SetUp.{World, runs}
use Rattle.reassembly.specs.History.{taking}
use Rattle.reassembly.proofs.Laws.MadeUp.{complete_gathers, gathers_complete}
use Rattle.endpoint.proofs.Laws.Config.{config_tick}
use Rattle.endpoint.specs.Run.{Left, called, calls}
use Rattle.endpoint.proofs.Laws.Calls.{config_row, calls_are}
use Rattle.endpoint.specs.Run.{Left, called, calls, left, ends_of}
use Rattle.endpoint.specs.Demand2.{Delivers, MadeUp, Packets}
use Rattle.endpoint.proofs.Laws.Demand3.{set_up_every}
use Rattle.reassembly.specs.Slots.{most_peers}

-- the packet carries a segment of a listed peer's that makes its frame complete, and the complete frame is good, for the target, and carries the inner frame
pub record Completes (e : Endpoint) (m k : List ℕ) (t : Target) (frame : List ℕ) : Type 0 where
  pub p : ℕ
  pub g : Seg
  pub carried : CarriesSegment (config_of e) k p g
  pub slot : ℕ
  pub complete : (take_in p (row_at e p) m g).outcome ≡ O.Complete slot
  pub good_frame : GoodFrame (config_of e) p (frame_in bytes_of (take_in p (row_at e p) m g).mem (slot_no p slot) g.frame_length) t frame

-- ---- a run leaves the configuration and the memory's length, and bytes

called_config : (w : Left) (e : Event) → config_of (called w e).endpoint ≡ config_of w.endpoint
called_config w tick = config_tick w.endpoint
called_config w (receive k) = config_row w.endpoint _ _

pub calls_config : (w : Left) (es : List Event) → config_of (calls w es).endpoint ≡ config_of w.endpoint
calls_config w [] = refl
calls_config w (e ∷ es) = calls_config (called w e) es ∙ called_config w e

step-length : (e : Endpoint) (m k : List ℕ) → length (step_of e m k).mem ≡ length m
unfolding step_of
step-length e m k = case_b (ltb (length m) 55296) (λ b. rw b refl) (λ b. rw b (seen (header_of (config_of e) k)))
  where
    seen : (x : Reading answers) → length (stepped e m x).mem ≡ length m
    seen (other_sender a) = refl
    seen (direct p a) = refl
    seen (segment p g) = take-length p (row_at e p) m g

called-length : (w : Left) (e : Event) → length (called w e).mem ≡ length w.mem
called-length w tick = refl
called-length w (receive k) = step-length w.endpoint w.mem k

pub calls-length : (w : Left) (es : List Event) → length (calls w es).mem ≡ length w.mem
calls-length w [] = refl
calls-length w (e ∷ es) = calls-length (called w e) es ∙ called-length w e

-- a segment is a part of its packet
abbrev pub SegBytes : Reading answers → Type 0
SegBytes (other_sender a) = Unit {0}
SegBytes (direct p a) = Unit {0}
SegBytes (segment p g) = Bytes g.bytes

pub header-bytes : (c : Config) (k : List ℕ) → Bytes k → SegBytes (header_of c k)
header-bytes c k b =
    header-all c k SegBytes
    (λ d none. tt)
    (λ a p q start r. tt)
    (λ a p q kind network at frame. tt)
    (λ a p q g start end. bytes-part k b start end)

pub step-bytes : (e : Endpoint) (m k : List ℕ) → Bytes m → Bytes k → Bytes (step_of e m k).mem
unfolding step_of
step-bytes e m k bm bk = case_b (ltb (length m) 55296) (λ b. rw b bm) (λ b. rw b (seen (header_of (config_of e) k) (header-bytes (config_of e) k bk)))
  where
    seen : (x : Reading answers) → SegBytes x → Bytes (stepped e m x).mem
    seen (other_sender a) h = bm
    seen (direct p a) h = bm
    seen (segment p g) h = take-bytes p (row_at e p) m g bm h

calls-bytes : (w : Left) (es : List Event) → Bytes w.mem → Packets es → Bytes (calls w es).mem
calls-bytes w [] b h = b
calls-bytes w (tick ∷ es) b h = calls-bytes (called w tick) es b h
calls-bytes w (receive k ∷ es) b h = calls-bytes (called w (receive k)) es (step-bytes w.endpoint w.mem k b h.0) h.1

-- ---- views

pub lies_view : (k m : List ℕ) (place : Place) (frame : List ℕ) → Lies k place frame → view_of k m (place_of place) ≡ frame
lies_view k m place frame l =
    let size : place.start + place.length - place.start ≡ place.length = omega arith in
    view_packet k m (place_of place) l.in_packet
    ∙ part-fits k place.start place.length l.within
    ∙ ap (λ (n : ℕ). take n (drop place.start k)) (sym size) ∙ sym (part_is k place.start (place.start + place.length)) ∙ l.bytes

-- ---- one receive, sound

pub verdict-good : (x : Verdict answers) (i n : ℕ) (frame : List ℕ) (t : Target) (place : Place) → (frame_answer answers x i n frame).reply ≡ Ok (R.Delivered t place)
    → (x ≡ good t) × (record { start = slot_start i + 18; length = n - 18; in_memory = true } ≡ place)
verdict-good (bad b) i n frame t place e =
    let y : Err b ≡ Ok (R.Delivered t place) = sym (bad_reply answers b i n frame) ∙ e in
    let z : ◌≡◌ {A = ℕ} 0 1 = cc in absurd (omega arith)
verdict-good (good u) i n frame t place e =
    let y : Ok (R.Delivered u (record { start = slot_start i + 18; length = n - 18; in_memory = true })) ≡ Ok (R.Delivered t place) =
    sym (good_reply answers u i n frame) ∙ e in
    (cc, cc)

frame-bytes : (n : List ℕ) → Bytes n → (i size : ℕ) → slot_start i + size ≤ length n → Bytes (frame_in bytes_of n i size)
frame-bytes n b i size f =
    let s : slot_start i + size - slot_start i ≡ size = omega arith in
    let q : frame_in bytes_of n i size ≡ part n (slot_start i) (slot_start i + size) =
    frame-part n i size f ∙ ap (λ (x : ℕ). take x (drop (slot_start i) n)) (sym s) ∙ sym (part_is n (slot_start i) (slot_start i + size)) in
    rw q (bytes-part n b (slot_start i) (slot_start i + size))

-- a complete frame that is judged good, and what the place that is answered shows of it
module _ (e : Endpoint) (m k : List ℕ) (p : ℕ) (g : Seg) (s : ℕ) (q : (take_in p (row_at e p) m g).outcome ≡ O.Complete s) where
  abbrev after : List ℕ
  after = (take_in p (row_at e p) m g).mem

  pub after-inside : slot_start (slot_no p s) + g.frame_length ≤ length after
  after-inside =
      let whole = take_whole p s (row_at e p) m g q in
      slot-inside after p s g.frame_length (omega (arith, whole.memory, take-length p (row_at e p) m g)) whole.is_peer_lem whole.is_slot
      (omega (arith, whole.fits.most))

  pub judged-good : Bytes after → (t : Target)
      → judge_of (config_of e) p (take_in p (row_at e p) m g).note (frame_in bytes_of after (slot_no p s) g.frame_length) ≡ good t
      → GoodFrame (config_of e) p (frame_in bytes_of after (slot_no p s) g.frame_length) t
      (view_of k after (record { in_lent_memory = true; start = slot_start (slot_no p s) + 18; len = g.frame_length - 18 }))
  judged-good b t j =
      let frame : List ℕ = frame_in bytes_of after (slot_no p s) g.frame_length in
      let whole = take_whole p s (row_at e p) m g q in
      subst (λ (x : List ℕ). GoodFrame (config_of e) p frame t x)
      (sym (slot_view k after (slot_no p s) g.frame_length (omega (arith, whole.fits.least)) after-inside))
      (judge_sound (config_of e) p (take_in p (row_at e p) m g).note frame t (frame-bytes after b (slot_no p s) g.frame_length after-inside) j)

module _ (e : Endpoint) (m k : List ℕ) (enough : 55296 ≤ length m) (packet : Bytes k) where
  module _ (memory : Bytes m) (t : Target) (frame : List ℕ) where
    taken_sound : (p : ℕ) (g : Seg) → header_of (config_of e) k ≡ segment p g → Bytes (take_in p (row_at e p) m g).mem → (o : Outcome)
        → (take_in p (row_at e p) m g).outcome ≡ o
        → (place : Place) → (take_answer answers (judge_of (config_of e)) bytes_of p g (take_in p (row_at e p) m g) o).reply ≡ Ok (R.Delivered t place)
        → view_of k (take_in p (row_at e p) m g).mem (place_of place) ≡ frame → Completes e m k t frame
    taken_sound p g h b (O.Rejected r) q place a w =
        let y : Err (D.Segment r) ≡ Ok (R.Delivered t place) =
        sym (rejected_reply answers (judge_of (config_of e)) bytes_of p g (take_in p (row_at e p) m g) r) ∙ a in
        let z : ◌≡◌ {A = ℕ} 0 1 = cc in absurd (omega arith)
    taken_sound p g h b O.Pending q place a w =
        let y : (Ok R.Pending) ≡ Ok (R.Delivered t place) = sym (pending_reply answers (judge_of (config_of e)) bytes_of p g (take_in p (row_at e p) m g)) ∙ a in
        let z : ◌≡◌ {A = ℕ} 0 1 = cc in absurd (omega arith)
    taken_sound p g h b O.NoMemory q place a w =
        let y : Err D.MemoryTooSmall ≡ Ok (R.Delivered t place) = sym
        (no_memory_reply answers (judge_of (config_of e)) bytes_of p g (take_in p (row_at e p) m g)) ∙ a in
        let z : ◌≡◌ {A = ℕ} 0 1 = cc in absurd (omega arith)
    taken_sound p g h b (O.Complete s) q place a w =
        let whole : List ℕ = frame_in bytes_of (take_in p (row_at e p) m g).mem (slot_no p s) g.frame_length in
        let x = verdict-good (judge_of (config_of e) p (take_in p (row_at e p) m g).note whole) (slot_no p s) g.frame_length whole t place
        (sym (ap (λ (y : Answer answers). y.reply) (complete_reply answers (judge_of (config_of e)) bytes_of p g (take_in p (row_at e p) m g) s)) ∙ a) in
        let at : Place = record { start = slot_start (slot_no p s) + 18; length = g.frame_length - 18; in_memory = true } in
        let same : view_of k (take_in p (row_at e p) m g).mem (place_of at) ≡ frame =
        ap (λ (y : Place). view_of k (take_in p (row_at e p) m g).mem (place_of y)) x.1 ∙ w in
        record {
          p = p;
          g = g;
          carried = segment_sound (config_of e) k p g packet h;
          slot = s;
          complete = q;
          good_frame = subst (λ (y : List ℕ). GoodFrame (config_of e) p whole t y) same (judged-good e m k p g s q b t x.0);
        }

    seen_sound : (x : Reading answers) → header_of (config_of e) k ≡ x → Bytes (stepped e m x).mem → (place : Place) → (stepped e m x).answer
        ≡ Ok (R.Delivered t place)
        → view_of k (stepped e m x).mem (place_of place) ≡ frame → CarriesFrame (config_of e) k t frame ⊎ Completes e m k t frame
    seen_sound (other_sender a) h b place q w =
        let z : ◌≡◌ {A = Bool} true false = sym (ap is_delivered q) ∙ (subst Conclusive h (header_conclusive (config_of e) k)).0 in
        let y : ◌≡◌ {A = ℕ} 0 1 = cc (z) in absurd (omega arith)
    seen_sound (direct p a) h b place q w =
        let x = frame_sound (config_of e) k p t place packet (h ∙ ap (direct p) q) in
        let same : x.0 ≡ frame = sym (lies_view k m place x.0 x.1.1) ∙ w in
        inl (rw same at x.1.0)
    seen_sound (segment p g) h b place q w = inr (taken_sound p g h b (take_in p (row_at e p) m g).outcome refl place q w)

    pub sound : Delivers e m k t frame → CarriesFrame (config_of e) k t frame ⊎ Completes e m k t frame
    unfolding step_of
    sound d = seen_sound (header_of (config_of e) k) refl (rw (le-ltb (length m) 55296 enough) at (step-bytes e m k memory packet)) d.place
        (rw (le-ltb (length m) 55296 enough) at d.answer) (rw (le-ltb (length m) 55296 enough) at d.views)

  -- ---- complete

  pub complete-packet : (t : Target) (frame : List ℕ) → CarriesFrame (config_of e) k t frame → Delivers e m k t frame
  unfolding step_of
  complete-packet t frame w =
      let x = frame-complete (config_of e) k t frame w in
      record {
        place = x.0;
        answer = rw (le-ltb (length m) 55296 enough, x.1.0);
        views = rw (le-ltb (length m) 55296 enough, x.1.0) (lies_view k m x.0 frame x.1.1);
      }

  pub complete_memory : (t : Target) (frame : List ℕ) → Completes e m k t frame → Delivers e m k t frame
  unfolding step_of
  complete_memory t frame w =
      let p : ℕ = w.p in
      let g : Seg = w.g in
      let s : ℕ = w.slot in
      let after : List ℕ = (take_in p (row_at e p) m g).mem in
      let whole = take_whole p s (row_at e p) m g w.complete in
      let inside : slot_start (slot_no p s) + g.frame_length ≤ length after =
      slot-inside after p s g.frame_length (omega (arith, take-length p (row_at e p) m g)) whole.is_peer_lem whole.is_slot
      (omega (arith, whole.fits.most)) in
      let found : List ℕ = frame_in bytes_of after (slot_no p s) g.frame_length in
      let j = judge-complete (config_of e) p (take_in p (row_at e p) m g).note found t frame w.good_frame in
      let h = segment_complete (config_of e) k p g w.carried in
      record {
        place = record { start = slot_start (slot_no p s) + 18; length = g.frame_length - 18; in_memory = true };
        answer =
            rw (le-ltb (length m) 55296 enough, h)
            (ap (λ (o : Outcome). (take_answer answers (judge_of (config_of e)) bytes_of p g (take_in p (row_at e p) m g) o).reply) w.complete
            ∙ ap (λ (y : Answer answers). y.reply) (complete_reply answers (judge_of (config_of e)) bytes_of p g (take_in p (row_at e p) m g) s)
            ∙ ap (λ (v : Verdict answers). (frame_answer answers v (slot_no p s) g.frame_length found).reply) j.0
            ∙ good_reply answers t (slot_no p s) g.frame_length found);
        views = rw (le-ltb (length m) 55296 enough, h) (slot_view k after (slot_no p s) g.frame_length (omega (arith, whole.fits.least)) inside ∙ j.1);
      }

-- ---- the proof

module _ (own port mtu : ℕ) (adds : List Adding) (m : List ℕ) (enough : 55296 ≤ length m) (es : List Event) (k : List ℕ) (packet : Bytes k) (t : Target)
    (frame : List ℕ) where
  abbrev e : Endpoint
  e = set_up own port mtu adds

  abbrev at : Left
  at = left e m es

  config_same : config_of at.endpoint ≡ config_of e
  config_same = calls_config (record { endpoint = e; mem = m }) es

  world_same : world_of at.endpoint at.mem ≡ runs answers Config layers (world_of e m) es
  world_same = calls_are (record { endpoint = e; mem = m }) es

  still_enough : 55296 ≤ length at.mem
  still_enough = omega (arith, calls-length (record { endpoint = e; mem = m }) es)

  -- the frame in the slot after segment g of peer p's, in a world
  abbrev frame_of : ℕ → Seg → ℕ → World Config → List ℕ
  frame_of p g s w = frame_in bytes_of (taking answers Config layers p w g).mem (slot_no p s) g.frame_length

  only : Bytes at.mem → Delivers at.endpoint at.mem k t frame → CarriesFrame (config_of e) k t frame ⊎ MadeUp e m es k t frame
  only memory d = joined (sound at.endpoint at.mem k still_enough packet memory t frame d)
    where
      joined : CarriesFrame (config_of at.endpoint) k t frame ⊎ Completes at.endpoint at.mem k t frame
          → CarriesFrame (config_of e) k t frame ⊎ MadeUp e m es k t frame
      joined (inl w) = inl (subst (λ (x : Config). CarriesFrame x k t frame) config_same w)
      joined (inr w) =
          let p< : w.p < most_peers = (take_whole w.p w.slot (row_at at.endpoint w.p) at.mem w.g w.complete).is_peer_lem in
          let carries : CarriesSegment (config_of e) k w.p w.g = subst (λ (x : Config). CarriesSegment x k w.p w.g) config_same w.carried in
          let complete : (taking answers Config layers w.p (runs answers Config layers (world_of e m) es) w.g).outcome ≡ O.Complete w.slot =
          subst (λ (x : World Config). (taking answers Config layers w.p x w.g).outcome ≡ O.Complete w.slot) world_same w.complete in
          let x = complete_gathers answers Config layers w.p (ends_of e) (set_up_every own port mtu adds w.p p<) m enough es k w.g
          (segment_complete (config_of e) k w.p w.g carries) w.slot complete in
          inr (record {
            p = w.p;
            is_peer_lem = p<;
            g = w.g;
            carried = carries;
            segments = x.0;
            gathers = x.1.0;
            complete = frame_of w.p w.g w.slot (runs answers Config layers (world_of e m) es);
            makes = x.1.1;
            good_frame =
                subst (λ (y : World Config). GoodFrame (config_of e) w.p (frame_of w.p w.g w.slot y) t frame) world_same
                (subst (λ (y : Config). GoodFrame y w.p (frame_of w.p w.g w.slot (world_of at.endpoint at.mem)) t frame) config_same
                w.good_frame);
          })

  all : CarriesFrame (config_of e) k t frame ⊎ MadeUp e m es k t frame → Delivers at.endpoint at.mem k t frame
  all (inl w) = complete-packet at.endpoint at.mem k still_enough packet t frame (subst (λ (x : Config). CarriesFrame x k t frame) (sym config_same) w)
  all (inr w) =
      let x = gathers_complete answers Config layers w.p (ends_of e) (set_up_every own port mtu adds w.p w.is_peer_lem) m enough es k w.g
      (segment_complete (config_of e) k w.p w.g w.carried) w.segments w.complete w.gathers w.makes in
      let complete : (take_in w.p (row_at at.endpoint w.p) at.mem w.g).outcome ≡ O.Complete x.0 =
      subst (λ (y : World Config). (taking answers Config layers w.p y w.g).outcome ≡ O.Complete x.0) (sym world_same) x.1.0 in
      let same : frame_of w.p w.g x.0 (world_of at.endpoint at.mem) ≡ w.complete =
      ap (λ (y : World Config). frame_of w.p w.g x.0 y) world_same ∙ x.1.1 in
      complete_memory at.endpoint at.mem k still_enough packet t frame
      (record {
        p = w.p;
        g = w.g;
        carried = subst (λ (y : Config). CarriesSegment y k w.p w.g) (sym config_same) w.carried;
        slot = x.0;
        complete = complete;
        good_frame =
            subst (λ (y : List ℕ). GoodFrame (config_of at.endpoint) w.p y t frame) (sym same)
            (subst (λ (y : Config). GoodFrame y w.p w.complete t frame) (sym config_same) w.good_frame);
      })

pub receiving : (own port mtu : ℕ) (adds : List Adding) (m : List ℕ) → 55296 ≤ length m → Bytes m → (es : List Event) → Packets es → (k : List ℕ) → Bytes k
    → (t : Target) (frame : List ℕ)
    → let e : Endpoint = set_up own port mtu adds in
    IfAndOnlyIf (Delivers (left e m es).endpoint (left e m es).mem k t frame) (CarriesFrame (config_of e) k t frame ⊎ MadeUp e m es k t frame)
receiving own port mtu adds m enough bytes es packets k packet t frame =
    record {
      only = only own port mtu adds m enough es k packet t frame (calls-bytes (record { endpoint = set_up own port mtu adds; mem = m }) es bytes packets);
      all = all own port mtu adds m enough es k packet t frame;
    }
