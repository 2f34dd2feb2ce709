-- The view's rule holds of what the contract of `view` promises; and the ways out of `cut`.
use Rattle.std.specs.Prelude.{ℕ, ◌+◌, ◌<◌, ◌≤◌, ◌≡◌, true, false, cond, List, leb, length, get_or, take, drop}
use Rattle.std.proofs.Common.{sym, ap, ◌∙◌, arith, add-zero, length-take, length-drop, get_or-take, get_or-drop}
use borrow.Author.Tests.{le-leb, lt-leb, leb-true, leb-false}
use Rattle.std.specs.Borrow.{Bor}
use Rattle.reassembly.proofs.Laws.Base.{case_b}
use Rattle.reassembly.specs.Receive.{part_of_slice}
use Rattle.reassembly.proofs.Laws.Answers.{part-fits, part_past, view_packet, view_memory}
use Rattle.endpoint.specs.Answer.{place_of}
use Rattle.endpoint.specs.View.{part_start, Viewed, cut_within, cut_of, Shows, ViewRule}
use Rattle.endpoint.specs.declared.answer.Place as E

-- ---- the part of one slice

fits_shows : (packet s r : Bor (List ℕ)) (start len : ℕ) → start + len ≤ length s.now → r.now ≡ part_of_slice s.now start len
    → r.ref_ptr ≡ part_start packet s start len → Shows s start len r
fits_shows packet s r start len l bytes begins =
    let fits : leb (start + len) (length s.now) ≡ true = le-leb (start + len) (length s.now) l in
    let is : r.now ≡ take len (drop start s.now) = bytes ∙ part-fits s.now start len l in
    record {
      size = ap (λ (x : List ℕ). length x) is ∙ omega (arith, length-take len (drop start s.now), length-drop start s.now);
      bytes = λ i h. ap (λ (x : List ℕ). get_or x i 0) is ∙ get_or-take len (drop start s.now) i 0 h ∙ get_or-drop start s.now i 0;
      begins = rw fits at begins;
    }

past_shows : (packet s r : Bor (List ℕ)) (start len : ℕ) → length s.now < start + len → r.now ≡ part_of_slice s.now start len
    → r.ref_ptr ≡ part_start packet s start len → Shows packet 0 0 r
past_shows packet s r start len l bytes begins =
    let past : leb (start + len) (length s.now) ≡ false = lt-leb (start + len) (length s.now) l in
    record {
      size = ap (λ (x : List ℕ). length x) (bytes ∙ part_past s.now start len l);
      bytes = λ i h. absurd (omega arith);
      begins = (rw past at begins) ∙ ap (λ (n : ℕ). (packet.ref_ptr.0, n)) (sym (add-zero packet.ref_ptr.1));
    }

-- ---- the rule

module _ (packet memory : Bor (List ℕ)) (p : E.Place) (r : Bor (List ℕ)) (v : Viewed packet memory (place_of p) r) where
  in_packet : p.in_memory ≡ false → p.start + p.length ≤ length packet.now → Shows packet p.start p.length r
  in_packet e l = fits_shows packet packet r p.start p.length l (v.bytes ∙ view_packet packet.now memory.now (place_of p) e) (rw e at v.begins)

  in_memory_lem : p.in_memory ≡ true → p.start + p.length ≤ length memory.now → Shows memory p.start p.length r
  in_memory_lem e l = fits_shows packet memory r p.start p.length l (v.bytes ∙ view_memory packet.now memory.now (place_of p) e) (rw e at v.begins)

  past_packet : p.in_memory ≡ false → length packet.now < p.start + p.length → Shows packet 0 0 r
  past_packet e l = past_shows packet packet r p.start p.length l (v.bytes ∙ view_packet packet.now memory.now (place_of p) e) (rw e at v.begins)

  past_memory : p.in_memory ≡ true → length memory.now < p.start + p.length → Shows packet 0 0 r
  past_memory e l = past_shows packet memory r p.start p.length l (v.bytes ∙ view_memory packet.now memory.now (place_of p) e) (rw e at v.begins)

  abbrev IsCut : E.Place → Type 0
  IsCut c = Shows (cond c.in_memory memory packet) c.start c.length r × (c.start + c.length ≤ length (cond c.in_memory memory packet).now)

  cut : IsCut (cut_of (length packet.now) (length memory.now) p)
  unfolding cut_of cut_within
  cut =
      case_b p.in_memory
      (λ e. case_b (leb (p.start + p.length) (length memory.now))
      (λ f. let l = leb-true (p.start + p.length) (length memory.now) f in rw (e, f) (in_memory_lem e l, l))
      (λ f. rw (e, f) (past_memory e (leb-false (p.start + p.length) (length memory.now) f), omega arith)))
      (λ e. case_b (leb (p.start + p.length) (length packet.now))
      (λ f. let l = leb-true (p.start + p.length) (length packet.now) f in rw (e, f) (in_packet e l, l))
      (λ f. rw (e, f) (past_packet e (leb-false (p.start + p.length) (length packet.now) f), omega arith)))

  pub view_rule : ViewRule packet memory p r
  view_rule = record { in_packet = in_packet; in_memory_lem = in_memory_lem; past_packet = past_packet; past_memory = past_memory; cut = cut }

-- ---- the ways out of the code

module _ (room : ℕ) (p : E.Place) where
  pub cut_past : room < p.start + p.length → record { start = 0; length = 0; in_memory = false } ≡ cut_within room p
  unfolding cut_within
  cut_past l = rw (lt-leb (p.start + p.length) room l)

  pub cut_fits : p.start + p.length ≤ room → p ≡ cut_within room p
  unfolding cut_within
  cut_fits l = rw (le-leb (p.start + p.length) room l)

module _ (n m : ℕ) (p : E.Place) where
  pub cut_memory : p.in_memory ≡ true → cut_within m p ≡ cut_of n m p
  unfolding cut_of
  cut_memory e = rw e

  pub cut-packet : p.in_memory ≡ false → cut_within n p ≡ cut_of n m p
  unfolding cut_of
  cut-packet e = rw e
