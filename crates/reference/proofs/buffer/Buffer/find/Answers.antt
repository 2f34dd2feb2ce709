-- `reference::buffer::Buffer::find` meets its contract.
use Rattle.std.proofs.Common.{◌≡◌, sym, ◌∙◌, ℕ, ◌+◌, ◌-◌, ◌<◌, ◌*◌, true, arith, ap, get_or, List, ◌≤◌, length, length-take, IfSome, Option, Some, None}
use Rattle.reference.specs.Layout.{no_extent, kept, begins, has_byte, place_in}
use Rattle.reference.proofs.Laws.Places.{begins-none, begins-more, segment_at, place_none, place_here, place_kept, has_low, has_high}
use Rattle.reference.specs.declared.buffer.Extent.{Extent}
use Rattle.reference.proofs.buffer.Buffer.find.Goals as goal
use Rattle.reference.proofs.buffer.Buffer.find.Goals.{then-has, else-has}

here : (es : List Extent) (j i at o : ℕ) (e : Extent) → at ≡ begins es j → e ≡ get_or es j no_extent → o ≡ e.offset → has_byte e i ≡ true
    → Some (at + (i - o)) ≡ place_in es (j + 1) i
here es j i at o e b s q h = rw (b, q, s) (sym (place_here es j i (ap (λ (x : Extent). has_byte x i) (sym s) ∙ h)))

inside_more : (o : Option ℕ) (m n : ℕ) → m ≤ n → IfSome o (λ p. p < m) → IfSome o (λ p. p < n)
inside_more None m n l h = tt
inside_more (Some p) m n l h = omega arith

pub loop-e-init : goal.loop-e-init
loop-e-init c =
    let es = c.args.self.now.extents in
    record { begin = begins-none es; low = omega arith; place = sym (place_none es c.args.i); inside = tt }

pub overflow_sub-found : goal.overflow_sub-found
overflow_sub-found c = omega (arith, has_low _ c.args.i (sym c.has.ensures ∙ c.if-has.true))

pub overflow_add-found : goal.overflow_add-found
overflow_add-found c =
    let h = sym c.has.ensures ∙ c.if-has.true in
    let n : length c.segments-e-items.result.now ≤ 64 =
    omega (arith, ap length c.segments-e-items.ensures, length-take (kept c.args.self.now) c.args.self.now.extents) in
    omega (arith, has_low _ c.args.i h, has_high _ c.args.i h)

pub loop-e-preserved : goal.loop-e-preserved
loop-e-preserved c =
    let at = c.loop-e in
    let es = c.args.self.now.extents in
    let i = c.args.i in
    let e = segment_at es (kept c.args.self.now) c.segments-e-items.result.now at.e-index c.segments-e-items.ensures c.loop-e-test.true in
    record {
      begin = ap (λ (n : ℕ). at.at + n) (c.from-length.ensures ∙ ap (λ (x : Extent). x.length) e) ∙ begins-more es at.e-index at.at at.invariant.begin;
      low = omega arith;
      place = elim c.if-has.branch [
        | then-has w ↦ w.found-is
            ∙ here es at.e-index i at.at w.from.result _ at.invariant.begin e w.from.ensures (sym c.has.ensures ∙ w.if-has.true)
        | else-has w ↦ w.found-is ∙ at.invariant.place ∙ sym (place_kept es at.e-index i (ap (λ (x : Extent). has_byte x i) (sym e) ∙ sym c.has.ensures ∙ w.if-has.false))
      ];
      inside = elim c.if-has.branch [
        | then-has w ↦
            let h = sym c.has.ensures ∙ w.if-has.true in
            rw w.found-is (omega (arith, has_low _ i h, has_high _ i h))
        | else-has w ↦ rw w.found-is (inside_more at.found (at.e-index * 65535) ((at.e-index + 1) * 65535) (omega arith) at.invariant.inside)
      ];
    }
