-- Laws of a frame's segments and of ageing (`Reassembler`): which bytes a segment has, and what is found a tick later.
use Rattle.std.specs.Prelude.{◌≡◌, refl, cond, List, [], ◌∷◌, ℕ, ◌+◌, length, ltb, eqb}
use Rattle.std.proofs.Common.{sym, eqb-true}
use Rattle.std.proofs.Math.Option.{none, some}
use Rattle.reassembly.specs.Base.{within}
use Rattle.reassembly.proofs.Laws.Base.{case_b, clash}
use Rattle.reassembly.proofs.Laws.Memory.{within-test}
use Rattle.reference.specs.Keyed.{find, Distinct}
use Rattle.reference.specs.Reassembler.{Part, Frame, has, identifier_of, aged, older}

pub has_within : (g : Part) (i : ℕ) → has g i ≡ within g.offset (length g.bytes) i
unfolding has
has_within g i = sym (within-test g.offset (length g.bytes) i)

pub find-older-none : (id : ℕ) (fs : List Frame) → find identifier_of id fs ≡ none → find identifier_of id (older fs) ≡ none
unfolding find older
find-older-none id [] e = refl
find-older-none id (x ∷ xs) e =
    case_b (eqb x.identifier id)
    (λ q. let z : some x ≡ none = rw q at e in clash (cc))
    (λ q. let t : find identifier_of id (older xs) ≡ none = find-older-none id xs (rw q at e) in
    case_b (ltb (x.age + 1) 4) (λ y. rw (y, q) t) (λ y. rw y t))

pub distinct_older : (fs : List Frame) → Distinct identifier_of fs → Distinct identifier_of (older fs)
unfolding older
distinct_older [] d = tt
distinct_older (x ∷ xs) d =
    case_b (ltb (x.age + 1) 4)
    (λ y. rw y (find-older-none x.identifier xs d.0, distinct_older xs d.1))
    (λ y. rw y (distinct_older xs d.1))

-- a frame that is found is found a tick later, if it is young
pub find-older : (id : ℕ) (fs : List Frame) (f : Frame) → Distinct identifier_of fs → find identifier_of id fs ≡ some f
    → find identifier_of id (older fs) ≡ cond (ltb (f.age + 1) 4) (some (aged f)) none
unfolding find older
find-older id [] f d e = clash (cc)
find-older id (x ∷ xs) f d e =
    case_b (eqb x.identifier id)
    (λ q. let z : some x ≡ some f = rw q at e in
    let y : x ≡ f = cc in
    rw (← y)
    (case_b (ltb (x.age + 1) 4)
    (λ l. rw (l, q))
    (λ l. let t : x.identifier ≡ id = eqb-true x.identifier id q in rw l (find-older-none id xs (rw t at d.0)))))
    (λ q. let t : find identifier_of id (older xs) ≡ cond (ltb (f.age + 1) 4) (some (aged f)) none = find-older id xs f d.1 (rw q at e) in
    case_b (ltb (x.age + 1) 4) (λ y. rw (y, q) t) (λ y. rw y t))
