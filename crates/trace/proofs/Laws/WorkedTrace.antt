-- The worked traces, computed.
use Rattle.std.specs.Prelude.{◌≡◌, refl, Bool, true, ◌&&◌, List, [], ◌∷◌, ℕ, zero, suc, ltb, get_or}
use Rattle.std.proofs.Common.{ap, arith, ltb-true}
use Rattle.std.proofs.lemmas.List.{length-replicate}
use Rattle.lookup.proofs.Laws.Cases.{and_l, and_r}
use Rattle.wire.specs.Bytes.{Bytes, be, be_at, part}
use Rattle.trace.specs.Trace.{header}
use Rattle.trace.specs.Reader.{packet_length, record_at, read_by, read_of}
use Rattle.trace.specs.WorkedTrace.{WorkedTrace}
use Rattle.trace.proofs.Laws.Reads.{reads}

bytes : List ℕ → Bool
bytes [] = true
bytes (x ∷ s) = ltb x 256 && bytes s

all-bytes : (s : List ℕ) → bytes s ≡ true → Bytes s
unfolding bytes
all-bytes [] e i = omega arith
all-bytes (x ∷ s) e zero = ltb-true x 256 (and_l (ltb x 256) (bytes s) e)
all-bytes (x ∷ s) e (suc i) = all-bytes s (and_r (ltb x 256) (bytes s) e) i

pub worked_trace : WorkedTrace
unfolding bytes be header be_at part packet_length record_at read_by read_of
worked_trace =
    let two : List ℕ = 1 ∷ 2 ∷ 0 ∷ 0 ∷ [] in
    let three : List ℕ = 2 ∷ 0 ∷ 3 ∷ 0xAA ∷ 0xBB ∷ 0xCC ∷ 1 ∷ 2 ∷ 6 ∷ 0x41 ∷ 1 ∷ [] in
    record {
      two_records = (two, refl, reads two (all-bytes two refl));
      broken_record = (three, refl, reads three (all-bytes three refl));
      largest = omega (arith, length-replicate {A = ℕ} 1600 0);
      too_large = λ h. omega (arith, length-replicate {A = ℕ} 1601 0);
      no_trace_lem = λ t e. let z : ◌≡◌ {A = ℕ} 2 1 = ap (λ (s : List ℕ). get_or s 4 0) e in omega arith;
    }
