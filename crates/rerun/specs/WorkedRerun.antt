-- Worked lines: document 02's own, and numbers of every width. Only definitions; computed in Laws/WorkedRerun.
use Rattle.std.specs.Prelude.{◌≤◌, ◌≡◌, [], ◌∷◌, length}
use Rattle.std.proofs.Math.Option.{none, some}
use Rattle.endpoint.specs.Run.{Left}
use Rattle.trace.specs.Trace.{tick, packet}
use Rattle.rerun.specs.Rerun.{decimal, answered, line_text, lines_of}

pub record WorkedRerun : Type 0 where
  -- "A tick and an empty packet give `1 tick` and `2 3 -`"
  pub paper : (w : Left) → 55296 ≤ length w.mem → lines_of w 0 (tick ∷ packet [] ∷ [])
      ≡ 0x31 ∷ 0x20 ∷ 0x74 ∷ 0x69 ∷ 0x63 ∷ 0x6B ∷ 0x0A ∷ 0x32 ∷ 0x20 ∷ 0x33 ∷ 0x20 ∷ 0x2D ∷ 0x0A ∷ []
  -- 1 0 0
  pub tenant_0 : line_text 1 (answered 0 (some 0)) ≡ 0x31 ∷ 0x20 ∷ 0x30 ∷ 0x20 ∷ 0x30 ∷ 0x0A ∷ []
  -- 12 0 65535
  pub delivered : line_text 12 (answered 0 (some 65535)) ≡ 0x31 ∷ 0x32 ∷ 0x20 ∷ 0x30 ∷ 0x20 ∷ 0x36 ∷ 0x35 ∷ 0x35 ∷ 0x33 ∷ 0x35 ∷ 0x0A ∷ []
  -- 100 29 -
  pub refused : line_text 100 (answered 29 none) ≡ 0x31 ∷ 0x30 ∷ 0x30 ∷ 0x20 ∷ 0x32 ∷ 0x39 ∷ 0x20 ∷ 0x2D ∷ 0x0A ∷ []
  -- 0, and the largest number of 64 bits, 18446744073709551615
  pub zero : decimal 0 ≡ 0x30 ∷ []
  pub largest : decimal 18446744073709551615
      ≡ 0x31 ∷ 0x38 ∷ 0x34 ∷ 0x34 ∷ 0x36 ∷ 0x37 ∷ 0x34 ∷ 0x34 ∷ 0x30 ∷ 0x37 ∷ 0x33 ∷ 0x37 ∷ 0x30 ∷ 0x39 ∷ 0x35 ∷ 0x35 ∷ 0x31 ∷ 0x36 ∷ 0x31 ∷ 0x35 ∷ []
