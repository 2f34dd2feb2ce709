-- A TRACE (document 02, §6): its form, and what its records are. Only definitions.
use Rattle.std.specs.Prelude.{ℕ, ◌≤◌, ◌≡◌, List, [], ◌∷◌, ◌++◌, length}
use Rattle.wire.specs.Bytes.{be, ◌then◌}

-- ---- the form

pub data Record : Type 0 where
  tick : Record
  packet : List ℕ → Record

-- the bytes of a record: byte 1; or byte 2, a 16-bit length and that many bytes
unfoldable pub record_bytes : Record → List ℕ
record_bytes tick = be 1 1
record_bytes (packet k) = be 1 2 then be 2 (length k) then k

-- a packet of a trace has at most 1,600 bytes
abbrev pub Allowed : Record → Type 0
Allowed tick = Unit {0}
Allowed (packet k) = length k ≤ 1600

-- records, one after the other
unfoldable pub records_bytes : List Record → List ℕ
records_bytes [] = []
records_bytes (r ∷ rs) = record_bytes r then records_bytes rs

abbrev pub AllAllowed : List Record → Type 0
AllAllowed [] = Unit {0}
AllAllowed (r ∷ rs) = Allowed r × AllAllowed rs

-- letters TRP and the version, before the records
unfoldable pub header : List ℕ
header = be 3 0x545250 then be 2 1

-- ---- what bytes read as

-- no record stands at the front of these bytes: there are none, or it is broken
abbrev pub NoRecord : List ℕ → Type 0
NoRecord s = (r : Record) (behind : List ℕ) → Allowed r → s ≡ record_bytes r ++ behind → ⊥

-- the bytes behind a header are these records and then the rest, in which no record stands: nothing, or the first broken record, which begins there
pub record Reads (s : List ℕ) (rs : List Record) (rest : List ℕ) : Type 0 where
  pub is : s ≡ records_bytes rs ++ rest
  pub allowed : AllAllowed rs
  pub stops : NoRecord rest

-- from the header on: no trace; or these records and then the rest
pub data Outcome : Type 0 where
  no_trace : Outcome
  read : List Record → (rest : List ℕ) → Outcome

abbrev pub ReadsAs : List ℕ → Outcome → Type 0
ReadsAs s no_trace = (t : List ℕ) → s ≡ header ++ t → ⊥
ReadsAs s (read rs rest) = (t : List ℕ) × (s ≡ header ++ t) × Reads t rs rest
