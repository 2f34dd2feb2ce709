-- WHAT READING A TRACE PROMISES (document 02, §6): `Traces`, THE STATEMENT. The form is Trace.antt. Only definitions; proved in Laws/Traces (`traces`).
use Rattle.std.specs.Prelude.{ℕ, ◌+◌, ◌-◌, ◌≡◌, true, false, ◌↔◌, List, [], ◌∷◌, ◌++◌, Some, None, Ok, Err, length, take, drop}
use Rattle.wire.specs.Bytes.{Bytes}
use Rattle.trace.specs.Trace.{Record, tick, packet, records_bytes, header, Reads, Outcome, no_trace, read, ReadsAs}
use Rattle.trace.specs.Reader.{bad, header_at, header_end, begins_trace, record_at, record_end, read_of}
use Rattle.trace.specs.WorkedTrace.{WorkedTrace}
use Rattle.trace.specs.declared.reader.Complete.TheVariants as C

-- ---- a reader that is fed in pieces: calls of `read_header`, then of `read_record` (their contracts: src/reader.rt)

-- a call takes bytes of the piece up to the end of what the front says, or the piece's: what is held then, and what is left of the piece
abbrev pub kept : (end : List ℕ → ℕ) (held piece : List ℕ) → List ℕ
kept end held piece = held ++ take (end (held ++ piece) - length held) piece

abbrev pub left : (end : List ℕ → ℕ) (held piece : List ℕ) → List ℕ
left end held piece = drop (end (held ++ piece) - length held) piece

-- a call of `read_record` gives this record
abbrev pub Gives : (held piece : List ℕ) → Record → Type 0
Gives h p tick = record_at (h ++ p) ≡ Ok (Some C.Tick)
Gives h p (packet k) = (record_at (h ++ p) ≡ Ok (Some C.Packet)) × (drop 3 (kept record_end h p) ≡ k)

-- all pieces together
abbrev pub joined : List (List ℕ) → List ℕ
joined [] = []
joined (p ∷ ps) = p ++ joined ps

-- call by call from bytes held on, until the pieces are used up or a record is broken: the records given, and the rest
pub data Records : (held : List ℕ) (pieces : List (List ℕ)) → List Record → (rest : List ℕ) → Type 0 where
  done : {h : List ℕ} → Records h [] [] h
  next : {h : List ℕ} {ps : List (List ℕ)} {rs : List Record} {rest : List ℕ} → Records h ps rs rest → Records h ([] ∷ ps) rs rest
  more : {h p : List ℕ} {ps : List (List ℕ)} {rs : List Record} {rest : List ℕ} → record_at (h ++ p) ≡ Ok None
      → Records (kept record_end h p) (left record_end h p ∷ ps) rs rest → Records h (p ∷ ps) rs rest
  given : {h p : List ℕ} {ps : List (List ℕ)} {r : Record} {rs : List Record} {rest : List ℕ} → Gives h p r
      → Records [] (left record_end h p ∷ ps) rs rest → Records h (p ∷ ps) (r ∷ rs) rest
  broken : {h p : List ℕ} {ps : List (List ℕ)} → record_at (h ++ p) ≡ Err bad → Records h (p ∷ ps) [] (h ++ (p ++ joined ps))

-- the header before them
pub data Run : (held : List ℕ) (pieces : List (List ℕ)) → Outcome → Type 0 where
  too_short : {h : List ℕ} → Run h [] no_trace
  next-piece : {h : List ℕ} {ps : List (List ℕ)} {o : Outcome} → Run h ps o → Run h ([] ∷ ps) o
  more-header : {h p : List ℕ} {ps : List (List ℕ)} {o : Outcome} → header_at (h ++ p) ≡ Ok false
      → Run (kept header_end h p) (left header_end h p ∷ ps) o → Run h (p ∷ ps) o
  header-given : {h p : List ℕ} {ps : List (List ℕ)} {rs : List Record} {rest : List ℕ} → header_at (h ++ p) ≡ Ok true
      → Records [] (left header_end h p ∷ ps) rs rest → Run h (p ∷ ps) (read rs rest)
  no_header : {h p : List ℕ} {ps : List (List ℕ)} → header_at (h ++ p) ≡ Err bad → Run h (p ∷ ps) no_trace

-- ---- THE STATEMENT

pub record Traces : Type 0 where
  -- however a trace is cut into pieces, the reader gives what it reads as; and it comes to an end
  pub in_pieces : (pieces : List (List ℕ)) (o : Outcome) → Bytes (joined pieces) → Run [] pieces o → ReadsAs (joined pieces) o
  pub ends : (pieces : List (List ℕ)) → (o : Outcome) × Run [] pieces o
  -- bytes read in one way only, and the first broken record begins behind the header and the records
  pub one_reading : (s : List ℕ) (o p : Outcome) → Bytes s → ReadsAs s o → ReadsAs s p → o ≡ p
  pub place : (s : List ℕ) (rs : List Record) (rest : List ℕ) → ReadsAs s (read rs rest) → drop (5 + length (records_bytes rs)) s ≡ rest
  -- the same, as the crates above say it
  pub begins : (s : List ℕ) → Bytes s → (begins_trace s ≡ true) ↔ ((t : List ℕ) × (s ≡ header ++ t))
  pub reads : (s : List ℕ) → Bytes s → Reads s (read_of s).records (read_of s).rest
  pub only : (s : List ℕ) (rs : List Record) (rest : List ℕ) → Bytes s → Reads s rs rest → ((read_of s).records ≡ rs) × ((read_of s).rest ≡ rest)
  pub worked : WorkedTrace
