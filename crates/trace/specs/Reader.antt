-- How a trace is read: what stands at the front of some bytes, and the records behind a header one by one.
use Rattle.std.specs.Prelude.{ℕ, zero, suc, ◌+◌, ◌-◌, Bool, true, false, ◌&&◌, ◌≡◌, List, [], ◌∷◌, ◌++◌, Option, Some, None, Result, Ok, Err, length, get_or}
use Rattle.std.specs.Prelude.{take, drop, ltb, leb, eqb}
use Rattle.wire.specs.Bytes.{be_at, part}
use Rattle.wire.specs.Checks.{pick}
use Rattle.trace.specs.Trace.{Record, tick, packet}
use Rattle.trace.specs.declared.reader.Broken.{Broken}
use Rattle.trace.specs.declared.reader.Complete.{Complete}
use Rattle.trace.specs.declared.reader.Complete.TheVariants as C
use Rattle.trace.specs.declared.reader.Reader.{Reader}

-- ---- need not be believed: by `Traces` (Traces.antt) this is what a trace reads as in the form's own words (Trace.antt)

-- the bytes that a reader holds
-- Open: two fields together
abbrev pub bytes_of : Reader → List ℕ
bytes_of r = take r.count r.held

-- bytes of the piece are taken until `end` are held: what is held then, and what is left of the piece
pub record Fed (end : ℕ) (r : Reader) (piece : List ℕ) (r' : Reader) (piece' : List ℕ) : Type 0 where
  pub count : r'.count ≡ r.count + (end - r.count)
  pub held : bytes_of r' ≡ bytes_of r ++ take (end - r.count) piece
  pub rest : piece' ≡ drop (end - r.count) piece

-- no trace begins so, or no record
-- Open: the one value of its type
abbrev pub bad : Broken
bad = record {}

-- what stands at the front of some bytes: the beginning of a trace
unfoldable pub headed : List ℕ → Bool
headed s = eqb (be_at s 0 3) 0x545250 && eqb (be_at s 3 2) 1

-- whether all of it is there; `bad` where no trace begins so
unfoldable pub header_at : List ℕ → Result Bool Broken
header_at s = pick (ltb (length s) 5) (Ok false) (pick (headed s) (Ok true) (Err bad))

-- where what stands there ends: what is asked for, or all that there is where that is less
unfoldable pub header_end : List ℕ → ℕ
header_end s = pick (ltb (length s) 5) (length s) 5

-- a trace begins with these bytes
unfoldable pub begins_trace : List ℕ → Bool
begins_trace s = leb 5 (length s) && headed s

-- or a record: the length of a packet, and the most bytes of one and of its record
unfoldable pub packet_length : List ℕ → ℕ
packet_length s = be_at s 1 2

abbrev pub packet_most : ℕ
packet_most = 1600

abbrev pub record_most : ℕ
record_most = 3 + packet_most

-- none where it is not complete
unfoldable pub record_at : List ℕ → Result (Option Complete) Broken
record_at s =
    pick (ltb (length s) 1) (Ok None)
    (pick (eqb (get_or s 0 0) 1) (Ok (Some C.Tick))
    (pick (eqb (get_or s 0 0) 2)
    (pick (ltb (length s) 3) (Ok None)
    (pick (ltb packet_most (packet_length s)) (Err bad)
    (pick (ltb (length s) (3 + packet_length s)) (Ok None) (Ok (Some C.Packet)))))
    (Err bad)))

unfoldable pub record_end : List ℕ → ℕ
record_end s =
    pick (ltb (length s) 1) 0
    (pick (eqb (get_or s 0 0) 2)
    (pick (ltb (length s) 3) (length s)
    (pick (ltb packet_most (packet_length s)) 3
    (pick (ltb (length s) (3 + packet_length s)) (length s) (3 + packet_length s))))
    1)

-- the records, and what is left where none stands; `fuel` bounds their number
pub record Reading : Type 0 where
  pub records : List Record
  pub rest : List ℕ

-- one record more in front
-- Open: a record with one entry more
abbrev pub behind : Record → Reading → Reading
behind r x = record { records = r ∷ x.records; rest = x.rest }

-- Open: a record of what is there
abbrev pub stopped : List ℕ → Reading
stopped s = record { records = []; rest = s }

abbrev pub read_next : Result (Option Complete) Broken → (s : List ℕ) → (List ℕ → Reading) → Reading
read_next (Ok None) s next = stopped s
read_next (Ok (Some C.Tick)) s next = behind tick (next (drop 1 s))
read_next (Ok (Some C.Packet)) s next = behind (packet (part s 3 (3 + packet_length s))) (next (drop (3 + packet_length s) s))
read_next (Err e) s next = stopped s

unfoldable pub read_by : (fuel : ℕ) → List ℕ → Reading
read_by zero s = stopped s
read_by (suc fuel) s = read_next (record_at s) s (read_by fuel)

unfoldable pub read_of : List ℕ → Reading
read_of s = read_by (length s) s

-- bytes held of a header, or of a record, that is not complete yet
-- Open: an equation
abbrev pub HeaderWaits : List ℕ → Type 0
HeaderWaits h = header_at h ≡ Ok false

-- Open: an equation
abbrev pub Waits : List ℕ → Type 0
Waits h = record_at h ≡ Ok None
