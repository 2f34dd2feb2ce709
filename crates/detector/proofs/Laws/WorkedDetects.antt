-- A run of calls, computed: what the definitions answer beside what document 02, §1 says.
use Rattle.std.specs.Prelude.{ℕ, zero, suc, ◌≡◌, refl, List, [], ◌∷◌, map, take}
use Rattle.lookup.specs.Search.{from, lowest}
use Rattle.detector.specs.Detector.{empty, is_entry, judged, with_entry, entry_for, given, observe_of}
use Rattle.detector.specs.Source.{source_of}
use Rattle.detector.specs.Detects.{Call, left, answered, new, known, duplicate, full}
use Rattle.detector.specs.declared.observe.Observation.{Observation}

abbrev call : (tenant peer address : ℕ) → Call
call tenant peer address = record { tenant = tenant; peer = peer; address = address }

-- what each of these calls, in turn, is answered behind those before
abbrev in_turn : List Call → List Call → List Observation
in_turn before [] = []
in_turn before (c ∷ calls) = answered before c ∷ in_turn (c ∷ before) calls

pub worked-detects :
    in_turn [] (
    call 7 0 0x020000000001
    ∷ call 7 1 0x020000000001
    ∷ call 7 2 0x020000000001
    ∷ call 7 0 0x020000000001
    ∷ call 8 1 0x020000000001
    ∷ call 7 1 0x020000000002
    ∷ call 0xFFFF 1 0
    ∷ call 0 0 0
    ∷ call 0 0 0
    ∷ [])
    ≡ new  -- the first of tenant 7
    ∷ duplicate 0  -- another peer
    ∷ duplicate 0  -- a third one: the first is still named
    ∷ known  -- all three the same
    ∷ new  -- another tenant
    ∷ new  -- another address
    ∷ new
    ∷ new  -- the entries that are not kept are 0, and are none
    ∷ known
    ∷ []
unfolding from lowest empty is_entry judged with_entry entry_for given observe_of left answered
worked-detects = refl

-- ---- a full detector

-- n calls of tenant 7, each with an address of its own
abbrev many : ℕ → List Call
many zero = []
many (suc n) = call 7 0 n ∷ many n

-- the 128th is new, the 129th is full; what is kept is known, and another peer's a duplicate, as before
pub worked-full : (
    answered (many 127) (call 7 0 127)
    ∷ map (answered (many 128)) (call 7 0 128 ∷ call 8 0 0 ∷ call 7 0 0 ∷ call 7 0 127 ∷ call 7 1 127 ∷ [])
    )
    ≡ new ∷ full ∷ full ∷ known ∷ known ∷ duplicate 0 ∷ []
unfolding from lowest empty is_entry judged with_entry entry_for given observe_of left answered
worked-full = refl

-- ---- a frame's source address

abbrev bytes : List ℕ
bytes = 0 ∷ 1 ∷ 2 ∷ 3 ∷ 4 ∷ 5 ∷ 6 ∷ 7 ∷ 8 ∷ 9 ∷ 10 ∷ 11 ∷ 12 ∷ 13 ∷ []

-- bytes 6 to 11; none where the frame ends before
pub worked_source : map source_of (bytes ∷ take 12 bytes ∷ take 11 bytes ∷ [] ∷ []) ≡ 0x060708090A0B ∷ 0x060708090A0B ∷ 0 ∷ 0 ∷ []
unfolding source_of
worked_source = refl
