-- The worked cases of document 01 ("Bench sheet") that are to be proved: one table of what the definitions give beside what the paper says, and one statement,
-- that the two columns are equal.
use Rattle.std.specs.Prelude.{ℕ, ◌≡◌, cond, List, [], ◌∷◌, ◌++◌, map, replicate, Result, Ok, Err}
use Rattle.wire.specs.Sum.{total, ones}
use Rattle.wire.specs.Nvgre.{nvgre_of}
use Rattle.wire.specs.Refusal.{Finding, only, finding_of}
use Rattle.wire.specs.Inner.{hints_of}
use Rattle.wire.specs.Write.{source_port_of}
use Rattle.reassembly.specs.Base.{all_below}
use Rattle.reassembly.specs.Slots.{free, no_mark}
use Rattle.reassembly.specs.Take.{Choice, reject, old, fresh, chosen, rejection_code}
use Rattle.reassembly.specs.Store.{bit_at, set_bits}
use Rattle.endpoint.specs.Wrap.{segments_of, segment_size, packet_of}
use Rattle.wire.specs.declared.carriage.Tunnel.{Tunnel}
use Rattle.wire.specs.declared.refusal.Refusal.{Refusal}

-- ---- examples: nothing rests on them

-- T, our own address 10.0.0.1 and the peer's 10.0.0.2
abbrev T : List ℕ
T = 0x02 ∷ 0x00 ∷ 0x00 ∷ 0x00 ∷ 0x00 ∷ 0x02 ∷ 0x02 ∷ 0x00 ∷ 0x00 ∷ 0x00 ∷ 0x00 ∷ 0x01 ∷ 0x88 ∷ 0xb5 ∷ []

-- an Ethernet header with larger words
abbrev U : List ℕ
U = 0xff ∷ 0xff ∷ 0xff ∷ 0xff ∷ 0xff ∷ 0xff ∷ 0x02 ∷ 0x00 ∷ 0x5e ∷ 0x10 ∷ 0x00 ∷ 0x01 ∷ 0x08 ∷ 0x00 ∷ []

-- a TCP frame: an IPv4 header that ends with the frame, from 10.0.0.3 to 10.0.0.4
abbrev W : List ℕ
W =
    0x02 ∷ 0x00 ∷ 0x00 ∷ 0x00 ∷ 0x00 ∷ 0x02 ∷ 0x02 ∷ 0x00 ∷ 0x00 ∷ 0x00 ∷ 0x00 ∷ 0x01 ∷ 0x08 ∷ 0x00
    ∷ 0x45 ∷ 0x00 ∷ 0x00 ∷ 0x14 ∷ 0x00 ∷ 0x00 ∷ 0x40 ∷ 0x00 ∷ 0x40 ∷ 0x06 ∷ 0x00 ∷ 0x00 ∷ 0x0a ∷ 0x00 ∷ 0x00 ∷ 0x03 ∷ 0x0a ∷ 0x00 ∷ 0x00 ∷ 0x04 ∷ []

abbrev own : ℕ
own = 0x0a000001

abbrev peer : ℕ
peer = 0x0a000002

-- number and offset that are given to an NVGRE header with this first byte, behind an IPv4 header of 20 bytes: the refusal's, or else 0 and 0
abbrev carried_finding : Result Tunnel Refusal → Finding
carried_finding (Ok t) = only 0
carried_finding (Err r) = finding_of 20 r

abbrev finding_list : Finding → List ℕ
finding_list x = x.number ∷ x.offset ∷ []

abbrev nvgre_first : ℕ → List ℕ
nvgre_first x = finding_list (carried_finding (nvgre_of (x ∷ 0 ∷ 0x65 ∷ 0x58 ∷ 0 ∷ 16 ∷ 0 ∷ 0 ∷ [])))

-- the number that is given to a first segment of one byte, of a frame of this length: 0 where a slot is found for it
abbrev choice_code : Choice → ℕ
choice_code (reject r) = rejection_code r
choice_code (old s) = 0
choice_code (fresh s) = 0

abbrev length_code : ℕ → ℕ
length_code n = choice_code (chosen (replicate 4 free) (record { identifier = 1; frame_length = n; offset = 0; bytes = 7 ∷ []; mark = no_mark }))

abbrev complete : List ℕ → ℕ
complete map = cond (all_below 9 (λ i. bit_at map 0 i)) 1 0

-- the hints of frames (document 02, §5). IPv4: the header's first byte, its fragment word and protocol, and n bytes behind these; IPv6: first byte, next header
abbrev hint_list : List ℕ → List ℕ
hint_list frame = (hints_of frame).flags ∷ (hints_of frame).l4 ∷ []

abbrev ipv4_hints : (first high low protocol n : ℕ) → List ℕ
ipv4_hints first high low protocol n =
    hint_list (replicate 12 2 ++ (0x08 ∷ 0x00 ∷ first ∷ 0 ∷ 0 ∷ 0 ∷ 0 ∷ 0 ∷ high ∷ low ∷ 64 ∷ protocol ∷ []) ++ replicate n 0)

abbrev ipv6_hints : (first next n : ℕ) → List ℕ
ipv6_hints first next n = hint_list (replicate 12 2 ++ (0x86 ∷ 0xdd ∷ first ∷ 0 ∷ 0 ∷ 0 ∷ 0 ∷ 0 ∷ next ∷ []) ++ replicate n 0)

-- a case: what the definitions give, and what the paper says
pub record Case : Type 0 where
  pub computed : List ℕ
  pub stated : List ℕ

abbrev given : Case → List ℕ
given c = c.computed

abbrev paper : Case → List ℕ
paper c = c.stated

infix 20 ◌is◌
abbrev ◌is◌ : List ℕ → List ℕ → Case
a is b = record { computed = a; stated = b }

unfoldable pub cases : List Case
cases =
    -- 1. the sum of RFC 1071's example is 0xDDF2
    (ones (total (0x00 ∷ 0x01 ∷ 0xf2 ∷ 0x03 ∷ 0xf4 ∷ 0xf5 ∷ 0xf6 ∷ 0xf7 ∷ [])) ∷ [] is 0xddf2 ∷ [])
    -- 2. T's source port
    ∷ (source_port_of T ∷ [] is 52408 ∷ [])
    -- 3. T on VNI 22, whole
    ∷ (packet_of 1 own peer 7471 22 1500 T 0 0
    is (0x45 ∷ 0x00 ∷ 0x00 ∷ 0x32 ∷ 0x00 ∷ 0x00 ∷ 0x40 ∷ 0x00 ∷ 0x40 ∷ 0x11 ∷ 0x26 ∷ 0xb9 ∷ 0x0a ∷ 0x00 ∷ 0x00 ∷ 0x01 ∷ 0x0a ∷ 0x00 ∷ 0x00 ∷ 0x02
    ∷ 0xcc ∷ 0xb8 ∷ 0x12 ∷ 0xb5 ∷ 0x00 ∷ 0x1e ∷ 0x00 ∷ 0x00 ∷ 0x08 ∷ 0x00 ∷ 0x00 ∷ 0x00 ∷ 0x00 ∷ 0x00 ∷ 0x16 ∷ 0x00 ∷ []) ++ T)
    -- 4. T on VSID 4,096, whole
    ∷ (packet_of 2 own peer 7471 4096 1500 T 0 0
    is (0x45 ∷ 0x00 ∷ 0x00 ∷ 0x2a ∷ 0x00 ∷ 0x00 ∷ 0x40 ∷ 0x00 ∷ 0x40 ∷ 0x2f ∷ 0x26 ∷ 0xa3 ∷ 0x0a ∷ 0x00 ∷ 0x00 ∷ 0x01 ∷ 0x0a ∷ 0x00 ∷ 0x00 ∷ 0x02
    ∷ 0x20 ∷ 0x00 ∷ 0x65 ∷ 0x58 ∷ 0x00 ∷ 0x10 ∷ 0x00 ∷ 0x00 ∷ []) ++ T)
    -- not of the paper: U's seven words sum to 223,246, which leaves 10,254 by 16,384; by 8,192 it leaves 2,062, and with end-around carries 10,257
    ∷ (source_port_of U ∷ [] is 59406 ∷ [])
    -- nor these: MTU 576, U and 505 bytes 0x07 on Context ID 0x0102030405060708, identifier 0xdeadbeef: the first segment, whole, and the last
    ∷ (packet_of 3 own peer 7471 0x0102030405060708 576 (U ++ replicate 505 0x07) 0 0xdeadbeef
    is (0x45 ∷ 0x00 ∷ 0x02 ∷ 0x40 ∷ 0x00 ∷ 0x00 ∷ 0x40 ∷ 0x00 ∷ 0x40 ∷ 0x06 ∷ 0x24 ∷ 0xb6 ∷ 0x0a ∷ 0x00 ∷ 0x00 ∷ 0x01 ∷ 0x0a ∷ 0x00 ∷ 0x00 ∷ 0x02
    ∷ 0xe8 ∷ 0x0e ∷ 0x1d ∷ 0x2f ∷ 0x02 ∷ 0x19 ∷ 0x00 ∷ 0x00 ∷ 0xde ∷ 0xad ∷ 0xbe ∷ 0xef ∷ 0x50 ∷ 0x10 ∷ 0x00 ∷ 0x00 ∷ 0x91 ∷ 0xb5 ∷ 0x00 ∷ 0x00
    ∷ 0x00 ∷ 0x00 ∷ 0x00 ∷ 0x00 ∷ 0x00 ∷ 0x00 ∷ 0x00 ∷ 0x00 ∷ 0x01 ∷ 0x02 ∷ 0x03 ∷ 0x04 ∷ 0x05 ∷ 0x06 ∷ 0x07 ∷ 0x08 ∷ 0x00 ∷ 0x00 ∷ []) ++ U
    ++ replicate 504 0x07)
    ∷ (packet_of 3 own peer 7471 0x0102030405060708 576 (U ++ replicate 505 0x07) 1 0xdeadbeef
    is 0x45 ∷ 0x00 ∷ 0x00 ∷ 0x29 ∷ 0x00 ∷ 0x00 ∷ 0x40 ∷ 0x00 ∷ 0x40 ∷ 0x06 ∷ 0x26 ∷ 0xcd ∷ 0x0a ∷ 0x00 ∷ 0x00 ∷ 0x01 ∷ 0x0a ∷ 0x00 ∷ 0x00 ∷ 0x02
    ∷ 0xe8 ∷ 0x0e ∷ 0x1d ∷ 0x2f ∷ 0x02 ∷ 0x19 ∷ 0x02 ∷ 0x18 ∷ 0xde ∷ 0xad ∷ 0xbe ∷ 0xef ∷ 0x50 ∷ 0x18 ∷ 0x00 ∷ 0x00 ∷ 0xed ∷ 0xbc ∷ 0x00 ∷ 0x00
    ∷ 0x07 ∷ [])
    -- nor this: a whole STT packet with a TCP frame, whose hints (document 02, §5) are 0x0c and 34
    ∷ (packet_of 3 own peer 7471 0x0102030405060708 1500 W 0 0xdeadbeef
    is (0x45 ∷ 0x00 ∷ 0x00 ∷ 0x5c ∷ 0x00 ∷ 0x00 ∷ 0x40 ∷ 0x00 ∷ 0x40 ∷ 0x06 ∷ 0x26 ∷ 0x9a ∷ 0x0a ∷ 0x00 ∷ 0x00 ∷ 0x01 ∷ 0x0a ∷ 0x00 ∷ 0x00 ∷ 0x02
    ∷ 0xcc ∷ 0x03 ∷ 0x1d ∷ 0x2f ∷ 0x00 ∷ 0x34 ∷ 0x00 ∷ 0x00 ∷ 0xde ∷ 0xad ∷ 0xbe ∷ 0xef ∷ 0x50 ∷ 0x18 ∷ 0x00 ∷ 0x00 ∷ 0xfd ∷ 0x4c ∷ 0x00 ∷ 0x00
    ∷ 0x00 ∷ 0x0c ∷ 0x22 ∷ 0x00 ∷ 0x00 ∷ 0x00 ∷ 0x00 ∷ 0x00 ∷ 0x01 ∷ 0x02 ∷ 0x03 ∷ 0x04 ∷ 0x05 ∷ 0x06 ∷ 0x07 ∷ 0x08 ∷ 0x00 ∷ 0x00 ∷ []) ++ W)
    -- document 02, §5: TCP and UDP over IPv4 with headers of 5 and 15 words, a first fragment, a next one, ICMP, a header that ends a byte outside the frame
    ∷ (ipv4_hints 0x45 0 0 6 10 ++ ipv4_hints 0x4f 0x40 0 17 50 is 0x0c ∷ 34 ∷ 0x04 ∷ 74 ∷ [])
    ∷ (ipv4_hints 0x45 0x20 0 6 10 ++ ipv4_hints 0x45 0 1 6 10 ++ ipv4_hints 0x45 0 0 1 10 ++ ipv4_hints 0x4f 0 0 6 49 is 0x0c ∷ 34 ∷ 0 ∷ 0 ∷ 0 ∷ 0 ∷ 0 ∷ 0 ∷ [])
    -- four words, version 6 with IPv4's type, version 4 with IPv6's
    ∷ (ipv4_hints 0x44 0 0 6 10 ++ ipv4_hints 0x65 0 0 6 10 ++ ipv6_hints 0x45 6 33 is 0 ∷ 0 ∷ 0 ∷ 0 ∷ 0 ∷ 0 ∷ [])
    -- TCP and UDP over IPv6, an extension header, 39 bytes
    ∷ (ipv6_hints 0x60 6 33 ++ ipv6_hints 0x6f 17 33 ++ ipv6_hints 0x60 44 33 ++ ipv6_hints 0x60 6 32 is 0x08 ∷ 54 ∷ 0 ∷ 54 ∷ 0 ∷ 0 ∷ 0 ∷ 0 ∷ [])
    -- 5. MTU 576, inner 1,514: three segments of 536, 536, 460. MTU 1,500: inner 1,442 makes one, 1,443 makes two
    ∷ (segments_of 3 1514 576 ∷ segment_size 1514 576 0 ∷ segment_size 1514 576 1 ∷ segment_size 1514 576 2 ∷ [] is 3 ∷ 536 ∷ 536 ∷ 460 ∷ [])
    ∷ (segments_of 3 1442 1500 ∷ segments_of 3 1443 1500 ∷ [] is 1 ∷ 2 ∷ [])
    -- 6. frame length 31 is 14, 32 is not; 1,532 is not, 1,533 is
    ∷ (length_code 31 ∷ length_code 32 ∷ length_code 1532 ∷ length_code 1533 ∷ [] is 14 ∷ 0 ∷ 0 ∷ 14 ∷ [])
    -- 7. NVGRE first byte 0x23 passes, 0x24 is 26 (document 02, §4), at byte 20
    ∷ (nvgre_first 0x23 ++ nvgre_first 0x24 is 0 ∷ 0 ∷ 26 ∷ 20 ∷ [])
    -- 8. the map of a 9-byte reach: 0xFF, 0x01 are set; with 0xFF, 0x00 it is not complete
    ∷ (set_bits (0 ∷ 0 ∷ []) 0 0 9 is 0xff ∷ 0x01 ∷ [])
    ∷ (complete (0xff ∷ 0x01 ∷ []) ∷ complete (0xff ∷ 0x00 ∷ []) ∷ [] is 1 ∷ 0 ∷ [])
    ∷ []

-- THE STATEMENT, proved in Laws/WorkedCases (`worked`)
abbrev pub Worked : Type 0
Worked = map given cases ≡ map paper cases
