-- What an inner frame carries, as far as the hints of an STT frame tell of it (draft-davie-stt-06, 3.1; document 02, §5), in two parts: an IP header, whole,
-- and behind it TCP or UDP. The transport header itself is not looked at, and may be cut off.
use Rattle.std.specs.Prelude.{◌≡◌, ℕ, ◌+◌, ◌*◌, ◌/◌, ◌%◌, ◌^◌, ◌<◌, ◌≤◌, Bool, true, cond, ◌&&◌, ◌||◌, ◌⊎◌, List, length, Option, Some, None, unwrap_or}
use Rattle.wire.specs.Bytes.{Bytes, be, be_at, ◌then◌}
use Rattle.wire.specs.Ipv4 as I
use Rattle.wire.specs.Checks.{◌is◌, ◌at_least◌}
use Rattle.wire.specs.declared.inner.Hints.{Hints}

-- ---- an IP header, whole, behind the 14 bytes of the Ethernet header

-- IPv4 (RFC 894; RFC 791, 3.1): type 0x0800, version 4, a header of five 32-bit words or more, all of them inside the frame
pub record CarriesIpv4 (words : ℕ) (frame : List ℕ) : Type 0 where
  pub type_is : be_at frame 12 2 ≡ 0x0800
  pub version_is : be_at frame 14 1 / 16 ≡ 4
  pub words_is : be_at frame 14 1 % 16 ≡ words
  pub least : 5 ≤ words
  pub inside : 14 + 4 * words ≤ length frame

-- IPv6 (RFC 2464, 3; RFC 8200, 3): type 0x86DD, version 6, a header of 40 bytes inside the frame
pub record CarriesIpv6 (frame : List ℕ) : Type 0 where
  pub type_is : be_at frame 12 2 ≡ 0x86DD
  pub version_is : be_at frame 14 1 / 16 ≡ 6
  pub inside : 14 + 40 ≤ length frame

-- ---- behind it, from byte `l4` of the frame on, a protocol

-- of a packet that is whole or a first fragment: its fragment offset is 0
pub record OverIpv4 (protocol l4 : ℕ) (frame : List ℕ) : Type 0 where
  pub words : ℕ
  pub ip : CarriesIpv4 words frame
  pub fragment_offset : be_at frame 20 2 % 2 ^ 13 ≡ 0
  pub protocol_is : be_at frame 23 1 ≡ protocol
  pub l4_is : l4 ≡ 14 + 4 * words

-- extension headers are not followed
pub record OverIpv6 (protocol l4 : ℕ) (frame : List ℕ) : Type 0 where
  pub ip : CarriesIpv6 frame
  pub next_header : be_at frame 20 1 ≡ protocol
  pub l4_is : l4 ≡ 14 + 40

-- ---- the hints: flags and L4 offset

-- of TCP (6, RFC 793) and UDP (17, RFC 768): flag number 2, 0x04, is IPv4; flag number 3, 0x08, is TCP
abbrev pub FoundHints : (flags l4 : ℕ) (frame : List ℕ) → Type 0
FoundHints flags l4 frame =
    ((flags ≡ 0x04 + 0x08) × OverIpv4 6 l4 frame)
    ⊎ (((flags ≡ 0x04) × OverIpv4 17 l4 frame)
    ⊎ (((flags ≡ 0x08) × OverIpv6 6 l4 frame)
    ⊎ ((flags ≡ 0) × OverIpv6 17 l4 frame)))

-- the look of document 02, §5 finds TCP or UDP over IP in the frame
pub record CarriesTransport (frame : List ℕ) : Type 0 where
  pub flags : ℕ
  pub l4 : ℕ
  pub hints : FoundHints flags l4 frame

-- what is written of a frame: all 0 where nothing is found
abbrev pub WrittenHints : (flags l4 : ℕ) (frame : List ℕ) → Type 0
WrittenHints flags l4 frame = FoundHints flags l4 frame ⊎ ((CarriesTransport frame → ⊥) × (flags ≡ 0) × (l4 ≡ 0))

-- ---- the same as tests in plain numbers, for the numbered table

unfoldable pub carries_ipv4 : List ℕ → Bool
carries_ipv4 frame =
    let words : ℕ = be_at frame 14 1 % 16 in
    be_at frame 12 2 is 0x0800 && be_at frame 14 1 / 16 is 4 && words at_least 5 && length frame at_least 14 + 4 * words

unfoldable pub carries_ipv6 : List ℕ → Bool
carries_ipv6 frame = be_at frame 12 2 is 0x86DD && be_at frame 14 1 / 16 is 6 && length frame at_least 54

unfoldable pub carries_transport : List ℕ → Bool
carries_transport frame =
    carries_ipv4 frame && be_at frame 20 2 % 2 ^ 13 is 0 && (be_at frame 23 1 is 6 || be_at frame 23 1 is 17)
    || carries_ipv6 frame && (be_at frame 20 1 is 6 || be_at frame 20 1 is 17)

-- ---- need not be believed: what the code answers, and its statement

unfoldable pub transport_by : (protocol flags l4 : ℕ) → Option Hints
transport_by protocol flags l4 =
    cond (protocol is 6) (Some (record { flags = flags + 0x08; l4 = l4 }))
    (cond (protocol is 17) (Some (record { flags = flags; l4 = l4 })) None)

unfoldable pub over_ipv4 : (frame : List ℕ) → Option Hints
over_ipv4 frame = cond (be_at frame 20 2 % 2 ^ 13 is 0) (transport_by (be_at frame 23 1) 0x04 (14 + 4 * (be_at frame 14 1 % 16))) None

unfoldable pub transport_of : List ℕ → Option Hints
transport_of frame = cond (carries_ipv4 frame) (over_ipv4 frame) (cond (carries_ipv6 frame) (transport_by (be_at frame 20 1) 0 54) None)

abbrev pub hints_by : Option Hints → Hints
hints_by x = unwrap_or x (record { flags = 0; l4 = 0 })

unfoldable pub hints_of : List ℕ → Hints
hints_of frame = hints_by (transport_of frame)

-- THE STATEMENT: the tests say just whether the frame carries an IP header, and a transport header; what is found is exactly the hints of that one.
pub record Looks : Type 0 where
  pub ipv4 : (words : ℕ) (frame : List ℕ) → CarriesIpv4 words frame → carries_ipv4 frame ≡ true
  pub ipv4_sound : (frame : List ℕ) → carries_ipv4 frame ≡ true → CarriesIpv4 (be_at frame 14 1 % 16) frame
  pub ipv6 : (frame : List ℕ) → CarriesIpv6 frame → carries_ipv6 frame ≡ true
  pub ipv6_sound : (frame : List ℕ) → carries_ipv6 frame ≡ true → CarriesIpv6 frame
  pub test : (frame : List ℕ) → CarriesTransport frame → carries_transport frame ≡ true
  pub test_sound : (frame : List ℕ) → carries_transport frame ≡ true → CarriesTransport frame
  pub transport : (flags l4 : ℕ) (frame : List ℕ) → FoundHints flags l4 frame → transport_of frame ≡ Some (record { flags = flags; l4 = l4 })
  pub transport_sound : (h : Hints) (frame : List ℕ) → transport_of frame ≡ Some h → FoundHints h.flags h.l4 frame
  pub hints : (frame : List ℕ) → WrittenHints (hints_of frame).flags (hints_of frame).l4 frame

-- ---- need not be believed: that the fields lie where the RFCs' pictures have them

-- two addresses, the type, and a packet that begins with an IPv4 header (RFC 791, 3.1)
pub record Ipv4Frame (frame : List ℕ) : Type 0 where
  pub addresses : List ℕ
  pub f : I.Header
  pub rest : List ℕ
  pub twelve : length addresses ≡ 12
  pub fits : I.Fits f
  pub frame_is : frame ≡ (addresses then be 2 0x0800 then I.header f then rest)

-- or with an IPv6 header (RFC 8200, 3): version 6, traffic class 8 and flow label 20 bits; payload length, next header, hop limit, addresses
pub record Ipv6Frame (frame : List ℕ) : Type 0 where
  pub addresses : List ℕ
  pub class : ℕ
  pub flow : ℕ
  pub size : ℕ
  pub next : ℕ
  pub hops : ℕ
  pub source : ℕ
  pub destination : ℕ
  pub rest : List ℕ
  pub twelve : length addresses ≡ 12
  pub class_fits : class < 2 ^ 8
  pub flow_fits : flow < 2 ^ 20
  pub next_fits : next < 256
  pub frame_is : frame ≡ (addresses then be 2 0x86DD then be 4 (6 * 2 ^ 28 + class * 2 ^ 20 + flow)
      then be 2 size then be 1 next then be 1 hops then be 16 source then be 16 destination then rest)

-- THE STATEMENT: a frame of bytes carries an IP header exactly where it is one of these; and behind it, where the header ends, the protocol that the header
-- names, over IPv4 exactly where its fragment offset is 0
pub record Pictures : Type 0 where
  pub ipv4 : (frame : List ℕ) (w : Ipv4Frame frame) → CarriesIpv4 (5 + w.f.option_words) frame
  pub ipv4_back : (words : ℕ) (frame : List ℕ) → Bytes frame → CarriesIpv4 words frame → Ipv4Frame frame
  pub over_ipv4_lem : (frame : List ℕ) (w : Ipv4Frame frame) → w.f.offset ≡ 0 → OverIpv4 w.f.protocol (14 + length (I.header w.f)) frame
  pub over_ipv4_back : (frame : List ℕ) (w : Ipv4Frame frame) (protocol l4 : ℕ) → OverIpv4 protocol l4 frame
      → (w.f.offset ≡ 0) × (w.f.protocol ≡ protocol) × (l4 ≡ 14 + length (I.header w.f))
  pub ipv6 : (frame : List ℕ) → Ipv6Frame frame → CarriesIpv6 frame
  pub ipv6_back : (frame : List ℕ) → Bytes frame → CarriesIpv6 frame → Ipv6Frame frame
  pub over_ipv6 : (frame : List ℕ) (w : Ipv6Frame frame) → OverIpv6 w.next (14 + 40) frame
  pub over_ipv6_back : (frame : List ℕ) (w : Ipv6Frame frame) (protocol l4 : ℕ) → OverIpv6 protocol l4 frame → (w.next ≡ protocol) × (l4 ≡ 14 + 40)
