-- WHICH BYTE A REFUSAL NAMES (document 02, §4): the first at which a tunnel header breaks its rule, told byte by byte, without the table's rows. Only
-- definitions; crate endpoint, specs/Offset.antt has the statement.
use Rattle.std.specs.Prelude.{◌≡◌, ℕ, ◌+◌, ◌/◌, ◌%◌, ◌<◌, Bool, true, false, ◌&&◌, ◌||◌, List, length, drop, slice_index, slice_index_or}
use Rattle.wire.specs.Inner.{carries_transport}
use Rattle.wire.specs.Table.{◌is◌, ◌isnt◌, ◌below◌, ◌above◌, header_length_of}

-- Byte i breaks its rule, of a VXLAN header in the packet, behind the IPv4 header and 8 bytes of UDP: the flag I is not set (RFC 7348, 5)
unfoldable pub breaks_vxlan : (packet : List ℕ) → ℕ → Bool
breaks_vxlan packet i = i is header_length_of packet + 8 && slice_index packet i / 8 % 2 isnt 1

-- of an NVGRE header in the packet, behind the IPv4 header: not 0x20 to 0x23; the version's three bits not 0; not the type 0x6558 (RFC 7637, 3.2)
unfoldable pub breaks_nvgre : (packet : List ℕ) → ℕ → Bool
breaks_nvgre packet i =
    let start : ℕ = header_length_of packet in
    let byte : ℕ = slice_index_or packet i 0 in
    i is start && (byte below 0x20 || byte above 0x23)
    || i is start + 1 && byte % 8 isnt 0
    || i is start + 2 && byte isnt 0x65
    || i is start + 3 && byte isnt 0x58

-- of an STT frame: the version is not 0; the flags 0x01 and 0x02 are both set, of an inner frame that carries TCP or UDP over IP (draft-davie-stt-06, 3.1;
-- document 02, §5)
unfoldable pub breaks_stt : (frame : List ℕ) → ℕ → Bool
breaks_stt frame i = i is 0 && slice_index_or frame i 0 isnt 0 || i is 1 && (slice_index frame i % 4 is 3 && carries_transport (drop 18 frame))

-- of these bytes, the one at this offset is the first that breaks its rule
pub record FirstOf (bytes : List ℕ) (breaks : ℕ → Bool) (offset : ℕ) : Type 0 where
  pub inside : offset < length bytes
  pub here : breaks offset ≡ true
  pub before : (i : ℕ) → i < offset → breaks i ≡ false
