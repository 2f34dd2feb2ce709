-- What an answer tells (documents 01 and 02), and that of each cause that a format knows.
use Rattle.std.specs.Prelude.{ℕ, ◌+◌}
use Rattle.wire.specs.declared.refusal.Refusal.{Refusal}
use Rattle.wire.specs.declared.refusal.Refusal.TheVariants as R

-- the number of an answer, and the offset of the first offending byte, in the packet or in the STT frame (02 §4); 0 where no byte is named
pub record Finding : Type 0 where
  pub number : ℕ
  pub offset : ℕ

infix 25 ◌at_byte◌
abbrev pub ◌at_byte◌ : ℕ → ℕ → Finding
n at_byte i = record { number = n; offset = i }

-- a number alone
-- Open: only data
abbrev pub only : ℕ → Finding
only n = n at_byte 0

-- ---- need not be believed: number and offset for each cause. In the packet, its IP payload begins at `start`

unfoldable pub finding_of : (start : ℕ) → Refusal → Finding
-- 3: under 20 bytes; version not 4; header length under 5 words; total length below the header or above the bytes given
finding_of start R.Truncated = only 3
finding_of start R.Version = only 3
finding_of start R.HeaderLength = only 3
finding_of start R.TotalLength = only 3
-- 4: IPv4 header checksum wrong
finding_of start R.HeaderChecksum = only 4
-- 5: more-fragments bit set or fragment offset not 0
finding_of start R.Fragment = only 5
-- 8: protocol not 17, 6 or 47; or destination port not the tunnel's
finding_of start R.Protocol = only 8
finding_of start R.Port = only 8
-- 9: carriage header broken
finding_of start R.Short = only 9
finding_of start R.UdpLength = only 9
finding_of start R.TcpLength = only 9
finding_of start R.DataOffset = only 9
-- 10: UDP checksum non-zero and wrong, or TCP checksum wrong
finding_of start R.UdpChecksum = only 10
finding_of start R.TcpChecksum = only 10
-- 25: VXLAN flag missing, behind 8 bytes of UDP
finding_of start R.VxlanFlag = 25 at_byte (start + 8)
-- 26: first two bytes of GRE wrong
finding_of start R.GreFlags = 26 at_byte start
finding_of start R.GreVersion = 26 at_byte (start + 1)
-- 27: GRE protocol type wrong
finding_of start R.GreTypeHigh = 27 at_byte (start + 2)
finding_of start R.GreTypeLow = 27 at_byte (start + 3)
-- 28: STT version; 29: STT flags both set, of TCP or UDP over IP; in the STT frame
finding_of start R.SttVersion = 28 at_byte 0
finding_of start R.SttFlags = 29 at_byte 1
-- 13: inner frame breaks its rule
finding_of start R.FrameLength = only 13
finding_of start R.FrameTag = only 13

-- the number, wherever the payload begins
-- Open: a field of what is shut
abbrev pub code_of : Refusal → ℕ
code_of r = (finding_of 0 r).number
