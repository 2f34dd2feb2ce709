-- The ones' complement sum (RFC 1071), over lists of bytes. A checksum is right exactly when the sum over everything, its field included, is 0xFFFF.
use Rattle.std.specs.Prelude.{ℕ, zero, suc, ◌+◌, ◌-◌, ◌*◌, ◌/◌, ◌%◌, List, [], ◌∷◌, length, drop, slice_index}
use Rattle.wire.specs.Bytes.{be, ◌then◌}

-- the plain sum of the 16-bit big-endian words; a last odd byte is padded with a byte 0
unfoldable pub total : List ℕ → ℕ
total [] = 0
total (a ∷ []) = a * 256
total (a ∷ b ∷ s) = a * 256 + b + total s

-- a number folded to 16 bits by end-around carries: 0 only for 0, and else the one of 1 to 65,535 that leaves the same rest by 65,535
unfoldable pub ones : ℕ → ℕ
ones zero = 0
ones (suc n) = n % 0xFFFF + 1

-- What is summed in front of a UDP datagram (RFC 768) or of a TCP segment (RFC 793, 3.1).
unfoldable pub pseudo : (source destination protocol size : ℕ) → List ℕ
pseudo source destination protocol size =
    be 4 source then be 4 destination then be 1 0 then be 1 protocol then be 2 size

-- What a writer puts into a checksum's field: the complement of the sum over all else.
unfoldable pub complement : List ℕ → ℕ
complement s = 0xFFFF - ones (total s)

-- ---- need not be believed: for the sum by wide words

-- a number folded once to a word that wraps at w, by an end-around carry
unfoldable pub end_around : ℕ → ℕ → ℕ
end_around w n = n % w + n / w

-- a word with its two bytes exchanged
abbrev pub swapped : ℕ → ℕ
swapped x = x % 256 * 256 + x / 256

-- the number that bytes spell in little-endian order
unfoldable pub le : List ℕ → ℕ
le [] = 0
le (a ∷ s) = a + 256 * le s

-- that of the n bytes from a place on
unfoldable pub le_at : List ℕ → ℕ → ℕ → ℕ
le_at s at zero = 0
le_at s at (suc n) = slice_index s at + 256 * le_at s (suc at) n

-- a number, and the bytes from a place on that are still to be added to it, folded
unfoldable pub with_rest : ℕ → List ℕ → ℕ → ℕ
with_rest n s at = ones (n + le (drop at s))

-- where the blocks of k bytes end
unfoldable pub blocks : ℕ → List ℕ → ℕ
blocks k s = length s - length s % k
