-- The source address of an Ethernet frame (document 02, §1: bytes 6 to 11), as a number whose first byte is the highest; 0 of a frame under 12 bytes.
use Rattle.std.specs.Prelude.{ℕ, ◌+◌, ◌*◌, ◌^◌, cond, List, length, get_or, ltb}

unfoldable pub source_of : List ℕ → ℕ
source_of frame =
    cond (ltb (length frame) 12) 0
    (get_or frame 6 0 * 256 ^ 5 + get_or frame 7 0 * 256 ^ 4 + get_or frame 8 0 * 256 ^ 3 + get_or frame 9 0 * 256 ^ 2 + get_or frame 10 0 * 256 + get_or frame 11 0)
