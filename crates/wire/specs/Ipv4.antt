-- IPv4 (RFC 791, 3.1): what a packet is, and what the reader answers.
use Rattle.std.specs.Prelude.{◌≡◌, ℕ, ◌+◌, ◌*◌, ◌/◌, ◌%◌, ◌^◌, ◌<◌, ◌≤◌, not, List, [], ◌∷◌, ◌++◌, length, take, ◌==◌, nat_lt, Result, Ok, Err}
use Rattle.wire.specs.Bytes.{Bytes, be, be_at, part, ◌then◌}
use Rattle.wire.specs.Sum.{total, ones}
use Rattle.wire.specs.Checks.{Check, ◌⇒◌, first}
use Rattle.wire.specs.declared.refusal.Refusal.{Refusal}
use Rattle.wire.specs.declared.refusal.Refusal.TheVariants as R
use Rattle.wire.specs.declared.ipv4.Ipv4.{Ipv4}

-- The header's fields.
pub record Header : Type 0 where
  pub option_words : ℕ  -- 32-bit words of options
  pub tos : ℕ
  pub size : ℕ  -- total length
  pub id : ℕ
  pub flags : ℕ  -- reserved, don't fragment, more fragments
  pub offset : ℕ  -- of the fragment
  pub ttl : ℕ  -- time to live
  pub protocol : ℕ
  pub checksum : ℕ
  pub source : ℕ
  pub destination : ℕ
  pub options : List ℕ

-- A header's bytes.
unfoldable pub header : Header → List ℕ
header f =
    be 1 (4 * 16 + (5 + f.option_words))
    then be 1 f.tos
    then be 2 f.size
    then be 2 f.id
    then be 2 (f.flags * 2 ^ 13 + f.offset)
    then be 1 f.ttl
    then be 1 f.protocol
    then be 2 f.checksum
    then be 4 f.source
    then be 4 f.destination
    then f.options

-- Each field fits its bits.
pub record Fits (f : Header) : Type 0 where
  pub option_words : 5 + f.option_words < 2 ^ 4
  pub tos : f.tos < 256
  pub size : f.size < 256 ^ 2
  pub id : f.id < 256 ^ 2
  pub flags : f.flags < 2 ^ 3
  pub offset : f.offset < 2 ^ 13
  pub ttl : f.ttl < 256
  pub protocol : f.protocol < 256
  pub checksum : f.checksum < 256 ^ 2
  pub source : f.source < 256 ^ 4
  pub destination : f.destination < 256 ^ 4
  pub options : length f.options ≡ 4 * f.option_words

-- `packet` begins with a whole IPv4 packet from source to destination that carries `payload` and is no fragment.
pub record IsIpv4 (source destination protocol : ℕ) (payload packet : List ℕ) : Type 0 where
  pub f : Header
  pub fits : Fits f
  pub trailing : List ℕ
  pub whole : packet ≡ header f ++ (payload ++ trailing)
  pub size : f.size ≡ length (header f) + length payload
  pub checksum : ones (total (header f)) ≡ 0xFFFF
  pub last : f.flags % 2 ≡ 0
  pub offset : f.offset ≡ 0
  pub source_is : f.source ≡ source
  pub destination_is : f.destination ≡ destination
  pub protocol_is : f.protocol ≡ protocol

-- ---- need not be believed: what the reader answers, and its statement

-- Fields of the header at a packet's front, by their places.
abbrev pub version_at : List ℕ → ℕ
version_at s = be_at s 0 1 / 16

abbrev pub ihl_at : List ℕ → ℕ
ihl_at s = be_at s 0 1 % 16

abbrev pub size_at : List ℕ → ℕ
size_at s = be_at s 2 2

abbrev pub offset_at : List ℕ → ℕ
offset_at s = be_at s 6 2 % 2 ^ 13

-- The checks 3 to 5 of document 01, in their order.
unfoldable pub ipv4_checks : List ℕ → List (Check Refusal)
ipv4_checks s =
    (nat_lt (length s) 20 ⇒ R.Truncated)
    ∷ (not (version_at s == 4) ⇒ R.Version)
    ∷ (nat_lt (ihl_at s) 5 ⇒ R.HeaderLength)
    ∷ (nat_lt (size_at s) (4 * ihl_at s) ⇒ R.TotalLength)
    ∷ (nat_lt (length s) (size_at s) ⇒ R.TotalLength)
    ∷ (not (ones (total (take (4 * ihl_at s) s)) == 0xFFFF) ⇒ R.HeaderChecksum)
    ∷ (not (be_at s 6 2 % 2 ^ 14 == 0) ⇒ R.Fragment)
    ∷ []

-- What is accepted: who sent it to whom, what it carries, and where the payload lies.
unfoldable pub ipv4_at : List ℕ → Ipv4
ipv4_at s = record { start = 4 * ihl_at s; end = size_at s; source = be_at s 12 4; destination = be_at s 16 4; protocol = be_at s 9 1 }

unfoldable pub ipv4_of : List ℕ → Result Ipv4 Refusal
ipv4_of s = first Err (ipv4_checks s) (Ok (ipv4_at s))

-- THE STATEMENT: every packet is read, as what it says and where its payload lies; what is read is a packet; bytes behind it do not count.
pub record ReadsIpv4 : Type 0 where
  pub complete : (source destination protocol : ℕ) (payload s : List ℕ) (w : IsIpv4 source destination protocol payload s)
      → let n = length (header w.f) in
      (ipv4_of s ≡ Ok (record { start = n; end = n + length payload; source = source; destination = destination; protocol = protocol }))
      × (part s n (n + length payload) ≡ payload)
  pub sound : (s : List ℕ) → Bytes s → (h : Ipv4) → ipv4_of s ≡ Ok h
      → IsIpv4 h.source h.destination h.protocol (part s h.start h.end) s × (h.start ≤ h.end) × (h.end ≤ length s)
  -- two lists that agree in their first n bytes, where the total length is at most n
  pub ignores_trailing : (n : ℕ) (s t : List ℕ) → take n s ≡ take n t → 20 ≤ n → n ≤ length s → n ≤ length t → be_at s 2 2 ≤ n → ipv4_of s ≡ ipv4_of t
