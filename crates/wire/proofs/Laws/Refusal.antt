-- What refusals tell: 3 to 10, 13, and 25 to 29 with a byte.
use Rattle.std.specs.Prelude.{◌≡◌, ℕ, ◌+◌, ◌≤◌, not, ◌⊎◌, List, [], ◌∷◌, length, ◌==◌, refl, Result, Ok, Err}
use Rattle.std.proofs.Common.{subst, inl, inr, arith, le-ltb}
use Rattle.wire.specs.Bytes.{be_at}
use Rattle.wire.specs.Checks.{Check, ◌⇒◌, first}
use Rattle.wire.proofs.Laws.Checks.{by_each}
use Rattle.wire.specs.Refusal.{Finding, only, code_of, finding_of}
use Rattle.wire.specs.Ipv4.{ipv4_checks, ipv4_at, ipv4_of}
use Rattle.wire.specs.Stt.{contradicts, stt_checks, stt_of}
use Rattle.wire.specs.Frame.{frame_checks, frame_of}
use Rattle.wire.specs.declared.refusal.Refusal.{Refusal}
use Rattle.wire.specs.declared.refusal.Refusal.TheVariants as R
use Rattle.wire.specs.declared.ipv4.Ipv4.{Ipv4}

-- the number is the same wherever the payload begins
pub refusal-number : (start : ℕ) (r : Refusal) → (finding_of start r).number ≡ code_of r
unfolding finding_of
refusal-number start R.Truncated = refl
refusal-number start R.Version = refl
refusal-number start R.HeaderLength = refl
refusal-number start R.TotalLength = refl
refusal-number start R.HeaderChecksum = refl
refusal-number start R.Fragment = refl
refusal-number start R.Protocol = refl
refusal-number start R.Port = refl
refusal-number start R.Short = refl
refusal-number start R.UdpLength = refl
refusal-number start R.TcpLength = refl
refusal-number start R.DataOffset = refl
refusal-number start R.UdpChecksum = refl
refusal-number start R.TcpChecksum = refl
refusal-number start R.VxlanFlag = refl
refusal-number start R.GreFlags = refl
refusal-number start R.GreVersion = refl
refusal-number start R.GreTypeHigh = refl
refusal-number start R.GreTypeLow = refl
refusal-number start R.SttVersion = refl
refusal-number start R.SttFlags = refl
refusal-number start R.FrameLength = refl
refusal-number start R.FrameTag = refl

-- a number from 3 to 10, or 13, and no byte; or one from 25 to 29, and a byte no more than 8 behind the start
abbrev pub Told : (start : ℕ) → Finding → Type 0
Told start x =
    ((3 ≤ x.number) × ((x.number ≤ 10) × (x.offset ≡ 0)))
    ⊎ (((x.number ≡ 13) × (x.offset ≡ 0)) ⊎ ((25 ≤ x.number) × ((x.number ≤ 29) × (x.offset ≤ start + 8))))

pub refusal-told : (start : ℕ) (r : Refusal) → Told start (finding_of start r)
unfolding finding_of
refusal-told start R.Truncated = inl (omega arith, (omega arith, refl))
refusal-told start R.Version = inl (omega arith, (omega arith, refl))
refusal-told start R.HeaderLength = inl (omega arith, (omega arith, refl))
refusal-told start R.TotalLength = inl (omega arith, (omega arith, refl))
refusal-told start R.HeaderChecksum = inl (omega arith, (omega arith, refl))
refusal-told start R.Fragment = inl (omega arith, (omega arith, refl))
refusal-told start R.Protocol = inl (omega arith, (omega arith, refl))
refusal-told start R.Port = inl (omega arith, (omega arith, refl))
refusal-told start R.Short = inl (omega arith, (omega arith, refl))
refusal-told start R.UdpLength = inl (omega arith, (omega arith, refl))
refusal-told start R.TcpLength = inl (omega arith, (omega arith, refl))
refusal-told start R.DataOffset = inl (omega arith, (omega arith, refl))
refusal-told start R.UdpChecksum = inl (omega arith, (omega arith, refl))
refusal-told start R.TcpChecksum = inl (omega arith, (omega arith, refl))
refusal-told start R.VxlanFlag = inr (inr (omega arith, (omega arith, omega arith)))
refusal-told start R.GreFlags = inr (inr (omega arith, (omega arith, omega arith)))
refusal-told start R.GreVersion = inr (inr (omega arith, (omega arith, omega arith)))
refusal-told start R.GreTypeHigh = inr (inr (omega arith, (omega arith, omega arith)))
refusal-told start R.GreTypeLow = inr (inr (omega arith, (omega arith, omega arith)))
refusal-told start R.SttVersion = inr (inr (omega arith, (omega arith, omega arith)))
refusal-told start R.SttFlags = inr (inr (omega arith, (omega arith, omega arith)))
refusal-told start R.FrameLength = inr (inl (refl, refl))
refusal-told start R.FrameTag = inr (inl (refl, refl))

pub offset_most : (start : ℕ) (r : Refusal) → (finding_of start r).offset ≤ start + 8
offset_most start r = by (refusal-told start r)
  where
    by : Told start (finding_of start r) → (finding_of start r).offset ≤ start + 8
    by (inl x) = omega (arith, x.1.1)
    by (inr (inl x)) = omega (arith, x.1)
    by (inr (inr x)) = x.1.1

-- ---- by reader

-- an IPv4 header's names no byte
abbrev Ipv4Plain : Result Ipv4 Refusal → Type 0
Ipv4Plain (Ok h) = Unit {0}
Ipv4Plain (Err r) = (start : ℕ) → finding_of start r ≡ only (code_of r)

pub ipv4_plain : (s : List ℕ) (r : Refusal) (start : ℕ) → ipv4_of s ≡ Err r → finding_of start r ≡ only (code_of r)
unfolding ipv4_of ipv4_checks finding_of
ipv4_plain s r start e =
    let none : (start : ℕ) → only 3 ≡ only 3 = λ start. refl in
    subst Ipv4Plain e (by_each Ipv4Plain Err (ipv4_checks s) (Ok (ipv4_at s))
    (none, (none, (none, (none, (none, (λ start. refl, (λ start. refl, tt))))))) tt) start

-- a complete STT frame's number
abbrev SttCode : Result ℕ Refusal → Type 0
SttCode (Ok context) = Unit {0}
SttCode (Err r) = (code_of r ≡ 28) ⊎ (code_of r ≡ 29)

pub stt_code : (s : List ℕ) (r : Refusal) → 18 ≤ length s → stt_of s ≡ Err r → (code_of r ≡ 28) ⊎ (code_of r ≡ 29)
unfolding stt_of stt_checks first finding_of
stt_code s r l e =
    let two : List (Check Refusal) = (not (be_at s 0 1 == 0) ⇒ R.SttVersion) ∷ (contradicts s ⇒ R.SttFlags) ∷ [] in
    let z : first Err two (Ok (be_at s 8 8)) ≡ Err r = rw (le-ltb (length s) 18 l) at e in
    subst SttCode z (by_each SttCode Err two (Ok (be_at s 8 8)) (inl refl, (inr refl, tt)) tt)

-- an inner frame's is 13, and names no byte
abbrev FramePlain : Result (Unit {0}) Refusal → Type 0
FramePlain (Ok tt) = Unit {0}
FramePlain (Err r) = (start : ℕ) → finding_of start r ≡ only 13

pub frame-plain : (s : List ℕ) (r : Refusal) (start : ℕ) → frame_of s ≡ Err r → finding_of start r ≡ only 13
unfolding frame_of frame_checks finding_of
frame-plain s r start e =
    let none : (start : ℕ) → only 13 ≡ only 13 = λ start. refl in
    subst FramePlain e (by_each FramePlain Err (frame_checks s) (Ok tt) (none, (none, (none, (none, tt)))) tt) start
