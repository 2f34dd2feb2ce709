-- What each reader answers, by document 01's rows (Table.antt).
use Rattle.std.specs.Prelude.{◌≡◌, ℕ, ◌*◌, ◌/◌, ◌%◌, ◌^◌, ◌<◌, ◌≤◌, Bool, true, false, cond, not, ◌&&◌, ◌||◌, List, [], ◌∷◌, ◌++◌, length, drop, ◌==◌, nat_eq}
use Rattle.std.specs.Prelude.{nat_lt, refl, Result, Ok, Err}
use Rattle.std.proofs.Math.Path.{sym, ap}
use Rattle.std.proofs.Common.{◌∙◌, arith, length-drop}
use borrow.Author.Tests.{ltb-false, eqb-true, le-ltb}
use Rattle.wire.specs.Checks.{pick, Check, ◌⇒◌, first, Passed}
use Rattle.wire.proofs.Laws.Checks.{tests}
use Rattle.wire.specs.Bytes.{Bytes, be_at, part}
use Rattle.wire.proofs.Laws.Bytes.{case_b, be-lt, be-drop}
use Rattle.wire.specs.Sum.{total, ones, pseudo}
use Rattle.wire.specs.Refusal.{Finding, ◌at_byte◌, only, finding_of}
use Rattle.wire.specs.Ipv4.{ipv4_checks, ipv4_at, ipv4_of}
use Rattle.wire.specs.Udp.{udp_sum, udp_checks, udp_of}
use Rattle.wire.specs.Vxlan.{vxlan_checks, vxlan_at, vxlan_of}
use Rattle.wire.specs.Nvgre.{nvgre_checks, nvgre_at, nvgre_of}
use Rattle.wire.specs.Segment.{segment_checks, segment_at, segment_of}
use Rattle.wire.specs.Stt.{contradicts, stt_checks, stt_of}
use Rattle.wire.specs.Frame.{frame_checks, frame_of}
use Rattle.wire.specs.Carriage.{carried, carriage_of}
use Rattle.wire.specs.declared.ipv4.Ipv4.{Ipv4}
use Rattle.wire.specs.declared.segment.Segment.{Segment}
use Rattle.wire.specs.declared.carriage.Tunnel.{Tunnel}
use Rattle.wire.specs.Table.{Rows, ◌and_then◌, ◌otherwise◌, ipv4_rows, payload_rows, vxlan_rows, nvgre_rows, stt_rows, bad_frame, tells, carried_tells}
use Rattle.wire.specs.Table.{total_length_of, header_length_of, data_words_of, source_of, destination_of, protocol_of, vni_of, vsid_of, frame_length_of}
use Rattle.wire.specs.Table.{offset_of}
use Rattle.wire.specs.Table.{identifier_of, context_of}
use Rattle.wire.specs.Table.{payload_of, segment_bytes_of}
use Rattle.wire.specs.Table.{Table}
use Rattle.wire.specs.declared.carriage.Carried.{Carried}
use Rattle.wire.specs.declared.carriage.Carried.TheVariants as C
use Rattle.wire.specs.declared.refusal.Refusal.{Refusal}

-- ---- rows

-- what is made of the answer of a list of checks
pub pull : {R A B : Type 0} (g : A → B) (refused : R → A) (checks : List (Check R)) (accepted : A)
    → g (first refused checks accepted) ≡ first (λ (r : R). g (refused r)) checks (g accepted)
unfolding first
pull g refused [] accepted = refl
pull g refused ((true ⇒ r) ∷ checks) accepted = refl
pull g refused ((false ⇒ r) ∷ checks) accepted = pull g refused checks accepted

-- behind checks, what holds where none is met
pub under : {R A : Type 0} (f : R → A) (checks : List (Check R)) (x y : A) → (Passed checks → x ≡ y) → first f checks x ≡ first f checks y
unfolding first
under f [] x y h = h tt
under f ((true ⇒ r) ∷ checks) x y h = refl
under f ((false ⇒ r) ∷ checks) x y h = under f checks x y (λ p. h (refl, p))

-- rows behind rows
pub behind : (a b : Rows) (x : Finding) → (a and_then b otherwise x) ≡ (a otherwise (b otherwise x))
unfolding first
behind [] b x = refl
behind ((true ⇒ r) ∷ a) b x = refl
behind ((false ⇒ r) ∷ a) b x = behind a b x

-- several causes of one answer
pub row2 : {A : Type 0} (n : A) (a b : Bool) (x : A) → pick a n (pick b n x) ≡ pick (a || b) n x
row2 n true b x = refl
row2 n false b x = refl

pub row3 : {A : Type 0} (n : A) (a b c : Bool) (x : A) → pick a n (pick b n (pick c n x)) ≡ pick (a || b || c) n x
row3 n a b c x = row2 n a b (pick c n x) ∙ row2 n (a || b) c x

pub row4 : {A : Type 0} (n : A) (a b c d : Bool) (x : A) → pick a n (pick b n (pick c n (pick d n x))) ≡ pick (a || b || c || d) n x
row4 n a b c d x = row3 n a b c (pick d n x) ∙ row2 n (a || b || c) d x

pub row5 : {A : Type 0} (n : A) (a b c d f : Bool) (x : A) → pick a n (pick b n (pick c n (pick d n (pick f n x)))) ≡ pick (a || b || c || d || f) n x
row5 n a b c d f x = row4 n a b c d (pick f n x) ∙ row2 n (a || b || c || d) f x

pub row6 : {A : Type 0} (n : A) (a b c d f g : Bool) (x : A)
    → pick a n (pick b n (pick c n (pick d n (pick f n (pick g n x))))) ≡ pick (a || b || c || d || f || g) n x
row6 n a b c d f g x = row5 n a b c d f (pick g n x) ∙ row2 n (a || b || c || d || f) g x

-- ---- the outer header: 3, 4, 5

ipv4_told : (start : ℕ) (f : Ipv4 → Finding) (k : List ℕ) → tells start f (ipv4_of k) ≡ (ipv4_rows k otherwise f (ipv4_at k))
unfolding ipv4_of ipv4_checks ipv4_rows first finding_of total_length_of header_length_of
ipv4_told start f k =
    pull (tells start f) Err (ipv4_checks k) (Ok (ipv4_at k))
    ∙ row5 (only 3) (nat_lt (length k) 20) (not (be_at k 0 1 / 16 == 4)) (nat_lt (be_at k 0 1 % 16) 5) (nat_lt (be_at k 2 2) (4 * (be_at k 0 1 % 16)))
    (nat_lt (length k) (be_at k 2 2)) _

-- ---- the payload: 9, 8, 9, 10, and 25 to 27 of VXLAN and NVGRE

-- the causes as the page groups them by protocol
vxlan_shape : {A : Type 0} (l p n : A) (a b c d f : Bool) (x : A)
    → pick a l (pick b p (pick c l (pick d l (pick f n x))))
    ≡ pick (a || false) l (pick (b || false) p (pick (c || d || false || false) l (pick (f || false) n x)))
vxlan_shape l p n true b c d f x = refl
vxlan_shape l p n false true c d f x = refl
vxlan_shape l p n false false true d f x = refl
vxlan_shape l p n false false false true f x = refl
vxlan_shape l p n false false false false true x = refl
vxlan_shape l p n false false false false false x = refl

nvgre_shape : {A : Type 0} (l : A) (a : Bool) (x : A) → pick a l x ≡ pick (a || false) l x
nvgre_shape l true x = refl
nvgre_shape l false x = refl

sum_row : (c s : ℕ) → not (pick (c == 0) 65535 s == 65535) ≡ (not (c == 0) && not (s == 65535))
sum_row c s = case_b (c == 0) (λ q. rw q) (λ q. rw q)

-- 25 of VXLAN, where there is room for its header; 26 and 27 of NVGRE
flag_row : (start : ℕ) (s : List ℕ) → 16 ≤ length s → (x : Finding) → first (finding_of start) (vxlan_checks (drop 8 s)) x ≡ (vxlan_rows start s otherwise x)
unfolding vxlan_checks vxlan_rows first finding_of
flag_row start s l x = rw (le-ltb (length (drop 8 s)) 8 (omega (arith, length-drop 8 s)), be-drop s 8 0 1)

gre-row : (start : ℕ) (s : List ℕ) → 8 ≤ length s → (x : Finding) → first (finding_of start) (nvgre_checks s) x ≡ (nvgre_rows start s otherwise x)
unfolding nvgre_checks nvgre_rows finding_of first
gre-row start s l x = rw (le-ltb (length s) 8 l) (row2 (26 at_byte start) (nat_lt (be_at s 0 1) 32) (nat_lt 35 (be_at s 0 1)) _)

-- one reader's answer, as one of what a payload carries, tells the same
carried-tells : {A : Type 0} (kind : A → Carried) (start : ℕ) (h : Carried → Finding) (x : Result A Refusal)
    → tells start h (carried kind x) ≡ tells start (λ y. h (kind y)) x
carried-tells kind start h (Ok y) = refl
carried-tells kind start h (Err r) = refl

module _ (f : Tunnel → Finding) (g : Segment → Finding) (start protocol source destination port : ℕ) (s : List ℕ) where
  -- what is made of the answer of each reader
  vxlan-read : (t : List ℕ) → tells start f (vxlan_of t)
      ≡ first (finding_of start) (vxlan_checks t) (f (record { start = 16; network = be_at t 4 3; kind = 1 }))
  unfolding vxlan_of vxlan_at
  vxlan-read t = pull (tells start f) Err (vxlan_checks t) (Ok (vxlan_at t))

  udp-read : tells start f (udp_of source destination s)
      ≡ first (finding_of start) (udp_checks source destination s) (tells start f (vxlan_of (drop 8 s)))
  unfolding udp_of
  udp-read = pull (tells start f) Err (udp_checks source destination s) (vxlan_of (drop 8 s))

  nvgre-read : tells start f (nvgre_of s) ≡ first (finding_of start) (nvgre_checks s) (f (record { start = 8; network = be_at s 4 3; kind = 2 }))
  unfolding nvgre_of nvgre_at
  nvgre-read = pull (tells start f) Err (nvgre_checks s) (Ok (nvgre_at s))

  segment-read : tells start g (segment_of source destination port s)
      ≡ first (finding_of start) (segment_checks source destination port s) (g (segment_at s))
  unfolding segment_of
  segment-read = pull (tells start g) Err (segment_checks source destination port s) (Ok (segment_at s))

  abbrev rows : Rows
  rows = payload_rows protocol source destination port s

  -- the checks of each protocol are the page's
  udp-rows : protocol ≡ 17 → (x : Finding) → first (finding_of start) (udp_checks source destination s) x ≡ (rows otherwise x)
  unfolding udp_checks udp_sum payload_rows finding_of first
  udp-rows q x =
      rw (q, sum_row (be_at s 6 2) (ones (total (pseudo source destination 17 (length s) ++ s))))
      (vxlan_shape (only 9) (only 8) (only 10) (nat_lt (length s) 8) (not (be_at s 2 2 == 4789)) (not (be_at s 4 2 == length s)) (nat_lt (length s) 16)
      (not (be_at s 6 2 == 0) && not (ones (total (pseudo source destination 17 (length s) ++ s)) == 65535)) x)

  nvgre-rows : protocol ≡ 47 → (x : Finding) → pick (nat_lt (length s) 8) (only 9) x ≡ (rows otherwise x)
  unfolding payload_rows first
  nvgre-rows q x = rw q (nvgre_shape (only 9) (nat_lt (length s) 8) x)

  segment-rows : protocol ≡ 6 → length s ≤ 65535 → (x : Finding) → first (finding_of start) (segment_checks source destination port s) x ≡ (rows otherwise x)
  unfolding segment_checks payload_rows first finding_of data_words_of
  segment-rows q l x =
      rw (q, le-ltb 65535 (length s) l)
      (ap (λ (y : Finding). pick (nat_lt (length s) 20) (only 9) (pick (not (be_at s 2 2 == port)) (only 8) y))
      (row2 (only 9) (nat_lt (be_at s 12 1 / 16) 5) (nat_lt (length s) (4 * (be_at s 12 1 / 16))) _))

  none_rows : nat_eq protocol 17 ≡ false → (protocol == 47) ≡ false → (protocol == 6) ≡ false → (x : Finding) → only 8 ≡ (rows otherwise x)
  unfolding payload_rows first
  none_rows a b c x = rw (a, b, c)

  -- what follows them
  abbrev vxlan_next : Finding
  vxlan_next = vxlan_rows start s otherwise f (record { start = 16; network = be_at s 12 3; kind = 1 })

  abbrev nvgre_next : Finding
  nvgre_next = nvgre_rows start s otherwise f (record { start = 8; network = be_at s 4 3; kind = 2 })

  by_vxlan : protocol ≡ 17 → tells start f (udp_of source destination s) ≡ (rows otherwise vxlan_next)
  unfolding udp_checks
  by_vxlan q =
      udp-read
      ∙ under (finding_of start) (udp_checks source destination s) (tells start f (vxlan_of (drop 8 s))) vxlan_next (λ p.
      vxlan-read (drop 8 s)
      ∙ flag_row start s (omega (arith, tests, p.1.1.1.0)) _
      ∙ ap (λ (n : ℕ). vxlan_rows start s otherwise f (record { start = 16; network = n; kind = 1 })) (be-drop s 8 4 3))
      ∙ udp-rows q vxlan_next

  by_nvgre : protocol ≡ 47 → tells start f (nvgre_of s) ≡ (rows otherwise nvgre_next)
  unfolding nvgre_checks first finding_of
  by_nvgre q = nvgre-read ∙ short-first ∙ nvgre-rows q nvgre_next
    where
      short-first : first (finding_of start) (nvgre_checks s) (f (record { start = 8; network = be_at s 4 3; kind = 2 }))
          ≡ pick (nat_lt (length s) 8) (only 9) nvgre_next
      short-first =
          case_b (nat_lt (length s) 8)
          (λ b. rw b)
          (λ b. gre-row start s (ltb-false (length s) 8 b) _ ∙ sym (rw b))

  by_segment : length s ≤ 65535 → protocol ≡ 6 → tells start g (segment_of source destination port s) ≡ (rows otherwise g (segment_at s))
  by_segment l q = segment-read ∙ segment-rows q l (g (segment_at s))

  payload-told : length s ≤ 65535
      → tells start (carried_tells f g) (carriage_of protocol source destination port s)
      ≡ (rows otherwise cond (protocol == 17) vxlan_next (cond (protocol == 47) nvgre_next (g (segment_at s))))
  unfolding carriage_of finding_of
  payload-told l =
      case_b (protocol == 17)
      (λ a. rw a (carried-tells C.Tunnel start (carried_tells f g) (udp_of source destination s) ∙ by_vxlan (eqb-true protocol 17 a)))
      (λ a. case_b (protocol == 47)
      (λ b. rw (a, b) (carried-tells C.Tunnel start (carried_tells f g) (nvgre_of s) ∙ by_nvgre (eqb-true protocol 47 b)))
      (λ b. case_b (protocol == 6)
      (λ c. rw (a, b, c) (carried-tells C.Segment start (carried_tells f g) (segment_of source destination port s) ∙ by_segment l (eqb-true protocol 6 c)))
      (λ c. rw (a, b, c) (none_rows a b c (g (segment_at s))))))

-- ---- a complete STT frame: 28, 29

stt-told : (start : ℕ) (f : ℕ → Finding) (frame : List ℕ) → 18 ≤ length frame → tells start f (stt_of frame) ≡ (stt_rows frame otherwise f (be_at frame 8 8))
unfolding contradicts stt_of stt_checks stt_rows first finding_of
stt-told start f frame l = pull (tells start f) Err (stt_checks frame) (Ok (be_at frame 8 8)) ∙ rw (le-ltb (length frame) 18 l)

-- ---- the inner frame: 13

frame-told : (start : ℕ) (x : Finding) (frame : List ℕ) → tells start (λ u. x) (frame_of frame) ≡ ((bad_frame frame ⇒ only 13) ∷ [] otherwise x)
unfolding frame_of frame_checks bad_frame first finding_of
frame-told start x frame =
    pull (tells start (λ u. x)) Err (frame_checks frame) (Ok tt)
    ∙ row4 (only 13) (nat_lt (length frame) 14) (nat_lt 1514 (length frame)) (be_at frame 12 2 == 33024) (be_at frame 12 2 == 34984) x

-- ---- the fields: what a reader of the page needs of their places

pub payload_is : (packet : List ℕ) → payload_of packet ≡ part packet (header_length_of packet) (total_length_of packet)
unfolding payload_of
payload_is packet = refl

pub segment-bytes_are : (payload : List ℕ) → segment_bytes_of payload ≡ drop (4 * data_words_of payload) payload
unfolding segment_bytes_of
segment-bytes_are payload = refl

pub total_most : (packet : List ℕ) → Bytes packet → total_length_of packet ≤ 65535
unfolding total_length_of
total_most packet bytes = let t : be_at packet 2 2 < 256 ^ 2 = be-lt packet bytes 2 2 in omega arith

-- ---- the table

pub wire_table : Table
unfolding ipv4_at segment_at header_length_of total_length_of source_of destination_of protocol_of vni_of vsid_of frame_length_of offset_of identifier_of data_words_of context_of
wire_table = record {
  ipv4 = ipv4_told;
  payload = payload-told;
  stt_frame_lem = stt-told;
  inner_frame = frame-told;
}
