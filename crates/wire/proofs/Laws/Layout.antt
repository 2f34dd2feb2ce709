-- Every packet that is written has its layout.
use Rattle.std.specs.Prelude.{◌≡◌, ℕ, ◌+◌, ◌%◌, ◌^◌, ◌<◌, ◌≤◌, Bool, true, false, cond, List, [], ◌∷◌, ◌++◌, length, drop}
use Rattle.std.proofs.Math.Path.{refl, sym, ap}
use Rattle.std.proofs.Common.{ap₂, ◌∙◌, append_assoc, length-append, drop_at}
use native.Mathlib.Omega.{arith}
use Rattle.wire.specs.Bytes.{be, be_at, part, ◌then◌}
use Rattle.wire.proofs.Laws.Bytes.{be-length, be_front, be-behind, be_value}
use Rattle.wire.specs.Sum.{total, pseudo, complement}
use Rattle.wire.proofs.Laws.Sum.{complement-fits, total-append, total_be2}
use Rattle.wire.specs.Ipv4 as I
use Rattle.wire.specs.Udp.{udp}
use Rattle.wire.specs.Vxlan.{vxlan}
use Rattle.wire.specs.Nvgre.{gre}
use Rattle.wire.specs.Inner.{hints_of}
use Rattle.wire.proofs.Laws.Inner.{hints_are, hints_fit}
use Rattle.wire.specs.Stt.{stt}
use Rattle.wire.specs.Segment as S
use Rattle.wire.specs.Write.{ipv4_with, outer, ipv4_head, packet, source_port_of, vxlan_body, nvgre_body, stt_frame, flags_of, tcp_with, segment_header}
use Rattle.wire.specs.Write.{segment_bytes}
use Rattle.wire.specs.Write.{segment_body, vxlan_packet, nvgre_packet, segment_packet}
use Rattle.wire.proofs.Laws.Write.{port_is, segment-bytes-length, segment-bytes_is, stt-length}
use Rattle.wire.specs.Layout.{Field, field, LaidOut, port_of, vxlan_fields, nvgre_fields, segment_fields, stt_fields, VxlanLaidOut, NvgreLaidOut, SttLaidOut}
use Rattle.wire.specs.Layout.{SegmentLaidOut, Layouts}

-- ---- bytes that were written field by field are laid out so

abbrev written : List Field → List ℕ → List ℕ
written [] carried = carried
written (field place width value ∷ fields) carried = be width value ++ written fields carried

-- the places follow one another, and the values fit their fields
abbrev Fit : ℕ → List Field → Type 0
Fit at [] = Unit {0}
Fit at (field place width value ∷ fields) = (place ≡ at) × (value < 256 ^ width) × Fit (at + width) fields

laid_out : (fields : List Field) (carried front bytes : List ℕ) (at : ℕ) → length front ≡ at → Fit at fields → bytes ≡ front ++ written fields carried
    → LaidOut at fields carried bytes
laid_out [] carried front bytes at n f e =
    (ap length e ∙ length-append front carried ∙ ap (λ (k : ℕ). k + length carried) n, ap (drop at) e ∙ drop_at front carried at n)
laid_out (field place width value ∷ fields) carried front bytes at n f e =
    let rest : List ℕ = written fields carried in
    let z : at ≡ at + 0 = omega arith in
    let here : be_at bytes place width ≡ value =
    ap₂ (λ (x : List ℕ) (i : ℕ). be_at x i width) e (f.0 ∙ z) ∙ be-behind front (be width value ++ rest) at 0 width n
    ∙ be_front (be width value) rest 0 width (omega (arith, be-length width value)) ∙ be_value width value f.1 in
    let m : length (front ++ be width value) ≡ at + width = length-append front (be width value) ∙ ap₂ (λ (x y : ℕ). x + y) n (be-length width value) in
    (f.0, here, laid_out fields carried (front ++ be width value) bytes (at + width) m f.2 (e ∙ sym (append_assoc front (be width value) rest)))

-- ---- the checksums

-- a field of 0 is nothing in the sum
unsummed : (a b : List ℕ) → length a % 2 ≡ 0 → complement (a ++ (be 2 0 ++ b)) ≡ complement (a ++ b)
unfolding complement
unsummed a b even =
    let e : total (a ++ (be 2 0 ++ b)) ≡ total (a ++ b) =
    omega (arith, total-append a (be 2 0 ++ b) even, total-append a b even, total_be2 0 b (omega arith)) in
    rw e

ipv4_checksum : (protocol size source destination : ℕ) (payload p : List ℕ) → p ≡ ipv4_head protocol size source destination ++ payload
    → complement (part p 0 10 ++ part p 12 20) ≡ complement (ipv4_with protocol size source destination 0)
unfolding ipv4_head outer ipv4_with I.header part be
ipv4_checksum protocol size source destination payload p e =
    let front : List ℕ = be 1 69 then be 1 0 then be 2 size then be 2 0 then be 2 16384 then be 1 64 then be 1 protocol in
    let back : List ℕ = be 4 source then be 4 destination then [] in
    ap (λ (x : List ℕ). complement (part x 0 10 ++ part x 12 20)) e ∙ sym (unsummed front back refl)

-- ---- the source port and the flags

port_of_lem : (frame : List ℕ) → 14 ≤ length frame → port_of frame ≡ source_port_of frame
port_of_lem frame h = sym (port_is frame h)

flags_are : (last : Bool) → cond last 0x18 0x10 ≡ flags_of last
unfolding flags_of
flags_are true = refl
flags_are false = refl

flags_fit : (last : Bool) → cond last 0x18 0x10 < 256
flags_fit true = omega arith
flags_fit false = omega arith

-- ---- the packets

module _ (source destination : ℕ) (own_fits : source < 256 ^ 4) (peer_fits : destination < 256 ^ 4) where
  vxlan-at : (vni : ℕ) (frame p : List ℕ) → vni < 256 ^ 3 → 14 ≤ length frame → 36 + length frame < 256 ^ 2
      → p ≡ vxlan_packet source destination vni frame → VxlanLaidOut source destination vni frame p
  unfolding vxlan_packet packet vxlan_body udp vxlan ipv4_head outer I.header be
  vxlan-at vni frame p h1 h2 h3 e =
      let size : 20 + length (vxlan_body vni frame) ≡ 36 + length frame = omega arith in
      let inner : 8 + length (vxlan 8 0 vni 0 frame) ≡ 16 + length frame = omega arith in
      let w : p ≡ ipv4_head 17 (36 + length frame) source destination ++ vxlan_body vni frame = rw size at e in
      let c : complement (part p 0 10 ++ part p 12 20) ≡ complement (ipv4_with 17 (36 + length frame) source destination 0) =
      ipv4_checksum 17 (36 + length frame) source destination (vxlan_body vni frame) p w in
      laid_out (vxlan_fields source destination vni frame p) frame [] p 0 refl
      (omega (arith, complement-fits (part p 0 10 ++ part p 12 20)))
      (rw (c, port_of_lem frame h2, ← inner) w)

  nvgre-at : (vsid : ℕ) (frame p : List ℕ) → vsid < 256 ^ 3 → 28 + length frame < 256 ^ 2
      → p ≡ nvgre_packet source destination vsid frame → NvgreLaidOut source destination vsid frame p
  unfolding nvgre_packet packet nvgre_body gre ipv4_head outer I.header be
  nvgre-at vsid frame p h1 h2 e =
      let size : 20 + length (nvgre_body vsid frame) ≡ 28 + length frame = omega arith in
      let w : p ≡ ipv4_head 47 (28 + length frame) source destination ++ nvgre_body vsid frame = rw size at e in
      let c : complement (part p 0 10 ++ part p 12 20) ≡ complement (ipv4_with 47 (28 + length frame) source destination 0) =
      ipv4_checksum 47 (28 + length frame) source destination (nvgre_body vsid frame) p w in
      laid_out (nvgre_fields source destination vsid frame p) frame [] p 0 refl
      (omega (arith, complement-fits (part p 0 10 ++ part p 12 20)))
      (rw c w)

  -- a segment that carries any bytes
  sealed_at : (from port frame_length_at offset identifier : ℕ) (last : Bool) (bytes p : List ℕ)
      → from < 256 ^ 2 → port < 256 ^ 2 → frame_length_at < 256 ^ 2 → offset < 256 ^ 2 → identifier < 256 ^ 4 → 40 + length bytes < 256 ^ 2
      → p ≡ packet 6 source destination
      (S.header (segment_header source destination from port frame_length_at offset identifier (flags_of last) bytes) ++ bytes)
      → LaidOut 0 (segment_fields source destination from port frame_length_at offset identifier last bytes p) bytes p
  unfolding packet segment_header tcp_with S.header pseudo ipv4_head outer I.header part be
  sealed_at from port frame_length_at offset identifier last bytes p h1 h2 h3 h4 h5 h6 e =
      let body : List ℕ = S.header (segment_header source destination from port frame_length_at offset identifier (flags_of last) bytes) ++ bytes in
      let size : 20 + length body ≡ 40 + length bytes = omega arith in
      let w : p ≡ ipv4_head 6 (40 + length bytes) source destination ++ body = rw size at e in
      let c : complement (part p 0 10 ++ part p 12 20) ≡ complement (ipv4_with 6 (40 + length bytes) source destination 0) =
      ipv4_checksum 6 (40 + length bytes) source destination body p w in
      let front : List ℕ =
      be 2 from then be 2 port then be 2 frame_length_at then be 2 offset then be 4 identifier then be 1 80 then be 1 (flags_of last) then be 2 0 in
      let ps : List ℕ = pseudo source destination 6 (20 + length bytes) in
      let d : complement (ps ++ (part p 20 36 ++ drop 38 p))
      ≡ complement (ps ++ (tcp_with from port frame_length_at offset identifier (flags_of last) 0 ++ bytes)) =
      ap (λ (x : List ℕ). complement (ps ++ (part x 20 36 ++ drop 38 x))) w
      ∙ ap complement (sym (append_assoc ps front (be 2 0 then bytes)))
      ∙ sym (unsummed (ps ++ front) (be 2 0 then bytes) refl)
      ∙ ap complement (append_assoc ps front (be 2 0 then be 2 0 then bytes)) in
      laid_out (segment_fields source destination from port frame_length_at offset identifier last bytes p) bytes [] p 0 refl
      (omega (arith, complement-fits (part p 0 10 ++ part p 12 20), complement-fits (ps ++ (part p 20 36 ++ drop 38 p)), flags_fit last))
      (rw (c, d, flags_are last) w)

  segment-at : (port context identifier offset count : ℕ) (last : Bool) (frame p : List ℕ) → port < 256 ^ 2 → identifier < 256 ^ 4
      → 14 ≤ length frame → 18 + length frame < 256 ^ 2 → offset + count ≤ 18 + length frame → 40 + count < 256 ^ 2
      → p ≡ segment_packet source destination port context identifier offset count last frame
      → SegmentLaidOut source destination port offset (offset + count) identifier last frame (stt_frame context frame) p
  unfolding segment_packet segment_body source_port_of
  segment-at port context identifier offset count last frame p h1 h2 h3 h4 h5 h6 e =
      rw (port_of_lem frame h3, stt-length context frame, ← segment-bytes_is context offset count frame)
      (sealed_at (source_port_of frame) port (18 + length frame) offset identifier last (segment_bytes context offset count frame) p
      (omega arith) h1 h4 (omega arith) h2 (omega (arith, segment-bytes-length context offset count frame h5)) e)

stt-at : (context : ℕ) (frame : List ℕ) → context < 256 ^ 8 → SttLaidOut context frame (stt_frame context frame)
unfolding stt_frame stt be
stt-at context frame h =
    let f : ℕ = (hints_of frame).flags in
    let l : ℕ = (hints_of frame).l4 in
    record {
      flags = f;
      l4 = l;
      hints = hints_are frame;
      laid_out = laid_out (stt_fields f l context) frame [] (stt_frame context frame) 0 refl
          (omega (arith, (hints_fit frame).flags_fit, (hints_fit frame).l4_fits)) refl;
    }

pub layouts : Layouts
layouts = record {
  vxlan = λ source destination vni frame h1 h2 h3 h4 h5. vxlan-at source destination h1 h2 vni frame (vxlan_packet source destination vni frame) h3 h4 h5 refl;
  nvgre = λ source destination vsid frame h1 h2 h3 h4. nvgre-at source destination h1 h2 vsid frame (nvgre_packet source destination vsid frame) h3 h4 refl;
  stt = stt-at;
  segment = λ source destination port context identifier offset count last frame h1 h2 h3 h4 h5 h6 h7 h8.
      segment-at source destination h1 h2 port context identifier offset count last frame
      (segment_packet source destination port context identifier offset count last frame) h3 h4 h5 h6 h7 h8 refl;
}
