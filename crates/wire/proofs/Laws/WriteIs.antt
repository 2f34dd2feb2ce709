-- What the crates above use of what we write: a segment's bytes are a part of the STT frame, parts join, what was written stands at the front, and it is bytes.
use Rattle.std.specs.Prelude.{◌≡◌, ℕ, zero, suc, ◌+◌, ◌-◌, ◌/◌, ◌%◌, ◌<◌, ◌≤◌, min, List, [], ◌∷◌, ◌++◌, length, take, drop, nat_lt, slice_index}
use Rattle.std.specs.Prelude.{slice_index_or, slice_range, refl}
use Rattle.std.proofs.Common.{sym, ap, ◌∙◌, arith, mod-lt, ltb-true, ltb-false, length-drop, take_all, take_at, take-add, drop-drop, get_or-append-add}
use Rattle.std.proofs.Math.Nat.{sub-zero}
use Rattle.std.proofs.Math.ListN.{get_or-append}
use Rattle.wire.specs.Bytes.{Bytes, be, part, wrote}
use Rattle.wire.proofs.Laws.Bytes.{case_b}
use Rattle.wire.specs.Ipv4 as I
use Rattle.wire.specs.Udp.{udp}
use Rattle.wire.specs.Vxlan.{vxlan}
use Rattle.wire.specs.Nvgre.{gre}
use Rattle.wire.specs.Write.{outer, ipv4_head, packet, vxlan_body, nvgre_body, vxlan_packet, nvgre_packet}

-- ---- parts

-- a part that ends past the list's end is one that ends there
pub part_past_end : (s : List ℕ) (a e : ℕ) → part s a (min (length s) e) ≡ part s a e
unfolding part
part_past_end s a e =
    case_b (nat_lt e (length s))
    (λ q. let h : min (length s) e ≡ e = omega (arith, ltb-true e (length s) q) in rw h)
    (λ q.
    let h : min (length s) e ≡ length s = omega (arith, ltb-false e (length s) q) in
    let l : length (drop a s) ≡ length s - a = length-drop a s in
    rw h (take_all (length s - a) (drop a s) (omega arith) ∙ sym (take_all (e - a) (drop a s) (omega (arith, ltb-false e (length s) q)))))

-- two parts that meet are one
pub part_join : (s : List ℕ) (a e g : ℕ) → a ≤ e → e ≤ g → part s a e ++ part s e g ≡ part s a g
unfolding part
part_join s a e g h k =
    let back : drop e s ≡ drop (e - a) (drop a s) = let z : a + (e - a) ≡ e = omega arith in ap (λ (n : ℕ). drop n s) (sym z) ∙ sym (drop-drop (e - a) a s) in
    let all : e - a + (g - e) ≡ g - a = omega arith in
    ap (λ (l : List ℕ). slice_range s a e ++ take (g - e) l) back ∙ sym (take-add (e - a) (g - e) (drop a s)) ∙ ap (λ (n : ℕ). take n (drop a s)) all

pub part-all : (s : List ℕ) (e : ℕ) → length s ≤ e → part s 0 e ≡ s
unfolding part
part-all s e h = rw sub-zero (take_all e s h)

-- ---- what is written

pub wrote_front : (m a : List ℕ) → take (length a) (wrote m a) ≡ a
unfolding wrote
wrote_front m a = take_at a (drop (length a) m) (length a) refl

pub wrote_is : (m a : List ℕ) → wrote m a ≡ a ++ drop (length a) m
unfolding wrote
wrote_is m a = refl

-- ---- it is bytes

bytes_one : (x : ℕ) → x < 256 → Bytes (x ∷ [])
bytes_one x h zero = h
bytes_one x h (suc i) = omega arith

pub bytes-append : (a b : List ℕ) → Bytes a → Bytes b → Bytes (a ++ b)
bytes-append a b f g i =
    case_b (nat_lt i (length a))
    (λ q. rw (get_or-append a b 0 i (ltb-true i (length a) q)) (f i))
    (λ q.
    let z : i ≡ length a + (i - length a) = omega (arith, ltb-false i (length a) q) in
    let e : slice_index_or (a ++ b) i 0 ≡ slice_index_or b (i - length a) 0 = ap (λ (n : ℕ). slice_index (a ++ b) n) z ∙ get_or-append-add a b (i - length a) 0 in
    rw e (g (i - length a)))

bytes-be : (n x : ℕ) → Bytes (be n x)
unfolding be
bytes-be zero x i = omega arith
bytes-be (suc n) x i = bytes-append (be n (x / 256)) (x % 256 ∷ []) (bytes-be n (x / 256)) (bytes_one (x % 256) (mod-lt x (omega arith))) i

-- the same as a record, whose list can be told from a goal
record Whole (s : List ℕ) : Type 0 where
  all : Bytes s

-- a field in front of bytes, and two lists of bytes
field : (n x : ℕ) (s : List ℕ) → Whole s → Whole (be n x ++ s)
field n x s h = record { all = bytes-append (be n x) s (bytes-be n x) h.all }

both : (a b : List ℕ) → Whole a → Whole b → Whole (a ++ b)
both a b f g = record { all = bytes-append a b f.all g.all }

head_bytes : (protocol size source destination : ℕ) → Whole (ipv4_head protocol size source destination)
unfolding ipv4_head outer I.header
head_bytes protocol size source destination =
    field 1 _ _ (field 1 _ _ (field 2 _ _ (field 2 _ _ (field 2 _ _
    (field 1 _ _ (field 1 _ _ (field 2 _ _ (field 4 _ _ (field 4 _ _ (record { all = λ i. omega arith }))))))))))

vxlan-whole : (vni : ℕ) (frame : List ℕ) → Whole frame → Whole (vxlan_body vni frame)
unfolding vxlan_body udp vxlan
vxlan-whole vni frame h = field 2 _ _ (field 2 _ _ (field 2 _ _ (field 2 _ _ (field 1 _ _ (field 3 _ _ (field 3 _ _ (field 1 _ _ h)))))))

nvgre-whole : (vsid : ℕ) (frame : List ℕ) → Whole frame → Whole (nvgre_body vsid frame)
unfolding nvgre_body gre
nvgre-whole vsid frame h = field 1 _ _ (field 1 _ _ (field 2 _ _ (field 3 _ _ (field 1 _ _ h))))

packet-whole : (protocol source destination : ℕ) (payload : List ℕ) → Whole payload → Whole (packet protocol source destination payload)
unfolding packet
packet-whole protocol source destination payload h =
    both (ipv4_head protocol (20 + length payload) source destination) payload (head_bytes protocol (20 + length payload) source destination) h

pub vxlan-bytes : (source destination vni : ℕ) (frame : List ℕ) → Bytes frame → Bytes (vxlan_packet source destination vni frame)
unfolding vxlan_packet
vxlan-bytes source destination vni frame h = (packet-whole 17 source destination (vxlan_body vni frame) (vxlan-whole vni frame (record { all = h }))).all

pub nvgre-bytes : (source destination vsid : ℕ) (frame : List ℕ) → Bytes frame → Bytes (nvgre_packet source destination vsid frame)
unfolding nvgre_packet
nvgre-bytes source destination vsid frame h = (packet-whole 47 source destination (nvgre_body vsid frame) (nvgre-whole vsid frame (record { all = h }))).all
