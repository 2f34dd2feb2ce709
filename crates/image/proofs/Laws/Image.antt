-- The image's form: how long its parts are; read, then written, and written, then read, it is the same.
use Rattle.std.specs.Prelude.{ℕ, zero, suc, ◌+◌, ◌-◌, ◌*◌, ◌^◌, ◌<◌, ◌≤◌, ◌≡◌, Bool, true, ◌&&◌, eqb}
use Rattle.std.proofs.Math.Path.{refl, sym, ap}
use Rattle.std.proofs.Common.{ap₂, ◌∙◌, length-drop, drop-drop, drop_at, eqb-true, eq-eqb}
use mathlib.Core.List.{List, [], ◌∷◌, ◌++◌, append_assoc, append-nil}
use native.Mathlib.Omega.{arith}
use Rattle.std.proofs.Math.ListN.{length, drop, length-append}
use Rattle.std.proofs.Math.Seq.{drop-length}
use Rattle.wire.specs.Bytes.{Bytes, be, be_at}
use Rattle.wire.specs.Field.{field}
use Rattle.wire.proofs.Laws.Bytes.{be-length, be_value, be_front, be-drop, be-field}
use Rattle.wire.proofs.Laws.Field.{field_in}
use Rattle.reassembly.specs.Base.{table}
use Rattle.reassembly.proofs.Laws.Base.{either, below_suc, and_l, and_r, table_none, table_more, length-table}
use Rattle.image.specs.Image.{Binding, Contents, Version, rows, peer_row, binding_row, letters, image}
use Rattle.image.specs.Load.{peers_in, count_at, bindings_in, bindings_at, framed}

-- ---- rows

module _ {A : Type 0} (row : A → List ℕ) where
  rows_append : (xs ys : List A) → rows row (xs ++ ys) ≡ rows row xs ++ rows row ys
  unfolding rows
  rows_append [] ys = refl
  rows_append (x ∷ xs) ys = ap (λ (l : List ℕ). row x ++ l) (rows_append xs ys) ∙ sym (append_assoc (row x) (rows row xs) (rows row ys))

  rows_one : (x : A) → rows row (x ∷ []) ≡ row x
  unfolding rows
  rows_one x = append-nil (row x)

  pub rows_none : (x : ℕ → A) → rows row (table 0 x) ≡ []
  unfolding rows
  rows_none x = ap (rows row) (table_none x)

  -- with one element more, one row more
  rows_more : (n : ℕ) (x : ℕ → A) → rows row (table (suc n) x) ≡ rows row (table n x) ++ row (x n)
  rows_more n x =
      ap (rows row) (table_more n x) ∙ rows_append (table n x) (x n ∷ []) ∙ ap (λ (l : List ℕ). rows row (table n x) ++ l) (rows_one (x n))

  pub rows_next : (n : ℕ) (x : ℕ → A) → rows row (table (n + 1) x) ≡ rows row (table n x) ++ row (x n)
  rows_next n x = ap (λ (k : ℕ). rows row (table k x)) {x = n + 1} {y = suc n} (omega arith) ∙ rows_more n x

  pub rows-length : (size : ℕ) → ((x : A) → length (row x) ≡ size) → (xs : List A) → length (rows row xs) ≡ length xs * size
  unfolding rows
  rows-length size each [] = omega arith
  rows-length size each (x ∷ xs) =
      length-append (row x) (rows row xs) ∙ omega (arith, each x, rows-length size each xs)

  -- rows that were read from a place on are what stands there
  rows-read : (x : ℕ → A) (s : List ℕ) (at size n : ℕ) → ((i : ℕ) → i < n → drop (at + i * size) s ≡ row (x i) ++ drop (at + i * size + size) s)
      → rows row (table n x) ++ drop (at + n * size) s ≡ drop at s
  rows-read x s at size zero h =
      let e : at + zero * size ≡ at = omega arith in
      ap₂ (λ (l : List ℕ) (k : ℕ). l ++ drop k s) (rows_none x) e
  rows-read x s at size (suc n) h =
      let e : at + suc n * size ≡ at + n * size + size = omega arith in
      ap₂ (λ (l : List ℕ) (k : ℕ). l ++ drop k s) (rows_more n x) e
      ∙ append_assoc (rows row (table n x)) (row (x n)) (drop (at + n * size + size) s)
      ∙ ap (λ (l : List ℕ). rows row (table n x) ++ l) (sym (h n (omega arith)))
      ∙ rows-read x s at size n (λ i l. h i (omega arith))

  -- row number i of rows that were written, with something behind it
  row_at : (x : ℕ → A) (size : ℕ) → ((y : A) → length (row y) ≡ size) → (n : ℕ) (t : List ℕ) (i : ℕ) → i < n
      → (r : List ℕ) × (drop (i * size) (rows row (table n x) ++ t) ≡ row (x i) ++ r)
  row_at x size each zero t i h = absurd (omega arith)
  row_at x size each (suc n) t i h =
      let whole : rows row (table (suc n) x) ++ t ≡ rows row (table n x) ++ (row (x n) ++ t) =
      ap (λ (l : List ℕ). l ++ t) (rows_more n x) ∙ append_assoc (rows row (table n x)) (row (x n)) t in
      let size_is : length (rows row (table n x)) ≡ n * size = rows-length size each (table n x) ∙ ap (λ (k : ℕ). k * size) (length-table n x) in
      either (below_suc h)
      (λ l.
      let ih = row_at x size each n (row (x n) ++ t) i l in
      (ih.0, ap (drop (i * size)) whole ∙ ih.1))
      (λ q. (
        t,
        ap₂ (λ (k : ℕ) (l : List ℕ). drop (k * size) l) q whole ∙ drop_at (rows row (table n x)) (row (x n) ++ t) (n * size) size_is
            ∙ ap (λ (k : ℕ). row (x k) ++ t) (sym q),
      ))

pub peer-length : (address : ℕ) → length (peer_row address) ≡ 4
unfolding peer_row
peer-length address = be-length 4 address

pub binding_length : (b : Binding) → length (binding_row b) ≡ 12
unfolding binding_row
binding_length b =
    simp length-append (omega (arith, be-length 1 b.peer, be-length 1 b.kind, be-length 8 b.id, be-length 2 b.tenant))

-- ---- a field and what stands behind it

-- read, then written
pub field_back : (s : List ℕ) → Bytes s → (at n : ℕ) → at + n ≤ length s → be n (field s at n) ++ drop (at + n) s ≡ drop at s
field_back s b at n h = ap (λ (x : ℕ). be n x ++ drop (at + n) s) (field_in s at n h) ∙ sym (be-field s b at n h)

-- written, then read
field_front : (s t : List ℕ) (at n x : ℕ) → x < 256 ^ n → at ≤ length s → drop at s ≡ be n x ++ t → field s at n ≡ x
field_front s t at n x h room e =
    let size : length (drop at s) ≡ n + length t = ap (λ (l : List ℕ). length l) e ∙ length-append (be n x) t ∙ ap (λ (k : ℕ). k + length t) (be-length n x) in
    let left : length (drop at s) ≡ length s - at = length-drop at s in
    field_in s at n (omega arith)
    ∙ ap (λ (k : ℕ). be_at s k n) {x = at} {y = at + 0} (omega arith)
    ∙ sym (be-drop s at 0 n)
    ∙ ap (λ (l : List ℕ). be_at l 0 n) e
    ∙ be_front (be n x) t 0 n (omega (arith, be-length n x))
    ∙ be_value n x h

behind : (s t : List ℕ) (at n x : ℕ) → drop at s ≡ be n x ++ t → drop (at + n) s ≡ t
behind s t at n x e = sym (drop-drop n at s) ∙ ap (drop n) e ∙ drop_at (be n x) t n (be-length n x)

-- ---- read, then written

-- what is read from bytes, as contents
unfoldable pub binding_read : (s : List ℕ) (at : ℕ) → Binding
binding_read s at = record { peer = field s at 1; kind = field s (at + 1) 1; id = field s (at + 2) 8; tenant = field s (at + 10) 2 }

unfoldable pub contents_read : Version → List ℕ → Contents
contents_read v s = record {
  own = field s 5 4;
  port = field s 9 2;
  mtu = field s 11 2;
  peers = table (peers_in v s) (λ i. field s (14 + i * 4) 4);
  bindings = table (bindings_in v s) (λ i. binding_read s (bindings_at v s + i * 12));
}

-- what a good frame says
pub record Framed (v : Version) (s : List ℕ) : Type 0 where
  pub letters_are : field s 0 3 ≡ letters
  pub version_is : field s 3 2 ≡ v.number
  pub ends : length s ≡ bindings_at v s + bindings_in v s * 12

pub framed_is : (v : Version) (s : List ℕ) → framed v s ≡ true → Framed v s
unfolding framed
framed_is v s h =
    let l : Bool = eqb (field s 0 3) letters in
    let n : Bool = eqb (field s 3 2) v.number in
    let e : Bool = eqb (length s) (bindings_at v s + bindings_in v s * 12) in
    let rest : (n && e) ≡ true = and_r l (n && e) h in
    record {
      letters_are = eqb-true (field s 0 3) letters (and_l l (n && e) h);
      version_is = eqb-true (field s 3 2) v.number (and_l n e rest);
      ends = eqb-true (length s) (bindings_at v s + bindings_in v s * 12) (and_r n e rest);
    }

pub is_framed : (v : Version) (s : List ℕ) → Framed v s → framed v s ≡ true
unfolding framed
is_framed v s f =
    rw (
      eq-eqb (field s 0 3) letters f.letters_are,
      eq-eqb (field s 3 2) v.number f.version_is,
      eq-eqb (length s) (bindings_at v s + bindings_in v s * 12) f.ends,
    ) refl

module _ (s : List ℕ) (b : Bytes s) where
  peer_back : (at : ℕ) → at + 4 ≤ length s → drop at s ≡ peer_row (field s at 4) ++ drop (at + 4) s
  unfolding peer_row
  peer_back at h = sym (field_back s b at 4 h)

  binding_back : (at : ℕ) → at + 12 ≤ length s → drop at s ≡ binding_row (binding_read s at) ++ drop (at + 12) s
  unfolding binding_row binding_read
  binding_back at h =
      let e1 : at + 1 + 1 ≡ at + 2 = omega arith in
      let e2 : at + 2 + 8 ≡ at + 10 = omega arith in
      let e3 : at + 10 + 2 ≡ at + 12 = omega arith in
      let f1 = field_back s b at 1 (omega arith) in
      let f2 = field_back s b (at + 1) 1 (omega arith) in
      let f3 = field_back s b (at + 2) 8 (omega arith) in
      let f4 = field_back s b (at + 10) 2 (omega arith) in
      let g2 : be 1 (field s (at + 1) 1) ++ drop (at + 2) s ≡ drop (at + 1) s = ap (λ (k : ℕ). be 1 (field s (at + 1) 1) ++ drop k s) (sym e1) ∙ f2 in
      let g3 : be 8 (field s (at + 2) 8) ++ drop (at + 10) s ≡ drop (at + 2) s = ap (λ (k : ℕ). be 8 (field s (at + 2) 8) ++ drop k s) (sym e2) ∙ f3 in
      let g4 : be 2 (field s (at + 10) 2) ++ drop (at + 12) s ≡ drop (at + 10) s = ap (λ (k : ℕ). be 2 (field s (at + 10) 2) ++ drop k s) (sym e3) ∙ f4 in
      sym (simp append_assoc (rw (g4, g3, g2) f1))

-- THE THEOREM: loaded, then saved, the bytes are the same
module _ (v : Version) (s : List ℕ) (b : Bytes s) (f : Framed v s) where
  abbrev p : ℕ
  p = peers_in v s

  abbrev n : ℕ
  n = bindings_in v s

  abbrev at : ℕ
  at = bindings_at v s

  place : at ≡ 14 + p * 4 + v.count_bytes
  unfolding bindings_at count_at
  place = refl

  bindings_are : rows binding_row (table n (λ i. binding_read s (at + i * 12))) ≡ drop at s
  bindings_are =
      let end : length s ≡ at + n * 12 = f.ends in
      let none_left : drop (at + n * 12) s ≡ [] = ap (λ (k : ℕ). drop k s) (sym end) ∙ drop-length s in
      let r : List ℕ = rows binding_row (table n (λ i. binding_read s (at + i * 12))) in
      sym (append-nil r) ∙ ap (λ (l : List ℕ). r ++ l) (sym none_left)
      ∙ rows-read binding_row (λ i. binding_read s (at + i * 12)) s at 12 n (λ i l. binding_back s b (at + i * 12) (omega arith))

  count_is : be v.count_bytes (length (table n (λ i. binding_read s (at + i * 12)))) ++ drop at s ≡ drop (14 + p * 4) s
  unfolding bindings_in bindings_at count_at
  count_is =
      let end : length s ≡ at + n * 12 = f.ends in
      ap (λ (k : ℕ). be v.count_bytes k ++ drop at s) (length-table n (λ i. binding_read s (at + i * 12)))
      ∙ field_back s b (14 + p * 4) v.count_bytes (omega arith)

  peers_are : rows peer_row (table p (λ i. field s (14 + i * 4) 4)) ++ drop (14 + p * 4) s ≡ drop 14 s
  peers_are =
      let end : length s ≡ at + n * 12 = f.ends in
      let start : at ≡ 14 + p * 4 + v.count_bytes = place in
      rows-read peer_row (λ i. field s (14 + i * 4) 4) s 14 4 p (λ i l. peer_back s b (14 + i * 4) (omega arith))

  peer_count_is : be 1 (length (table p (λ i. field s (14 + i * 4) 4))) ++ drop 14 s ≡ drop 13 s
  unfolding peers_in
  peer_count_is =
      let end : length s ≡ at + n * 12 = f.ends in
      let start : at ≡ 14 + p * 4 + v.count_bytes = place in
      ap (λ (k : ℕ). be 1 k ++ drop 14 s) (length-table p (λ i. field s (14 + i * 4) 4)) ∙ field_back s b 13 1 (omega arith)

  pub bytes_back : image v (contents_read v s) ≡ s
  unfolding image contents_read
  bytes_back =
      let end : length s ≡ at + n * 12 = f.ends in
      let start : at ≡ 14 + p * 4 + v.count_bytes = place in
      let mtu = field_back s b 11 2 (omega arith) in
      let port = field_back s b 9 2 (omega arith) in
      let own = field_back s b 5 4 (omega arith) in
      let number : be 2 v.number ++ drop 5 s ≡ drop 3 s = ap (λ (k : ℕ). be 2 k ++ drop 5 s) (sym f.version_is) ∙ field_back s b 3 2 (omega arith) in
      let name : be 3 letters ++ drop 3 s ≡ s = ap (λ (k : ℕ). be 3 k ++ drop 3 s) (sym f.letters_are) ∙ field_back s b 0 3 (omega arith) in
      rw (bindings_are, count_is, peers_are, peer_count_is, mtu, port, own, number) name

-- ---- written, then read

letters_fit : letters < 256 ^ 3
unfolding letters
letters_fit = omega arith

-- each number has room in its field
pub record Fits (v : Version) (own port mtu peers bindings : ℕ) (address : ℕ → ℕ) (binding : ℕ → Binding) : Type 0 where
  pub number : v.number < 256 ^ 2
  pub own_fits : own < 256 ^ 4
  pub port_fits : port < 256 ^ 2
  pub mtu_fits : mtu < 256 ^ 2
  pub peers_fit : peers < 256 ^ 1
  pub bindings_fit : bindings < 256 ^ v.count_bytes
  pub address_fits : (i : ℕ) → i < peers → address i < 256 ^ 4
  pub peer_fits : (i : ℕ) → i < bindings → (binding i).peer < 256 ^ 1
  pub kind_fits : (i : ℕ) → i < bindings → (binding i).kind < 256 ^ 1
  pub id_fits : (i : ℕ) → i < bindings → (binding i).id < 256 ^ 8
  pub tenant_fits : (i : ℕ) → i < bindings → (binding i).tenant < 256 ^ 2

module _ (v : Version) (own port mtu peers bindings : ℕ) (address : ℕ → ℕ) (binding : ℕ → Binding)
    (f : Fits v own port mtu peers bindings address binding) where
  abbrev pub written : List ℕ
  written = image v (record { own = own; port = port; mtu = mtu; peers = table peers address; bindings = table bindings binding })

  -- the bytes from the bindings on, from their count on, from the peers on, and so forth
  abbrev sb : List ℕ
  sb = rows binding_row (table bindings binding)

  abbrev sc : List ℕ
  sc = be v.count_bytes (length (table bindings binding)) ++ sb

  abbrev s14 : List ℕ
  s14 = rows peer_row (table peers address) ++ sc

  abbrev s13 : List ℕ
  s13 = be 1 (length (table peers address)) ++ s14

  abbrev s11 : List ℕ
  s11 = be 2 mtu ++ s13

  abbrev s9 : List ℕ
  s9 = be 2 port ++ s11

  abbrev s5 : List ℕ
  s5 = be 4 own ++ s9

  abbrev s3 : List ℕ
  s3 = be 2 v.number ++ s5

  whole : drop 0 written ≡ be 3 letters ++ s3
  unfolding image
  whole = refl

  np : length (table peers address) ≡ peers
  np = length-table peers address

  nb : length (table bindings binding) ≡ bindings
  nb = length-table bindings binding

  size-b : length sb ≡ bindings * 12
  size-b = rows-length binding_row 12 binding_length (table bindings binding) ∙ ap (λ (k : ℕ). k * 12) nb

  size-p : length (rows peer_row (table peers address)) ≡ peers * 4
  size-p = rows-length peer_row 4 peer-length (table peers address) ∙ ap (λ (k : ℕ). k * 4) np

  written-length : length written ≡ 14 + peers * 4 + v.count_bytes + bindings * 12
  written-length =
      let c : length sc ≡ v.count_bytes + bindings * 12 =
      length-append (be v.count_bytes (length (table bindings binding))) sb
      ∙ omega (arith, be-length v.count_bytes (length (table bindings binding)), size-b) in
      let l14 : length s14 ≡ peers * 4 + length sc = length-append (rows peer_row (table peers address)) sc ∙ omega (arith, size-p) in
      let l13 : length s13 ≡ 1 + length s14 =
      length-append (be 1 (length (table peers address))) s14 ∙ omega (arith, be-length 1 (length (table peers address))) in
      let l11 : length s11 ≡ 2 + length s13 = length-append (be 2 mtu) s13 ∙ omega (arith, be-length 2 mtu) in
      let l9 : length s9 ≡ 2 + length s11 = length-append (be 2 port) s11 ∙ omega (arith, be-length 2 port) in
      let l5 : length s5 ≡ 4 + length s9 = length-append (be 4 own) s9 ∙ omega (arith, be-length 4 own) in
      let l3 : length s3 ≡ 2 + length s5 = length-append (be 2 v.number) s5 ∙ omega (arith, be-length 2 v.number) in
      let l0 : length written ≡ 3 + length s3 = ap (λ (l : List ℕ). length l) whole ∙ length-append (be 3 letters) s3 ∙ omega (arith, be-length 3 letters) in
      omega arith

  d3 : drop 3 written ≡ s3
  d3 = behind written s3 0 3 letters whole

  d5 : drop 5 written ≡ s5
  d5 = behind written s5 3 2 v.number d3

  d9 : drop 9 written ≡ s9
  d9 = behind written s9 5 4 own d5

  d11 : drop 11 written ≡ s11
  d11 = behind written s11 9 2 port d9

  d13 : drop 13 written ≡ s13
  d13 = behind written s13 11 2 mtu d11

  d14 : drop 14 written ≡ s14
  d14 = behind written s14 13 1 (length (table peers address)) d13

  dc : drop (14 + peers * 4) written ≡ sc
  dc =
      sym (drop-drop (peers * 4) 14 written) ∙ ap (drop (peers * 4)) d14
      ∙ drop_at (rows peer_row (table peers address)) sc (peers * 4) size-p

  db : drop (14 + peers * 4 + v.count_bytes) written ≡ sb
  db = behind written sb (14 + peers * 4) v.count_bytes (length (table bindings binding)) dc

  pub own_read : field written 5 4 ≡ own
  own_read = field_front written s9 5 4 own f.own_fits (omega (arith, written-length)) d5

  pub port_read : field written 9 2 ≡ port
  port_read = field_front written s11 9 2 port f.port_fits (omega (arith, written-length)) d9

  pub mtu_read : field written 11 2 ≡ mtu
  mtu_read = field_front written s13 11 2 mtu f.mtu_fits (omega (arith, written-length)) d11

  pub peers-read : peers_in v written ≡ peers
  unfolding peers_in
  peers-read =
      let fit : length (table peers address) < 256 ^ 1 = rw np f.peers_fit in
      field_front written s14 13 1 (length (table peers address)) fit (omega (arith, written-length)) d13 ∙ np

  pub bindings-read : bindings_in v written ≡ bindings
  unfolding bindings_in count_at
  bindings-read =
      let fit : length (table bindings binding) < 256 ^ v.count_bytes = rw nb f.bindings_fit in
      ap (λ (k : ℕ). field written (14 + k * 4) v.count_bytes) peers-read
      ∙ field_front written sb (14 + peers * 4) v.count_bytes (length (table bindings binding)) fit (omega (arith, written-length)) dc ∙ nb

  pub place_read : bindings_at v written ≡ 14 + peers * 4 + v.count_bytes
  unfolding bindings_at count_at
  place_read = ap (λ (k : ℕ). 14 + k * 4 + v.count_bytes) peers-read

  pub written-framed : Framed v written
  written-framed = record {
    letters_are = field_front written s3 0 3 letters letters_fit (omega arith) whole;
    version_is = field_front written s5 3 2 v.number f.number (omega (arith, written-length)) d3;
    ends = written-length ∙ ap₂ (λ (x y : ℕ). x + y * 12) (sym place_read) (sym bindings-read);
  }

  pub address_read : (i : ℕ) → i < peers → field written (14 + i * 4) 4 ≡ address i
  unfolding peer_row
  address_read i l =
      let at = row_at peer_row address 4 peer-length peers sc i l in
      field_front written at.0 (14 + i * 4) 4 (address i) (f.address_fits i l) (omega (arith, written-length))
      (sym (drop-drop (i * 4) 14 written) ∙ ap (drop (i * 4)) d14 ∙ at.1)

  -- a binding, field by field
  module _ (i : ℕ) (l : i < bindings) where
    abbrev here : ℕ
    here = 14 + peers * 4 + v.count_bytes + i * 12

    abbrev b : Binding
    b = binding i

    row : (r : List ℕ) × (drop here written ≡ binding_row b ++ r)
    row =
        let at = row_at binding_row binding 12 binding_length bindings [] i l in
        (at.0, sym (drop-drop (i * 12) (14 + peers * 4 + v.count_bytes) written) ∙ ap (drop (i * 12)) (db ∙ sym (append-nil sb)) ∙ at.1)

    r0 : drop here written ≡ be 1 b.peer ++ (be 1 b.kind ++ (be 8 b.id ++ (be 2 b.tenant ++ row.0)))
    unfolding binding_row
    r0 = row.1 ∙ simp append_assoc

    r1 : drop (here + 1) written ≡ be 1 b.kind ++ (be 8 b.id ++ (be 2 b.tenant ++ row.0))
    r1 = behind written (be 1 b.kind ++ (be 8 b.id ++ (be 2 b.tenant ++ row.0))) here 1 b.peer r0

    r2 : drop (here + 2) written ≡ be 8 b.id ++ (be 2 b.tenant ++ row.0)
    r2 =
        let e : here + 1 + 1 ≡ here + 2 = omega arith in
        ap (λ (k : ℕ). drop k written) (sym e) ∙ behind written (be 8 b.id ++ (be 2 b.tenant ++ row.0)) (here + 1) 1 b.kind r1

    r10 : drop (here + 10) written ≡ be 2 b.tenant ++ row.0
    r10 =
        let e : here + 2 + 8 ≡ here + 10 = omega arith in
        ap (λ (k : ℕ). drop k written) (sym e) ∙ behind written (be 2 b.tenant ++ row.0) (here + 2) 8 b.id r2

    pub binding_at_lem : binding_read written here ≡ b
    unfolding binding_read
    binding_at_lem =
        let room : here + 12 ≤ length written = omega (arith, written-length) in
        let peer : field written here 1 ≡ b.peer = field_front written _ here 1 b.peer (f.peer_fits i l) (omega arith) r0 in
        let kind : field written (here + 1) 1 ≡ b.kind = field_front written _ (here + 1) 1 b.kind (f.kind_fits i l) (omega arith) r1 in
        let id : field written (here + 2) 8 ≡ b.id = field_front written _ (here + 2) 8 b.id (f.id_fits i l) (omega arith) r2 in
        let tenant : field written (here + 10) 2 ≡ b.tenant = field_front written _ (here + 10) 2 b.tenant (f.tenant_fits i l) (omega arith) r10 in
        rw (peer, kind, id, tenant) refl
