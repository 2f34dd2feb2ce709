-- Bytes taken behind those held: laws for the proofs of the code.
use Rattle.std.specs.Prelude.{◌≡◌, Bool, true, false, List, ◌++◌, Option, Some, None, Result, Ok, Err, ℕ, ◌+◌, ◌-◌, ◌≤◌, ◌<◌, min, length, get_or, take, drop}
use Rattle.std.proofs.Common.{sym, ap, ◌∙◌, append_assoc, arith, length-append, length-take, length-drop, take-append-drop, drop-drop, take_at, length-take-le}
use borrow.Author.Tests.{eq-eqb, ne_eqb}
use Rattle.std.proofs.Math.Seq.{take-add, take-length}
use Rattle.wire.specs.Bytes.{be_at}
use Rattle.wire.specs.Field.{field}
use Rattle.wire.proofs.Laws.Bytes.{be_one, be-take, be_front}
use Rattle.wire.proofs.Laws.Field.{field_in}
use Rattle.trace.specs.Reader.{bytes_of, Fed, bad, headed, header_at, header_end, packet_length, packet_most, record_most, record_at, record_end}
use Rattle.trace.proofs.Laws.Reader.{stands-nothing, stands-tick, stands-other, stands-short, stands-large, stands-cut, stands-packet}
use Rattle.trace.proofs.Laws.Reader.{header-short, header-stands, header-other}
use Rattle.trace.specs.declared.reader.Broken.{Broken}
use Rattle.trace.specs.declared.reader.Complete.{Complete}
use Rattle.trace.specs.declared.reader.Complete.TheVariants as C
use Rattle.trace.specs.declared.reader.Reader.{Reader}

-- ---- bytes laid behind those held

pub fill-fits : (m p : List ℕ) (at r : ℕ) → r ≤ length m - at → length (take r p) ≤ length (take (length m - at) (drop at m))
fill-fits m p at r h = simp (length-take, length-drop) (omega arith)

-- the first bytes of a piece lie over the front of the part from a place to the end, which was lent
pub filled : (m p : List ℕ) (at r : ℕ) (ys : List ℕ) → at + r ≤ length m → r ≤ length p
    → ys ≡ take (length (take r p)) (take r p) ++ drop (length (take r p)) (take (length m - at) (drop at m))
    → take (at + r) (take at m ++ (ys ++ drop (length m - at) (drop at m))) ≡ take at m ++ take r p
filled m p at r ys fits some e =
    let s : List ℕ = take r p in
    let x : List ℕ = drop (length s) (take (length m - at) (drop at m)) in
    let y : List ℕ = drop (length m - at) (drop at m) in
    let n : length (take at m ++ s) ≡ at + r =
    length-append (take at m) s ∙ omega (arith, length-take-le at m (omega arith), length-take-le r p some) in
    let f : ys ≡ s ++ x = e ∙ ap (λ (l : List ℕ). l ++ x) (take-length s) in
    ap (λ (l : List ℕ). take (at + r) (take at m ++ (l ++ y))) f
    ∙ ap (take (at + r)) (ap (λ (l : List ℕ). take at m ++ l) (append_assoc s x y) ∙ sym (append_assoc (take at m) s (x ++ y)))
    ∙ take_at (take at m ++ s) (x ++ y) (at + r) n

-- ---- what `fill` says of all the bytes: those held first, and the piece

-- until `want` are held, or the piece is used up
abbrev pub Filled : (want : ℕ) (r : Reader) (piece : List ℕ) (r' : Reader) (piece' : List ℕ) → Type 0
Filled want r piece r' piece' = Fed (min want (r.count + length piece)) r piece r' piece'

-- to another end that takes as many
fed_to : {end end' : ℕ} {r : Reader} {piece : List ℕ} {r' : Reader} {piece' : List ℕ} → Fed end r piece r' piece' → end - r.count ≡ end' - r.count
    → Fed end' r piece r' piece'
fed_to x e = record { count = rw (← e) x.count; held = rw (← e) x.held; rest = rw (← e) x.rest }

-- filled again, and further
again : {want : ℕ} {r : Reader} {piece : List ℕ} {r₁ : Reader} {piece₁ : List ℕ} → Filled want r piece r₁ piece₁
    → {want₂ : ℕ} {r₂ : Reader} {piece₂ : List ℕ} → want ≤ want₂ → Filled want₂ r₁ piece₁ r₂ piece₂ → Filled want₂ r piece r₂ piece₂
again {want} {r} {piece} {r₁} {piece₁} x {want₂} w y =
    let n : ℕ = min want (r.count + length piece) - r.count in
    let n₂ : ℕ = min want₂ (r₁.count + length piece₁) - r₁.count in
    let left : length piece₁ ≡ length piece - n = ap length x.rest ∙ length-drop n piece in
    let sum : min want₂ (r.count + length piece) - r.count ≡ n + n₂ = omega (arith, x.count) in
    record {
      count = omega (arith, x.count, y.count);
      held =
          y.held ∙ ap (λ (l : List ℕ). l ++ take n₂ piece₁) x.held ∙ ap (λ (l : List ℕ). (bytes_of r ++ take n piece) ++ take n₂ l) x.rest
          ∙ append_assoc (bytes_of r) (take n piece) (take n₂ (drop n piece))
          ∙ ap (λ (l : List ℕ). bytes_of r ++ l) (sym (take-add n n₂ piece) ∙ ap (λ (k : ℕ). take k piece) (sym sum));
      rest = y.rest ∙ ap (drop n₂) x.rest ∙ drop-drop n₂ n piece ∙ ap (λ (k : ℕ). drop k piece) (sym sum);
    }

module _ {want : ℕ} {r : Reader} {piece : List ℕ} {r' : Reader} {piece' : List ℕ} (x : Filled want r piece r' piece')
    (size : length r.held ≡ record_most) (room : want ≤ record_most) where
  abbrev all : List ℕ
  all = bytes_of r ++ piece

  all-length : length all ≡ min r.count record_most + length piece
  all-length = length-append (bytes_of r) piece ∙ omega (arith, length-take r.count r.held)

  -- too few
  few : r'.count < want → length all < want
  few h = omega (arith, x.count, all-length)

  few_end : r'.count < want → min want (r.count + length piece) - r.count ≡ length all - r.count
  few_end h = omega (arith, x.count, all-length)

  -- enough
  enough : want ≤ r'.count → want ≤ length all
  enough h = omega (arith, x.count, all-length)

  enough_end : want ≤ r'.count → min want (r.count + length piece) - r.count ≡ want - r.count
  enough_end h = omega (arith, x.count)

  -- then the bytes held are the first of all
  module _ (size' : length r'.held ≡ record_most) (h : want ≤ r'.count) (at k : ℕ) (w : at + k ≤ want) where
    held_at : be_at r'.held at k ≡ be_at all at k
    held_at =
        let n : ℕ = min want (r.count + length piece) - r.count in
        let p : List ℕ = bytes_of r ++ take n piece in
        let some : at + k ≤ length p =
        omega (arith, x.count, length-append (bytes_of r) (take n piece), length-take r.count r.held, length-take n piece) in
        let e : all ≡ p ++ drop n piece =
        ap (λ (l : List ℕ). bytes_of r ++ l) (sym (take-append-drop n piece)) ∙ sym (append_assoc (bytes_of r) (take n piece) (drop n piece)) in
        sym (be-take r'.held r'.count at k (omega arith)) ∙ ap (λ (l : List ℕ). be_at l at k) x.held
        ∙ sym (be_front p (drop n piece) at k some) ∙ ap (λ (l : List ℕ). be_at l at k) (sym e)

    held-field : field r'.held at k ≡ be_at all at k
    held-field = field_in r'.held at k (omega arith) ∙ held_at

  held_first : length r'.held ≡ record_most → want ≤ r'.count → 1 ≤ want → get_or r'.held 0 0 ≡ get_or all 0 0
  held_first size' h w = sym (be_one r'.held 0) ∙ held_at size' h 0 1 w ∙ be_one all 0

-- ---- each exit is what the contract says

-- the header
module _ {r : Reader} {piece : List ℕ} {r' : Reader} {piece' : List ℕ} (x : Filled 5 r piece r' piece')
    (size : length r.held ≡ record_most) where
  abbrev HeaderSays : Result Bool Broken → Type 0
  HeaderSays e = (e ≡ header_at (bytes_of r ++ piece)) × Fed (header_end (bytes_of r ++ piece)) r piece r' piece'

  pub header_exit_short : r'.count < 5 → HeaderSays (Ok false)
  header_exit_short h =
      let s = header-short (bytes_of r ++ piece) (few x size (omega arith) h) in
      (sym s.event, fed_to x (few_end x size (omega arith) h ∙ ap (λ (n : ℕ). n - r.count) (sym s.end)))

  module _ (size' : length r'.held ≡ record_most) (h : 5 ≤ r'.count) where
    letters : field r'.held 0 3 ≡ be_at (bytes_of r ++ piece) 0 3
    letters = held-field x size (omega arith) size' h 0 3 (omega arith)

    version : field r'.held 3 2 ≡ be_at (bytes_of r ++ piece) 3 2
    version = held-field x size (omega arith) size' h 3 2 (omega arith)

    not_headed : headed (bytes_of r ++ piece) ≡ false → HeaderSays (Err bad)
    not_headed f =
        let s = header-other (bytes_of r ++ piece) (enough x size (omega arith) h) f in
        (sym s.event, fed_to x (enough_end x size (omega arith) h ∙ ap (λ (n : ℕ). n - r.count) (sym s.end)))

    pub header_exit_letters : (field r'.held 0 3 ≡ 0x545250 → ⊥) → HeaderSays (Err bad)
    unfolding headed
    header_exit_letters f = not_headed (rw (ne_eqb (be_at (bytes_of r ++ piece) 0 3) 0x545250 (λ e. f (letters ∙ e))))

    module _ (g : field r'.held 0 3 ≡ 0x545250) where
      pub header_exit_version : (field r'.held 3 2 ≡ 1 → ⊥) → HeaderSays (Err bad)
      unfolding headed
      header_exit_version f =
          not_headed
          (rw (
            eq-eqb (be_at (bytes_of r ++ piece) 0 3) 0x545250 (sym letters ∙ g),
            ne_eqb (be_at (bytes_of r ++ piece) 3 2) 1 (λ e. f (version ∙ e)),
          ))

      pub header_exit : field r'.held 3 2 ≡ 1 → HeaderSays (Ok true)
      unfolding headed
      header_exit f =
          let y : headed (bytes_of r ++ piece) ≡ true =
          rw (eq-eqb (be_at (bytes_of r ++ piece) 0 3) 0x545250 (sym letters ∙ g), eq-eqb (be_at (bytes_of r ++ piece) 3 2) 1 (sym version ∙ f)) in
          let s = header-stands (bytes_of r ++ piece) (enough x size (omega arith) h) y in
          (sym s.event, fed_to x (enough_end x size (omega arith) h ∙ ap (λ (n : ℕ). n - r.count) (sym s.end)))

-- a record
module _ {r : Reader} {piece : List ℕ} {r₁ : Reader} {piece₁ : List ℕ} (x : Filled 1 r piece r₁ piece₁)
    (size : length r.held ≡ record_most) where
  abbrev Says : Result (Option Complete) Broken → (r' : Reader) (piece' : List ℕ) → Type 0
  Says e r' piece' = (e ≡ record_at (bytes_of r ++ piece)) × Fed (record_end (bytes_of r ++ piece)) r piece r' piece'

  pub exit_nothing : r₁.count < 1 → Says (Ok None) r₁ piece₁
  exit_nothing h =
      let s = stands-nothing (bytes_of r ++ piece) (few x size (omega arith) h) in
      (sym s.event, fed_to x (omega (arith, x.count, s.end)))

  module _ (size₁ : length r₁.held ≡ record_most) (h : 1 ≤ r₁.count) where
    some : 1 ≤ length (bytes_of r ++ piece)
    some = enough x size (omega arith) h

    tag : get_or r₁.held 0 0 ≡ get_or (bytes_of r ++ piece) 0 0
    tag = held_first x size (omega arith) size₁ h (omega arith)

    pub exit_tick : get_or r₁.held 0 0 ≡ 1 → Says (Ok (Some C.Tick)) r₁ piece₁
    exit_tick f =
        let s = stands-tick (bytes_of r ++ piece) some (sym tag ∙ f) in
        (sym s.event, fed_to x (enough_end x size (omega arith) h ∙ ap (λ (n : ℕ). n - r.count) (sym s.end)))

    pub exit_other : (get_or r₁.held 0 0 ≡ 1 → ⊥) → (get_or r₁.held 0 0 ≡ 2 → ⊥) → Says (Err bad) r₁ piece₁
    exit_other f g =
        let s = stands-other (bytes_of r ++ piece) some (λ e. f (tag ∙ e)) (λ e. g (tag ∙ e)) in
        (sym s.event, fed_to x (enough_end x size (omega arith) h ∙ ap (λ (n : ℕ). n - r.count) (sym s.end)))

    module _ (g : get_or r₁.held 0 0 ≡ 2) {r₂ : Reader} {piece₂ : List ℕ} (y : Filled 3 r₁ piece₁ r₂ piece₂) where
      two : get_or (bytes_of r ++ piece) 0 0 ≡ 2
      two = sym tag ∙ g

      head : Filled 3 r piece r₂ piece₂
      head = again x (omega arith) y

      pub exit_short : r₂.count < 3 → Says (Ok None) r₂ piece₂
      exit_short k =
          let s = stands-short (bytes_of r ++ piece) some two (few head size (omega arith) k) in
          (sym s.event, fed_to head (few_end head size (omega arith) k ∙ ap (λ (n : ℕ). n - r.count) (sym s.end)))

      module _ (size₂ : length r₂.held ≡ record_most) (k : 3 ≤ r₂.count) (v : ℕ) (v-is : v ≡ field r₂.held 1 2) where
        headed_by : 3 ≤ length (bytes_of r ++ piece)
        headed_by = enough head size (omega arith) k

        size_is : v ≡ packet_length (bytes_of r ++ piece)
        unfolding packet_length
        size_is = v-is ∙ held-field head size (omega arith) size₂ k 1 2 (omega arith)

        pub exit_large : packet_most < v → Says (Err bad) r₂ piece₂
        exit_large l =
            let s = stands-large (bytes_of r ++ piece) headed_by two (omega (arith, size_is)) in
            (sym s.event, fed_to head (enough_end head size (omega arith) k ∙ ap (λ (n : ℕ). n - r.count) (sym s.end)))

        module _ (l : v ≤ packet_most) {r₃ : Reader} {piece₃ : List ℕ} (z : Filled (3 + v) r₂ piece₂ r₃ piece₃) where
          small : packet_length (bytes_of r ++ piece) ≤ packet_most
          small = omega (arith, size_is)

          whole : Filled (3 + packet_length (bytes_of r ++ piece)) r piece r₃ piece₃
          whole = rw (← size_is) (again head (omega arith) z)

          pub exit_cut : r₃.count < 3 + v → Says (Ok None) r₃ piece₃
          exit_cut o =
              let o' : r₃.count < 3 + packet_length (bytes_of r ++ piece) = omega (arith, size_is) in
              let s = stands-cut (bytes_of r ++ piece) headed_by two small (few whole size (omega (arith, small)) o') in
              (sym s.event, fed_to whole (few_end whole size (omega (arith, small)) o' ∙ ap (λ (n : ℕ). n - r.count) (sym s.end)))

          pub exit_packet : 3 + v ≤ r₃.count → Says (Ok (Some C.Packet)) r₃ piece₃
          exit_packet o =
              let o' : 3 + packet_length (bytes_of r ++ piece) ≤ r₃.count = omega (arith, size_is) in
              let s = stands-packet (bytes_of r ++ piece) headed_by two small (enough whole size (omega (arith, small)) o') in
              (sym s.event, fed_to whole (enough_end whole size (omega (arith, small)) o' ∙ ap (λ (n : ℕ). n - r.count) (sym s.end)))
