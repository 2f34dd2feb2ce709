-- A memory that no program has: each slot is the list of the pieces taken since its frame opened, latest first. It keeps the laws of `Laws`, and a run over
-- it is a function of the events alone.
use Rattle.std.specs.Prelude.{◌≡◌, refl, ◌≢◌, Bool, false, cond, ◌||◌, List, [], ◌∷◌, ℕ, ◌-◌, length, get_or, eqb}
use Rattle.std.proofs.Common.{ap, eq-eqb, ne_eqb}
use Rattle.reassembly.specs.Take.{Ops}
use Rattle.reassembly.proofs.Laws.Memory.{Laws}
use Rattle.reassembly.specs.Base.{within}

pub record Piece : Type 0 where
  pub offset : ℕ
  pub bytes : List ℕ

abbrev pub covers : Piece → ℕ → Bool
covers q i = within q.offset (length q.bytes) i

-- the piece's byte at place i of the frame
abbrev pub byte_of : Piece → ℕ → ℕ
byte_of q i = get_or q.bytes (i - q.offset) 0

-- Open: by recursion on the pieces, which the reference lists in the same order
abbrev pub received_in : List Piece → ℕ → Bool
received_in [] i = false
received_in (q ∷ qs) i = covers q i || received_in qs i

-- Open: likewise
abbrev pub byte_in : List Piece → ℕ → ℕ
byte_in [] i = 0
byte_in (q ∷ qs) i = cond (covers q i) (byte_of q i) (byte_in qs i)

abbrev pub upd : (ℕ → List Piece) → ℕ → List Piece → ℕ → List Piece
upd m k v j = cond (eqb j k) v (m j)

-- Open: a record of names; signatures compute with its types
abbrev pub ghost : Ops
ghost =
    record {
      S = ℕ → List Piece;
      Ok = λ m. Unit {0};
      received = λ m k i. received_in (m k) i;
      byte = λ m k i. byte_in (m k) i;
      clear = λ m k. upd m k [];
      put = λ m k a bs. upd m k (record { offset = a; bytes = bs } ∷ m k);
    }

pub upd_same : (m : ℕ → List Piece) (k : ℕ) (v : List Piece) → upd m k v k ≡ v
upd_same m k v = rw (eq-eqb k k refl)

pub upd_other : (m : ℕ → List Piece) (k : ℕ) (v : List Piece) (j : ℕ) → j ≢ k → upd m k v j ≡ m j
upd_other m k v j n = rw (ne_eqb j k n)

pub ghost_laws : Laws ghost
ghost_laws =
    record {
      ok_put = λ m k a bs o l f. tt;
      ok_clear = λ m k o l. tt;
      received_put = λ m k a bs o l f i h. ap (λ (x : List Piece). received_in x i) (upd_same m k (record { offset = a; bytes = bs } ∷ m k));
      byte_put = λ m k a bs o l f i h. ap (λ (x : List Piece). byte_in x i) (upd_same m k (record { offset = a; bytes = bs } ∷ m k));
      received_put_other = λ m k a bs o l f j i n h. ap (λ (x : List Piece). received_in x i) (upd_other m k (record { offset = a; bytes = bs } ∷ m k) j n);
      byte_put_other = λ m k a bs o l f j i n h. ap (λ (x : List Piece). byte_in x i) (upd_other m k (record { offset = a; bytes = bs } ∷ m k) j n);
      received_clear = λ m k o l i h. ap (λ (x : List Piece). received_in x i) (upd_same m k []);
      received_clear_other = λ m k o l j i n h. ap (λ (x : List Piece). received_in x i) (upd_other m k [] j n);
      byte_clear_other = λ m k o l j i n h. ap (λ (x : List Piece). byte_in x i) (upd_other m k [] j n);
    }
