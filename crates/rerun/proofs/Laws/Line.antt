-- Text put behind text.
use Rattle.std.specs.Prelude.{ℕ, ◌+◌, ◌≤◌, ◌≡◌, refl, List, [], ◌∷◌, ◌++◌, length, take}
use Rattle.std.proofs.Common.{sym, ap, ◌∙◌, append_assoc, length-append, take_at, length-take-le}
use Rattle.std.proofs.Math.Option.{none, some}
use Rattle.io.specs.Counts.{IsPrefixLen}
use Rattle.rerun.specs.Rerun.{decimal_in, decimal, space, newline, ticked, answered, tenant_text, said_text, line_text, bad_trace, bad_settings}
use Rattle.std.proofs.Math.Seq.{take-length}

-- s laid behind the first elements of m, of which so many are the text so far
pub put_text : (m : List ℕ) (at : ℕ) (s ys old rest : List ℕ) → at ≤ length m → ys ≡ take (length s) s ++ old
    → take (at + length s) (take at m ++ (ys ++ rest)) ≡ take at m ++ s
put_text m at s ys old rest h e =
    let front : take at m ++ (ys ++ rest) ≡ (take at m ++ s) ++ (old ++ rest) =
    ap (λ (l : List ℕ). take at m ++ (l ++ rest)) (e ∙ ap (λ (l : List ℕ). l ++ old) (take-length s))
    ∙ ap (λ (l : List ℕ). take at m ++ l) (append_assoc s old rest) ∙ sym (append_assoc (take at m) s (old ++ rest)) in
    let size : length (take at m ++ s) ≡ at + length s = length-append (take at m) s ∙ ap (λ (k : ℕ). k + length s) (length-take-le at m h) in
    ap (take (at + length s)) front ∙ take_at (take at m ++ s) (old ++ rest) (at + length s) size

-- ---- the parts of a line, one behind the other: `a` is the text before it

module _ (a : List ℕ) (n : ℕ) where
  pub tick_line : (z : List ℕ) → z ≡ a ++ (decimal n ++ (0x20 ∷ 0x74 ∷ 0x69 ∷ 0x63 ∷ 0x6B ∷ 0x0A ∷ [])) → z ≡ a ++ line_text n ticked
  unfolding line_text said_text space newline
  tick_line z e = e

  module _ (b : List ℕ) (begun : b ≡ a ++ (decimal n ++ (0x20 ∷ []))) where
    pub delivered_line : (c z : List ℕ) (t : ℕ) → c ≡ b ++ (0x30 ∷ 0x20 ∷ []) → z ≡ c ++ (decimal t ++ (0x0A ∷ [])) → z ≡ a ++ line_text n (answered 0 (some t))
    unfolding line_text said_text tenant_text space newline decimal decimal_in
    delivered_line c z t e f = f ∙ rw (e, begun) (simp append_assoc)

    pub pending_line : (z : List ℕ) → z ≡ b ++ (0x31 ∷ 0x20 ∷ 0x2D ∷ 0x0A ∷ []) → z ≡ a ++ line_text n (answered 1 none)
    unfolding line_text said_text tenant_text space newline decimal decimal_in
    pending_line z f = f ∙ rw begun (simp append_assoc)

    pub dropped_line : (z : List ℕ) (code : ℕ) → z ≡ b ++ (decimal code ++ (0x20 ∷ 0x2D ∷ 0x0A ∷ [])) → z ≡ a ++ line_text n (answered code none)
    unfolding line_text said_text tenant_text space newline
    dropped_line z code f = f ∙ rw begun (simp append_assoc)

pub bad-trace_text : (0x62 ∷ 0x61 ∷ 0x64 ∷ 0x20 ∷ 0x74 ∷ 0x72 ∷ 0x61 ∷ 0x63 ∷ 0x65 ∷ 0x0A ∷ []) ≡ bad_trace
unfolding bad_trace newline
bad-trace_text = refl

pub bad_settings_text : (0x62 ∷ 0x61 ∷ 0x64 ∷ 0x20 ∷ 0x73 ∷ 0x65 ∷ 0x74 ∷ 0x74 ∷ 0x69 ∷ 0x6E ∷ 0x67 ∷ 0x73 ∷ 0x0A ∷ []) ≡ bad_settings
unfolding bad_settings newline
bad_settings_text = refl

-- a number of elements, as a slice's range asks for it
pub counts : (n : ℕ) (l : List ℕ) → n ≤ length l → IsPrefixLen n l
counts n l h = (h, sym (length-take-le n l h))
