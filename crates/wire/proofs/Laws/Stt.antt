-- The reader of STT frames is sound and complete for the format, and blind to what document 01 ignores.
use Rattle.std.specs.Prelude.{◌≡◌, ℕ, ◌+◌, ◌%◌, ◌^◌, ◌<◌, ◌≤◌, true, false, ◌&&◌, ◌≢◌, List, [], ◌∷◌, length, drop, ◌==◌, refl, Ok, Err}
use Rattle.std.proofs.Common.{sym, ap, ◌∙◌, true≢false, arith, le-ltb, eq-eqb, ne_eqb}
use Rattle.wire.specs.Bytes.{Bytes, be, be_at, ◌then◌}
use Rattle.wire.proofs.Laws.Bytes.{case_b, as_fields, be_value, be-lt}
use Rattle.wire.proofs.Laws.Checks.{pass, through, tests, is_not}
use Rattle.wire.specs.Inner.{CarriesTransport, carries_transport}
use Rattle.wire.proofs.Laws.Inner.{test_is, test_says}
use Rattle.wire.specs.Stt.{stt, IsStt, contradicts, stt_checks, stt_of, ReadsStt}

record ReadsBack (flags context : ℕ) (frame s : List ℕ) : Type 0 where
  version_is : be_at s 0 1 ≡ 0
  flags_is : be_at s 1 1 ≡ flags
  context_is : be_at s 8 8 ≡ context
  frame_is : drop 18 s ≡ frame
  long : length s ≡ 18 + length frame

reads_back : (flags l4 reserved mss tag context padding : ℕ) (frame : List ℕ) → flags < 256 → context < 256 ^ 8
    → ReadsBack flags context frame (stt 0 flags l4 reserved mss tag context padding frame)
unfolding stt be be_at
reads_back flags l4 reserved mss tag context padding frame h1 h2 = record {
  version_is = refl;
  flags_is = be_value 1 flags h1;
  context_is = be_value 8 context h2;
  frame_is = refl;
  long = omega arith;
}

-- ---- flags 0x01 and 0x02: both set, of an inner frame that carries TCP or UDP over IP

-- they are not, where they need not agree or do
agrees : (s : List ℕ) → (CarriesTransport (drop 18 s) → be_at s 1 1 % 4 ≢ 3) → contradicts s ≡ false
unfolding contradicts
agrees s h =
    case_b (carries_transport (drop 18 s))
    (λ t. rw (ne_eqb (be_at s 1 1 % 4) 3 (h (test_says (drop 18 s) t))))
    (λ t. case_b (be_at s 1 1 % 4 == 3) (λ e. rw (e, t)) (λ e. rw e))

agreed : (s : List ℕ) → contradicts s ≡ false → CarriesTransport (drop 18 s) → be_at s 1 1 % 4 ≢ 3
unfolding contradicts
agreed s e w q =
    let t : (be_at s 1 1 % 4 == 3 && carries_transport (drop 18 s)) ≡ true = rw (eq-eqb (be_at s 1 1 % 4) 3 q, test_is (drop 18 s) w) in
    true≢false (sym t ∙ e)

pub complete : {context : ℕ} {frame s : List ℕ} → IsStt context frame s → (stt_of s ≡ Ok context) × (drop 18 s ≡ frame) × (length s ≡ 18 + length frame)
unfolding stt_of stt_checks
complete {context} {frame} {s} w =
    let r : ReadsBack w.flags context frame s =
    rw w.is (reads_back w.flags w.l4 w.reserved w.mss w.tag context w.padding frame w.flags_fit w.context_fits) in
    let n : contradicts s ≡ false = agrees s (λ t. rw r.flags_is (w.not_both (rw r.frame_is at t))) in (
      pass Err (stt_checks s) _ (le-ltb (length s) 18 (omega (arith, r.long)), (is_not (be_at s 0 1) 0 r.version_is, (n, tt))) ∙ rw r.context_is,
      r.frame_is,
      r.long,
    )

-- the bytes are a frame of version 0
as_stt : (s : List ℕ) → Bytes s → 18 ≤ length s → be_at s 0 1 ≡ 0
    → s ≡ stt 0 (be_at s 1 1) (be_at s 2 1) (be_at s 3 1) (be_at s 4 2) (be_at s 6 2) (be_at s 8 8) (be_at s 16 2) (drop 18 s)
unfolding stt
as_stt s b h v = as_fields s b (1 ∷ 1 ∷ 1 ∷ 1 ∷ 2 ∷ 2 ∷ 8 ∷ 2 ∷ []) 0 h
    ∙ ap (λ (x : ℕ). be 1 x then be 1 (be_at s 1 1) then be 1 (be_at s 2 1) then be 1 (be_at s 3 1) then be 2 (be_at s 4 2) then be 2 (be_at s 6 2) then be 8
    (be_at s 8 8) then be 2 (be_at s 16 2) then drop 18 s) v

pub record Accepted (s : List ℕ) (context : ℕ) : Type 0 where
  pub is : IsStt context (drop 18 s) s
  pub within : 18 ≤ length s

pub sound : (s : List ℕ) → Bytes s → (context : ℕ) → stt_of s ≡ Ok context → Accepted s context
unfolding stt_of stt_checks stt
sound s b context eq =
    let p = through (stt_checks s) (Ok (be_at s 8 8)) context eq in
    let e : be_at s 8 8 ≡ context = cc p.1 in
    let h : 18 ≤ length s = omega (arith, tests) in
    let v : be_at s 0 1 ≡ 0 = omega (arith, tests) in
    record {
      is = record {
        flags = be_at s 1 1;
        l4 = be_at s 2 1;
        reserved = be_at s 3 1;
        mss = be_at s 4 2;
        tag = be_at s 6 2;
        padding = be_at s 16 2;
        is = rw e at (as_stt s b h v);
        flags_fit = omega (arith, be-lt s b 1 1);
        not_both = agreed s p.0.1.1.0;
        context_fits = rw (← e) (be-lt s b 8 8);
      };
      within = h;
    }

-- ---- what is ignored: the answer depends on the length, the version and the Context ID alone, and where the inner frame carries TCP or UDP over IP on flags
-- 0x01 and 0x02; not on the other flags, the hints, the tag or the padding

ignores : (s t : List ℕ) → length s ≡ length t → be_at s 0 1 ≡ be_at t 0 1 → be_at s 8 8 ≡ be_at t 8 8 → contradicts s ≡ contradicts t → stt_of s ≡ stt_of t
unfolding stt_of stt_checks
ignores s t l v c f = rw (l, v, f, c)

-- what is read as a header is one, for any list
pub stt_room : (s : List ℕ) (context : ℕ) → stt_of s ≡ Ok context → 18 ≤ length s
unfolding stt_of stt_checks
stt_room s context eq =
    let p = through (stt_checks s) (Ok (be_at s 8 8)) context eq in
    omega (arith, tests)

pub reads-stt : ReadsStt
reads-stt = record {
  complete = λ context frame s w. let c = complete w in (c.0, c.1);
  sound = λ s b context e. let a = sound s b context e in (a.is, a.within);
  ignores = ignores;
  agrees = agrees;
}
