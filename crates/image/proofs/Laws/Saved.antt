-- A save keeps its rule (Images.antt, `SaveRule`).
use Rattle.std.specs.Prelude.{ℕ, ◌+◌, ◌*◌, ◌<◌, ◌≤◌, ◌≡◌, ◌≢◌, List, length, take, eqb, ltb, Result, Ok, Err}
use Rattle.std.proofs.Math.Path.{refl, sym, ap}
use Rattle.std.proofs.Common.{subst, ◌∙◌, arith}
use Rattle.std.proofs.Math.Seq.{take_at}
use borrow.Author.Tests.{eqb-true, eqb-false, ltb-true, ltb-false, eq-eqb, ne_eqb, lt-ltb, le-ltb}
use Rattle.wire.specs.Bytes.{wrote}
use Rattle.wire.specs.Table.{numbered}
use Rattle.wire.proofs.Laws.Bytes.{case_b, wrote-length}
use Rattle.wire.proofs.Laws.Checks.{choices}
use Rattle.wire.proofs.Laws.WriteIs.{wrote_is}
use Rattle.endpoint.specs.Config.{Config, config_of}
use Rattle.endpoint.specs.Table as T
use Rattle.endpoint.proofs.Laws.Demand1.{wrote_beyond}
use Rattle.endpoint.proofs.Laws.Config.{config_is}
use Rattle.endpoint.specs.declared.config.Endpoint.{Endpoint}
use Rattle.image.specs.Answer.{SaveValues, save_values_of, save_refusal_code}
use Rattle.image.specs.Image.{image_of}
use Rattle.image.specs.Images.{SaveRule}
use Rattle.image.specs.Save.{save_of}
use Rattle.image.specs.Table.{save_rows}
use Rattle.image.proofs.Laws.Save.{image-length, Saves, save_not_started, save_too_short, save_written}
use Rattle.image.specs.declared.answer.SaveRefusal.TheVariants as X
use Rattle.image.specs.declared.answer.SaveRefusal.{SaveRefusal}

-- ---- saving

module _ (e : Endpoint) (output : List ℕ) where
  abbrev c : Config
  c = config_of e

  port_is : c.port ≡ e.port
  port_is = ap (λ (x : Config). x.port) (config_is e)

  size : length (image_of c) ≡ 15 + T.peers e * 4 + T.bindings e * 12
  size =
      let p : c.peers ≡ T.peers e = ap (λ (x : Config). x.peers) (config_is e) in
      let b : c.bindings ≡ T.bindings e = ap (λ (x : Config). x.bindings) (config_is e) in
      image-length c ∙ omega arith

  -- the number that the rows give
  not_started : e.port ≡ 0 → numbered (save_rows e output) ≡ 18
  unfolding save_rows
  not_started h = simp choices (rw (eq-eqb e.port 0 h) refl)

  too_short : e.port ≢ 0 → length output < length (image_of c) → numbered (save_rows e output) ≡ 21
  unfolding save_rows
  too_short d h =
      simp choices (rw (ne_eqb e.port 0 d, lt-ltb (length output) (15 + T.peers e * 4 + T.bindings e * 12) (omega (arith, size))) refl)

  room : e.port ≢ 0 → length (image_of c) ≤ length output → numbered (save_rows e output) ≡ 0
  unfolding save_rows
  room d h = simp choices (rw (ne_eqb e.port 0 d, le-ltb (length output) (15 + T.peers e * 4 + T.bindings e * 12) (omega (arith, size))) refl)

  refusal_rule : (r : Result ℕ SaveRefusal) (n : ℕ) → save_values_of r ≡ record { number = n; length_is = 0 } → n ≢ 0 → numbered (save_rows e output) ≡ n
      → SaveRule e output (save_values_of r) output
  refusal_rule r n q d h =
      subst (λ (v : SaveValues). SaveRule e output v output) (sym q)
      (record { number = sym h; saved = λ z. absurd (d z); refused = λ z. (refl, refl); size = refl; beyond = λ i l. refl })

  written_rule : e.port ≢ 0 → length (image_of c) ≤ length output
      → SaveRule e output (save_values_of (Ok (length (image_of c)))) (wrote output (image_of c))
  unfolding save_values_of
  written_rule d h = record {
    number = sym (room d h);
    saved = λ z.
        (refl, ap (take (length (image_of c))) (wrote_is output (image_of c)) ∙ take_at (image_of c) _ (length (image_of c)) refl);
    refused = λ z. absurd (z refl);
    size = wrote-length output (image_of c) h;
    beyond = wrote_beyond output (image_of c);
  }

  of_saves : (r : Result ℕ SaveRefusal) (out : List ℕ) → Saves c output r out → SaveRule e output (save_values_of r) out
      → SaveRule e output (save_values_of (save_of c output).answer) (save_of c output).output
  of_saves r out s rule =
      subst (λ (o : List ℕ). SaveRule e output (save_values_of (save_of c output).answer) o) s.1
      (subst (λ (a : Result ℕ SaveRefusal). SaveRule e output (save_values_of a) out) s.0 rule)

  not_started_values : save_values_of (Err X.NotStarted) ≡ record { number = 18; length_is = 0 }
  unfolding save_values_of save_refusal_code
  not_started_values = refl

  too_short_values : save_values_of (Err X.OutputTooShort) ≡ record { number = 21; length_is = 0 }
  unfolding save_values_of save_refusal_code
  too_short_values = refl

  pub save_rule : SaveRule e output (save_values_of (save_of c output).answer) (save_of c output).output
  save_rule =
      case_b (eqb e.port 0)
      (λ q.
      let h : e.port ≡ 0 = eqb-true e.port 0 q in
      of_saves (Err X.NotStarted) output (save_not_started c output (port_is ∙ h))
      (refusal_rule (Err X.NotStarted) 18 not_started_values (λ z. absurd (omega arith)) (not_started h)))
      (λ q.
      let d : e.port ≢ 0 = eqb-false e.port 0 q in
      let d' : c.port ≢ 0 = λ z. d (sym port_is ∙ z) in
      case_b (ltb (length output) (length (image_of c)))
      (λ l.
      let h : length output < length (image_of c) = ltb-true (length output) (length (image_of c)) l in
      of_saves (Err X.OutputTooShort) output (save_too_short c output d' h)
      (refusal_rule (Err X.OutputTooShort) 21 too_short_values (λ z. absurd (omega arith)) (too_short d h)))
      (λ l.
      let h : length (image_of c) ≤ length output = ltb-false (length output) (length (image_of c)) l in
      of_saves (Ok (length (image_of c))) (wrote output (image_of c)) (save_written c output d' h) (written_rule d h)))

  pub most : length (image_of c) ≤ 815
  most = omega (arith, size)
