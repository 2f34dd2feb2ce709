-- The byte that a receive names is the first that breaks its rule (Offset.antt): the table's rows, one layer after another.
use Rattle.std.specs.Prelude.{ℕ, ◌≤◌, ◌≡◌, ◌⊎◌, cond, List, [], ◌∷◌, drop, eqb}
use Rattle.std.proofs.Common.{sym, ◌∙◌, inl, inr, eqb-true}
use Rattle.std.proofs.Math.Path.{subst}
use Rattle.std.proofs.Math.Bool.{not}
use native.Mathlib.Omega.{arith}
use Rattle.std.proofs.Math.ListN.{length}
use Rattle.std.proofs.Math.Dec.{ltb}
use Rattle.wire.specs.Bytes.{Bytes}
use Rattle.wire.specs.Checks.{Check, Passed}
use Rattle.wire.specs.Refusal.{Finding, only}
use Rattle.wire.specs.Table.{Rows, ◌⇒◌, ◌and_then◌, told, header_length_of, protocol_of, source_of, destination_of, payload_of, ipv4_rows, payload_rows}
use Rattle.wire.specs.Table.{stt_rows}
use Rattle.wire.specs.Table.{context_of}
use Rattle.wire.specs.Offset.{breaks_vxlan, breaks_nvgre, breaks_stt, FirstOf}
use Rattle.wire.proofs.Laws.Offset.{Low, Higher, skip, ipv4_low, carriage_low, vxlan_named, nvgre_named, stt_named}
use Rattle.lookup.specs.Search.{lowest, found}
use Rattle.reassembly.specs.Base.{some_below}
use Rattle.reassembly.proofs.Laws.Base.{case_b, either}
use Rattle.reassembly.specs.Table.{segment_rows}
use Rattle.reassembly.proofs.Laws.Table.{segment_low, long_segment}
use Rattle.endpoint.specs.Answer.{Values, values_of, told_by}
use Rattle.endpoint.specs.Receive.{step_of}
use Rattle.endpoint.specs.Table as P
use Rattle.endpoint.specs.Offset.{complete_frame_of, Offsets}
use Rattle.endpoint.proofs.Laws.Table.{document_table}
use Rattle.endpoint.specs.declared.config.Endpoint.{Endpoint}

module _ (e : Endpoint) (m k : List ℕ) where
  abbrev start : ℕ
  start = header_length_of k

  abbrev protocol : ℕ
  protocol = protocol_of k

  abbrev payload : List ℕ
  payload = payload_of k

  abbrev peer : ℕ
  peer = found (lowest (P.is_peer e (source_of k)) (P.peers e))

  abbrev frame : List ℕ
  frame = complete_frame_of e m k

  -- 9, 8, 9, 10, and what follows them
  abbrev carriage : Rows
  carriage = payload_rows protocol (source_of k) (destination_of k) e.port payload

  abbrev next : Rows
  next = cond (eqb protocol 17) (P.vxlan_next e peer start payload) (cond (eqb protocol 47) (P.nvgre_next e peer start payload) (P.stt_next e m peer payload))

  -- what holds of a packet that is refused with 25 to 29: it passes 2 to 10
  record Passes : Type 0 where
    header : Passed (ipv4_rows k)
    transport : Passed carriage
    is : told (P.receive_rows e m k) ≡ told next

  passes : Higher (told (P.receive_rows e m k)) → Passes
  unfolding P.receive_rows
  passes n =
      let rest : Rows = carriage and_then next in
      let few : Check Finding = ltb (length m) 55296 ⇒ 2 in
      let ours : Check Finding = not (eqb (destination_of k) e.own) ⇒ 6 in
      let known : Check Finding = not (some_below (P.peers e) (P.is_peer e (source_of k))) ⇒ 7 in
      let a = skip (few ∷ []) (ipv4_rows k and_then ours ∷ known ∷ rest) (only 0) (omega arith, tt) n in
      let b = skip (ipv4_rows k) (ours ∷ known ∷ rest) (only 0) (ipv4_low k) (subst Higher a.1 n) in
      let c = skip (ours ∷ known ∷ []) rest (only 0) (omega arith, (omega arith, tt)) (subst Higher (a.1 ∙ b.1) n) in
      let d = skip carriage next (only 0) (carriage_low k e.port) (subst Higher (a.1 ∙ b.1 ∙ c.1) n) in
      record { header = b.0; transport = d.0; is = a.1 ∙ b.1 ∙ c.1 ∙ d.1 }

  inner_low : (kind id : ℕ) (inner : List ℕ) → Low (P.inner_rows e peer kind id inner)
  unfolding P.inner_rows
  inner_low kind id inner = (omega arith, (omega arith, tt))

  -- ---- by protocol

  abbrev Vxlan : Finding → Type 0
  Vxlan x = (x.number ≡ 25) × FirstOf k (breaks_vxlan k) x.offset

  abbrev Nvgre : Finding → Type 0
  Nvgre x = ((26 ≤ x.number) × (x.number ≤ 27)) × FirstOf k (breaks_nvgre k) x.offset

  abbrev Stt : Finding → Type 0
  Stt x = (28 ≤ x.number) × FirstOf frame (breaks_stt frame) x.offset

  in_vxlan : Passes → protocol ≡ 17 → Higher (told (P.vxlan_next e peer start payload)) → Vxlan (told (P.vxlan_next e peer start payload))
  unfolding P.vxlan_next
  in_vxlan w q n = vxlan_named k w.header e.port w.transport _ (inner_low _ _ _) q n

  in_nvgre : Passes → protocol ≡ 47 → Higher (told (P.nvgre_next e peer start payload)) → Nvgre (told (P.nvgre_next e peer start payload))
  unfolding P.nvgre_next
  in_nvgre w q n = nvgre_named k w.header e.port w.transport _ (inner_low _ _ _) q n

  in_stt : Higher (told (P.stt_next e m peer payload)) → Stt (told (P.stt_next e m peer payload))
  unfolding P.stt_next
  in_stt n =
      let inner : Rows = P.inner_rows e peer 3 (context_of frame) (drop 18 frame) in
      let a = skip (segment_rows peer (P.row_of e peer) m (P.segment_of payload)) (stt_rows frame and_then inner) (only 0)
      (segment_low peer (P.row_of e peer) m (P.segment_of payload)) n in
      let long : 32 ≤ length frame = long_segment peer (P.row_of e peer) m (P.segment_of payload) a.0 in
      subst Stt (sym a.1) (stt_named frame (omega arith) inner (inner_low _ _ _) (subst Higher a.1 n))

  -- by the rows of one kind
  Named : Finding → Type 0
  Named x = Vxlan x ⊎ (Nvgre x ⊎ Stt x)

  next_named : Passes → Higher (told next) → Named (told next)
  unfolding Named
  next_named w n =
      case_b (eqb protocol 17)
      (λ a. rw a (inl (in_vxlan w (eqb-true protocol 17 a) (rw a at n))))
      (λ a. case_b (eqb protocol 47)
      (λ b. rw (a, b) (inr (inl (in_nvgre w (eqb-true protocol 47 b) (rw (a, b) at n)))))
      (λ b. rw (a, b) (inr (inr (in_stt (rw (a, b) at n))))))

  -- ---- the answer

  abbrev v : Values
  v = values_of (step_of e m k).answer

  module _ (bytes : Bytes k) where
    named : 25 ≤ v.number → Named (told_by v)
    named n =
        let same : told_by v ≡ told (P.receive_rows e m k) = document_table.receive e m k bytes in
        let w = passes (subst Higher same n) in
        let is : told_by v ≡ told next = same ∙ w.is in
        subst Named (sym is) (next_named w (subst Higher is n))

    vxlan_offset : v.number ≡ 25 → FirstOf k (breaks_vxlan k) v.offset
    unfolding Named
    vxlan_offset n =
        either (named (omega arith))
        (λ x. x.1)
        (λ x. either x (λ y. absurd (omega (arith, y.0.0))) (λ y. absurd (omega (arith, y.0))))

    nvgre_offset : 26 ≤ v.number → v.number ≤ 27 → FirstOf k (breaks_nvgre k) v.offset
    unfolding Named
    nvgre_offset least most =
        either (named (omega arith))
        (λ x. absurd (omega (arith, x.0)))
        (λ x. either x (λ y. y.1) (λ y. absurd (omega (arith, y.0))))

    stt_offset : 28 ≤ v.number → v.number ≤ 29 → FirstOf frame (breaks_stt frame) v.offset
    unfolding Named
    stt_offset least most =
        either (named (omega arith))
        (λ x. absurd (omega (arith, x.0)))
        (λ x. either x (λ y. absurd (omega (arith, y.0.1))) (λ y. y.1))

pub offsets : Offsets
offsets = record { vxlan = vxlan_offset; nvgre = nvgre_offset; stt = stt_offset }
