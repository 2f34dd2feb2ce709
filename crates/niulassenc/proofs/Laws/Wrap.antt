-- A frame has at most 1,532 segments: an STT frame has at most that many bytes, and a segment carries one or more of them.
use Rattle.std.specs.Prelude.{ℕ, ◌+◌, ◌-◌, ◌*◌, ◌≤◌, ◌<◌, ◌≡◌, List, length, ltb, eqb, Ok}
use Rattle.std.proofs.Common.{arith, eqb-true, ltb-true, ltb-false}
use Rattle.std.proofs.lemmas.Bool.{eqb-false}
use Rattle.reassembly.proofs.Laws.Base.{case_b}
use Rattle.endpoint.specs.Wrap.{kind_at, segments_of, wrap_of}
use Rattle.endpoint.proofs.Laws.Wrap.{WrittenFacts, written_facts}
use Rattle.endpoint.proofs.Laws.WrapExits.{segments-vxlan, segments-nvgre, stt_room, stt-begins}
use Rattle.endpoint.specs.declared.config.Endpoint.{Endpoint}
use Rattle.endpoint.specs.declared.answer.Packet.{Packet}

few : (kind size mtu : ℕ) → size ≤ 1514 → segments_of kind size mtu ≤ 1532
few kind size mtu h =
    case_b (eqb kind 1) (λ q. let s : 1 ≡ segments_of kind size mtu = segments-vxlan kind size mtu (eqb-true kind 1 q) in omega arith) (λ v.
    case_b (eqb kind 2) (λ q. let s : 1 ≡ segments_of kind size mtu = segments-nvgre kind size mtu (eqb-true kind 2 q) in omega arith) (λ n.
    case_b (ltb 1532 (segments_of kind size mtu)) (λ q.
    let l : 1532 < segments_of kind size mtu = ltb-true 1532 (segments_of kind size mtu) q in
    let r : 40 < mtu = stt_room kind size mtu 1532 (eqb-false kind 1 v) (eqb-false kind 2 n) l in
    let s : 1532 * (mtu - 40) < 18 + size = stt-begins kind size mtu 1532 (eqb-false kind 1 v) (eqb-false kind 2 n) l in
    absurd (omega arith))
    (λ q. ltb-false 1532 (segments_of kind size mtu) q)))

pub segments_few : (e : Endpoint) (b : ℕ) (frame : List ℕ) (segment identifier : ℕ) (output : List ℕ) (p : Packet)
    → (wrap_of e b frame segment identifier output).answer ≡ Ok p → p.segments ≤ 1532
segments_few e b frame segment identifier output p q =
    let w : WrittenFacts e b frame segment identifier output p = written_facts e b frame segment identifier output p q in
    let l : length frame ≤ 1514 = w.good.most in
    let s : p.segments ≡ segments_of (kind_at e b) (length frame) e.mtu = w.segments_is in
    let f : segments_of (kind_at e b) (length frame) e.mtu ≤ 1532 = few (kind_at e b) (length frame) e.mtu l in
    omega arith
