-- WHICH BYTE A RECEIVE NAMES (document 02, §4): of 25 to 29 the first that breaks its rule; the rules stand in crate wire, specs/Offset.antt. That no other
-- answer names one stands in Demand1.antt (`ReceiveRule.offset`). Only definitions; `Offsets` is the statement, proved in Laws/Offset (`offsets`).
use Rattle.std.specs.Prelude.{ℕ, ◌≤◌, ◌≡◌, List}
use Rattle.wire.specs.Bytes.{Bytes}
use Rattle.wire.specs.Table.{source_of, payload_of}
use Rattle.wire.specs.Offset.{breaks_vxlan, breaks_nvgre, breaks_stt, FirstOf}
use Rattle.lookup.specs.Search.{lowest, found}
use Rattle.reassembly.specs.Table.{complete_frame}
use Rattle.endpoint.specs.Answer.{Values, values_of}
use Rattle.endpoint.specs.Receive.{step_of}
use Rattle.endpoint.specs.Table.{peers, is_peer, row_of, segment_of}
use Rattle.endpoint.specs.declared.config.Endpoint.{Endpoint}

-- the STT frame that the packet's segment makes complete, of the memory as it was lent and the segment, whichever packet brought its bytes
abbrev pub complete_frame_of : Endpoint → (memory packet : List ℕ) → List ℕ
complete_frame_of e memory packet =
    let peer : ℕ = found (lowest (is_peer e (source_of packet)) (peers e)) in
    complete_frame peer (row_of e peer) memory (segment_of (payload_of packet))

pub record Offsets : Type 0 where
  -- 25, in the packet
  pub vxlan : (e : Endpoint) (memory packet : List ℕ) → Bytes packet
      → let v : Values = values_of (step_of e memory packet).answer in
      v.number ≡ 25 → FirstOf packet (breaks_vxlan packet) v.offset
  -- 26 and 27, in the packet
  pub nvgre : (e : Endpoint) (memory packet : List ℕ) → Bytes packet
      → let v : Values = values_of (step_of e memory packet).answer in
      26 ≤ v.number → v.number ≤ 27 → FirstOf packet (breaks_nvgre packet) v.offset
  -- 28 and 29, in the STT frame
  pub stt : (e : Endpoint) (memory packet : List ℕ) → Bytes packet
      → let v : Values = values_of (step_of e memory packet).answer in
      28 ≤ v.number → v.number ≤ 29 → FirstOf (complete_frame_of e memory packet) (breaks_stt (complete_frame_of e memory packet)) v.offset
