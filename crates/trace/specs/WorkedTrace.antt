-- Worked traces, to be held against document 02, §6, byte by byte. A field of `Traces`, proved in Laws/WorkedTrace.
use Rattle.std.specs.Prelude.{[], ◌∷◌, replicate}
use Rattle.trace.specs.Trace.{tick, packet, Allowed, no_trace, read, ReadsAs}

pub record WorkedTrace : Type 0 where
  -- the paper's own: a tick and an empty packet
  pub two_records : ReadsAs (
      0x54 ∷ 0x52 ∷ 0x50  -- TRP
      ∷ 0x00 ∷ 0x01  -- version 1
      ∷ 0x01  -- a tick
      ∷ 0x02 ∷ 0x00 ∷ 0x00  -- a packet of no bytes
      ∷ []) (read (tick ∷ packet [] ∷ []) [])
  -- a packet of three bytes and a tick, and then what is said to be a packet of 1,601 bytes
  pub broken_record : ReadsAs (
      0x54 ∷ 0x52 ∷ 0x50 ∷ 0x00 ∷ 0x01
      ∷ 0x02 ∷ 0x00 ∷ 0x03 ∷ 0xAA ∷ 0xBB ∷ 0xCC
      ∷ 0x01
      ∷ 0x02 ∷ 0x06 ∷ 0x41 ∷ 0x01
      ∷ []) (read (packet (0xAA ∷ 0xBB ∷ 0xCC ∷ []) ∷ tick ∷ []) (0x02 ∷ 0x06 ∷ 0x41 ∷ 0x01 ∷ []))
  -- 1,600 bytes are allowed, and one more is not
  pub largest : Allowed (packet (replicate 1600 0))
  pub too_large : Allowed (packet (replicate 1601 0)) → ⊥
  -- another version
  pub no_trace_lem : ReadsAs (0x54 ∷ 0x52 ∷ 0x50 ∷ 0x00 ∷ 0x02 ∷ 0x01 ∷ []) no_trace
