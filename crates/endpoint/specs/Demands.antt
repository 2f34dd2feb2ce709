-- THE DEMANDS (document 00), one record each: open this file first. A demand's words stand in Demand1, Demand2, Demand2Writing, RoundTrip and Demand3, the
-- numbered table in Table, what a packet carries in Formats, and what holds of runs in crate reassembly (specs/Claim, specs/EveryRun). The calls are those of
-- the contracts (src/), which say that answer, endpoint, memory and output are these definitions' for every input; every function ends, as the toolchain
-- checks.
-- Only definitions; proved in Laws/Demands (`demand_one`, `demand_two`, `demand_three`).
use Rattle.std.specs.Prelude.{ℕ, ◌^◌, ◌<◌, ◌≤◌, ◌≡◌, false, ◌⊎◌, List, length}
use Rattle.std.specs.Borrow.{Bor}
use Rattle.wire.specs.Bytes.{Bytes}
use Rattle.reassembly.specs.Receive.{Event}
use Rattle.reassembly.specs.SetUp.{receives, runs}
use Rattle.reassembly.specs.Claim.{Claim}
use Rattle.reassembly.specs.EveryRun.{IfAndOnlyIf, EveryRun}
use Rattle.endpoint.specs.Answer.{place_of, values_of, tick_code, wrap_values_of}
use Rattle.endpoint.specs.Config.{Config, config_of, start_of, add_peer_of, add_binding_of, tick_of, Adding, set_up}
use Rattle.endpoint.specs.View.{Viewed, ViewRule}
use Rattle.endpoint.specs.Receive.{answers, layers, step_of, receipt_of, world_of}
use Rattle.endpoint.specs.Wrap.{wrap_of}
use Rattle.endpoint.specs.Run.{Left, left, ends_of}
use Rattle.endpoint.specs.Formats.{CarriesFrame}
use Rattle.endpoint.specs.Reached.{Reached}
use Rattle.endpoint.specs.Table.{Table}
use Rattle.endpoint.specs.Offset.{Offsets}
use Rattle.endpoint.specs.Demand1.{slot_at, StartRule, PeerAdded, BindingAdded, AddRule, Configured, ReceiveRule, TickRule, WrapRule}
use Rattle.endpoint.specs.Demand2.{Delivers, MadeUp, Packets}
use Rattle.endpoint.specs.Demand2Writing.{Demand2Writing}
use Rattle.endpoint.specs.RoundTrip.{segments_for, Wraps, Matches, RoundTrip}
use Rattle.endpoint.specs.Demand3.{WordsMean}
use Rattle.endpoint.specs.declared.answer.Place.{Place}
use Rattle.endpoint.specs.declared.answer.Target.{Target}
use Rattle.endpoint.specs.declared.config.Endpoint.{Endpoint}

-- ---- 1: any packet, memory, settings or tick get one answer of the numbered table, and a refusal changes nothing, but for the one exception

pub record Demand1 : Type 0 where
  pub start : (own port mtu : ℕ) → StartRule own port mtu (start_of own port mtu)
  pub add_peer_lem : (e : Endpoint) (address : ℕ) → AddRule e (PeerAdded e address) (add_peer_of e address)
  pub add_binding_lem : (e : Endpoint) (peer kind network tenant : ℕ)
      → AddRule e (BindingAdded e peer kind network tenant) (add_binding_of e peer kind network tenant)
  pub receive : (e : Endpoint) (memory packet : List ℕ)
      → ReceiveRule e memory packet (values_of (step_of e memory packet).answer) (receipt_of e (step_of e memory packet)).endpoint (step_of e memory packet).mem
  pub tick : (e : Endpoint) → TickRule e (tick_code (tick_of e).answer) (tick_of e).endpoint
  pub view : (packet memory : Bor (List ℕ)) (place : Place) (r : Bor (List ℕ)) → Viewed packet memory (place_of place) r → ViewRule packet memory place r
  pub wrap : (e : Endpoint) (binding : ℕ) (frame : List ℕ) (segment identifier : ℕ) (output : List ℕ)
      → WrapRule output (wrap_values_of (wrap_of e binding frame segment identifier output).answer) (wrap_of e binding frame segment identifier output).output
  -- which number is given when: the first row of document 01's table that applies; and which byte 25 to 29 name: the first that breaks its rule
  pub table : Table
  pub offsets : Offsets
  -- so every set-up keeps the rules of a configuration, and has every slot free; and what comes from the calls later keeps them
  pub set_up_from : (own port mtu : ℕ) (adds : List Adding) → Configured (set_up own port mtu adds)
  pub all_free : (own port mtu : ℕ) (adds : List Adding) (p s : ℕ) → (slot_at (set_up own port mtu adds) p s).pending ≡ false
  pub reached : (e : Endpoint) → Reached e → Configured e

-- ---- 2: what is carried to a tenant is exactly what was sent

pub record Demand2 : Type 0 where
  -- in every run from a set-up, with enough memory lent, a receive delivers a frame to a tenant if and only if the packet carries it by VXLAN or NVGRE for a
  -- binding of our configuration, or carries the STT segment with which the segments taken since its frame opened make up exactly a good frame
  pub receiving : (own port mtu : ℕ) (adds : List Adding) (m : List ℕ) → 55296 ≤ length m → Bytes m → (es : List Event) → Packets es
      → (k : List ℕ) → Bytes k → (t : Target) (frame : List ℕ)
      → let e : Endpoint = set_up own port mtu adds in
      IfAndOnlyIf (Delivers (left e m es).endpoint (left e m es).mem k t frame) (CarriesFrame (config_of e) k t frame ⊎ MadeUp e m es k t frame)
  -- what is written on a listed binding of an endpoint that came from the calls is, by the same formats, a packet to its peer that carries the frame
  pub writing : (e : Endpoint) → Reached e → (b : ℕ) → b < (config_of e).bindings → (frame : List ℕ) → Demand2Writing e b frame
  -- and a matching endpoint, freshly set up, that is given the packets in any order delivers exactly the frame
  pub round_trip : (e : Endpoint) → Reached e → (b : ℕ) → b < (config_of e).bindings → (frame : List ℕ) → Bytes frame
      → (identifier : ℕ) → identifier < 256 ^ 4 → (packets : ℕ → List ℕ) → Wraps e b frame identifier packets
      → (e' : Endpoint) (b' : ℕ) → Matches e b e' b' → RoundTrip frame (segments_for e b frame) packets e' b'

-- ---- 3: of every set-up that a start and any adding calls can leave, refused ones too, and every peer

pub record Demand3 : Type 0 where
  -- whatever the others sent; and every mixing of cuts of good frames. An answer is all that a receive gives back, number, offset and the rest, and the bytes
  -- handed back
  pub claims : (own port mtu : ℕ) (adds : List Adding) (p : ℕ) → p < 8 → Claim answers Config layers (ends_of (set_up own port mtu adds)) p
  -- every run, mixing or not: the slot rules, and of which segments a complete frame is made up
  pub every : (own port mtu : ℕ) (adds : List Adding) (p : ℕ) → p < 8 → EveryRun answers Config layers p (ends_of (set_up own port mtu adds))
  -- a run is a list of the calls `receive` and `tick`, each given the endpoint and the memory that the last one left; its answers are the calls'
  pub calls_are_runs : (e : Endpoint) (m : List ℕ) (es : List Event)
      → world_of (left e m es).endpoint (left e m es).mem ≡ runs answers Config layers (world_of e m) es
  pub answers_are : (w : Left) (k : List ℕ) → (step_of w.endpoint w.mem k).answer ≡ (receives answers Config layers (world_of w.endpoint w.mem) k).reply
  -- whose packet it is, a sound packet and a good frame are the published formats'
  pub words : (c : Config) (p : ℕ) → WordsMean c p
