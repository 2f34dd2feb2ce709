-- DEMAND 1's words (document 00): the rule of each call: which numbers it answers, what it leaves, and that a refusal changes nothing, but for the one
-- exception. `Demand1` (Demands.antt) says that every call keeps its rule, for every endpoint, memory, packet and number.
-- Only definitions; the rules are proved in Laws/Demand1, a receive's in Laws/Demand1Receive, a configuration's in Laws/Configured.
use Rattle.std.specs.Prelude.{ℕ, ◌+◌, ◌-◌, ◌/◌, ◌^◌, ◌<◌, ◌≤◌, ◌≡◌, ◌⊎◌, ◌≢◌, Bool, true, false, cond, ◌||◌, List, [], ◌∷◌, length, get_or, take, drop}
use Rattle.std.specs.Prelude.{replicate, eqb}
use Rattle.std.proofs.Math.Option.{none, some}
use Rattle.wire.specs.Bytes.{Bytes}
use Rattle.reassembly.specs.Slots.{free, no_row}
use Rattle.reassembly.specs.Take.{Seg, Fits}
use Rattle.reassembly.specs.Receive.{Place, view_of}
use Rattle.reassembly.specs.EveryRun.{frame_at, map_at, bit_of, Touches}
use Rattle.reassembly.specs.declared.slot.Slot.{Slot}
use Rattle.endpoint.specs.Answer.{Values, start_code, AddedValues, added_values_of, WrapValues}
use Rattle.endpoint.specs.Config.{config_of, AddResult}
use Rattle.endpoint.specs.Formats.{CarriesFrame, CarriesSegment, GoodFrame}
use Rattle.endpoint.specs.declared.answer.Target.{Target}
use Rattle.endpoint.specs.declared.config.Endpoint.{Endpoint}
use Rattle.endpoint.specs.declared.config.StartResult.{StartResult}

-- ---- words

-- n is one of these numbers
infix 45 ◌among◌
abbrev pub ◌among◌ : ℕ → List ℕ → Bool
n among [] = false
n among (x ∷ xs) = eqb n x || n among xs

-- slot s of peer p
abbrev pub slot_at : Endpoint → (p s : ℕ) → Slot
slot_at e p s = get_or (get_or e.peers p no_row).slots s free

-- entry n of the list becomes x, and every other entry stays
pub record Entered (n x : ℕ) (l l' : List ℕ) : Type 0 where
  pub size : length l' ≡ length l
  pub new : n < length l → get_or l' n 0 ≡ x
  pub others : (i : ℕ) → i ≢ n → get_or l' i 0 ≡ get_or l i 0

pub record SameSettings (e e' : Endpoint) : Type 0 where
  pub own : e'.own ≡ e.own
  pub port : e'.port ≡ e.port
  pub mtu : e'.mtu ≡ e.mtu

pub record SamePeers (e e' : Endpoint) : Type 0 where
  pub count : e'.peer_count ≡ e.peer_count
  pub addresses : e'.addresses ≡ e.addresses

pub record SameBindings (e e' : Endpoint) : Type 0 where
  pub count : e'.binding_count ≡ e.binding_count
  pub owners : e'.owners ≡ e.owners
  pub kinds : e'.kinds ≡ e.kinds
  pub networks : e'.networks ≡ e.networks
  pub tenants : e'.tenants ≡ e.tenants

-- settings and listing: all of an endpoint but its slots
pub record SameConfiguration (e e' : Endpoint) : Type 0 where
  pub settings : SameSettings e e'
  pub peers : SamePeers e e'
  pub bindings : SameBindings e e'

-- ---- start: 0 or 18

-- these settings, no listing, every other number 0 and every slot free
pub record Blank (own port mtu : ℕ) (e : Endpoint) : Type 0 where
  pub own_is : e.own ≡ own
  pub port_is : e.port ≡ port
  pub mtu_is : e.mtu ≡ mtu
  pub no_peer : e.peer_count ≡ 0
  pub no_binding : e.binding_count ≡ 0
  pub addresses : e.addresses ≡ replicate 8 0
  pub owners : e.owners ≡ replicate 64 0
  pub kinds : e.kinds ≡ replicate 64 0
  pub networks : e.networks ≡ replicate 64 0
  pub tenants : e.tenants ≡ replicate 64 0
  pub slots : e.peers ≡ replicate 8 (record { slots = replicate 4 (record { identifier = 0; frame_length = 0; age = 0; pending = false }) })

pub record StartRule (own port mtu : ℕ) (r : StartResult) : Type 0 where
  pub number : start_code r.answer among (0 ∷ 18 ∷ []) ≡ true
  pub done : start_code r.answer ≡ 0 → Blank own port mtu r.endpoint
  -- every number is 0
  pub refused : start_code r.answer ≢ 0 → Blank 0 0 0 r.endpoint

-- ---- adding: 0, 18, 19 or 20

-- the address stands at the number that is answered, which was the count; the count grows by 1; nothing else moves
pub record PeerAdded (e : Endpoint) (address : ℕ) (v : AddedValues) (e' : Endpoint) : Type 0 where
  pub entry : v.entry ≡ some e.peer_count
  pub count : e'.peer_count ≡ e.peer_count + 1
  pub addresses : Entered e.peer_count address e.addresses e'.addresses
  pub settings : SameSettings e e'
  pub bindings : SameBindings e e'
  pub slots : e'.peers ≡ e.peers

pub record BindingAdded (e : Endpoint) (peer kind network tenant : ℕ) (v : AddedValues) (e' : Endpoint) : Type 0 where
  pub entry : v.entry ≡ some e.binding_count
  pub count : e'.binding_count ≡ e.binding_count + 1
  pub owners : Entered e.binding_count peer e.owners e'.owners
  pub kinds : Entered e.binding_count kind e.kinds e'.kinds
  pub networks : Entered e.binding_count network e.networks e'.networks
  pub tenants : Entered e.binding_count tenant e.tenants e'.tenants
  pub settings : SameSettings e e'
  pub peers : SamePeers e e'
  pub slots : e'.peers ≡ e.peers

-- `Added`: what a good call leaves
pub record AddRule (e : Endpoint) (Added : AddedValues → Endpoint → Type 0) (r : AddResult) : Type 0 where
  pub number : (added_values_of r.answer).number among (0 ∷ 18 ∷ 19 ∷ 20 ∷ []) ≡ true
  pub done : (added_values_of r.answer).number ≡ 0 → Added (added_values_of r.answer) r.endpoint
  pub refused : (added_values_of r.answer).number ≢ 0 → (r.endpoint ≡ e) × ((added_values_of r.answer).entry ≡ none)

-- ---- what every configuration that the calls leave keeps (document 01, "Listing and numbers")

-- its first byte is 1 to 223
abbrev pub IsAddress : ℕ → Type 0
IsAddress address = (1 ≤ address / 2 ^ 24) × (address / 2 ^ 24 ≤ 223)

-- an id of its kind: VXLAN, NVGRE, STT
abbrev pub IsId : (kind id : ℕ) → Type 0
IsId kind id = ((kind ≡ 1) × (id ≤ 16777215)) ⊎ (((kind ≡ 2) × ((4096 ≤ id) × (id ≤ 16777214))) ⊎ (kind ≡ 3))

pub record InRange (e : Endpoint) : Type 0 where
  pub own : IsAddress e.own
  pub port : (1 ≤ e.port) × (e.port ≤ 65535)
  pub mtu : (576 ≤ e.mtu) × (e.mtu ≤ 1600)

-- after a refused start every number is 0, and nothing is ever listed
abbrev pub NotStarted : Endpoint → Type 0
NotStarted e = (e.own ≡ 0) × ((e.port ≡ 0) × ((e.mtu ≡ 0) × ((e.peer_count ≡ 0) × (e.binding_count ≡ 0))))

pub record Configured (e : Endpoint) : Type 0 where
  pub settings : InRange e ⊎ NotStarted e
  pub peers : e.peer_count ≤ 8
  pub bindings : e.binding_count ≤ 64
  -- no two peers have one address, and none has our own
  pub address : (i : ℕ) → i < e.peer_count → IsAddress (get_or e.addresses i 0)
  pub not_ours : (i : ℕ) → i < e.peer_count → get_or e.addresses i 0 ≢ e.own
  pub peer_once : (i j : ℕ) → i < e.peer_count → j < e.peer_count → get_or e.addresses i 0 ≡ get_or e.addresses j 0 → i ≡ j
  -- each binding is of a listed peer, and no two agree in peer, kind and id
  pub owner : (i : ℕ) → i < e.binding_count → get_or e.owners i 0 < e.peer_count
  pub id : (i : ℕ) → i < e.binding_count → IsId (get_or e.kinds i 0) (get_or e.networks i 0)
  pub tenant : (i : ℕ) → i < e.binding_count → get_or e.tenants i 0 ≤ 65535
  pub binding_once : (i j : ℕ) → i < e.binding_count → j < e.binding_count → get_or e.owners i 0 ≡ get_or e.owners j 0
      → get_or e.kinds i 0 ≡ get_or e.kinds j 0 → get_or e.networks i 0 ≡ get_or e.networks j 0 → i ≡ j

-- ---- receive: 0 to 10, 12 to 17, 25 to 29

-- what a refusal and answer 1 carry: no tenant, no binding, the empty place
pub record Empties (v : Values) : Type 0 where
  pub no_tenant : v.tenant ≡ none
  pub no_binding : v.binding ≡ none
  pub start : v.place.start ≡ 0
  pub size : v.place.len ≡ 0
  pub in_packet : v.place.in_lent_memory ≡ false

-- endpoint and memory are as they came
pub record Unchanged (e : Endpoint) (m : List ℕ) (e' : Endpoint) (m' : List ℕ) : Type 0 where
  pub endpoint : e' ≡ e
  pub memory : m' ≡ m

-- a frame with this identifier is pending in slot s of peer p
pub record PendingIn (e : Endpoint) (p s identifier : ℕ) : Type 0 where
  pub pending : (slot_at e p s).pending ≡ true
  pub is : (slot_at e p s).identifier ≡ identifier

-- the segment is the first of a new frame: none with its identifier is pending, and slot s is the lowest that is free
pub record OpensIn (e : Endpoint) (p s : ℕ) (g : Seg) : Type 0 where
  pub none_pending : (t : ℕ) → t < 4 → PendingIn e p t g.identifier → ⊥
  pub idle : (slot_at e p s).pending ≡ false
  pub below : (t : ℕ) → t < s → (slot_at e p t).pending ≡ true

-- it is a further one of the frame in slot s: the lowest with its identifier, and of its length
pub record FurtherIn (e : Endpoint) (p s : ℕ) (g : Seg) : Type 0 where
  pub pending : PendingIn e p s g.identifier
  pub below : (t : ℕ) → t < s → PendingIn e p t g.identifier → ⊥
  pub size : (slot_at e p s).frame_length ≡ g.frame_length

-- A SEGMENT IS STORED: the packet carries the segment g of peer p, which passes 14 and belongs into slot s
pub record Stored (e : Endpoint) (m packet : List ℕ) (p s : ℕ) (g : Seg) (e' : Endpoint) (m' : List ℕ) : Type 0 where
  pub is_peer_lem : p < 8
  pub is_slot : s < 4
  pub carried : Bytes packet → CarriesSegment (config_of e) packet p g
  pub fits : Fits g
  -- does it open a frame there, or is it a further one of the frame that is pending
  pub new : Bool
  pub opens : new ≡ true → OpensIn e p s g
  pub further : new ≡ false → FurtherIn e p s g
  -- its bytes are at their place in the slot and their bits are set; its place and the slot's map apart, no byte of the memory changed
  pub touches : Touches p s new g m m'
  -- every other slot is as it came, and the configuration
  pub other_slots : (q t : ℕ) → (q ≢ p) ⊎ (t ≢ s) → slot_at e' q t ≡ slot_at e q t
  pub configuration : SameConfiguration e e'

-- 1: some byte of its frame is not received yet. The slot is pending with the frame's identifier and length, and with age 0 if it was free, else with its own
-- (the two lengths say that there is such a slot: an endpoint has 4 for each of 8 peers)
pub record NotYet (e : Endpoint) (m packet : List ℕ) (e' : Endpoint) (m' : List ℕ) : Type 0 where
  pub p : ℕ
  pub s : ℕ
  pub g : Seg
  pub stored : Stored e m packet p s g e' m'
  pub missing : (i : ℕ) × ((i < g.frame_length) × (bit_of m' (map_at p s) i ≡ false))
  pub slot : p < length e.peers → s < length (get_or e.peers p no_row).slots → slot_at e' p s
      ≡ record { identifier = g.identifier; frame_length = g.frame_length; age = cond (slot_at e p s).pending (slot_at e p s).age 0; pending = true }

-- it makes its frame complete: every byte below its length is received; and the slot is given back
pub record Completed (e : Endpoint) (m packet : List ℕ) (p s : ℕ) (g : Seg) (e' : Endpoint) (m' : List ℕ) : Type 0 where
  pub stored : Stored e m packet p s g e' m'
  pub complete : (i : ℕ) → i < g.frame_length → bit_of m' (map_at p s) i ≡ true
  pub freed : (slot_at e' p s).pending ≡ false

-- THE EXCEPTION: 28, 29, 12 or 13, on the segment that makes its STT frame complete. It is stored all the same, and its slot given back
pub record FoundBad (e : Endpoint) (m packet : List ℕ) (number : ℕ) (e' : Endpoint) (m' : List ℕ) : Type 0 where
  pub is : number among (28 ∷ 29 ∷ 12 ∷ 13 ∷ []) ≡ true
  pub p : ℕ
  pub s : ℕ
  pub g : Seg
  pub completed : Completed e m packet p s g e' m'

-- 0: the frame is the bytes of the place. The packet carries it by VXLAN or NVGRE for the target, and nothing changes
pub record FromPacket (e : Endpoint) (m packet : List ℕ) (t : Target) (place : Place) (e' : Endpoint) (m' : List ℕ) : Type 0 where
  pub in_packet : place.in_lent_memory ≡ false
  pub carried : Bytes packet → CarriesFrame (config_of e) packet t (view_of packet m' place)
  pub unchanged : Unchanged e m e' m'

-- or the packet's segment makes its STT frame complete; that lies in the memory from the slot's start on, and is good for the target
pub record FromMemory (e : Endpoint) (m packet : List ℕ) (t : Target) (place : Place) (e' : Endpoint) (m' : List ℕ) : Type 0 where
  pub p : ℕ
  pub s : ℕ
  pub g : Seg
  pub completed : Completed e m packet p s g e' m'
  pub lies : place ≡ record { in_lent_memory = true; start = frame_at p s + 18; len = g.frame_length - 18 }
  pub good : Bytes m → Bytes packet → GoodFrame (config_of e) p (take g.frame_length (drop (frame_at p s) m')) t (view_of packet m' place)

pub record Delivered (e : Endpoint) (m packet : List ℕ) (v : Values) (e' : Endpoint) (m' : List ℕ) : Type 0 where
  pub t : Target
  pub tenant : v.tenant ≡ some t.tenant
  pub binding : v.binding ≡ some t.binding
  pub from : FromPacket e m packet t v.place e' m' ⊎ FromMemory e m packet t v.place e' m'

pub record ReceiveRule (e : Endpoint) (m packet : List ℕ) (v : Values) (e' : Endpoint) (m' : List ℕ) : Type 0 where
  pub number : ((v.number ≤ 17) × (v.number ≢ 11)) ⊎ ((25 ≤ v.number) × (v.number ≤ 29))
  -- only these name a byte
  pub offset : v.number among (25 ∷ 26 ∷ 27 ∷ 28 ∷ 29 ∷ []) ≡ false → v.offset ≡ 0
  pub empties : v.number ≢ 0 → Empties v
  pub delivered : v.number ≡ 0 → Delivered e m packet v e' m'
  pub not_yet : v.number ≡ 1 → NotYet e m packet e' m'
  -- a refusal is every number but 0 and 1
  pub refused : v.number ≢ 0 → v.number ≢ 1 → Unchanged e m e' m' ⊎ FoundBad e m packet v.number e' m'
  -- 25 to 29, 12 or 13 on an STT segment is always the exception, so that 25 to 27 are never given on one
  pub found_bad : (p : ℕ) (g : Seg) → CarriesSegment (config_of e) packet p g
      → v.number among (25 ∷ 26 ∷ 27 ∷ 28 ∷ 29 ∷ 12 ∷ 13 ∷ []) ≡ true
      → FoundBad e m packet v.number e' m'
  -- and no receive changes the configuration
  pub configuration : SameConfiguration e e'

-- ---- a tick: 0. It is given no memory and no output; the ages of the pending frames grow by 1, and those that reach 4 give their slots back

-- the slot of a frame that is one tick older
abbrev pub one_older : Slot → Slot
one_older v = record { identifier = v.identifier; frame_length = v.frame_length; age = v.age + 1; pending = true }

pub record TickRule (e : Endpoint) (number : ℕ) (e' : Endpoint) : Type 0 where
  pub is : number ≡ 0
  pub younger : (p s : ℕ) → (slot_at e p s).pending ≡ true → (slot_at e p s).age + 1 < 4 → slot_at e' p s ≡ one_older (slot_at e p s)
  pub given_up : (p s : ℕ) → (slot_at e p s).pending ≡ true → 4 ≤ (slot_at e p s).age + 1 → (slot_at e' p s).pending ≡ false
  pub idle : (p s : ℕ) → (slot_at e p s).pending ≡ false → slot_at e' p s ≡ slot_at e p s
  pub configuration : SameConfiguration e e'

-- ---- wrap: 0, 13, 21, 22 or 23. It only reads the endpoint

pub record WrapRule (output : List ℕ) (v : WrapValues) (output' : List ℕ) : Type 0 where
  pub number : v.number among (0 ∷ 13 ∷ 21 ∷ 22 ∷ 23 ∷ []) ≡ true
  pub refused : v.number ≢ 0 → (output' ≡ output) × ((v.length_is ≡ 0) × (v.segments ≡ 0))
  -- what is written touches only the packet's bytes
  pub size : length output' ≡ length output
  pub beyond : (i : ℕ) → v.length_is ≤ i → get_or output' i 0 ≡ get_or output i 0
