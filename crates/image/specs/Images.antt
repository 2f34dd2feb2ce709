-- WHAT SAVING AND LOADING PROMISE (document 02, §3): `Images`, THE STATEMENT. The image's form is Image.antt, the rows of the numbered table are Table.antt.
-- Only definitions; proved in Laws/Images (`images`).
use Rattle.std.specs.Prelude.{ℕ, ◌+◌, ◌<◌, ◌≤◌, ◌≡◌, false, ◌≢◌, List, map, length, get_or, take, replicate}
use Rattle.wire.specs.Bytes.{Bytes, be_at}
use Rattle.wire.specs.Table.{numbered}
use Rattle.reassembly.specs.Claim.{Claim}
use Rattle.reassembly.specs.EveryRun.{IfAndOnlyIf, EveryRun}
use Rattle.endpoint.specs.Answer.{start_code}
use Rattle.endpoint.specs.Config.{Config, config_of, start_of, Adding, set_up}
use Rattle.endpoint.specs.Demand1.{SameConfiguration, Blank}
use Rattle.endpoint.specs.Reached.{add, AllTyped, Reached}
use Rattle.endpoint.specs.Receive.{answers, layers}
use Rattle.endpoint.specs.Run.{ends_of}
use Rattle.endpoint.specs.declared.config.Endpoint.{Endpoint}
use Rattle.image.specs.Answer.{SaveValues, save_values_of, load_code}
use Rattle.image.specs.Image.{image_of}
use Rattle.image.specs.Load.{load_of}
use Rattle.image.specs.Save.{save_of}
use Rattle.image.specs.Table.{save_rows, peer_count_in, binding_count_in, binding_start, own_address, peer_address, load_rows}
use Rattle.image.specs.WorkedImage.{WorkedImage}

-- ---- words

-- saving some set-up of a good start gives exactly these bytes (a network id is a number of its type, u64)
pub record SavedFrom (s : List ℕ) : Type 0 where
  pub own : ℕ
  pub port : ℕ
  pub mtu : ℕ
  pub adds : List Adding
  pub typed : AllTyped (map add adds)
  pub started : start_code (start_of own port mtu).answer ≡ 0
  pub is : image_of (config_of (set_up own port mtu adds)) ≡ s

-- e' is e with every slot free
pub record Freed (e e' : Endpoint) : Type 0 where
  pub configuration : SameConfiguration e e'
  pub slots : e'.peers ≡ replicate 8 (record { slots = replicate 4 (record { identifier = 0; frame_length = 0; age = 0; pending = false }) })

-- each number of the endpoint is the image's, at its place
pub record FieldsOf (s : List ℕ) (e : Endpoint) : Type 0 where
  pub own : e.own ≡ own_address s
  pub port : e.port ≡ be_at s 9 2
  pub mtu : e.mtu ≡ be_at s 11 2
  pub peers : e.peer_count ≡ peer_count_in s
  pub address : (i : ℕ) → i < peer_count_in s → get_or e.addresses i 0 ≡ peer_address s i
  pub bindings : e.binding_count ≡ binding_count_in s
  pub owner : (i : ℕ) → i < binding_count_in s → get_or e.owners i 0 ≡ be_at s (binding_start s i) 1
  pub kind : (i : ℕ) → i < binding_count_in s → get_or e.kinds i 0 ≡ be_at s (binding_start s i + 1) 1
  pub id : (i : ℕ) → i < binding_count_in s → get_or e.networks i 0 ≡ be_at s (binding_start s i + 2) 8
  pub tenant : (i : ℕ) → i < binding_count_in s → get_or e.tenants i 0 ≡ be_at s (binding_start s i + 10) 2

-- ---- saving: 0, 18 or 21

pub record SaveRule (e : Endpoint) (output : List ℕ) (v : SaveValues) (output' : List ℕ) : Type 0 where
  pub number : v.number ≡ numbered (save_rows e output)
  -- 0: the image of the configuration stands at the front, and its length is told
  pub saved : v.number ≡ 0 → (v.length_is ≡ length (image_of (config_of e))) × (take v.length_is output' ≡ image_of (config_of e))
  pub refused : v.number ≢ 0 → (output' ≡ output) × (v.length_is ≡ 0)
  -- only the image's bytes change
  pub size : length output' ≡ length output
  pub beyond : (i : ℕ) → v.length_is ≤ i → get_or output' i 0 ≡ get_or output i 0

-- ---- loading: 0 or 24

pub record LoadRule (s : List ℕ) (number : ℕ) (e : Endpoint) : Type 0 where
  pub is : number ≡ numbered (load_rows s)
  -- EXACT: accepted is what saving some set-up gives, all of that and nothing else
  pub exact : IfAndOnlyIf (number ≡ 0) (SavedFrom s)
  -- and what is given is that set-up
  pub set_up_from : (f : SavedFrom s) → e ≡ set_up f.own f.port f.mtu f.adds
  -- read at the places of Table.antt
  pub fields : number ≡ 0 → FieldsOf s e
  -- saving it gives the bytes back
  pub back : number ≡ 0 → (e.port ≢ 0) × (image_of (config_of e) ≡ s)
  -- 24: every number is 0, as after a refused start
  pub bad : number ≢ 0 → Blank 0 0 0 e
  -- it came from the calls: what is promised of such an endpoint, as in demands 1 and 2, holds of it
  pub reached : number ≡ 0 → Reached e
  -- DEMAND 3 holds of it: a load starts a new run
  pub claims : number ≡ 0 → (p : ℕ) → p < 8 → Claim answers Config layers (ends_of e) p
  pub every : number ≡ 0 → (p : ℕ) → p < 8 → EveryRun answers Config layers p (ends_of e)

-- ---- THE STATEMENT: of every endpoint, output and image

pub record Images : Type 0 where
  pub save : (e : Endpoint) (output : List ℕ)
      → SaveRule e output (save_values_of (save_of (config_of e) output).answer) (save_of (config_of e) output).output
  pub most : (e : Endpoint) → length (image_of (config_of e)) ≤ 815
  pub load : (s : List ℕ) → Bytes s → LoadRule s (load_code (load_of s).answer) (load_of s).endpoint
  -- saved, then loaded: an endpoint that came from the calls and was started, frames pending or not, is the same with every slot free
  pub same : (e : Endpoint) → Reached e → e.port ≢ 0
      → (load_code (load_of (image_of (config_of e))).answer ≡ 0) × Freed e (load_of (image_of (config_of e))).endpoint
  -- a set-up has every slot free: it is the same
  pub same_set_up : (own port mtu : ℕ) (adds : List Adding) → AllTyped (map add adds) → start_code (start_of own port mtu).answer ≡ 0
      → (load_of (image_of (config_of (set_up own port mtu adds)))).endpoint ≡ set_up own port mtu adds
  -- and the form, byte by byte
  pub worked : WorkedImage
