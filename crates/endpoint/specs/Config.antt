-- The configuration (document 01, "Listing and numbers"): settings, peers and bindings, and the calls that make it.
use Rattle.std.specs.Prelude.{ℕ, ◌+◌, ◌/◌, ◌^◌, min, Bool, true, false, not, ◌&&◌, ◌||◌, List, [], ◌∷◌, ◌++◌, map, get_or, set, take, replicate, ltb, leb, eqb}
use Rattle.std.specs.Prelude.{Result, Ok, Err}
use Rattle.std.proofs.Math.Option.{Option, none, some}
use Rattle.wire.specs.Checks.{Check, ◌⇒◌, first}
use Rattle.reassembly.specs.Slots.{most_peers, free_peer, older_row}
use Rattle.reassembly.specs.declared.slot.Peer.{Peer}
use Rattle.endpoint.specs.Search.{lowest}
use Rattle.endpoint.specs.declared.answer.ConfigRefusal.{ConfigRefusal}
use Rattle.endpoint.specs.declared.answer.ConfigRefusal.TheVariants as C
use Rattle.endpoint.specs.declared.config.Endpoint.{Endpoint}
use Rattle.endpoint.specs.declared.config.StartResult.{StartResult}

-- ---- the configuration that an endpoint holds: all of it but the rows of slots

pub record Config : Type 0 where
  pub own : ℕ
  pub port : ℕ
  pub mtu : ℕ
  pub addresses : List ℕ
  pub peers : ℕ  -- how many are listed
  pub owners : List ℕ  -- of binding i: the peer's number
  pub kinds : List ℕ  -- 1 VXLAN, 2 NVGRE, 3 STT
  pub networks : List ℕ
  pub tenants : List ℕ
  pub bindings : ℕ  -- how many are listed

-- how many bindings may be listed
-- Open: a numeral
abbrev pub most_bindings : ℕ
most_bindings = 64

unfoldable pub config_of : Endpoint → Config
config_of e = record {
  own = e.own;
  port = e.port;
  mtu = e.mtu;
  addresses = e.addresses;
  peers = min e.peer_count most_peers;
  owners = e.owners;
  kinds = e.kinds;
  networks = e.networks;
  tenants = e.tenants;
  bindings = min e.binding_count most_bindings;
}

-- ---- need not be believed: an endpoint with one part changed, or without its rows

-- the endpoint with these rows, and all else as it is
-- Open: a record with one entry changed
abbrev pub with_rows : Endpoint → List Peer → Endpoint
with_rows e l = record {
  networks = e.networks;
  peers = l;
  addresses = e.addresses;
  own = e.own;
  tenants = e.tenants;
  port = e.port;
  mtu = e.mtu;
  peer_count = e.peer_count;
  binding_count = e.binding_count;
  kinds = e.kinds;
  owners = e.owners;
}

-- an endpoint with these columns and settings, and no rows
unfoldable pub lent : (networks kinds owners tenants addresses : List ℕ) (own port mtu peers bindings : ℕ) → Endpoint
lent networks kinds owners tenants addresses own port mtu peers bindings = record {
  networks = networks;
  peers = [];
  addresses = addresses;
  own = own;
  tenants = tenants;
  port = port;
  mtu = mtu;
  peer_count = peers;
  binding_count = bindings;
  kinds = kinds;
  owners = owners;
}

-- ---- a peer of the listing

-- the address of peer number i
unfoldable pub address_at : Endpoint → ℕ → ℕ
address_at e i = get_or e.addresses i 0

-- ---- need not be believed: lookups. The lowest-numbered one that matches

-- number i of these addresses is this one
unfoldable pub has_address : (addresses : List ℕ) (address : ℕ) → ℕ → Bool
has_address addresses address i = eqb (get_or addresses i 0) address

unfoldable pub find_peer : Config → ℕ → Option ℕ
find_peer c address = lowest (has_address c.addresses address) c.peers

-- number i of these bindings has this network, kind and peer
unfoldable pub binds : (networks kinds owners : List ℕ) (peer kind network : ℕ) → ℕ → Bool
binds networks kinds owners peer kind network i = eqb (get_or networks i 0) network && (eqb (get_or kinds i 0) kind && eqb (get_or owners i 0) peer)

unfoldable pub find_binding : Config → (peer kind network : ℕ) → Option ℕ
find_binding c peer kind network = lowest (binds c.networks c.kinds c.owners peer kind network) c.bindings

abbrev pub is_some : Option ℕ → Bool
is_some none = false
is_some (some i) = true

-- ---- need not be believed: is some check met, whichever it is

abbrev pub any_met : {R : Type 0} → List (Check R) → Bool
any_met [] = false
any_met ((test ⇒ r) ∷ checks) = test || any_met checks

-- ---- need not be believed: start

-- Open: a short name
abbrev pub free_row : Peer
free_row = free_peer

-- an endpoint with these settings, no listing, and every slot free
unfoldable pub fresh : (own port mtu : ℕ) → Endpoint
fresh own port mtu = record {
  networks = replicate most_bindings 0;
  peers = replicate most_peers free_row;
  addresses = replicate most_peers 0;
  own = own;
  tenants = replicate most_bindings 0;
  port = port;
  mtu = mtu;
  peer_count = 0;
  binding_count = 0;
  kinds = replicate most_bindings 0;
  owners = replicate most_bindings 0;
}

-- an address whose first byte is 0, or 224 or more, is refused
abbrev pub address_checks : ℕ → List (Check ConfigRefusal)
address_checks address =
    (eqb (address / 2 ^ 24) 0 ⇒ C.OutOfRange)
    ∷ (leb 224 (address / 2 ^ 24) ⇒ C.OutOfRange)
    ∷ []

unfoldable pub start_checks : (own port mtu : ℕ) → List (Check ConfigRefusal)
start_checks own port mtu =
    address_checks own
    ++ ((eqb port 0 ⇒ C.OutOfRange)
    ∷ (ltb 65535 port ⇒ C.OutOfRange)
    ∷ (ltb mtu 576 ⇒ C.OutOfRange)
    ∷ (ltb 1600 mtu ⇒ C.OutOfRange)
    ∷ [])

-- a refused start gives every number 0
abbrev pub refused_start : ConfigRefusal → StartResult
refused_start r = record { endpoint = fresh 0 0 0; answer = Err r }

unfoldable pub start_of : (own port mtu : ℕ) → StartResult
start_of own port mtu = first refused_start (start_checks own port mtu) (record { endpoint = fresh own port mtu; answer = Ok tt })

-- ---- need not be believed: adding: 18, 19, 20 in this order; a refusal changes nothing

-- what an adding call leaves and answers: the number of the new peer or binding
pub record AddResult : Type 0 where
  pub endpoint : Endpoint
  pub answer : Result ℕ ConfigRefusal

abbrev pub refused_add : Endpoint → ConfigRefusal → AddResult
refused_add e r = record { endpoint = e; answer = Err r }

unfoldable pub add_peer_checks : Endpoint → (address : ℕ) → List (Check ConfigRefusal)
add_peer_checks e address =
    (eqb e.port 0 ⇒ C.OutOfRange)  -- a refused start
    ∷ (address_checks address
    ++ ((eqb address e.own ⇒ C.OutOfRange)
    ∷ (is_some (find_peer (config_of e) address) ⇒ C.AlreadyListed)
    ∷ (leb most_peers e.peer_count ⇒ C.Full)
    ∷ []))

-- 18: is it none that may be a peer
abbrev pub bad_peer : Endpoint → (address : ℕ) → Bool
bad_peer e address = any_met (take 4 (add_peer_checks e address))

-- peer number n gets this address; its row stays
unfoldable pub with_address : Endpoint → ℕ → ℕ → Endpoint
with_address e n address = record {
  networks = e.networks;
  peers = e.peers;
  addresses = set e.addresses n address;
  own = e.own;
  tenants = e.tenants;
  port = e.port;
  mtu = e.mtu;
  peer_count = n + 1;
  binding_count = e.binding_count;
  kinds = e.kinds;
  owners = e.owners;
}

unfoldable pub add_peer_of : Endpoint → (address : ℕ) → AddResult
add_peer_of e address =
    first (refused_add e) (add_peer_checks e address)
    (record { endpoint = with_address e e.peer_count address; answer = Ok e.peer_count })

-- the ids of a kind: VXLAN 0 to 16,777,215, NVGRE 4,096 to 16,777,214 (RFC 7637, 3.4), STT any 64-bit Context ID
unfoldable pub is_network : (kind network : ℕ) → Bool
is_network kind network =
    (eqb kind 1 && ltb network 16777216)
    || ((eqb kind 2 && (leb 4096 network && ltb network 16777215))
    || eqb kind 3)

unfoldable pub add_binding_checks : Endpoint → (peer kind network tenant : ℕ) → List (Check ConfigRefusal)
add_binding_checks e peer kind network tenant =
    (leb (config_of e).peers peer ⇒ C.OutOfRange)
    ∷ (not (is_network kind network) ⇒ C.OutOfRange)
    ∷ (ltb 65535 tenant ⇒ C.OutOfRange)
    ∷ (is_some (find_binding (config_of e) peer kind network) ⇒ C.AlreadyListed)
    ∷ (leb most_bindings e.binding_count ⇒ C.Full)
    ∷ []

-- 18: is it none that may be a binding
abbrev pub bad_binding : Endpoint → (peer kind network tenant : ℕ) → Bool
bad_binding e peer kind network tenant = any_met (take 3 (add_binding_checks e peer kind network tenant))

unfoldable pub with_binding : Endpoint → (n peer kind network tenant : ℕ) → Endpoint
with_binding e n peer kind network tenant = record {
  networks = set e.networks n network;
  peers = e.peers;
  addresses = e.addresses;
  own = e.own;
  tenants = set e.tenants n tenant;
  port = e.port;
  mtu = e.mtu;
  peer_count = e.peer_count;
  binding_count = n + 1;
  kinds = set e.kinds n kind;
  owners = set e.owners n peer;
}

unfoldable pub add_binding_of : Endpoint → (peer kind network tenant : ℕ) → AddResult
add_binding_of e peer kind network tenant =
    first (refused_add e) (add_binding_checks e peer kind network tenant)
    (record { endpoint = with_binding e e.binding_count peer kind network tenant; answer = Ok e.binding_count })

-- ---- need not be believed: a tick (document 01, "Reassembly memory"). Every pending frame grows older by 1, and those that reach 4 are freed. It changes
-- nothing else, and always succeeds

-- what a tick leaves, and its answer
pub record TickResult : Type 0 where
  pub endpoint : Endpoint
  pub answer : Unit {0}

unfoldable pub tick_of : Endpoint → TickResult
tick_of e = record { endpoint = with_rows e (map older_row e.peers); answer = tt }

-- ---- a set-up is what a start and any adding calls leave, refused ones too (document 01, "Whose packet it is")

pub data Adding : Type 0 where
  add_peer : (address : ℕ) → Adding
  add_binding : (peer kind network tenant : ℕ) → Adding

unfoldable pub added : Endpoint → Adding → Endpoint
added e (add_peer address) = (add_peer_of e address).endpoint
added e (add_binding peer kind network tenant) = (add_binding_of e peer kind network tenant).endpoint

unfoldable pub added_all : Endpoint → List Adding → Endpoint
added_all e [] = e
added_all e (call ∷ calls) = added_all (added e call) calls

unfoldable pub set_up : (own port mtu : ℕ) → List Adding → Endpoint
set_up own port mtu calls = added_all (start_of own port mtu).endpoint calls
