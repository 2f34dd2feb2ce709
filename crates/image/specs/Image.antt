-- THE SETTINGS IMAGE (document 02, §3): its form, and the image of a configuration.
use Rattle.std.specs.Prelude.{ℕ, List, [], ◌∷◌, length, get_or}
use Rattle.wire.specs.Bytes.{be, ◌then◌}
use Rattle.reassembly.specs.Base.{table}
use Rattle.endpoint.specs.Config.{Config}

-- ---- the form

-- a binding: the number of its peer, 1 VXLAN, 2 NVGRE or 3 STT, the network id, the tenant (document 02: bench)
pub record Binding : Type 0 where
  pub peer : ℕ
  pub kind : ℕ
  pub id : ℕ
  pub tenant : ℕ

-- what an image tells: a peer is its address
pub record Contents : Type 0 where
  pub own : ℕ
  pub port : ℕ
  pub mtu : ℕ
  pub peers : List ℕ
  pub bindings : List Binding

-- what a version fixes: its number, and how many bytes the count of bindings has
pub record Version : Type 0 where
  pub number : ℕ
  pub count_bytes : ℕ

unfoldable pub version1 : Version
version1 = record { number = 1; count_bytes = 1 }

-- one row after the other
unfoldable pub rows : {A : Type 0} → (A → List ℕ) → List A → List ℕ
rows row [] = []
rows row (x ∷ xs) = row x then rows row xs

unfoldable pub peer_row : ℕ → List ℕ
peer_row address = be 4 address

unfoldable pub binding_row : Binding → List ℕ
binding_row b =
    be 1 b.peer
    then be 1 b.kind
    then be 8 b.id
    then be 2 b.tenant

-- TWN, big-endian
unfoldable pub letters : ℕ
letters = 0x54574E

unfoldable pub image : Version → Contents → List ℕ
image v i =
    be 3 letters
    then be 2 v.number
    then be 4 i.own
    then be 2 i.port
    then be 2 i.mtu
    then be 1 (length i.peers)
    then rows peer_row i.peers
    then be v.count_bytes (length i.bindings)
    then rows binding_row i.bindings

-- ---- what a configuration lists: `table n x` is x 0, x 1, .. x (n - 1)

-- binding number i
unfoldable pub binding_at : Config → ℕ → Binding
binding_at c i = record { peer = get_or c.owners i 0; kind = get_or c.kinds i 0; id = get_or c.networks i 0; tenant = get_or c.tenants i 0 }

unfoldable pub contents_of : Config → Contents
contents_of c = record {
  own = c.own;
  port = c.port;
  mtu = c.mtu;
  peers = table c.peers (λ i. get_or c.addresses i 0);
  bindings = table c.bindings (binding_at c);
}

-- the image that a save of this configuration writes
unfoldable pub image_of : Config → List ℕ
image_of c = image version1 (contents_of c)
