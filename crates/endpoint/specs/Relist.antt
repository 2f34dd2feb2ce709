-- A start, and adding calls made one after the other up to the first that is refused: what loads an image (document 02, §3).
use Rattle.std.specs.Prelude.{ℕ, zero, suc, get_or, Result, Ok, Err}
use Rattle.std.proofs.Math.Option.{Option, none, some}
use Rattle.endpoint.specs.Config.{Config, start_of, add_peer_of, add_binding_of, Adding, add_peer, add_binding}
use Rattle.endpoint.specs.declared.config.Endpoint.{Endpoint}
use Rattle.endpoint.specs.declared.answer.ConfigRefusal.{ConfigRefusal}

-- ---- need not be believed: all of it, since what a load gives is told without it (crate image, specs/Images.antt)

-- the endpoint, where the answer is no refusal
unfoldable pub if_started : Result (Unit {0}) ConfigRefusal → Endpoint → Option Endpoint
if_started (Ok done) e = some e
if_started (Err r) e = none

unfoldable pub if_added : Result ℕ ConfigRefusal → Endpoint → Option Endpoint
if_added (Ok n) e = some e
if_added (Err r) e = none

unfoldable pub started_by : (own port mtu : ℕ) → Option Endpoint
started_by own port mtu = if_started (start_of own port mtu).answer (start_of own port mtu).endpoint

unfoldable pub added_by : Endpoint → Adding → Option Endpoint
added_by e (add_peer address) = if_added (add_peer_of e address).answer (add_peer_of e address).endpoint
added_by e (add_binding peer kind network tenant) = if_added (add_binding_of e peer kind network tenant).answer (add_binding_of e peer kind network tenant).endpoint

unfoldable pub added_to : Option Endpoint → Adding → Option Endpoint
added_to none a = none
added_to (some e) a = added_by e a

-- calls 0, 1, .. n - 1
unfoldable pub relisted : (calls : ℕ → Adding) (n : ℕ) → Endpoint → Option Endpoint
relisted calls zero e = some e
relisted calls (suc n) e = added_to (relisted calls n e) (calls n)

-- the calls that a configuration stands for: one for each peer, then one for each binding

unfoldable pub peer_of : Config → ℕ → Adding
peer_of c i = add_peer (get_or c.addresses i 0)

unfoldable pub binding_of : Config → ℕ → Adding
binding_of c i = add_binding (get_or c.owners i 0) (get_or c.kinds i 0) (get_or c.networks i 0) (get_or c.tenants i 0)
