-- A load, whole: the test of the image's frame, then the start and the adding calls that its numbers stand for. Any refusal is a bad image.
use Rattle.std.specs.Prelude.{ℕ, ◌+◌, ◌*◌, Bool, ◌&&◌, List, length, eqb, Ok, Err}
use Rattle.std.proofs.Math.Option.{Option, none, some}
use Rattle.wire.specs.Checks.{pick}
use Rattle.wire.specs.Field.{field}
use Rattle.endpoint.specs.Config.{fresh, Adding, add_peer, add_binding}
use Rattle.endpoint.specs.Relist.{started_by, relisted}
use Rattle.endpoint.specs.declared.config.Endpoint.{Endpoint}
use Rattle.image.specs.Image.{letters, Version, version1}
use Rattle.image.specs.declared.answer.LoadResult.{LoadResult}

-- ---- need not be believed: Images.antt says which images are accepted and what is given (`LoadRule`)

module _ (v : Version) (s : List ℕ) where
  -- how many peers there are, where the count of bindings is, how many there are, and where they begin
  unfoldable pub peers_in : ℕ
  peers_in = field s 13 1

  unfoldable pub count_at : ℕ
  count_at = 14 + peers_in * 4

  unfoldable pub bindings_in : ℕ
  bindings_in = field s count_at v.count_bytes

  unfoldable pub bindings_at : ℕ
  bindings_at = count_at + v.count_bytes

  unfoldable pub framed : Bool
  framed = eqb (field s 0 3) letters && (eqb (field s 3 2) v.number && eqb (length s) (bindings_at + bindings_in * 12))

-- the adding call that a peer or a binding stands for
unfoldable pub peer_call : List ℕ → ℕ → Adding
peer_call s i = add_peer (field s (14 + i * 4) 4)

unfoldable pub binding_call : (s : List ℕ) (at : ℕ) → ℕ → Adding
binding_call s at i = add_binding (field s (at + i * 12) 1) (field s (at + i * 12 + 1) 1) (field s (at + i * 12 + 2) 8) (field s (at + i * 12 + 10) 2)

-- one step, where the steps before it were accepted
unfoldable pub and_then : Option Endpoint → (Endpoint → Option Endpoint) → Option Endpoint
and_then none next = none
and_then (some e) next = next e

-- the endpoint that the calls make of this one, where none is refused
unfoldable pub listed_in : Version → List ℕ → Endpoint → Option Endpoint
listed_in v s e = and_then (relisted (peer_call s) (peers_in v s) e) (relisted (binding_call s (bindings_at v s)) (bindings_in v s))

-- start and calls
unfoldable pub rebuilt : Version → List ℕ → Option Endpoint
rebuilt v s = and_then (started_by (field s 5 4) (field s 9 2) (field s 11 2)) (listed_in v s)

-- of a bad image the endpoint of a refused start
unfoldable pub bad_image : LoadResult
bad_image = record { endpoint = fresh 0 0 0; answer = Err (record {}) }

unfoldable pub loaded_of : Option Endpoint → LoadResult
loaded_of none = bad_image
loaded_of (some e) = record { endpoint = e; answer = Ok tt }

unfoldable pub load_of : List ℕ → LoadResult
load_of s = pick (framed version1 s) (loaded_of (rebuilt version1 s)) bad_image
