-- THE NUMBERED TABLE of the two calls (document 02, §3): for each its rows, a condition and the number that it gives, in the paper's order. Compare them with
-- the paper line by line. A condition speaks of the endpoint's numbers, the output's length and the bytes of the image; nothing of the functions stands here.
use Rattle.std.specs.Prelude.{ℕ, ◌+◌, ◌*◌, Bool, ◌&&◌, ◌||◌, List, [], ◌∷◌, length}
use Rattle.wire.specs.Bytes.{be_at}
use Rattle.wire.specs.Table.{Rows, ◌⇒◌, ◌is◌, ◌isnt◌, ◌below◌, ◌above◌, ◌at_least◌}
use Rattle.reassembly.specs.Base.{some_below}
use Rattle.endpoint.specs.Table.{peers, bindings, bad_address, bad_id}
use Rattle.endpoint.specs.declared.config.Endpoint.{Endpoint}

-- ---- saving. The STT port of a refused start is 0

unfoldable pub save_rows : Endpoint → (output : List ℕ) → Rows
save_rows e output =
    (e.port is 0 ⇒ 18)
    ∷ (15 + peers e * 4 + bindings e * 12 above length output ⇒ 21)
    ∷ []

-- ---- loading

module _ (s : List ℕ) where
  -- how many peers and bindings the image counts; where binding i begins
  unfoldable pub peer_count_in : ℕ
  peer_count_in = be_at s 13 1

  unfoldable pub binding_count_in : ℕ
  binding_count_in = be_at s (14 + peer_count_in * 4) 1

  unfoldable pub binding_start : ℕ → ℕ
  binding_start i = 15 + peer_count_in * 4 + i * 12

  -- its own address; the address of peer i
  unfoldable pub own_address : ℕ
  own_address = be_at s 5 4

  unfoldable pub peer_address : ℕ → ℕ
  peer_address i = be_at s (14 + i * 4) 4

  -- peer i is no host's address, is our own, or stands there already
  unfoldable pub bad_peer : ℕ → Bool
  bad_peer i = bad_address (peer_address i) || peer_address i is own_address || some_below i (λ j. peer_address j is peer_address i)

  -- bindings i and j agree in peer, kind and id
  unfoldable pub same_binding : ℕ → ℕ → Bool
  same_binding i j =
      be_at s (binding_start j) 1 is be_at s (binding_start i) 1
      && be_at s (binding_start j + 1) 1 is be_at s (binding_start i + 1) 1
      && be_at s (binding_start j + 2) 8 is be_at s (binding_start i + 2) 8

  -- binding i is of no listed peer, has no id of its kind, or stands there already
  unfoldable pub bad_binding : ℕ → Bool
  bad_binding i =
      be_at s (binding_start i) 1 at_least peer_count_in
      || bad_id (be_at s (binding_start i + 1) 1) (be_at s (binding_start i + 2) 8)
      || some_below i (same_binding i)

  unfoldable pub load_rows : Rows
  load_rows =
      (length s below 15 ⇒ 24)
      ∷ (be_at s 0 3 isnt 0x54574E ⇒ 24)  -- TWN
      ∷ (be_at s 3 2 isnt 1 ⇒ 24)  -- the version
      ∷ (length s isnt 15 + peer_count_in * 4 + binding_count_in * 12 ⇒ 24)  -- cut off, or something behind it
      ∷ (bad_address own_address ⇒ 24)
      ∷ (be_at s 9 2 is 0 ⇒ 24)  -- the STT port
      ∷ (be_at s 11 2 below 576 || be_at s 11 2 above 1600 ⇒ 24)  -- the MTU
      ∷ (peer_count_in above 8 || binding_count_in above 64 ⇒ 24)
      ∷ (some_below peer_count_in bad_peer ⇒ 24)
      ∷ (some_below binding_count_in bad_binding ⇒ 24)
      ∷ []
