-- A save, whole: its answer and the output that it leaves.
use Rattle.std.specs.Prelude.{ℕ, List, [], ◌∷◌, length, get_or, ltb, eqb, Result, Ok, Err}
use Rattle.wire.specs.Bytes.{be, ◌then◌, wrote}
use Rattle.wire.specs.Checks.{Check, ◌⇒◌, first}
use Rattle.endpoint.specs.Config.{Config}
use Rattle.image.specs.Image.{Version, Binding, letters, image_of}
use Rattle.image.specs.declared.answer.SaveRefusal.{SaveRefusal}
use Rattle.image.specs.declared.answer.SaveRefusal.TheVariants as X

-- ---- need not be believed: Images.antt says what is answered and what is left (`SaveRule`)

pub record SaveResult : Type 0 where
  pub answer : Result ℕ SaveRefusal
  pub output : List ℕ

-- the STT port of a refused start is 0
unfoldable pub save_checks : Config → (output : List ℕ) → List (Check SaveRefusal)
save_checks c output =
    (eqb c.port 0 ⇒ X.NotStarted)
    ∷ (ltb (length output) (length (image_of c)) ⇒ X.OutputTooShort)
    ∷ []

unfoldable pub not_saved : (output : List ℕ) → SaveRefusal → SaveResult
not_saved output r = record { answer = Err r; output = output }

unfoldable pub save_of : Config → (output : List ℕ) → SaveResult
save_of c output =
    first (not_saved output) (save_checks c output) (record { answer = Ok (length (image_of c)); output = wrote output (image_of c) })

-- ---- need not be believed: its parts, as the functions write them

-- an image's first 13 bytes
unfoldable pub settings_of : Version → (own port mtu : ℕ) → List ℕ
settings_of v own port mtu = be 3 letters then be 2 v.number then be 4 own then be 2 port then be 2 mtu

-- a binding, and binding number i of these columns
unfoldable pub binding_in : (owner kind network tenant : ℕ) → Binding
binding_in owner kind network tenant = record { peer = owner; kind = kind; id = network; tenant = tenant }

unfoldable pub binding_entry : (networks kinds owners tenants : List ℕ) → ℕ → Binding
binding_entry networks kinds owners tenants i = binding_in (get_or owners i 0) (get_or kinds i 0) (get_or networks i 0) (get_or tenants i 0)
