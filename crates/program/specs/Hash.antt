-- The hash of the test runs (host/README.md): h := 0, then for each byte h := 31 h + byte + 1, modulo 2^32.
use Rattle.std.specs.Prelude.{ℕ, ◌+◌, ◌*◌, ◌%◌, ◌^◌, List}
use Rattle.std.specs.List.{fold}

-- ---- need not be believed: the programs' test runs alone use it

abbrev pub step : ℕ → ℕ → ℕ
step h byte = ((h * 31 % 2 ^ 32 + byte) % 2 ^ 32 + 1) % 2 ^ 32

-- of these bytes, behind those whose hash is h
abbrev pub hashed : ℕ → List ℕ → ℕ
hashed h bytes = fold step h bytes
