-- THE DETECTOR'S PROMISE (document 02, §1, where it is the twin finder): over every list of calls from an empty detector, what each is answered and what is
-- kept, told from the calls before it alone. Only definitions; `Detects`, at the end, is THE STATEMENT, proved in Laws/Detects (`detects`). The contracts
-- (src/detector.rt) say that the calls are `empty` and `observe_of`, for every detector.
use Rattle.std.specs.Prelude.{ℕ, ◌-◌, ◌<◌, ◌≤◌, ◌≡◌, ◌↔◌, ◌≢◌, Bool, false, not, cond, ◌&&◌, ◌||◌, List, [], ◌∷◌, ◌++◌, map, length, get_or, replicate, ltb}
use Rattle.std.specs.Prelude.{eqb}
use Rattle.detector.specs.Detector.{empty, observe_of}
use Rattle.detector.specs.declared.detector.Detector.{Detector}
use Rattle.detector.specs.declared.observe.Observation.{Observation}

-- ---- the calls

-- a delivered frame: its tenant, the peer that it came from, its source address
pub record Call : Type 0 where
  pub tenant : ℕ
  pub peer : ℕ
  pub address : ℕ

-- the detector that these calls leave, and what one more is answered. The list begins with the latest call; the earliest, at its end, was made on an empty
-- detector
unfoldable pub left : List Call → Detector
left [] = empty
left (c ∷ before) = (observe_of (left before) c.tenant c.peer c.address).detector

unfoldable pub answered : List Call → Call → Observation
answered before c = (observe_of (left before) c.tenant c.peer c.address).answer

-- ---- the entries, from the calls alone

-- two calls agree in tenant and address
unfoldable pub same : Call → Call → Bool
same b c = eqb b.tenant c.tenant && eqb b.address c.address

-- some call before had c's tenant and address
unfoldable pub shown : List Call → Call → Bool
shown [] c = false
shown (b ∷ before) c = same b c || shown before c

-- the calls that made an entry, by its number: the first of its tenant and address, as long as fewer than 128 had made one
unfoldable pub entries : List Call → List Call
entries [] = []
entries (c ∷ before) = cond (not (shown before c) && ltb (length (entries before)) 128) (entries before ++ (c ∷ [])) (entries before)

-- entry i, and that it has c's tenant and address
abbrev pub entry : List Call → ℕ → Call
entry l i = get_or l i (record { tenant = 0; peer = 0; address = 0 })

pub record Lists (l : List Call) (c : Call) (i : ℕ) : Type 0 where
  pub below : i < length l
  pub tenant : (entry l i).tenant ≡ c.tenant
  pub address : (entry l i).address ≡ c.address

-- ---- the answers, with the entries l

-- by number; only a duplicate (document 02: twin) names a peer
abbrev pub new : Observation
new = record { answer = 0; peer = 0xFFFF }

abbrev pub known : Observation
known = record { answer = 1; peer = 0xFFFF }

abbrev pub duplicate : (first : ℕ) → Observation
duplicate first = record { answer = 2; peer = first }

abbrev pub full : Observation
full = record { answer = 3; peer = 0xFFFF }

pub record Told (l : List Call) (c : Call) (a : Observation) : Type 0 where
  -- an entry has all three
  pub is_known : (a ≡ known) ↔ (i : ℕ) × (Lists l c i × ((entry l i).peer ≡ c.peer))
  -- an entry has tenant and address, and is another peer's: that one is named, whoever else showed them since
  pub is_duplicate : (first : ℕ) → (a ≡ duplicate first) ↔ (i : ℕ) × (Lists l c i × (((entry l i).peer ≡ first) × (first ≢ c.peer)))
  -- no entry has tenant and address: with 128 entries full, with fewer new
  pub is_full : (a ≡ full) ↔ ((i : ℕ) → Lists l c i → ⊥) × (length l ≡ 128)
  pub is_new : (a ≡ new) ↔ ((i : ℕ) → Lists l c i → ⊥) × (length l < 128)

-- ---- the state, with the entries l

-- these numbers, and 0 behind them
abbrev pub column : List ℕ → List ℕ
column l = l ++ replicate (128 - length l) 0

pub record Holds (l : List Call) (d : Detector) : Type 0 where
  pub addresses : d.addresses ≡ column (map (λ (c : Call). c.address) l)
  pub tenants : d.tenants ≡ column (map (λ (c : Call). c.tenant) l)
  pub peers : d.peers ≡ column (map (λ (c : Call). c.peer) l)
  pub count : d.count ≡ length l

-- ---- THE STATEMENT

pub record Detects : Type 0 where
  -- every answer, and the whole state, from the entries that the calls before have made
  pub answers : (before : List Call) (c : Call) → Told (entries before) c (answered before c)
  pub state : (before : List Call) → Holds (entries before) (left before)
  -- at most 128, and no two of one tenant and address
  pub few : (before : List Call) → length (entries before) ≤ 128
  pub distinct : (before : List Call) (c : Call) (i j : ℕ) → Lists (entries before) c i → Lists (entries before) c j → i ≡ j
  -- new makes an entry, behind those that are there
  pub made : (before : List Call) (c : Call) → answered before c ≡ new → entries (c ∷ before) ≡ entries before ++ (c ∷ [])
  -- only new does: any other answer changes nothing, of any detector; and one that keeps 128 or more, however it came to be, gets no new entry
  pub unchanged : (d : Detector) (tenant peer address : ℕ) → (observe_of d tenant peer address).answer ≢ new → (observe_of d tenant peer address).detector ≡ d
  pub overfull : (d : Detector) (tenant peer address : ℕ) → 128 ≤ d.count → (observe_of d tenant peer address).answer ≢ new
