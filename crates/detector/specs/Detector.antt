-- A detector and what observing gives (document 02, §1), for every state and all numbers that a call is given.
use Rattle.std.specs.Prelude.{ℕ, ◌+◌, Bool, cond, ◌&&◌, ◌==◌, List, get_or, set, take, zip, replicate, min, leb, eqb}
use Rattle.std.proofs.Math.Option.{Option, none, some}
use Rattle.lookup.specs.Search.{lowest}
use Rattle.detector.specs.declared.detector.Detector.{Detector}
use Rattle.detector.specs.declared.observe.Observation.{Observation}
use Rattle.detector.specs.declared.observe.Observed.{Observed}
use Rattle.detector.specs.declared.observe.Observed.TheVariants as O

-- ---- need not be believed: what a call gives. `Detects` (Detects.antt) says it of every list of calls, from the calls alone, in plain numbers

-- how many entries are kept at most
abbrev pub most_entries : ℕ
most_entries = 128

-- an answer in numbers; only a duplicate names a peer
abbrev pub observation_of : Observed → Observation
observation_of O.New = record { answer = 0; peer = 0xFFFF }
observation_of O.Known = record { answer = 1; peer = 0xFFFF }
observation_of (O.Duplicate first) = record { answer = 2; peer = first }
observation_of O.Full = record { answer = 3; peer = 0xFFFF }

abbrev pub detector_of : (addresses tenants peers : List ℕ) (count : ℕ) → Detector
detector_of addresses tenants peers count = record { addresses = addresses; tenants = tenants; peers = peers; count = count }

unfoldable pub empty : Detector
empty = detector_of (replicate most_entries 0) (replicate most_entries 0) (replicate most_entries 0) 0

-- how many entries are looked at: all that are kept. No call leaves a count above the limit
abbrev pub kept_of : ℕ → ℕ
kept_of count = min count most_entries

-- entry i has this tenant and address
unfoldable pub is_entry : (addresses tenants : List ℕ) (tenant address : ℕ) → ℕ → Bool
is_entry addresses tenants tenant address i = eqb (get_or addresses i 0) address && eqb (get_or tenants i 0) tenant

-- the same in std's words: the entries that are kept, with address and tenant, and that one has these
abbrev pub pairs_of : Detector → List (ℕ × ℕ)
pairs_of d = zip (take (kept_of d.count) d.addresses) (take (kept_of d.count) d.tenants)

abbrev pub has : (tenant address : ℕ) → ℕ × ℕ → Bool
has tenant address x = (x.0 == address) && (x.1 == tenant)

-- the entry of a tenant and an address
unfoldable pub entry_for : Detector → (tenant address : ℕ) → Option ℕ
entry_for d tenant address = lowest (is_entry d.addresses d.tenants tenant address) (kept_of d.count)

-- listed with the peer `first`, and shown by `peer`
unfoldable pub judged : (first peer : ℕ) → Observation
judged first peer = cond (eqb first peer) (observation_of O.Known) (observation_of (O.Duplicate first))

-- entry number n gets these, and the count is n + 1
unfoldable pub with_entry : Detector → (n tenant peer address : ℕ) → Detector
with_entry d n tenant peer address = detector_of (set d.addresses n address) (set d.tenants n tenant) (set d.peers n peer) (n + 1)

-- the detector that a call leaves, and what it answers
pub record ObserveResult : Type 0 where
  pub detector : Detector
  pub answer : Observation

module _ (d : Detector) (tenant peer address : ℕ) where
  unfoldable pub given : Option ℕ → ObserveResult
  given (some i) = record { detector = d; answer = judged (get_or d.peers i 0) peer }
  given none =
      cond (leb most_entries d.count)
      (record { detector = d; answer = observation_of O.Full })
      (record { detector = with_entry d d.count tenant peer address; answer = observation_of O.New })

  unfoldable pub observe_of : ObserveResult
  observe_of = given (entry_for d tenant address)
