-- Laws of a save, as the functions come to them.
use Prim.Native.Nat.{ℕ, ◌+◌, ◌*◌, ◌<◌, ◌≤◌, min}
use Rattle.std.specs.Prelude.{◌≡◌, Result, Ok, Err}
use Rattle.std.proofs.Math.Path.{refl, sym, ap}
use Rattle.std.proofs.Common.{ap₂, subst, ◌∙◌}
use mathlib.Core.List.{List, [], ◌++◌, append_assoc, append-nil}
use native.Mathlib.Omega.{arith}
use Rattle.std.proofs.Math.ListN.{length, get_or, length-append}
use borrow.Author.Tests.{eq-eqb, ne_eqb, lt-ltb, le-ltb}
use Rattle.wire.specs.Bytes.{be, laid, wrote, ◌then◌}
use Rattle.wire.specs.Field.{entered}
use Rattle.wire.proofs.Laws.Bytes.{be-length, laid_more, wrote-first, wrote-more}
use Rattle.wire.proofs.Laws.Field.{entered_in}
use Rattle.wire.proofs.Laws.Checks.{At, given, decided}
use Rattle.reassembly.specs.Base.{table}
use Rattle.reassembly.proofs.Laws.Base.{length-table}
use Rattle.reassembly.specs.Slots.{most_peers}
use Rattle.endpoint.specs.Config.{Config, config_of, most_bindings}
use Rattle.endpoint.proofs.Laws.Config.{config_is}
use Rattle.endpoint.specs.declared.config.Endpoint.{Endpoint}
use Rattle.image.specs.Image.{version1, letters, rows, peer_row, binding_row, binding_at, image, contents_of, image_of}
use Rattle.image.proofs.Laws.Image.{rows_none, rows_next, rows-length, peer-length, binding_length}
use Rattle.image.specs.Save.{SaveResult, save_checks, not_saved, save_of, settings_of, binding_in, binding_entry}
use Rattle.image.specs.declared.answer.SaveRefusal.TheVariants as X
use Rattle.image.specs.declared.answer.SaveRefusal.{SaveRefusal}

settings_length : (own port mtu : ℕ) → length (settings_of version1 own port mtu) ≡ 13
unfolding settings_of version1
settings_length own port mtu =
    simp length-append (omega (arith, be-length 3 letters, be-length 2 1, be-length 4 own, be-length 2 port, be-length 2 mtu))

-- ---- the image, whole

module _ {A : Type 0} (row : A → List ℕ) (size : ℕ) (each : (x : A) → length (row x) ≡ size) (n : ℕ) (x : ℕ → A) where
  rows_up_to : length (rows row (table n x)) ≡ n * size
  rows_up_to = rows-length row size each (table n x) ∙ ap (λ (k : ℕ). k * size) (length-table n x)

  -- a count and the rows that it counts
  counted_length : length (be 1 n ++ rows row (table n x)) ≡ 1 + n * size
  counted_length = length-append (be 1 n) (rows row (table n x)) ∙ ap₂ (λ (a b : ℕ). a + b) (be-length 1 n) rows_up_to

-- settings, peers with their count, bindings with theirs
image-parts : (c : Config)
    → image_of c
    ≡ settings_of version1 c.own c.port c.mtu
    then (be 1 c.peers ++ rows peer_row (table c.peers (λ (i : ℕ). get_or c.addresses i 0)))
    then (be 1 c.bindings ++ rows binding_row (table c.bindings (binding_at c)))
unfolding image_of image contents_of settings_of version1
image-parts c =
    rw (length-table c.peers (λ (i : ℕ). get_or c.addresses i 0), length-table c.bindings (binding_at c)) (simp append_assoc)

pub image-length : (c : Config) → length (image_of c) ≡ 15 + 4 * c.peers + 12 * c.bindings
image-length c =
    let s : List ℕ = settings_of version1 c.own c.port c.mtu in
    let p : List ℕ = be 1 c.peers ++ rows peer_row (table c.peers (λ (i : ℕ). get_or c.addresses i 0)) in
    let b : List ℕ = be 1 c.bindings ++ rows binding_row (table c.bindings (binding_at c)) in
    ap length (image-parts c) ∙ length-append s (p ++ b) ∙ ap (λ (k : ℕ). length s + k) (length-append p b)
    ∙ omega (
      arith,
      settings_length c.own c.port c.mtu,
      counted_length peer_row 4 peer-length c.peers (λ (i : ℕ). get_or c.addresses i 0),
      counted_length binding_row 12 binding_length c.bindings (binding_at c),
    )

-- ---- writing on

-- one more piece behind what was laid
laid_on : (m o next a s : List ℕ) (at place : ℕ) → at ≤ length m → place ≡ at + length a → o ≡ laid m at a → next ≡ laid o place s
    → next ≡ laid m at (a ++ s)
laid_on m o next a s at place room p h k =
    k ∙ ap₂ (λ (l : List ℕ) (j : ℕ). laid l j s) h p ∙ laid_more m at a s room

-- n bytes are written from a place on, and nothing else is changed
record Laid (m : List ℕ) (at : ℕ) (o a : List ℕ) (n : ℕ) : Type 0 where
  wide : length a ≡ n
  same : length o ≡ length m
  is : o ≡ laid m at a

-- the first field, and a further one
field-first : (m o : List ℕ) (at w x : ℕ) → at + w ≤ length m → length o ≡ length m → o ≡ entered m at (be w x) → Laid m at o (be w x) w
field-first m o at w x room same h = record {
  wide = be-length w x;
  same = same;
  is = h ∙ entered_in m at (be w x) (omega (arith, be-length w x));
}

field_next : (m o next a : List ℕ) (at n place w x : ℕ) → Laid m at o a n → place ≡ at + n → place + w ≤ length m → length next ≡ length o
    → next ≡ entered o place (be w x) → Laid m at next (a ++ be w x) (n + w)
field_next m o next a at n place w x l p room same h = record {
  wide = length-append a (be w x) ∙ ap₂ (λ (j k : ℕ). j + k) l.wide (be-length w x);
  same = same ∙ l.same;
  is =
      laid_on m o next a (be w x) at place (omega arith) (p ∙ ap (λ (k : ℕ). at + k) (sym l.wide)) l.is
      (h ∙ entered_in o place (be w x) (omega (arith, l.same, be-length w x)));
}

-- letters, version and settings
pub settings_put : (own port mtu : ℕ) (m o1 o2 o3 o4 o5 : List ℕ) → 13 ≤ length m
    → length o1 ≡ length m → length o2 ≡ length o1 → length o3 ≡ length o2 → length o4 ≡ length o3 → length o5 ≡ length o4
    → o1 ≡ entered m 0 (be 3 0x54574E) → o2 ≡ entered o1 3 (be 2 1) → o3 ≡ entered o2 5 (be 4 own) → o4 ≡ entered o3 9 (be 2 port)
    → o5 ≡ entered o4 11 (be 2 mtu) → o5 ≡ wrote m (settings_of version1 own port mtu)
unfolding settings_of version1 letters
settings_put own port mtu m o1 o2 o3 o4 o5 room n1 n2 n3 n4 n5 h1 h2 h3 h4 h5 =
    let l1 = field-first m o1 0 3 0x54574E (omega arith) n1 h1 in
    let l2 = field_next m o1 o2 _ 0 3 3 2 1 l1 (omega arith) (omega arith) n2 h2 in
    let l3 = field_next m o2 o3 _ 0 5 5 4 own l2 (omega arith) (omega arith) n3 h3 in
    let l4 = field_next m o3 o4 _ 0 9 9 2 port l3 (omega arith) (omega arith) n4 h4 in
    let l5 = field_next m o4 o5 _ 0 11 11 2 mtu l4 (omega arith) (omega arith) n5 h5 in
    l5.is ∙ wrote-first m ((((be 3 0x54574E ++ be 2 1) ++ be 4 own) ++ be 2 port) ++ be 2 mtu) ∙ ap (wrote m) (simp append_assoc)

-- a binding
pub binding_put : (owner kind network tenant : ℕ) (m o1 o2 o3 o4 : List ℕ) (at : ℕ) → at + 12 ≤ length m
    → length o1 ≡ length m → length o2 ≡ length o1 → length o3 ≡ length o2 → length o4 ≡ length o3
    → o1 ≡ entered m at (be 1 owner) → o2 ≡ entered o1 (at + 1) (be 1 kind) → o3 ≡ entered o2 (at + 2) (be 8 network)
    → o4 ≡ entered o3 (at + 10) (be 2 tenant) → o4 ≡ laid m at (binding_row (binding_in owner kind network tenant))
unfolding binding_row binding_in
binding_put owner kind network tenant m o1 o2 o3 o4 at room n1 n2 n3 n4 h1 h2 h3 h4 =
    let l1 = field-first m o1 at 1 owner (omega arith) n1 h1 in
    let l2 = field_next m o1 o2 _ at 1 (at + 1) 1 kind l1 refl (omega arith) n2 h2 in
    let l3 = field_next m o2 o3 _ at 2 (at + 2) 8 network l2 refl (omega arith) n3 h3 in
    let l4 = field_next m o3 o4 _ at 10 (at + 10) 2 tenant l3 refl (omega arith) n4 h4 in
    l4.is ∙ ap (laid m at) (simp append_assoc)

-- ---- a count, and behind it one row after the other

module _ {A : Type 0} (row : A → List ℕ) (x : ℕ → A) (at : ℕ) where
  module _ (m o : List ℕ) (n : ℕ) (room : at + 1 ≤ length m) (h : o ≡ entered m at (be 1 n)) where
    count : o ≡ laid m at (be 1 n)
    count = h ∙ entered_in m at (be 1 n) (omega (arith, be-length 1 n))

    behind : (rest : List ℕ) → laid o (at + 1) rest ≡ laid m at (be 1 n ++ rest)
    behind rest = laid_on m o (laid o (at + 1) rest) (be 1 n) rest at (at + 1) (omega arith) (ap (λ (k : ℕ). at + k) (sym (be-length 1 n))) count refl

    -- no row yet, and all of them
    pub rows-begun : o ≡ laid o (at + 1) (rows row (table 0 x))
    rows-begun = count ∙ ap (laid m at) (sym (append-nil (be 1 n))) ∙ sym (behind []) ∙ ap (laid o (at + 1)) (sym (rows_none row x))

    pub rows-put : (next : List ℕ) (i : ℕ) → i ≡ n → next ≡ laid o (at + 1) (rows row (table i x)) → next ≡ laid m at (be 1 n ++ rows row (table n x))
    rows-put next i e k =
        k ∙ behind (rows row (table i x)) ∙ ap (λ (j : ℕ). laid m at (be 1 n ++ rows row (table j x))) e

  row_put : (size : ℕ) → ((y : A) → length (row y) ≡ size) → (m o next : List ℕ) (i place : ℕ) → at ≤ length m → place ≡ at + i * size
      → o ≡ laid m at (rows row (table i x)) → next ≡ laid o place (row (x i)) → next ≡ laid m at (rows row (table (i + 1) x))
  row_put size each m o next i place room p h k =
      laid_on m o next (rows row (table i x)) (row (x i)) at place room (p ∙ ap (λ (j : ℕ). at + j) (sym (rows_up_to row size each i x))) h k
      ∙ ap (laid m at) (sym (rows_next row i x))

pub peer-put : (addresses m o next : List ℕ) (i : ℕ) → 14 + i * 4 + 4 ≤ length m → length o ≡ length m
    → o ≡ laid m 14 (rows peer_row (table i (λ (j : ℕ). get_or addresses j 0)))
    → next ≡ entered o (14 + i * 4) (be 4 (get_or addresses i 0))
    → next ≡ laid m 14 (rows peer_row (table (i + 1) (λ (j : ℕ). get_or addresses j 0)))
unfolding peer_row
peer-put addresses m o next i room same h k =
    row_put peer_row (λ (j : ℕ). get_or addresses j 0) 14 4 peer-length m o next i (14 + i * 4) (omega arith) refl h
    (k ∙ entered_in o (14 + i * 4) (be 4 (get_or addresses i 0)) (omega (arith, be-length 4 (get_or addresses i 0))))

pub binding_row-put : (networks kinds owners tenants m o next : List ℕ) (at i : ℕ) → at ≤ length m
    → o ≡ laid m at (rows binding_row (table i (binding_entry networks kinds owners tenants)))
    → next ≡ laid o (at + i * 12) (binding_row (binding_in (get_or owners i 0) (get_or kinds i 0) (get_or networks i 0) (get_or tenants i 0)))
    → next ≡ laid m at (rows binding_row (table (i + 1) (binding_entry networks kinds owners tenants)))
unfolding binding_entry
binding_row-put networks kinds owners tenants m o next at i room h k =
    row_put binding_row (binding_entry networks kinds owners tenants) at 12 binding_length m o next i (at + i * 12) room refl h k

-- ---- a save, by its ways out

module _ (c : Config) (output : List ℕ) where
  -- a save gives this answer, and leaves this output
  -- Open: the two clauses of a contract
  abbrev pub Saves : Result ℕ SaveRefusal → List ℕ → Type 0
  Saves r out = (r ≡ (save_of c output).answer) × (out ≡ (save_of c output).output)

  accepted : SaveResult
  accepted = record { answer = Ok (length (image_of c)); output = wrote output (image_of c) }

  saves : (n : ℕ) → At (save_checks c output) n → (r : SaveResult) → given (not_saved output) (save_checks c output) accepted n ≡ r
      → Saves r.answer r.output
  unfolding save_of accepted
  saves n p r e =
      let k : save_of c output ≡ r = decided (not_saved output) (save_checks c output) accepted n p ∙ e in
      (sym (ap (λ (x : SaveResult). x.answer) k), sym (ap (λ (x : SaveResult). x.output) k))

  pub save_not_started : c.port ≡ 0 → Saves (Err X.NotStarted) output
  unfolding save_checks not_saved
  save_not_started h = saves 0 (eq-eqb c.port 0 h) (record { answer = Err X.NotStarted; output = output }) refl

  pub save_too_short : (c.port ≡ 0 → ⊥) → length output < length (image_of c) → Saves (Err X.OutputTooShort) output
  unfolding save_checks not_saved
  save_too_short h k =
      saves 1 (ne_eqb c.port 0 h, lt-ltb (length output) (length (image_of c)) k) (record { answer = Err X.OutputTooShort; output = output }) refl

  pub save_written : (c.port ≡ 0 → ⊥) → length (image_of c) ≤ length output → Saves (Ok (length (image_of c))) (wrote output (image_of c))
  unfolding save_checks accepted
  save_written h k = saves 2 (ne_eqb c.port 0 h, (le-ltb (length output) (length (image_of c)) k, tt)) accepted refl

-- of an endpoint
module _ (e : Endpoint) where
  -- with so many peers and bindings
  config_with : (peers bindings : ℕ) → Config
  config_with peers bindings = record {
    own = e.own;
    port = e.port;
    mtu = e.mtu;
    addresses = e.addresses;
    peers = peers;
    owners = e.owners;
    kinds = e.kinds;
    networks = e.networks;
    tenants = e.tenants;
    bindings = bindings;
  }

  -- what the functions write, one behind the other, is the image
  image-put : (output o1 o2 o3 : List ℕ) (p b : ℕ)
      → o1 ≡ wrote output (settings_of version1 e.own e.port e.mtu)
      → o2 ≡ laid o1 13 (be 1 p ++ rows peer_row (table p (λ (i : ℕ). get_or e.addresses i 0)))
      → o3 ≡ laid o2 (14 + p * 4) (be 1 b ++ rows binding_row (table b (binding_entry e.networks e.kinds e.owners e.tenants)))
      → o3 ≡ wrote output (image_of (config_with p b))
  unfolding config_with binding_at binding_entry binding_in
  image-put output o1 o2 o3 p b h1 h2 h3 =
      let s : List ℕ = settings_of version1 e.own e.port e.mtu in
      let ps : List ℕ = be 1 p ++ rows peer_row (table p (λ (i : ℕ). get_or e.addresses i 0)) in
      let bs : List ℕ = be 1 b ++ rows binding_row (table b (binding_entry e.networks e.kinds e.owners e.tenants)) in
      let n : length s ≡ 13 = settings_length e.own e.port e.mtu in
      let k : length ps ≡ 1 + p * 4 = counted_length peer_row 4 peer-length p (λ (i : ℕ). get_or e.addresses i 0) in
      let m : length (s ++ ps) ≡ 14 + p * 4 = length-append s ps ∙ omega arith in
      h3
      ∙ ap (λ (l : List ℕ). laid l (14 + p * 4) bs) (h2 ∙ ap (λ (l : List ℕ). laid l 13 ps) h1 ∙ wrote-more output s ps 13 n)
      ∙ wrote-more output (s ++ ps) bs (14 + p * 4) m
      ∙ ap (wrote output) (append_assoc s ps bs ∙ sym (image-parts (config_with p b)))

  module _ (output : List ℕ) where
    of_config : (p b : ℕ) → p ≡ min e.peer_count most_peers → b ≡ min e.binding_count most_bindings → (r : Result ℕ SaveRefusal) (out : List ℕ)
        → Saves (config_with p b) output r out → Saves (config_of e) output r out
    unfolding config_with
    of_config p b h k r out q = subst (λ (c : Config). Saves c output r out) (ap₂ config_with h k ∙ sym (config_is e)) q

    pub not_started : e.port ≡ 0 → Saves (config_of e) output (Err X.NotStarted) output
    unfolding config_with
    not_started h =
        let p : ℕ = min e.peer_count most_peers in
        let b : ℕ = min e.binding_count most_bindings in
        of_config p b refl refl (Err X.NotStarted) output (save_not_started (config_with p b) output h)

    module _ (p b : ℕ) (hp : p ≡ min e.peer_count most_peers) (hb : b ≡ min e.binding_count most_bindings) (started : e.port ≡ 0 → ⊥) where
      size : length (image_of (config_with p b)) ≡ 14 + p * 4 + 1 + b * 12
      unfolding config_with
      size = omega (arith, image-length (config_with p b))

      pub too_short : length output < 14 + p * 4 + 1 + b * 12 → Saves (config_of e) output (Err X.OutputTooShort) output
      unfolding config_with
      too_short h = of_config p b hp hb (Err X.OutputTooShort) output (save_too_short (config_with p b) output started (omega (arith, size)))

      pub written : 14 + p * 4 + 1 + b * 12 ≤ length output → (o1 o2 o3 : List ℕ)
          → o1 ≡ wrote output (settings_of version1 e.own e.port e.mtu)
          → o2 ≡ laid o1 13 (be 1 p ++ rows peer_row (table p (λ (i : ℕ). get_or e.addresses i 0)))
          → o3 ≡ laid o2 (14 + p * 4) (be 1 b ++ rows binding_row (table b (binding_entry e.networks e.kinds e.owners e.tenants)))
          → Saves (config_of e) output (Ok (14 + p * 4 + 1 + b * 12)) o3
      unfolding config_with
      written h o1 o2 o3 h1 h2 h3 =
          let w = save_written (config_with p b) output started (omega (arith, size)) in
          of_config p b hp hb (Ok (14 + p * 4 + 1 + b * 12)) o3
          (ap Ok (sym size) ∙ w.0, image-put output o1 o2 o3 p b h1 h2 h3 ∙ w.1)
