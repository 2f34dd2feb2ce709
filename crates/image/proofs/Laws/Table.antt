-- A load answers by its rows (Table.antt): what is accepted keeps every one of them, and what keeps every one is accepted.
use Prim.Native.Nat.{ℕ, zero, suc, ◌+◌, ◌*◌, ◌/◌, ◌^◌, ◌<◌, ◌≤◌}
use Rattle.std.specs.Prelude.{◌≡◌, false, ◌&&◌, ◌||◌, ◌⊎◌, ◌≢◌, List, [], ◌∷◌, length, ltb, Result, Ok, Err}
use Rattle.std.proofs.Math.Path.{refl, sym, ap}
use Rattle.std.proofs.Common.{ap₂, subst, ◌∙◌, inl, inr}
use Rattle.std.proofs.Math.Bool.{Bool, true}
use Rattle.std.proofs.Math.Option.{some}
use native.Mathlib.Omega.{arith}
use Rattle.std.proofs.Math.ListN.{get_or}
use Rattle.std.proofs.Math.Dec.{eqb, leb}
use borrow.Author.Tests.{eqb-true, eqb-false, ltb-false, leb-false, eq-eqb, ne_eqb, le-ltb, lt-leb}
use Rattle.wire.specs.Bytes.{Bytes, be_at}
use Rattle.wire.specs.Checks.{◌⇒◌, Passed}
use Rattle.wire.specs.Field.{field}
use Rattle.wire.specs.Refusal.{Finding}
use Rattle.wire.specs.Table.{Rows, numbered}
use Rattle.wire.proofs.Laws.Bytes.{case_b}
use Rattle.wire.proofs.Laws.Checks.{Each, first_more, by_each, pass, neither, is_not, is_so}
use Rattle.wire.proofs.Laws.Field.{field_in, field_lt}
use Rattle.reassembly.specs.Base.{some_below}
use Rattle.reassembly.proofs.Laws.Base.{clash, either, and_l, and_r, or_false-l, or_false_r, some_below-none, some_below-some}
use Rattle.endpoint.specs.Answer.{added_code}
use Rattle.endpoint.specs.Config.{start_of, add_peer_of, add_binding_of}
use Rattle.endpoint.specs.Demand1.{IsAddress, IsId, InRange, Configured}
use Rattle.endpoint.specs.Relist.{started_by, relisted}
use Rattle.endpoint.specs.Table as T
use Rattle.endpoint.proofs.Laws.Relist.{relisted-none}
use Rattle.endpoint.proofs.Laws.Relisted.{WithPeers, with_peers_lem, WithBindings, NoBindings, with_bindings_lem, Started, started_is, start-zero, peer-zero}
use Rattle.endpoint.proofs.Laws.Relisted.{binding_zero}
use Rattle.endpoint.proofs.Laws.Table.{start-done, peer-done, binding_done}
use Rattle.endpoint.specs.declared.config.Endpoint.{Endpoint}
use Rattle.image.specs.Answer.{load_code}
use Rattle.image.specs.Image.{letters, version1}
use Rattle.image.specs.Images.{FieldsOf}
use Rattle.image.specs.Load.{peers_in, count_at, bindings_in, bindings_at, peer_call, binding_call, and_then, listed_in, rebuilt, loaded_of, load_of}
use Rattle.image.specs.Table.{peer_count_in, binding_count_in, binding_start, own_address, peer_address, bad_peer, same_binding, bad_binding, load_rows}
use Rattle.image.proofs.Laws.Image.{Framed, is_framed}
use Rattle.image.proofs.Laws.Loaded.{Read, accepted, still_none, with_all-peers, with_all-bindings, loaded_configured, loaded_in_range, done_code}
use Rattle.image.specs.declared.answer.BadImage.{BadImage}

-- ---- rows

-- where no row's number is 0, 0 is given only if none applies
all_passed : (rows : Rows) → Each (λ r. r.number ≢ 0) rows → numbered rows ≡ 0 → Passed rows
all_passed [] e h = tt
all_passed ((true ⇒ r) ∷ rows) e h = absurd (e.0 (sym (first_more (λ (x : Finding). x.number) true r rows 0) ∙ h))
all_passed ((false ⇒ r) ∷ rows) e h = (refl, all_passed rows e.1 (sym (first_more (λ (x : Finding). x.number) false r rows 0) ∙ h))

-- rows that all give 24 give 0 or 24
zero_or_24 : (rows : Rows) → Each (λ r. r.number ≡ 24) rows → (numbered rows ≡ 0) ⊎ (numbered rows ≡ 24)
zero_or_24 rows e = by_each (λ (n : ℕ). (n ≡ 0) ⊎ (n ≡ 24)) (λ (x : Finding). x.number) rows 0 (all_right rows e) (inl refl)
  where
    all_right : (rows : Rows) → Each (λ r. r.number ≡ 24) rows → Each (λ r. (r.number ≡ 0) ⊎ (r.number ≡ 24)) rows
    all_right [] e = tt
    all_right ((t ⇒ r) ∷ rows) e = (inr e.0, all_right rows e.1)

-- ---- addresses and ids

address_good : (a : ℕ) → IsAddress a → T.bad_address a ≡ false
address_good a h = rw (ne_eqb (a / 2 ^ 24) 0 (λ z. absurd (omega (arith, h.0))), lt-leb 224 (a / 2 ^ 24) (omega (arith, h.1))) refl

id_good : (kind id : ℕ) → IsId kind id → T.bad_id kind id ≡ false
id_good kind id (inl p) = rw p.0 (rw (le-ltb 16777215 id p.1) refl)
id_good kind id (inr (inl p)) = rw p.0 (rw (le-ltb id 4096 p.1.0, le-ltb 16777214 id p.1.1) refl)
id_good kind id (inr (inr p)) = rw p refl

-- ---- the fields, at their places

-- the counts and places of the load are those of the table
record Plain (s : List ℕ) : Type 0 where
  peers_are : peers_in version1 s ≡ peer_count_in s
  bindings_are : bindings_in version1 s ≡ binding_count_in s
  begin : bindings_at version1 s ≡ 15 + peer_count_in s * 4
  ends : length s ≡ 15 + peer_count_in s * 4 + binding_count_in s * 12

-- each follows where the length is the one that the counts tell, however they are read
plain : (s : List ℕ) → (peers_in version1 s ≡ peer_count_in s → bindings_in version1 s ≡ binding_count_in s → length s ≡ 15 + peer_count_in s * 4 + binding_count_in s * 12)
    → 15 ≤ length s → 15 + peer_count_in s * 4 ≤ length s → Plain s
unfolding peers_in bindings_in bindings_at count_at version1 peer_count_in binding_count_in
plain s k h room =
    let p : field s 13 1 ≡ be_at s 13 1 = field_in s 13 1 (omega arith) in
    let b : field s (14 + field s 13 1 * 4) 1 ≡ be_at s (14 + be_at s 13 1 * 4) 1 =
    ap (λ (n : ℕ). field s (14 + n * 4) 1) p ∙ field_in s (14 + be_at s 13 1 * 4) 1 (omega arith) in
    record { peers_are = p; bindings_are = b; begin = omega arith; ends = k p b }

framed-plain : (s : List ℕ) → Framed version1 s → Plain s
unfolding peers_in bindings_in bindings_at count_at version1 peer_count_in binding_count_in
framed-plain s f =
    let end : length s ≡ 14 + field s 13 1 * 4 + 1 + field s (14 + field s 13 1 * 4) 1 * 12 = f.ends in
    let p : field s 13 1 ≡ be_at s 13 1 = field_in s 13 1 (omega arith) in
    plain s (λ x y. omega arith) (omega arith) (omega arith)

-- what is read of binding i
module _ (s : List ℕ) (p : Plain s) (i : ℕ) (l : i < binding_count_in s) where
  start_is : bindings_at version1 s + i * 12 ≡ binding_start s i
  unfolding binding_start
  start_is = omega (arith, p.begin)

  field_of : (k n : ℕ) → k + n ≤ 12 → field s (bindings_at version1 s + i * 12 + k) n ≡ be_at s (binding_start s i + k) n
  unfolding binding_start
  field_of k n h =
      ap (λ (a : ℕ). field s (a + k) n) start_is ∙ field_in s (binding_start s i + k) n (omega (arith, p.ends))

  field-first : field s (bindings_at version1 s + i * 12) 1 ≡ be_at s (binding_start s i) 1
  unfolding binding_start
  field-first = ap (λ (a : ℕ). field s a 1) start_is ∙ field_in s (binding_start s i) 1 (omega (arith, p.ends))

peer-field : (s : List ℕ) → Plain s → (i : ℕ) → i < peer_count_in s → field s (14 + i * 4) 4 ≡ peer_address s i
unfolding peer_address
peer-field s p i l = field_in s (14 + i * 4) 4 (omega (arith, p.ends))

-- ---- accepted: no row applies

module _ (s : List ℕ) (b : Bytes s) (e : Endpoint) (r : Read s e) where
  abbrev pl : Plain s
  pl = framed-plain s r.frame

  long : 15 ≤ length s
  long = omega (arith, pl.ends)

  own_is : e.own ≡ own_address s
  unfolding own_address
  own_is = (with_all-bindings s b e r).own ∙ (with_all-peers s b e r).own ∙ r.started.own_is ∙ field_in s 5 4 (omega (arith, long))

  port_is : e.port ≡ be_at s 9 2
  port_is = (with_all-bindings s b e r).port ∙ (with_all-peers s b e r).port ∙ r.started.port_is ∙ field_in s 9 2 (omega (arith, long))

  mtu_is : e.mtu ≡ be_at s 11 2
  mtu_is = (with_all-bindings s b e r).mtu ∙ (with_all-peers s b e r).mtu ∙ r.started.mtu_is ∙ field_in s 11 2 (omega (arith, long))

  count_is : e.peer_count ≡ peer_count_in s
  count_is = (with_all-bindings s b e r).peers ∙ (with_all-peers s b e r).count ∙ pl.peers_are

  bound_is : e.binding_count ≡ binding_count_in s
  bound_is = (with_all-bindings s b e r).count ∙ pl.bindings_are

  address_is : (i : ℕ) → i < peer_count_in s → get_or e.addresses i 0 ≡ peer_address s i
  address_is i l =
      ap (λ (x : List ℕ). get_or x i 0) (with_all-bindings s b e r).addresses ∙ (with_all-peers s b e r).addresses i (omega (arith, pl.peers_are))
      ∙ peer-field s pl i l

  module _ (i : ℕ) (l : i < binding_count_in s) where
    below : i < bindings_in version1 s
    below = omega (arith, pl.bindings_are)

    owner_is : get_or e.owners i 0 ≡ be_at s (binding_start s i) 1
    owner_is = (with_all-bindings s b e r).owners i below ∙ field-first s pl i l

    kind_is : get_or e.kinds i 0 ≡ be_at s (binding_start s i + 1) 1
    kind_is = (with_all-bindings s b e r).kinds i below ∙ field_of s pl i l 1 1 (omega arith)

    id_is : get_or e.networks i 0 ≡ be_at s (binding_start s i + 2) 8
    id_is = (with_all-bindings s b e r).networks i below ∙ field_of s pl i l 2 8 (omega arith)

    tenant_is : get_or e.tenants i 0 ≡ be_at s (binding_start s i + 10) 2
    tenant_is = (with_all-bindings s b e r).tenants i below ∙ field_of s pl i l 10 2 (omega arith)

  pub fields_are : FieldsOf s e
  fields_are = record {
    own = own_is;
    port = port_is;
    mtu = mtu_is;
    peers = count_is;
    address = address_is;
    bindings = bound_is;
    owner = owner_is;
    kind = kind_is;
    id = id_is;
    tenant = tenant_is;
  }

  abbrev cfg : Configured e
  cfg = loaded_configured s b e r

  peer-good : (i : ℕ) → i < peer_count_in s → bad_peer s i ≡ false
  unfolding bad_peer
  peer-good i l =
      let n : e.peer_count ≡ peer_count_in s = count_is in
      let m : i < e.peer_count = omega arith in
      neither _ _
      (neither _ _ (address_good (peer_address s i) (subst IsAddress (address_is i l) (cfg.address i m)))
      (ne_eqb (peer_address s i) (own_address s) (λ q. cfg.not_ours i m (address_is i l ∙ q ∙ sym own_is))))
      (some_below-none i (λ j. eqb (peer_address s j) (peer_address s i)) (λ j (k : j < i). ne_eqb (peer_address s j) (peer_address s i) (λ q.
      let same : j ≡ i = cfg.peer_once j i (omega arith) m (address_is j (omega arith) ∙ q ∙ sym (address_is i l)) in
      absurd (omega arith))))

  binding_good : (i : ℕ) → i < binding_count_in s → bad_binding s i ≡ false
  unfolding bad_binding same_binding
  binding_good i l =
      let n : e.peer_count ≡ peer_count_in s = count_is in
      let c : e.binding_count ≡ binding_count_in s = bound_is in
      let m : i < e.binding_count = omega arith in
      let o : get_or e.owners i 0 < e.peer_count = cfg.owner i m in
      let w : get_or e.owners i 0 ≡ be_at s (binding_start s i) 1 = owner_is i l in
      neither _ _
      (neither _ _ (lt-leb (peer_count_in s) (be_at s (binding_start s i) 1) (omega arith))
      (id_good (be_at s (binding_start s i + 1) 1) (be_at s (binding_start s i + 2) 8)
      (subst (λ (d : ℕ). IsId (be_at s (binding_start s i + 1) 1) d) (id_is i l)
      (subst (λ (k : ℕ). IsId k (get_or e.networks i 0)) (kind_is i l) (cfg.id i m)))))
      (some_below-none i (same_binding s i) (λ j (k : j < i). case_b (same_binding s i j)
      (λ t.
      let lj : j < binding_count_in s = omega arith in
      let po : Bool = eqb (be_at s (binding_start s j) 1) (be_at s (binding_start s i) 1) in
      let pk : Bool = eqb (be_at s (binding_start s j + 1) 1) (be_at s (binding_start s i + 1) 1) in
      let pi : Bool = eqb (be_at s (binding_start s j + 2) 8) (be_at s (binding_start s i + 2) 8) in
      let eo = eqb-true (be_at s (binding_start s j) 1) (be_at s (binding_start s i) 1) (and_l po pk (and_l (po && pk) pi t)) in
      let ek = eqb-true (be_at s (binding_start s j + 1) 1) (be_at s (binding_start s i + 1) 1) (and_r po pk (and_l (po && pk) pi t)) in
      let ei = eqb-true (be_at s (binding_start s j + 2) 8) (be_at s (binding_start s i + 2) 8) (and_r (po && pk) pi t) in
      let same : j ≡ i = cfg.binding_once j i (omega arith) m (owner_is j lj ∙ eo ∙ sym w) (kind_is j lj ∙ ek ∙ sym (kind_is i l))
      (id_is j lj ∙ ei ∙ sym (id_is i l)) in
      absurd (omega arith))
      (λ f. f)))

  no_row : Passed (load_rows s)
  unfolding load_rows letters version1
  no_row =
      let g : InRange e = loaded_in_range s b e r in
      let n : e.peer_count ≡ peer_count_in s = count_is in
      let c : e.binding_count ≡ binding_count_in s = bound_is in
      let np : e.peer_count ≤ 8 = cfg.peers in
      let nb : e.binding_count ≤ 64 = cfg.bindings in
      let lo : 576 ≤ e.mtu = g.mtu.0 in
      let hi : e.mtu ≤ 1600 = g.mtu.1 in
      let po : 1 ≤ e.port = g.port.0 in
      let mi : e.mtu ≡ be_at s 11 2 = mtu_is in
      let pi : e.port ≡ be_at s 9 2 = port_is in (
        le-ltb (length s) 15 long,
        (
          is_not (be_at s 0 3) 0x54574E (sym (field_in s 0 3 (omega (arith, long))) ∙ r.frame.letters_are),
          (
            is_not (be_at s 3 2) 1 (sym (field_in s 3 2 (omega (arith, long))) ∙ r.frame.version_is),
            (
              is_not (length s) (15 + peer_count_in s * 4 + binding_count_in s * 12) pl.ends,
              (
                address_good (own_address s) (subst IsAddress own_is g.own),
                (
                  ne_eqb (be_at s 9 2) 0 (λ z. absurd (omega arith)),
                  (
                    neither _ _ (le-ltb (be_at s 11 2) 576 (omega arith)) (le-ltb 1600 (be_at s 11 2) (omega arith)),
                    (
                      neither _ _ (le-ltb 8 (peer_count_in s) (omega arith)) (le-ltb 64 (binding_count_in s) (omega arith)),
                      (
                        some_below-none (peer_count_in s) (bad_peer s) peer-good,
                        (some_below-none (binding_count_in s) (bad_binding s) binding_good, tt),
                      ),
                    ),
                  ),
                ),
              ),
            ),
          ),
        ),
      )

-- ---- no row applies: accepted

contradiction : {C : Type 0} {t : Bool} → t ≡ false → t ≡ true → C
contradiction f t = let z : true ≡ false = sym t ∙ f in clash (cc)

unbelow : (n : ℕ) (f : ℕ → Bool) → some_below n f ≡ false → (i : ℕ) → i < n → f i ≡ false
unbelow n f h i l = case_b (f i) (λ t. contradiction h (some_below-some n f i l t)) (λ q. q)

module _ (s : List ℕ) (b : Bytes s) (rows : Passed (load_rows s)) where
  -- what the rows say
  record Kept : Type 0 where
    long : 15 ≤ length s
    name : be_at s 0 3 ≡ 0x54574E
    version : be_at s 3 2 ≡ 1
    ends : length s ≡ 15 + peer_count_in s * 4 + binding_count_in s * 12
    own : T.bad_address (own_address s) ≡ false
    port : be_at s 9 2 ≢ 0
    mtu_least : 576 ≤ be_at s 11 2
    mtu_most : be_at s 11 2 ≤ 1600
    peers : peer_count_in s ≤ 8
    bindings : binding_count_in s ≤ 64
    each_peer : (i : ℕ) → i < peer_count_in s → bad_peer s i ≡ false
    each_binding : (i : ℕ) → i < binding_count_in s → bad_binding s i ≡ false

  kept : Kept
  unfolding load_rows
  kept =
      let r3 = rows.1.1.1 in
      let r6 = r3.1.1.1 in
      record {
        long = ltb-false (length s) 15 rows.0;
        name = is_so (be_at s 0 3) 0x54574E rows.1.0;
        version = is_so (be_at s 3 2) 1 rows.1.1.0;
        ends = is_so (length s) (15 + peer_count_in s * 4 + binding_count_in s * 12) r3.0;
        own = r3.1.0;
        port = eqb-false (be_at s 9 2) 0 r3.1.1.0;
        mtu_least = ltb-false (be_at s 11 2) 576 (or_false-l (ltb (be_at s 11 2) 576) (ltb 1600 (be_at s 11 2)) r6.0);
        mtu_most = ltb-false 1600 (be_at s 11 2) (or_false_r (ltb (be_at s 11 2) 576) (ltb 1600 (be_at s 11 2)) r6.0);
        peers = ltb-false 8 (peer_count_in s) (or_false-l (ltb 8 (peer_count_in s)) (ltb 64 (binding_count_in s)) r6.1.0);
        bindings = ltb-false 64 (binding_count_in s) (or_false_r (ltb 8 (peer_count_in s)) (ltb 64 (binding_count_in s)) r6.1.0);
        each_peer = unbelow (peer_count_in s) (bad_peer s) r6.1.1.0;
        each_binding = unbelow (binding_count_in s) (bad_binding s) r6.1.1.1.0;
      }

  abbrev whole : Plain s
  whole =
      plain s (λ x y. kept.ends) kept.long (omega (arith, kept.ends))

  good_frame : Framed version1 s
  unfolding letters version1
  good_frame = record {
    letters_are = field_in s 0 3 (omega (arith, kept.long)) ∙ kept.name;
    version_is = field_in s 3 2 (omega (arith, kept.long)) ∙ kept.version;
    ends = omega (arith, whole.ends, whole.begin, whole.bindings_are);
  }

  abbrev started-at : Endpoint
  started-at = (start_of (field s 5 4) (field s 9 2) (field s 11 2)).endpoint

  good_start : started_by (field s 5 4) (field s 9 2) (field s 11 2) ≡ some started-at
  unfolding own_address
  good_start =
      let o : field s 5 4 ≡ be_at s 5 4 = field_in s 5 4 (omega (arith, kept.long)) in
      let p : field s 9 2 ≡ be_at s 9 2 = field_in s 9 2 (omega (arith, kept.long)) in
      let m : field s 11 2 ≡ be_at s 11 2 = field_in s 11 2 (omega (arith, kept.long)) in
      let most : field s 9 2 < 256 ^ 2 = field_lt s b 9 2 in
      let least : 576 ≤ be_at s 11 2 = kept.mtu_least in
      let top : be_at s 11 2 ≤ 1600 = kept.mtu_most in
      start-zero (field s 5 4) (field s 9 2) (field s 11 2)
      (start-done (field s 5 4) (field s 9 2) (field s 11 2) (ap T.bad_address o ∙ kept.own) (λ z. kept.port (sym p ∙ z)) (omega arith) (omega arith)
      (omega arith))

  blank : Started (field s 5 4) (field s 9 2) (field s 11 2) started-at
  blank = started_is (field s 5 4) (field s 9 2) (field s 11 2) started-at good_start

  -- the peers, one by one
  abbrev peer_at : ℕ → ℕ
  peer_at i = field s (14 + i * 4) 4

  peers_so_far : (n : ℕ) (x : Endpoint) → relisted (peer_call s) n started-at ≡ some x → WithPeers peer_at n started-at x
  unfolding peer_call
  peers_so_far n x h = with_peers_lem peer_at started-at blank.no_peers blank.addresses_size n x h

  next-peer : (n : ℕ) → n < peer_count_in s → (x : Endpoint) → WithPeers peer_at n started-at x → added_code (add_peer_of x (peer_at n)).answer ≡ 0
  unfolding bad_peer own_address
  next-peer n l x w =
      let a : peer_at n ≡ peer_address s n = peer-field s whole n l in
      let bad = kept.each_peer n l in
      let first : Bool = T.bad_address (peer_address s n) in
      let ours : Bool = eqb (peer_address s n) (be_at s 5 4) in
      let before : Bool = some_below n (λ j. eqb (peer_address s j) (peer_address s n)) in
      let c : x.peer_count ≡ n = w.count in
      let most : peer_count_in s ≤ 8 = kept.peers in
      let p : field s 9 2 ≡ be_at s 9 2 = field_in s 9 2 (omega (arith, kept.long)) in
      let o : x.own ≡ be_at s 5 4 = w.own ∙ blank.own_is ∙ field_in s 5 4 (omega (arith, kept.long)) in
      peer-done x (peer_at n)
      (λ z. kept.port (sym (w.port ∙ blank.port_is ∙ p) ∙ z))
      (ap T.bad_address a ∙ or_false-l first ours (or_false-l (first || ours) before bad))
      (λ z. eqb-false (peer_address s n) (be_at s 5 4) (or_false_r first ours (or_false-l (first || ours) before bad)) (sym a ∙ z ∙ o))
      (some_below-none (T.peers x) (T.is_peer x (peer_at n)) (λ j (k : j < T.peers x). ne_eqb (get_or x.addresses j 0) (peer_at n) (λ q.
      let m : j < n = omega arith in
      eqb-false (peer_address s j) (peer_address s n)
      (unbelow n (λ i. eqb (peer_address s i) (peer_address s n)) (or_false_r (first || ours) before bad) j m)
      (sym (w.addresses j m ∙ peer-field s whole j (omega arith)) ∙ q ∙ a))))
      (omega arith)

  all-peers : (n : ℕ) → n ≤ peer_count_in s → (x : Endpoint) × (relisted (peer_call s) n started-at ≡ some x)
  unfolding peer_call
  all-peers zero l = (started-at, relisted-none (peer_call s) started-at)
  all-peers (suc n) l =
      let so_far = all-peers n (omega arith) in
      let x : Endpoint = so_far.0 in (
        (add_peer_of x (peer_at n)).endpoint,
        peer-zero (peer_call s) n started-at x so_far.1 (peer_at n) refl (next-peer n (omega arith) x (peers_so_far n x so_far.1)),
      )

  -- the bindings, one by one
  abbrev x : Endpoint
  x = (all-peers (peer_count_in s) (omega arith)).0

  with_them : WithPeers peer_at (peer_count_in s) started-at x
  with_them = peers_so_far (peer_count_in s) x (all-peers (peer_count_in s) (omega arith)).1

  none-bound : NoBindings x
  none-bound = still_none peer_at (peer_count_in s) started-at x with_them blank.no_bindings

  abbrev at : ℕ → ℕ
  at i = bindings_at version1 s + i * 12

  abbrev Bound : ℕ → Endpoint → Type 0
  Bound n y = WithBindings (λ i. field s (at i) 1) (λ i. field s (at i + 1) 1) (λ i. field s (at i + 2) 8) (λ i. field s (at i + 10) 2) n x y

  bindings_so_far : (n : ℕ) (y : Endpoint) → relisted (binding_call s (bindings_at version1 s)) n x ≡ some y → Bound n y
  unfolding binding_call
  bindings_so_far n y h =
      with_bindings_lem (λ i. field s (at i) 1) (λ i. field s (at i + 1) 1) (λ i. field s (at i + 2) 8) (λ i. field s (at i + 10) 2) x none-bound n y h

  next_binding : (n : ℕ) → n < binding_count_in s → (y : Endpoint) → Bound n y
      → added_code (add_binding_of y (field s (at n) 1) (field s (at n + 1) 1) (field s (at n + 2) 8) (field s (at n + 10) 2)).answer ≡ 0
  unfolding bad_binding same_binding
  next_binding n l y w =
      let o : field s (at n) 1 ≡ be_at s (binding_start s n) 1 = field-first s whole n l in
      let k : field s (at n + 1) 1 ≡ be_at s (binding_start s n + 1) 1 = field_of s whole n l 1 1 (omega arith) in
      let d : field s (at n + 2) 8 ≡ be_at s (binding_start s n + 2) 8 = field_of s whole n l 2 8 (omega arith) in
      let bad = kept.each_binding n l in
      let out : Bool = leb (peer_count_in s) (be_at s (binding_start s n) 1) in
      let id : Bool = T.bad_id (be_at s (binding_start s n + 1) 1) (be_at s (binding_start s n + 2) 8) in
      let before : Bool = some_below n (same_binding s n) in
      let owner : be_at s (binding_start s n) 1 < peer_count_in s =
      leb-false (peer_count_in s) (be_at s (binding_start s n) 1) (or_false-l out id (or_false-l (out || id) before bad)) in
      let np : y.peer_count ≡ peer_count_in s = w.peers ∙ with_them.count in
      let c : y.binding_count ≡ n = w.count in
      let most : binding_count_in s ≤ 64 = kept.bindings in
      let few : peer_count_in s ≤ 8 = kept.peers in
      let tenant : field s (at n + 10) 2 < 256 ^ 2 = field_lt s b (at n + 10) 2 in
      binding_done y (field s (at n) 1) (field s (at n + 1) 1) (field s (at n + 2) 8) (field s (at n + 10) 2)
      (omega arith)
      (ap₂ T.bad_id k d ∙ or_false_r out id (or_false-l (out || id) before bad))
      (omega arith)
      (some_below-none (T.bindings y) (T.is_binding y (field s (at n) 1) (field s (at n + 1) 1) (field s (at n + 2) 8)) (λ j (m : j < T.bindings y).
      case_b (T.is_binding y (field s (at n) 1) (field s (at n + 1) 1) (field s (at n + 2) 8) j)
      (λ t.
      let lj : j < n = omega arith in
      let lb : j < binding_count_in s = omega arith in
      let ti : Bool = eqb (get_or y.networks j 0) (field s (at n + 2) 8) in
      let tk : Bool = eqb (get_or y.kinds j 0) (field s (at n + 1) 1) in
      let to : Bool = eqb (get_or y.owners j 0) (field s (at n) 1) in
      let ei = eqb-true (get_or y.networks j 0) (field s (at n + 2) 8) (and_l ti (tk && to) t) in
      let ek = eqb-true (get_or y.kinds j 0) (field s (at n + 1) 1) (and_l tk to (and_r ti (tk && to) t)) in
      let eo = eqb-true (get_or y.owners j 0) (field s (at n) 1) (and_r tk to (and_r ti (tk && to) t)) in
      let qo : be_at s (binding_start s j) 1 ≡ be_at s (binding_start s n) 1 = sym (w.owners j lj ∙ field-first s whole j lb) ∙ eo ∙ o in
      let qk : be_at s (binding_start s j + 1) 1 ≡ be_at s (binding_start s n + 1) 1 = sym (w.kinds j lj ∙ field_of s whole j lb 1 1 (omega arith)) ∙ ek ∙ k in
      let qi : be_at s (binding_start s j + 2) 8 ≡ be_at s (binding_start s n + 2) 8 = sym (w.networks j lj ∙ field_of s whole j lb 2 8 (omega arith)) ∙ ei ∙ d in
      let yes : same_binding s n j ≡ true =
      rw (
        eq-eqb (be_at s (binding_start s j) 1) (be_at s (binding_start s n) 1) qo,
        eq-eqb (be_at s (binding_start s j + 1) 1) (be_at s (binding_start s n + 1) 1) qk,
        eq-eqb (be_at s (binding_start s j + 2) 8) (be_at s (binding_start s n + 2) 8) qi,
      ) refl in
      contradiction (unbelow n (same_binding s n) (or_false_r (out || id) before bad) j lj) yes)
      (λ f. f)))
      (omega arith)

  all-bindings : (n : ℕ) → n ≤ binding_count_in s → (y : Endpoint) × (relisted (binding_call s (bindings_at version1 s)) n x ≡ some y)
  unfolding binding_call
  all-bindings zero l = (x, relisted-none (binding_call s (bindings_at version1 s)) x)
  all-bindings (suc n) l =
      let so_far = all-bindings n (omega arith) in
      let y : Endpoint = so_far.0 in (
        (add_binding_of y (field s (at n) 1) (field s (at n + 1) 1) (field s (at n + 2) 8) (field s (at n + 10) 2)).endpoint,
        binding_zero (binding_call s (bindings_at version1 s)) n x y so_far.1 (field s (at n) 1) (field s (at n + 1) 1) (field s (at n + 2) 8)
            (field s (at n + 10) 2) refl (next_binding n (omega arith) y (bindings_so_far n y so_far.1)),
      )

  y : Endpoint
  y = (all-bindings (binding_count_in s) (omega arith)).0

  all_accepted : rebuilt version1 s ≡ some y
  unfolding rebuilt listed_in and_then y
  all_accepted =
      let p : relisted (peer_call s) (peers_in version1 s) started-at ≡ some x =
      ap (λ (n : ℕ). relisted (peer_call s) n started-at) whole.peers_are ∙ (all-peers (peer_count_in s) (omega arith)).1 in
      let q : relisted (binding_call s (bindings_at version1 s)) (bindings_in version1 s) x ≡ some y =
      ap (λ (n : ℕ). relisted (binding_call s (bindings_at version1 s)) n x) whole.bindings_are ∙ (all-bindings (binding_count_in s) (omega arith)).1 in
      rw (good_start, p, q) refl

  no_row_loads : load_code (load_of s).answer ≡ 0
  unfolding load_of loaded_of
  no_row_loads = rw (is_framed version1 s good_frame, all_accepted) done_code

-- ---- the number

two_numbers : (a : Result (Unit {0}) BadImage) → (load_code a ≡ 0) ⊎ (load_code a ≡ 24)
unfolding load_code
two_numbers (Ok done) = inl refl
two_numbers (Err bad) = inr refl

each_24 : (s : List ℕ) → Each (λ r. r.number ≡ 24) (load_rows s)
unfolding load_rows
each_24 s = (refl, (refl, (refl, (refl, (refl, (refl, (refl, (refl, (refl, (refl, tt))))))))))

not_0 : (rows : Rows) → Each (λ r. r.number ≡ 24) rows → Each (λ r. r.number ≢ 0) rows
not_0 [] e = tt
not_0 ((t ⇒ r) ∷ rows) e = (λ z. absurd (omega (arith, e.0, z)), not_0 rows e.1)

pub load_number : (s : List ℕ) → Bytes s → load_code (load_of s).answer ≡ numbered (load_rows s)
load_number s b =
    either (two_numbers (load_of s).answer)
    (λ z.
    let a = accepted s z in
    z ∙ sym (pass (λ (x : Finding). x.number) (load_rows s) 0 (no_row s b a.e a.read)))
    (λ z. either (zero_or_24 (load_rows s) (each_24 s))
    (λ q. let l : load_code (load_of s).answer ≡ 0 = no_row_loads s b (all_passed (load_rows s) (not_0 (load_rows s) (each_24 s)) q) in absurd (omega arith))
    (λ q. z ∙ sym q))
