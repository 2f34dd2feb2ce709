-- Laws of a load, as the functions come to them.
use Prim.Native.Nat.{ℕ, suc, ◌+◌, ◌*◌, ◌<◌}
use Rattle.std.specs.Prelude.{◌≡◌, Bool, true, false, List, Result, Ok, Err, IsErr, is_ok, is_err}
use Rattle.std.proofs.Math.Path.{refl, ap}
use Rattle.std.proofs.Common.{sym, ◌∙◌, arith}
use Rattle.std.proofs.Math.Option.{Option, none, some}
use Rattle.wire.specs.Checks.{pick}
use Rattle.wire.specs.Field.{field}
use Rattle.endpoint.specs.Config.{start_of, add_peer_of, add_binding_of, add_peer, add_binding}
use Rattle.endpoint.specs.Relist.{started_by, relisted}
use Rattle.endpoint.specs.Answer.{added_code}
use Rattle.endpoint.proofs.Laws.Answer.{number_code}
use Rattle.endpoint.proofs.Laws.Relist.{started_yes, started_no, relisted_no_peer, relisted_no_binding, refused_blank}
use Rattle.endpoint.proofs.Laws.Relisted.{peer-zero, binding_zero}
use Rattle.endpoint.specs.declared.answer.ConfigRefusal.{ConfigRefusal}
use Rattle.endpoint.specs.declared.config.Endpoint.{Endpoint}
use Rattle.endpoint.specs.declared.config.StartResult.{StartResult}
use Rattle.image.specs.Image.{version1}
use Rattle.image.specs.Load.{peers_in, count_at, bindings_in, bindings_at, framed, peer_call, binding_call}
use Rattle.image.specs.Load.{and_then, rebuilt, listed_in, bad_image, loaded_of, load_of}
use Rattle.image.specs.declared.answer.LoadResult.{LoadResult}
use Rattle.image.specs.declared.answer.BadImage.{BadImage}

abbrev loaded_as : Endpoint → Result (Unit {0}) BadImage → LoadResult
loaded_as e answer = record { endpoint = e; answer = answer }

-- ---- the frame

module _ (s : List ℕ) where
  pub peers_in_is : (n : ℕ) → n ≡ field s 13 1 → n ≡ peers_in version1 s
  unfolding peers_in
  peers_in_is n h = h

  module _ (peers : ℕ) (p : peers ≡ peers_in version1 s) where
    pub bindings-at_is : 14 + peers * 4 + 1 ≡ bindings_at version1 s
    unfolding bindings_at count_at version1
    bindings-at_is = ap (λ (n : ℕ). 14 + n * 4 + 1) p

    pub bindings_in_is : (n : ℕ) → n ≡ field s (14 + peers * 4) 1 → n ≡ bindings_in version1 s
    unfolding bindings_in count_at version1
    bindings_in_is n h = h ∙ ap (λ (k : ℕ). field s (14 + k * 4) 1) p

-- ---- of what a call gives, an endpoint only where it is no refusal

pub refused : {T E A : Type 0} (r : Result T E) (a : A) → IsErr r → none ≡ pick (is_ok r) (some a) none
refused (Ok x) a h = cc
refused (Err x) a h = refl

pub an_err : {T E : Type 0} (r : Result T E) → is_err r ≡ true → (x : E) × (r ≡ Err x)
an_err (Ok x) h = cc
an_err (Err x) h = (x, refl)

pub an_ok : {E : Type 0} (r : Result (Unit {0}) E) → is_err r ≡ false → r ≡ Ok tt
an_ok (Ok x) h = refl
an_ok (Err x) h = cc

-- ---- the calls, one by one

module _ (s : List ℕ) (e x : Endpoint) (i : ℕ) (before : relisted (peer_call s) i e ≡ some x) (address : ℕ) (a : address ≡ field s (14 + i * 4) 4)
    (answer : Result ℕ ConfigRefusal) (is : answer ≡ (add_peer_of x address).answer) where
  peer-call : peer_call s i ≡ add_peer address
  unfolding peer_call
  peer-call = ap add_peer (sym a)

  pub peer_listed : (y : Endpoint) → y ≡ (add_peer_of x address).endpoint → (k : ℕ) → answer ≡ Ok k → relisted (peer_call s) (i + 1) e ≡ some y
  peer_listed y left k h =
      ap (λ (j : ℕ). relisted (peer_call s) j e) {x = i + 1} {y = suc i} (omega arith)
      ∙ peer-zero (peer_call s) i e x before address peer-call (ap added_code (sym is ∙ h) ∙ number_code k)
      ∙ ap some (sym left)

  pub peer_refused : (n : ℕ) → i < n → (q : ConfigRefusal) → answer ≡ Err q → relisted (peer_call s) n e ≡ none
  peer_refused n below q h = relisted_no_peer (peer_call s) e i n x before below q address peer-call (sym is ∙ h)

pub all-peers : (s : List ℕ) (e x : Endpoint) (i n : ℕ) → relisted (peer_call s) i e ≡ some x → i ≡ n → relisted (peer_call s) n e ≡ some x
all-peers s e x i n h q = rw (sym q) h

module _ (s : List ℕ) (at : ℕ) (e x : Endpoint) (i : ℕ) (before : relisted (binding_call s at) i e ≡ some x) (answer : Result ℕ ConfigRefusal)
    (is : answer ≡ (add_binding_of x (field s (at + i * 12) 1) (field s (at + i * 12 + 1) 1) (field s (at + i * 12 + 2) 8) (field s (at + i * 12 + 10) 2)).answer) where
  binding_call_lem : binding_call s at i
      ≡ add_binding (field s (at + i * 12) 1) (field s (at + i * 12 + 1) 1) (field s (at + i * 12 + 2) 8) (field s (at + i * 12 + 10) 2)
  unfolding binding_call
  binding_call_lem = refl

  pub binding_listed : (y : Endpoint) → y ≡ (add_binding_of x (field s (at + i * 12) 1) (field s (at + i * 12 + 1) 1) (field s (at + i * 12 + 2) 8) (field s (at + i * 12 + 10) 2)).endpoint
      → (k : ℕ) → answer ≡ Ok k → relisted (binding_call s at) (i + 1) e ≡ some y
  binding_listed y left k h =
      ap (λ (j : ℕ). relisted (binding_call s at) j e) {x = i + 1} {y = suc i} (omega arith)
      ∙ binding_zero (binding_call s at) i e x before _ _ _ _ binding_call_lem (ap added_code (sym is ∙ h) ∙ number_code k) ∙ ap some (sym left)

  pub binding_refused : (n : ℕ) → i < n → (q : ConfigRefusal) → answer ≡ Err q → relisted (binding_call s at) n e ≡ none
  binding_refused n below q h = relisted_no_binding (binding_call s at) e i n x before below q _ _ _ _ binding_call_lem (sym is ∙ h)

pub all-bindings : (s : List ℕ) (at : ℕ) (e : Endpoint) (n : ℕ) (o : Option Endpoint) → relisted (binding_call s at) n e ≡ o
    → at ≡ bindings_at version1 s → n ≡ bindings_in version1 s → relisted (binding_call s (bindings_at version1 s)) (bindings_in version1 s) e ≡ o
all-bindings s at e n o h p q = rw (sym p) (rw (sym q) h)

-- ---- all of them, from the endpoint that the start gives

module _ (s : List ℕ) (e : Endpoint) where
  module _ (x : Endpoint) (r : Result (Unit {0}) ConfigRefusal) (peers : relisted (peer_call s) (peers_in version1 s) e ≡ pick (is_ok r) (some x) none) where
    pub peers_refused : (q : ConfigRefusal) → r ≡ Err q → listed_in version1 s e ≡ none
    unfolding listed_in and_then
    peers_refused q h = rw (peers, h) refl

    pub then_bindings : r ≡ Ok tt → (o : Option Endpoint) → relisted (binding_call s (bindings_at version1 s)) (bindings_in version1 s) x ≡ o
        → listed_in version1 s e ≡ o
    unfolding listed_in and_then
    then_bindings h o k = rw (peers, h) k

-- ---- the load

-- the endpoint behind the start
unfoldable pub begun : List ℕ → Option Endpoint
begun s = started_by (field s 5 4) (field s 9 2) (field s 11 2)

module _ (s : List ℕ) where
  module _ (own port mtu : ℕ) (o : own ≡ field s 5 4) (p : port ≡ field s 9 2) (m : mtu ≡ field s 11 2) (r : StartResult) (given : r ≡ start_of own port mtu)
    where
      begun_is : (x : Option Endpoint) → started_by own port mtu ≡ x → begun s ≡ x
      unfolding begun
      begun_is x h = rw (sym o) (rw (sym p) (rw (sym m) h))

      answer_is : (start_of own port mtu).answer ≡ r.answer
      answer_is = ap (λ (y : StartResult). y.answer) (sym given)

      pub begun_yes : is_err r.answer ≡ false → begun s ≡ some r.endpoint
      begun_yes h = begun_is (some r.endpoint) (started_yes own port mtu (answer_is ∙ an_ok r.answer h) ∙ ap (λ (y : StartResult). some y.endpoint) (sym given))

      pub begun_no : is_err r.answer ≡ true → rebuilt version1 s ≡ none
      unfolding rebuilt and_then begun
      begun_no h = let q = an_err r.answer h in rw (begun_is none (started_no own port mtu q.0 (answer_is ∙ q.1))) refl

  rebuilt-from : (e : Endpoint) → begun s ≡ some e → rebuilt version1 s ≡ listed_in version1 s e
  unfolding rebuilt begun and_then
  rebuilt-from e h = rw h refl

pub bad-image_is : (r : StartResult) → r ≡ start_of 0 0 0 → loaded_as r.endpoint (Err (record {})) ≡ bad_image
unfolding bad_image
bad-image_is r h = ap (λ (e : Endpoint). loaded_as e (Err (record {}))) (ap (λ (y : StartResult). y.endpoint) h ∙ refused_blank)

module _ (s : List ℕ) (f : Bool) (f-is : f ≡ framed version1 s) where
  pub not_framed : f ≡ false → bad_image ≡ load_of s
  unfolding load_of
  not_framed h = rw (sym f-is) (rw h refl)

  pub not_rebuilt : f ≡ true → rebuilt version1 s ≡ none → bad_image ≡ load_of s
  unfolding load_of loaded_of
  not_rebuilt h k = rw (sym f-is) (rw h (rw k refl))

  module _ (yes : f ≡ true) (e : Endpoint) (b : begun s ≡ some e) where
    module _ (x : Endpoint) (r : Result (Unit {0}) ConfigRefusal) (listed : listed_in version1 s e ≡ pick (is_ok r) (some x) none) where
      pub not_relisted : is_err r ≡ true → bad_image ≡ load_of s
      not_relisted h = let q = an_err r h in not_rebuilt yes (rebuilt-from s e b ∙ listed ∙ rw q.1 refl)

      pub loads : is_err r ≡ false → loaded_as x (Ok tt) ≡ load_of s
      unfolding load_of loaded_of
      loads h =
          let all : listed_in version1 s e ≡ some x = listed ∙ rw (an_ok r h) refl in
          rw (sym f-is) (rw yes (rw (rebuilt-from s e b) (rw all refl)))
