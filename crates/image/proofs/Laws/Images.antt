-- What saving and loading promise (Images.antt), proved.
use Rattle.std.specs.Prelude.{ℕ, ◌<◌, ◌≡◌, refl, Bool, ◌≢◌, List, [], Result, Ok}
use Rattle.std.proofs.Common.{sym, ◌∙◌}
use Rattle.std.proofs.Math.Path.{ap, subst}
use Rattle.std.proofs.Math.Option.{Option}
use Rattle.wire.specs.Bytes.{Bytes}
use Rattle.wire.specs.Checks.{pick}
use Rattle.wire.specs.Table.{numbered}
use Rattle.wire.proofs.Laws.Bytes.{case_b}
use Rattle.reassembly.specs.Claim.{Claim}
use Rattle.reassembly.specs.EveryRun.{EveryRun}
use Rattle.reassembly.proofs.Laws.Base.{case_o}
use Rattle.endpoint.specs.Config.{Config, config_of, with_rows, Adding, set_up}
use Rattle.endpoint.specs.Receive.{answers, layers}
use Rattle.endpoint.specs.Run.{ends_of}
use Rattle.endpoint.proofs.Laws.Demand1.{blank}
use Rattle.endpoint.specs.Reached.{Reached}
use Rattle.endpoint.proofs.Laws.Demands.{demand_three}
use Rattle.endpoint.specs.Demand1.{Blank}
use Rattle.endpoint.proofs.Laws.Reached.{set_up_reached}
use Rattle.endpoint.proofs.Laws.Config.{set_up_valid}
use Rattle.endpoint.proofs.Laws.Relisted.{good_port}
use Rattle.endpoint.specs.declared.config.Endpoint.{Endpoint}
use Rattle.image.specs.Answer.{save_values_of, load_code}
use Rattle.image.specs.Image.{version1, image_of}
use Rattle.image.specs.Images.{SavedFrom, Freed, FieldsOf, SaveRule, LoadRule, Images}
use Rattle.image.specs.Load.{framed, rebuilt, bad_image, loaded_of, load_of}
use Rattle.image.specs.Save.{save_of}
use Rattle.image.specs.Table.{load_rows}
use Rattle.image.proofs.Laws.Saved.{save_rule, most}
use Rattle.image.proofs.Laws.Loaded.{accepted, freed, reached_loads, done_code, saved_from}
use Rattle.image.proofs.Laws.Table.{fields_are, load_number}
use Rattle.image.proofs.Laws.WorkedImage.{worked-image}
use Rattle.image.specs.declared.answer.LoadResult.{LoadResult}
use Rattle.image.specs.declared.answer.SaveRefusal.{SaveRefusal}

-- ---- exact

-- a set-up has every slot free
set_up-freed : (own port mtu : ℕ) (adds : List Adding) → freed (set_up own port mtu adds) ≡ set_up own port mtu adds
set_up-freed own port mtu adds =
    ap (with_rows (set_up own port mtu adds)) (sym (set_up_valid own port mtu adds).peers)

-- with every slot free, and all else as it was
is_freed : (e : Endpoint) → Freed e (freed e)
is_freed e = record {
  configuration = record {
    settings = record { own = refl; port = refl; mtu = refl };
    peers = record { count = refl; addresses = refl };
    bindings = record { count = refl; owners = refl; kinds = refl; networks = refl; tenants = refl };
  };
  slots = refl;
}

-- what was saved from a set-up loads to it
from_loads : (s : List ℕ) (f : SavedFrom s) → load_of s ≡ record { endpoint = set_up f.own f.port f.mtu f.adds; answer = Ok tt }
from_loads s f =
    let e : Endpoint = set_up f.own f.port f.mtu f.adds in
    ap load_of (sym f.is)
    ∙ reached_loads e (set_up_reached f.own f.port f.mtu f.adds f.typed) (good_port f.own f.port f.mtu f.adds f.started)
    ∙ ap (λ (x : Endpoint). record { endpoint = x; answer = Ok tt }) (set_up-freed f.own f.port f.mtu f.adds)

module _ (s : List ℕ) (b : Bytes s) where
  abbrev number : ℕ
  number = load_code (load_of s).answer

  abbrev given : Endpoint
  given = (load_of s).endpoint

  from : number ≡ 0 → SavedFrom s
  from h = saved_from s b (accepted s h).e (accepted s h).read

  from-number : SavedFrom s → number ≡ 0
  from-number f = ap (λ (r : LoadResult). load_code r.answer) (from_loads s f) ∙ done_code

  from-given : (f : SavedFrom s) → given ≡ set_up f.own f.port f.mtu f.adds
  from-given f = ap (λ (r : LoadResult). r.endpoint) (from_loads s f)

  given-fields : number ≡ 0 → FieldsOf s given
  given-fields h =
      let a = accepted s h in
      subst (FieldsOf s) (sym (ap (λ (r : LoadResult). r.endpoint) a.is)) (fields_are s b a.e a.read)

  given_back : number ≡ 0 → (given.port ≢ 0) × (image_of (config_of given) ≡ s)
  given_back h =
      let f = from h in
      let g = from-given f in (
        λ z. good_port f.own f.port f.mtu f.adds f.started (sym (ap (λ (x : Endpoint). x.port) g) ∙ z),
        ap (λ (x : Endpoint). image_of (config_of x)) g ∙ f.is,
      )

  given_reached : number ≡ 0 → Reached given
  given_reached h =
      let f = from h in
      subst Reached (sym (from-given f)) (set_up_reached f.own f.port f.mtu f.adds f.typed)

  given_claims : number ≡ 0 → (p : ℕ) → p < 8 → Claim answers Config layers (ends_of given) p
  given_claims h p l =
      let f = from h in
      subst (λ (x : Endpoint). Claim answers Config layers (ends_of x) p) (sym (from-given f))
      (demand_three.claims f.own f.port f.mtu f.adds p l)

  given_every : number ≡ 0 → (p : ℕ) → p < 8 → EveryRun answers Config layers p (ends_of given)
  given_every h p l =
      let f = from h in
      subst (λ (x : Endpoint). EveryRun answers Config layers p (ends_of x)) (sym (from-given f))
      (demand_three.every f.own f.port f.mtu f.adds p l)

  given-bad : number ≢ 0 → Blank 0 0 0 given
  unfolding load_of loaded_of bad_image
  given-bad d =
      case_b (framed version1 s)
      (λ f. case_o (rebuilt version1 s)
      (λ q. subst (λ (r : LoadResult). Blank 0 0 0 r.endpoint) (sym (ap (λ (t : Bool). pick t (loaded_of (rebuilt version1 s)) bad_image) f ∙ ap loaded_of q))
      (blank 0 0 0))
      (λ e q. absurd (d (ap (λ (t : Bool). load_code (pick t (loaded_of (rebuilt version1 s)) bad_image).answer) f
      ∙ ap (λ (o : Option Endpoint). load_code (loaded_of o).answer) q ∙ done_code))))
      (λ f. subst (λ (r : LoadResult). Blank 0 0 0 r.endpoint) (sym (ap (λ (t : Bool). pick t (loaded_of (rebuilt version1 s)) bad_image) f)) (blank 0 0 0))

  load_rule : number ≡ numbered (load_rows s) → LoadRule s number given
  load_rule h = record {
    is = h;
    exact = record { only = from; all = from-number };
    set_up_from = from-given;
    fields = given-fields;
    back = given_back;
    bad = given-bad;
    reached = given_reached;
    claims = given_claims;
    every = given_every;
  }

-- ---- THE STATEMENT

pub images : Images
images = record {
  save = save_rule;
  most = λ e. most e [];
  load = λ s b. load_rule s b (load_number s b);
  same = λ e r d.
      let l = reached_loads e r d in (
        ap (λ (x : LoadResult). load_code x.answer) l ∙ done_code,
        subst (Freed e) (sym (ap (λ (x : LoadResult). x.endpoint) l)) (is_freed e),
      );
  same_set_up = λ own port mtu adds t d.
      let f : SavedFrom (image_of (config_of (set_up own port mtu adds))) =
      record { own = own; port = port; mtu = mtu; adds = adds; typed = t; started = d; is = refl } in
      ap (λ (r : LoadResult). r.endpoint) (from_loads (image_of (config_of (set_up own port mtu adds))) f);
  worked = worked-image;
}

-- what the contracts say beside the equality with their definitions follows from that equality

pub load_promised : (s : List ℕ) (r : LoadResult) → r ≡ load_of s → (r ≡ load_of s) × (Bytes s → LoadRule s (load_code r.answer) r.endpoint)
load_promised s r is = (is, λ b. rw is (images.load s b))

pub save_promised : (e : Endpoint) (output : List ℕ) (r : Result ℕ SaveRefusal) (out : List ℕ)
    → (r ≡ (save_of (config_of e) output).answer) × (out ≡ (save_of (config_of e) output).output)
    → (r ≡ (save_of (config_of e) output).answer) × ((out ≡ (save_of (config_of e) output).output) × SaveRule e output (save_values_of r) out)
save_promised e output r out w = (w.0, (w.1, rw (w.0, w.1) (images.save e output)))
