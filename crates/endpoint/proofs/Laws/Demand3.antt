-- Demand 3: the claim and the rules of every run, proved of every set-up, and what their words mean.
use Rattle.std.specs.Prelude.{ℕ, ◌<◌, ◌≡◌, refl, Bool, true, false, cond, List, [], eqb, Result, Ok, Err}
use Rattle.std.proofs.Common.{sym, subst, arith, eqb-true, eq-eqb}
use Rattle.std.proofs.Math.Option.{none, some}
use Rattle.wire.specs.Bytes.{Bytes, part}
use Rattle.wire.specs.Ipv4.{ipv4_of}
use Rattle.wire.proofs.Laws.Ipv4 as P
use Rattle.reassembly.specs.Claim.{Claim}
use Rattle.reassembly.specs.SetUp as U
use Rattle.reassembly.proofs.Laws.Claim.{claim}
use Rattle.reassembly.specs.EveryRun.{EveryRun}
use Rattle.reassembly.proofs.Laws.EveryRun.{every_run}
use Rattle.reassembly.specs.declared.slot.Peer.{Peer}
use Rattle.endpoint.specs.Config.{Config, config_of, find_peer, Adding, set_up}
use Rattle.endpoint.proofs.Laws.Config.{set_up_valid}
use Rattle.endpoint.specs.Receive.{answers, layers, by_sender, source_of}
use Rattle.endpoint.proofs.Laws.Calls.{promised}
use Rattle.endpoint.proofs.Laws.Formats.{peer_listed, peer-found, segment_sound, segment_complete, judge_sound, judge-complete}
use Rattle.endpoint.specs.declared.config.Endpoint.{Endpoint}
use Rattle.endpoint.specs.Run.{ends_of}
use Rattle.endpoint.specs.Demand3.{From, WordsMean}
use Rattle.reassembly.specs.Slots.{most_peers}
use Rattle.wire.specs.declared.ipv4.Ipv4.{Ipv4}
use Rattle.wire.specs.declared.refusal.Refusal.{Refusal}

from_by : (c : Config) (k : List ℕ) (p : ℕ) → Bytes k → (x : Result Ipv4 Refusal) → ipv4_of k ≡ x → by_sender c x ≡ some p → From c k p
from_by c k p b (Err r) ip e = let z : ◌≡◌ {A = ℕ} 0 1 = cc in absurd (omega arith)
from_by c k p b (Ok h) ip e = ours (eqb h.destination c.own) refl e
  where
    ours : (t : Bool) → eqb h.destination c.own ≡ t → cond t (find_peer c h.source) none ≡ some p → From c k p
    ours true q e =
        record {
          source = h.source;
          protocol = h.protocol;
          payload = part k h.start h.end;
          ipv4 = rw (eqb-true h.destination c.own q) at (P.sound k b h ip).is;
          listed = peer_listed c h.source p e;
        }
    ours false q e = let z : ◌≡◌ {A = ℕ} 0 1 = cc in absurd (omega arith)

from_sound : (c : Config) (k : List ℕ) (p : ℕ) → Bytes k → source_of c k ≡ some p → From c k p
unfolding source_of
from_sound c k p b e = from_by c k p b (ipv4_of k) refl e

from-complete : (c : Config) (k : List ℕ) (p : ℕ) → From c k p → source_of c k ≡ some p
unfolding source_of
from-complete c k p w = rw ((P.complete w.ipv4).0, eq-eqb c.own c.own refl, peer-found c w.source p w.listed)

abbrev no_adding : Config → Adding → Config
no_adding c a = c

-- a set-up has every slot free
abbrev StartsFree : Endpoint → Type 0
StartsFree e = e.peers ≡ (U.set_up Config Adding no_adding (config_of e) []).peers

module _ (own port mtu : ℕ) (adds : List Adding) (p : ℕ) (is_peer_lem : p < most_peers) where
  pub set_up_claims : Claim answers Config layers (ends_of (set_up own port mtu adds)) p
  set_up_claims = of (set_up own port mtu adds) (set_up_valid own port mtu adds).peers
    where
      of : (e : Endpoint) → StartsFree e → Claim answers Config layers (ends_of e) p
      of e rows =
          subst (λ (r : List Peer). Claim answers Config layers (record { config = config_of e; peers = r }) p) (sym rows)
          (claim answers Config layers Adding no_adding (config_of e) [] (promised e) p is_peer_lem)

  pub set_up_every : EveryRun answers Config layers p (ends_of (set_up own port mtu adds))
  set_up_every = of (set_up own port mtu adds) (set_up_valid own port mtu adds).peers
    where
      of : (e : Endpoint) → StartsFree e → EveryRun answers Config layers p (ends_of e)
      of e rows =
          subst (λ (r : List Peer). EveryRun answers Config layers p (record { config = config_of e; peers = r })) (sym rows)
          (every_run answers Config layers p Adding no_adding (config_of e) [] (promised e) is_peer_lem)

pub words_mean : (c : Config) (p : ℕ) → WordsMean c p
words_mean c p = record {
  whose = λ k b q. from_sound c k p b q;
  whose_all = λ k w. from-complete c k p w;
  sound = λ k g b q. segment_sound c k p g b q;
  sound_all = λ k g w. segment_complete c k p g w;
  good_frame = λ note frame t b q. judge_sound c p note frame t b q;
  good_all = λ note frame t inner w. judge-complete c p note frame t inner w;
}
