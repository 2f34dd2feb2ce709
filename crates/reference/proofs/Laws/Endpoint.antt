-- The statement of Same.antt, of every set-up of the endpoint.
use Rattle.std.specs.Prelude.{◌≡◌, List, []}
use Rattle.std.proofs.Common.{sym, subst}
use Rattle.reassembly.specs.SetUp as U
use Rattle.reassembly.specs.declared.slot.Peer.{Peer}
use Rattle.endpoint.specs.Config.{Config, config_of, Adding, set_up}
use Rattle.endpoint.proofs.Laws.Config.{set_up_valid}
use Rattle.endpoint.proofs.Laws.Calls.{promised}
use Rattle.endpoint.specs.Receive.{answers, layers}
use Rattle.endpoint.specs.Run.{ends_of}
use Rattle.endpoint.specs.declared.config.Endpoint.{Endpoint}
use Rattle.reference.specs.Same.{Same, SameCalls, compared, SameAnswers, SameCallAnswers}
use Rattle.reference.proofs.Laws.Calls.{calls_follow}
use Rattle.reference.proofs.Laws.Same.{same, same_calls}

abbrev no_adding : Config → Adding → Config
no_adding c a = c

pub same-answers : SameAnswers
same-answers own port mtu adds = of (set_up own port mtu adds) (set_up_valid own port mtu adds).peers
  where
    of : (e : Endpoint) → e.peers ≡ (U.set_up Config Adding no_adding (config_of e) []).peers → Same answers compared Config layers (ends_of e)
    of e rows =
        subst (λ (r : List Peer). Same answers compared Config layers (record { config = config_of e; peers = r })) (sym rows)
        (same answers compared Config Adding no_adding layers (config_of e) [] (promised e))

pub same-call-answers : SameCallAnswers
same-call-answers own port mtu adds = of (set_up own port mtu adds) (same-answers own port mtu adds)
  where
    of : (e : Endpoint) → Same answers compared Config layers (ends_of e) → SameCalls answers compared Config layers (ends_of e)
    of e h = same_calls answers compared Config layers (ends_of e) (calls_follow answers Config layers (config_of e) (promised e)) h
