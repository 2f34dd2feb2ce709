-- The worked lines (WorkedRerun.antt), computed.
use Rattle.std.specs.Prelude.{ℕ, ◌≤◌, ◌≡◌, refl, List, [], length}
use Rattle.std.proofs.Math.Option.{none}
use Rattle.std.proofs.Common.{le-ltb}
use Rattle.wire.specs.Checks.{first}
use Rattle.wire.specs.Ipv4.{ipv4_checks, ipv4_of}
use Rattle.wire.specs.Refusal.{finding_of}
use Rattle.endpoint.specs.Answer.{values_of}
use Rattle.endpoint.specs.Config.{tick_of}
use Rattle.endpoint.specs.Receive.{header_of, step_of}
use Rattle.endpoint.specs.declared.config.Endpoint.{Endpoint}
use Rattle.rerun.specs.Rerun.{decimal_in, decimal, space, newline, tenant_text, said_text, line_text, event_of, said_of, lines_of}
use Rattle.rerun.specs.WorkedRerun.{WorkedRerun}

-- an empty packet: 3, with no tenant
empty-number : (e : Endpoint) (m : List ℕ) → 55296 ≤ length m → (values_of (step_of e m []).answer).number ≡ 3
unfolding step_of header_of ipv4_of first ipv4_checks finding_of
empty-number e m h = rw (le-ltb (length m) 55296 h) refl

empty_tenant : (e : Endpoint) (m : List ℕ) → 55296 ≤ length m → (values_of (step_of e m []).answer).tenant ≡ none
unfolding step_of header_of ipv4_of first ipv4_checks finding_of
empty_tenant e m h = rw (le-ltb (length m) 55296 h) refl

pub worked_rerun : WorkedRerun
unfolding decimal_in decimal space newline tenant_text said_text line_text event_of said_of lines_of
worked_rerun = record {
  paper = λ w h. rw (empty-number (tick_of w.endpoint).endpoint w.mem h, empty_tenant (tick_of w.endpoint).endpoint w.mem h) refl;
  tenant_0 = refl;
  delivered = refl;
  refused = refl;
  zero = refl;
  largest = refl;
}
