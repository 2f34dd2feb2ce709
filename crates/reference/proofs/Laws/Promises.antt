-- The promises, field by field.
use Rattle.endpoint.specs.Config.{Config, config_of}
use Rattle.endpoint.specs.Receive.{answers, layers}
use Rattle.endpoint.proofs.Laws.Calls.{promised}
use Rattle.reference.specs.Promises.{Promises}
use Rattle.reference.proofs.Laws.Calls.{calls_follow, calls_front}
use Rattle.reference.proofs.Laws.Endpoint.{same-answers, same-call-answers}
use Rattle.reference.proofs.Laws.Room.{many, bounded}
use Rattle.reference.proofs.Laws.Unchanged.{unchanged}
use Rattle.reference.proofs.Laws.Heard.{hears-many-given, hears-many-only, hears_handed, hears_small, hears_quiet}

pub promises : Promises
promises =
    record {
      follows = λ e m o es. calls_follow answers Config layers (config_of e) (promised e) m o es;
      same = same-answers;
      same_calls = same-call-answers;
      many = many;
      bounded = bounded;
      many_given = hears-many-given answers Config layers;
      many_only = hears-many-only answers Config layers;
      handed_back_lem = hears_handed answers Config layers;
      front = λ e m o es. calls_front answers Config layers (config_of e) (promised e) m o es;
      too_small = hears_small;
      unchanged = unchanged;
      no_segment = hears_quiet;
    }
