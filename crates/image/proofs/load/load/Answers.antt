-- `image::load::load` meets its contract, exit by exit.
use Rattle.std.proofs.Common.{◌∙◌, sym, arith}
use Rattle.image.proofs.Laws.Images.{load_promised}
use Rattle.image.proofs.Laws.Load.{begun_yes, begun_no, not_framed, not_rebuilt, not_relisted, loads}
use Rattle.image.proofs.load.load.Goals as goal

pub returns-then-not-is_framed : goal.returns-then-not-is_framed
returns-then-not-is_framed c =
    let (value, load_rule) = load_promised _ _ (c.bad_image.ensures ∙ not_framed _ _ c.is_framed.ensures c.if-not-is_framed.true) in
    record { value = value; load_rule = load_rule }

pub returns-then-is_err : goal.returns-then-is_err
returns-then-is_err c =
    let (value, load_rule) = load_promised _ _ (c.bad_image-then-is_err.ensures
    ∙ not_rebuilt _ _ c.is_framed.ensures c.if-not-is_framed.false
    (begun_no _ _ _ _ (c.get-own.ensures.value (omega arith)) (c.get-port.ensures.value (omega arith)) (c.get-mtu.ensures.value (omega arith)) _ c.start-started.ensures.value (sym c.is_err.ensures.value ∙ c.if-is_err.true))) in
    record { value = value; load_rule = load_rule }

pub returns-then-is_err-2 : goal.returns-then-is_err-2
returns-then-is_err-2 c =
    let started = begun_yes _ _ _ _ (c.get-own.ensures.value (omega arith)) (c.get-port.ensures.value (omega arith)) (c.get-mtu.ensures.value (omega arith)) _ c.start-started.ensures.value
    (sym c.is_err.ensures.value ∙ c.if-is_err.false) in
    let (value, load_rule) = load_promised _ _ (c.bad_image-then-is_err-2.ensures
    ∙ not_relisted _ _ c.is_framed.ensures c.if-not-is_framed.false _ started _ _ c.relist.ensures (sym c.is_err-2.ensures.value ∙ c.if-is_err-2.true)) in
    record { value = value; load_rule = load_rule }

pub returns : goal.returns
returns c =
    let started = begun_yes _ _ _ _ (c.get-own.ensures.value (omega arith)) (c.get-port.ensures.value (omega arith)) (c.get-mtu.ensures.value (omega arith)) _ c.start-started.ensures.value
    (sym c.is_err.ensures.value ∙ c.if-is_err.false) in
    let (value, load_rule) = load_promised _ _
    (loads _ _ c.is_framed.ensures c.if-not-is_framed.false _ started _ _ c.relist.ensures (sym c.is_err-2.ensures.value ∙ c.if-is_err-2.false)) in
    record { value = value; load_rule = load_rule }
