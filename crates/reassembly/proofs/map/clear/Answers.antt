-- `reassembly::map::clear` meets its contract.
use Rattle.std.proofs.Common.{List, ℕ, ◌++◌, ◌∙◌, ap, drop, replicate, length-take-le}
use Rattle.reassembly.proofs.map.clear.Goals as goal

pub returns : goal.returns
returns c =
    let m = c.args.map.now in
    ap (λ (t : List ℕ). t ++ drop 192 m) (c.fill.ensures.after (λ y h. h) ∙ ap (λ (k : ℕ). replicate k 0) (length-take-le 192 m c.requires))
