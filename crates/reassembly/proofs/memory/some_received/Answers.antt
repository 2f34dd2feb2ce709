-- `reassembly::memory::some_received` meets its contract.
use mathlib.Core.Path.{◌∙◌}
use Rattle.reassembly.proofs.Lent.{some_of}
use Rattle.reassembly.proofs.memory.some_received.Goals as goal

pub returns : goal.returns
returns c = let a = c.args in
    c.any_bit.ensures ∙ some_of a.memory.now a.k a.offset a.n
