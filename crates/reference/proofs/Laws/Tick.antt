-- The tick's loop over the peers, turn by turn.
use Rattle.std.specs.Prelude.{◌≡◌, List, [], map, ℕ, ◌+◌, ◌<◌, length, get_or, set}
use Rattle.std.proofs.Common.{sym, ap, ◌∙◌}
use Rattle.std.proofs.lemmas.List.{length-map}
use Rattle.std.proofs.Math.ListN.{get_or-map}
use Rattle.reassembly.proofs.Laws.Base.{map-set}
use Rattle.endpoint.proofs.Laws.Changed.{changed_before, before_turn, before-none, before-all}
use Rattle.endpoint.specs.Config.{Config}
use Rattle.endpoint.specs.Receive.{answers, layers}
use Rattle.reference.specs.Calls.{ticked_in, left_of}
use Rattle.reference.specs.Layout.{buffers_of, older_buffers}
use Rattle.reference.specs.declared.buffer.Buffer.{Buffer}
use Rattle.reference.specs.declared.list.Buffers.{Buffers}
use Rattle.reference.specs.declared.reassembler.Reassembler.{Reassembler}

abbrev pub no_buffers : Buffers
no_buffers = record { buffers = []; count = 0 }

-- the frames of each peer, those of the peers before p older
abbrev pub older_peers : List Buffers → ℕ → List (List Buffer)
older_peers l p = changed_before older_buffers (map buffers_of l) p

pub none-older : (l : List Buffers) → map buffers_of l ≡ older_peers l 0
none-older l = sym (before-none older_buffers (map buffers_of l))

-- a turn: the frames of peer p are replaced by older ones
pub one_older_lem : (l next : List Buffers) (p : ℕ) (s : Buffers) → p < length l → map buffers_of next ≡ older_peers l p
    → buffers_of s ≡ older_buffers (buffers_of (get_or next p no_buffers))
    → map buffers_of (set next p s) ≡ older_peers l (p + 1)
one_older_lem l next p s h is now =
    map-set buffers_of next p s
    ∙ before_turn older_buffers (map buffers_of l) (map buffers_of next) p (buffers_of s) [] (rw (length-map l buffers_of) h) is
    (now ∙ ap older_buffers (sym (get_or-map buffers_of next p no_buffers)))

pub all-older : (l : List Buffers) (p : ℕ) → p ≡ length l → older_peers l p ≡ map older_buffers (map buffers_of l)
all-older l p h = ap (changed_before older_buffers (map buffers_of l)) (h ∙ sym (length-map l buffers_of)) ∙ before-all older_buffers (map buffers_of l)

pub ticked_is : (r next : Reassembler) (m : List ℕ) → next.endpoint ≡ r.endpoint → map buffers_of next.peers ≡ map older_buffers (map buffers_of r.peers)
    → left_of next m ≡ ticked_in answers Config layers (left_of r m)
ticked_is r next m e q = rw (e, q)
