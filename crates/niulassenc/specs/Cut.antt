-- The part that a place names, as numbers that cross to C: the endpoint's own cut (crate endpoint, specs/View.antt), which is the part that its view gives.
use Rattle.std.specs.Prelude.{ℕ, Bool}
use Rattle.endpoint.specs.View.{cut_of}
use Rattle.endpoint.specs.declared.answer.Place.{Place}

abbrev pub cut_at : (packet_length memory_length start length : ℕ) (in_lent_memory : Bool) → Place
cut_at packet_length memory_length start length in_lent_memory = cut_of packet_length memory_length (record { start = start; length = length; in_memory = in_lent_memory })
