-- The answers as they cross to C, computed: each case of the endpoint's and the image's answers beside its flat struct, for all numbers that it carries; and
-- the part that a place names.
use Rattle.std.specs.Prelude.{ℕ, ◌+◌, ◌<◌, ◌≤◌, ◌≡◌, Bool, false, cond, [], ◌∷◌, map, Ok, Err}
use Rattle.wire.specs.declared.refusal.Refusal.{Refusal}
use Rattle.wire.specs.declared.refusal.Refusal.TheVariants as F
use Rattle.reassembly.specs.declared.take.Rejection.{Rejection}
use Rattle.reassembly.specs.declared.take.Rejection.TheVariants as J
use Rattle.endpoint.specs.Answer.{values_of, wrap_values_of}
use Rattle.endpoint.specs.declared.answer.Drop.{Drop}
use Rattle.endpoint.specs.declared.answer.Drop.TheVariants as D
use Rattle.endpoint.specs.declared.answer.Received.TheVariants as R
use Rattle.endpoint.specs.declared.answer.ConfigRefusal.{ConfigRefusal}
use Rattle.endpoint.specs.declared.answer.ConfigRefusal.TheVariants as C
use Rattle.endpoint.specs.declared.answer.WrapRefusal.{WrapRefusal}
use Rattle.endpoint.specs.declared.answer.WrapRefusal.TheVariants as X
use Rattle.endpoint.specs.declared.config.Endpoint.{Endpoint}
use Rattle.image.specs.Answer.{save_values_of}
use Rattle.image.specs.declared.answer.SaveRefusal.{SaveRefusal}
use Rattle.image.specs.declared.answer.SaveRefusal.TheVariants as N
use Rattle.niulassenc.specs.Answer.{flat_of, addition_of, started_of, writing_of, saving_of, started_of_load}
use Rattle.niulassenc.specs.Cut.{cut_at}
use Rattle.niulassenc.specs.declared.answer.Receipt.{Receipt}
use Rattle.niulassenc.specs.declared.answer.Addition.{Addition}
use Rattle.niulassenc.specs.declared.answer.Writing.{Writing}
use Rattle.niulassenc.specs.declared.answer.Saving.{Saving}

-- a refusal: its number and the byte that it names, no tenant and no binding, the empty place in the packet
abbrev refusal : (offset number : ℕ) → Receipt
refusal offset number = record { code = number; tenant = 0xFFFF; binding = 0xFFFF; start = 0; length = 0; in_memory = false; offset = offset }

abbrev dropped : Drop → Receipt
dropped d = flat_of (values_of (Err d))

abbrev broken : (offset : ℕ) → Refusal → Receipt
broken offset r = dropped (D.Format r offset)

abbrev rejected : Rejection → Receipt
rejected r = dropped (D.Segment r)

abbrev not_added : ConfigRefusal → Addition
not_added r = addition_of (Err r)

abbrev not_written : WrapRefusal → Writing
not_written r = writing_of (wrap_values_of (Err r))

abbrev not_saved : SaveRefusal → Saving
not_saved r = saving_of (save_values_of (Err r))

-- THE STATEMENT, proved in Laws/WorkedAnswers (`worked-answers`)
pub record WorkedAnswers : Type 0 where
  -- a receive: 0 with its values; 1; 2 to 10 and 12 to 17, which name no byte; 25 to 29 with the byte that they name
  pub delivered : (tenant binding start length : ℕ) (in_lent_memory : Bool)
      → flat_of (values_of (Ok (R.Delivered (record { tenant = tenant; binding = binding }) (record { start = start; length = length; in_memory = in_lent_memory }))))
      ≡ record { code = 0; tenant = tenant; binding = binding; start = start; length = length; in_memory = in_lent_memory; offset = 0 }
  pub pending : flat_of (values_of (Ok R.Pending)) ≡ refusal 0 1
  pub drops : map dropped (D.MemoryTooSmall ∷ D.NotForUs ∷ D.UnknownPeer ∷ D.NoBinding ∷ []) ≡ map (refusal 0) (2 ∷ 6 ∷ 7 ∷ 12 ∷ [])
  pub outer_headers : map (broken 0) (F.Truncated ∷ F.Version ∷ F.HeaderLength ∷ F.TotalLength ∷ F.HeaderChecksum ∷ F.Fragment ∷ [])
      ≡ map (refusal 0) (3 ∷ 3 ∷ 3 ∷ 3 ∷ 4 ∷ 5 ∷ [])
  pub carriages : map (broken 0) (F.Protocol ∷ F.Port ∷ F.Short ∷ F.UdpLength ∷ F.TcpLength ∷ F.DataOffset ∷ F.UdpChecksum ∷ F.TcpChecksum ∷ [])
      ≡ map (refusal 0) (8 ∷ 8 ∷ 9 ∷ 9 ∷ 9 ∷ 9 ∷ 10 ∷ 10 ∷ [])
  pub tunnels : (offset : ℕ)
      → map (broken offset) (F.VxlanFlag ∷ F.GreFlags ∷ F.GreVersion ∷ F.GreTypeHigh ∷ F.GreTypeLow ∷ F.SttVersion ∷ F.SttFlags ∷ [])
      ≡ map (refusal offset) (25 ∷ 26 ∷ 26 ∷ 27 ∷ 27 ∷ 28 ∷ 29 ∷ [])
  pub frames : map (broken 0) (F.FrameLength ∷ F.FrameTag ∷ []) ≡ map (refusal 0) (13 ∷ 13 ∷ [])
  pub segments : map rejected (J.Empty ∷ J.FrameLength ∷ J.PastEnd ∷ J.LengthDiffers ∷ J.AlreadyReceived ∷ J.NoSlot ∷ [])
      ≡ map (refusal 0) (14 ∷ 14 ∷ 14 ∷ 15 ∷ 16 ∷ 17 ∷ [])
  -- start and adding: 0 with the number of the new entry; 18 to 20
  pub started : (e : Endpoint) → started_of (record { endpoint = e; answer = Ok tt }) ≡ record { endpoint = e; code = 0 }
  pub not_started : (e : Endpoint) → started_of (record { endpoint = e; answer = Err C.OutOfRange }) ≡ record { endpoint = e; code = 18 }
  pub added : (n : ℕ) → addition_of (Ok n) ≡ record { code = 0; number = n }
  pub not_added_lem : map not_added (C.OutOfRange ∷ C.AlreadyListed ∷ C.Full ∷ [])
      ≡ record { code = 18; number = 0xFFFF } ∷ record { code = 19; number = 0xFFFF } ∷ record { code = 20; number = 0xFFFF } ∷ []
  -- writing: 0 with the packet's length and the number of segments; 13, 21 to 23
  pub written : (length segments : ℕ)
      → writing_of (wrap_values_of (Ok (record { length = length; segments = segments }))) ≡ record { code = 0; length = length; segments = segments }
  pub not_written_lem : map not_written (X.NoBinding ∷ X.BadFrame ∷ X.ExceedsMtu ∷ X.NoSegment ∷ X.OutputTooShort ∷ [])
      ≡ record { code = 23; length = 0; segments = 0 }
      ∷ record { code = 13; length = 0; segments = 0 }
      ∷ record { code = 22; length = 0; segments = 0 }
      ∷ record { code = 23; length = 0; segments = 0 }
      ∷ record { code = 21; length = 0; segments = 0 }
      ∷ []
  -- saving: 0 with the image's length; 18 and 21
  pub saved : (length : ℕ) → saving_of (save_values_of (Ok length)) ≡ record { code = 0; length = length }
  pub not_saved_lem : map not_saved (N.NotStarted ∷ N.OutputTooShort ∷ []) ≡ record { code = 18; length = 0 } ∷ record { code = 21; length = 0 } ∷ []
  -- loading: 0 and 24, each with its endpoint
  pub loaded : (e : Endpoint) → started_of_load (record { endpoint = e; answer = Ok tt }) ≡ record { endpoint = e; code = 0 }
  pub not_loaded : (e : Endpoint) → started_of_load (record { endpoint = e; answer = Err (record {}) }) ≡ record { endpoint = e; code = 24 }
  -- the part to cut: a place that fits its slice, as it is; of one that does not, the empty part at the packet's start
  pub cut_fits : (packet_length memory_length start length : ℕ) (in_lent_memory : Bool) → start + length ≤ cond in_lent_memory memory_length packet_length
      → cut_at packet_length memory_length start length in_lent_memory ≡ record { start = start; length = length; in_memory = in_lent_memory }
  pub cut_past : (packet_length memory_length start length : ℕ) (in_lent_memory : Bool) → cond in_lent_memory memory_length packet_length < start + length
      → cut_at packet_length memory_length start length in_lent_memory ≡ record { start = 0; length = 0; in_memory = false }
