-- What a node's process says, as bytes (this project's own).
use Rattle.std.specs.Prelude.{ℕ, ◌+◌, nat_le, ◌&&◌, Bool, true, List, [], ◌∷◌, Option, Some, None, option_map, length, Result, Ok, Err, ◌≡◌}
use Rattle.curp_base.specs.Cases.{◌>>=◌}
use Rattle.curp_batches.specs.Arrivals.{frame}
use Rattle.curp_cmd.specs.declared.command.Answer.{Answer}
use Rattle.curp_cmd.specs.declared.command.RequestId.{RequestId}
use Rattle.curp_cmd.specs.declared.node.NodeId.{NodeId}
use Rattle.curp_items.specs.Format.{Format, Tagged, Variant, byte, one_of, optional, shaped, tagged, variant, ◌▸◌}
use Rattle.curp_items.specs.declared.fault.Fault.{Fault}
use Rattle.curp_items.specs.Items.{answer, id, is_node, node, u32, u64}
use Rattle.curp_msg.specs.declared.machine.Capture.{Capture}
use Rattle.curp_msg.specs.declared.machine.Completed.{Completed}
use Rattle.curp_msg.specs.declared.message.Message.{Message}
use Rattle.curp_wire.specs.Frame.{content, has_frame}
use Rattle.curp_parcels.specs.Parcels.{parcel_limit}
use Rattle.curp_parcels.specs.declared.outgoing.Outgoing.{Outgoing}
use Rattle.curp_parcels.specs.declared.outgoing.Outgoing.TheVariants as out

-- ---- a message, and the name that its sender has for it

-- the number of the sender's item, the place in that, and its stamp
abbrev pub Name : Type 0
Name = ℕ × (ℕ × ℕ)

unfoldable pub name : Format Name
name = u64 ▸ (u64 ▸ u64)

unfoldable pub sent : Format (Name × Message)
sent = name ▸ frame

abbrev pub sent_made : Name × Message → Outgoing
sent_made p = out.Sent p.0.0 p.0.1.0 p.0.1.1 p.1

-- ---- a request that completed

abbrev pub capture_made : NodeId × (ℕ × ℕ) → Capture
capture_made p = record { master = p.0; epoch = p.1.0; number = p.1.1 }

abbrev pub capture_parts : Capture → NodeId × (ℕ × ℕ)
capture_parts c = (c.master, (c.epoch, c.number))

abbrev pub Completion : Type 0
Completion = ℕ × (RequestId × (Answer × Option (NodeId × (ℕ × ℕ))))

abbrev pub completion_made : Completion → ℕ × Completed
completion_made p = (p.0, record { id = p.1.0; answer = p.1.1.0; by = option_map capture_made p.1.1.1 })

abbrev pub completion_parts : ℕ × Completed → Completion
completion_parts c = (c.0, (c.1.id, (c.1.answer, option_map capture_parts c.1.by)))

-- the stamp, the request's id, its answer, and the capture whose value completed a read
unfoldable pub completion : Format (ℕ × Completed)
completion = shaped completion_made completion_parts (u64 ▸ id ▸ answer ▸ optional (node ▸ u32 ▸ u64))

-- ---- what is said

abbrev pub outgoing_parts : Outgoing → Tagged
outgoing_parts (out.Stands items last) = tagged 0 (u64 ▸ u64) (items, last)
outgoing_parts (out.Sent step place stamp m) = tagged 1 sent ((step, (place, stamp)), m)
outgoing_parts (out.Completed stamp c) = tagged 2 completion (stamp, c)
outgoing_parts (out.Refused input number) = tagged 3 (u64 ▸ byte) (input, number)
outgoing_parts (out.NoParcel input at) = tagged 4 (u64 ▸ u64) (input, at)
outgoing_parts (out.Withheld step place stamp) = tagged 5 name (step, (place, stamp))
outgoing_parts (out.Pending r) = tagged 6 id r

-- those without a message
abbrev pub plain_variants : List (Variant Outgoing)
plain_variants =
    variant 0 (u64 ▸ u64) (λ p. out.Stands p.0 p.1)
    ∷ variant 2 completion (λ p. out.Completed p.0 p.1)
    ∷ variant 3 (u64 ▸ byte) (λ p. out.Refused p.0 p.1)
    ∷ variant 4 (u64 ▸ u64) (λ p. out.NoParcel p.0 p.1)
    ∷ variant 5 name (λ p. out.Withheld p.0 p.1.0 p.1.1)
    ∷ variant 6 id (λ r. out.Pending r)
    ∷ []

unfoldable pub plain : Format Outgoing
plain = one_of outgoing_parts plain_variants

-- one that has nothing left over, or the place of the first fault
abbrev pub whole : Outgoing → ℕ → List ℕ → Result Outgoing ℕ
whole said place [] = Ok said
whole said place (b ∷ rest) = Err place

abbrev pub plain_read : List ℕ → Result Outgoing ℕ
plain_read bytes = plain.read (record { place = 0; rest = bytes }) >>= λ x. whole x.0 x.1.place x.1.rest

abbrev pub ReadsWhole : Result Outgoing Fault → Result Outgoing ℕ → Type 0
ReadsWhole (Ok said) read = read ≡ Ok said
ReadsWhole (Err fault) read = read ≡ Err fault.place

unfoldable pub outgoing : Format Outgoing
outgoing = one_of outgoing_parts (variant 1 sent sent_made ∷ plain_variants)

-- ---- what has an encoding

abbrev pub is_capture : Option Capture → Bool
is_capture None = true
is_capture (Some c) = is_node c.master

-- how many bytes stand before the content of a message in its parcel: a tag, its name, and the length of its frame
abbrev pub sent_prefix : ℕ
sent_prefix = 29

-- a parcel has room for the message
abbrev pub has_room : Message → Bool
has_room m = nat_le (sent_prefix + length (content m)) parcel_limit

-- a message whose frame a parcel has room for, a completion by a node that there may be, and all else
abbrev pub has_encoding : Outgoing → Bool
has_encoding (out.Sent step place stamp m) = has_frame m && has_room m
has_encoding (out.Completed stamp c) = is_capture c.by
has_encoding _ = true
