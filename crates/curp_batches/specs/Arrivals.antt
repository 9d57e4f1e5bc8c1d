-- What comes to a node as bytes (this project's own).
use Rattle.std.specs.Prelude.{ℕ, ◌+◌, List, [], ◌∷◌, ◌++◌, length, drop, Result, Ok, Err}
use Rattle.std.specs.Int.{to_be_bytes, w32}
use Rattle.curp_cmd.specs.declared.node.NodeId.{NodeId}
use Rattle.curp_items.specs.Format.{Format, Input, Tagged, Variant, one_of, shaped, tagged, variant, ◌▸◌}
use Rattle.curp_items.specs.Items.{node, u64}
use Rattle.curp_journal.specs.declared.arrived.Arrived.{Arrived}
use Rattle.curp_journal.specs.declared.arrived.Arrived.TheVariants as arrived
use Rattle.curp_journal.specs.declared.arrived.Named.{Named}
use Rattle.curp_msg.specs.declared.machine.Local.{Local}
use Rattle.curp_msg.specs.declared.message.Message.{Message}
use Rattle.curp_wire.specs.Frame.{Frame, content, frame_in}
use Rattle.curp_wire.specs.declared.error.FrameError.{FrameError}
use Rattle.curp_batches.specs.Orders.{orders}

-- ---- a message is its frame

abbrev pub frame_of : Message → List ℕ
frame_of m = to_be_bytes w32 (length (content m)) ++ content m

-- the message whose frame stands at the start of these bytes, which begin at a place
abbrev pub frame_step : ℕ → List ℕ → Result (Message × ℕ) FrameError → Result (Message × Input) ℕ
frame_step place rest (Ok found) = Ok (found.0, record { place = place + found.1; rest = drop found.1 rest })
frame_step place rest (Err why) = Err place

unfoldable pub frame : Format Message
frame = record {
  Fits = λ m. Frame m (frame_of m);
  of = frame_of;
  read = λ at. frame_step at.place at.rest (frame_in at.rest);
}

-- ---- a message with its name: the sender, the number of its item, the place in that, the stamp, and the frame

abbrev pub Name : Type 0
Name = NodeId × (ℕ × (ℕ × ℕ))

unfoldable pub name : Format Name
name = node ▸ (u64 ▸ (u64 ▸ u64))

abbrev pub named_made : Name × Message → Named
named_made p = record { from = p.0.0; step = p.0.1.0; place = p.0.1.1.0; stamp = p.0.1.1.1; message = p.1 }

abbrev pub named_parts : Named → Name × Message
named_parts n = ((n.from, (n.step, (n.place, n.stamp))), n.message)

unfoldable pub named : Format Named
named = shaped named_made named_parts (name ▸ frame)

-- ---- what comes to a node

-- an order with its stamp
unfoldable pub stamped : Format (Local × ℕ)
stamped = orders ▸ u64

abbrev pub arrival_parts : Arrived → Tagged
arrival_parts (arrived.Message n) = tagged 0 named n
arrival_parts (arrived.Local order stamp) = tagged 1 stamped (order, stamp)

abbrev pub arrival_variants : List (Variant Arrived)
arrival_variants = variant 0 named arrived.Message ∷ variant 1 stamped (λ p. arrived.Local p.0 p.1) ∷ []

unfoldable pub arrival : Format Arrived
arrival = one_of arrival_parts arrival_variants
