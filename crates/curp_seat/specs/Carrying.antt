-- How a message crosses from node to node (this project's own).
use Rattle.std.specs.Prelude.{◌≡◌, ℕ, true, false, List}
use Rattle.curp_cmd.specs.declared.node.NodeId.{NodeId}
use Rattle.curp_msg.specs.declared.message.Message.{Message}
use Rattle.curp_journal.specs.declared.arrived.Named.{Named}
use Rattle.curp_wire.specs.Frame.{Frame}
use Rattle.curp_wire.specs.Light.{is_light}
use Rattle.curp_seat.specs.declared.framed.Carried.{Carried}
use Rattle.curp_seat.specs.declared.framed.Carried.TheVariants as carried

-- a light message crosses by its frame, and another as it is
abbrev pub CrossesAs : Carried → Message → Type 0
CrossesAs (carried.Frame frame) message = (is_light message ≡ true) × Frame message frame.items
CrossesAs (carried.Whole whole) message = (is_light message ≡ false) × (whole ≡ message)

-- the bytes are the frame of a message
pub record IsFrame (bytes : List ℕ) : Type 0 where
  pub message : Message
  pub frame : Frame message bytes

-- a message crosses so
pub record IsPacked (carried : Carried) : Type 0 where
  pub message : Message
  pub carries : CrossesAs carried message

-- the place of a message
pub record IsPlaceOf (from : NodeId) (step place stamp : ℕ) (named : Named) : Type 0 where
  pub from_is : from ≡ named.from
  pub step_is : step ≡ named.step
  pub place_is : place ≡ named.place
  pub stamp_is : stamp ≡ named.stamp
