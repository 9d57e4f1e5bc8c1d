-- What a node reacts to, as its machine sees it: an order, or a message that comes to it.
use Rattle.curp_msg.specs.declared.machine.Input as borrowed
use Rattle.curp_msg.specs.declared.machine.Input.TheVariants as given
use Rattle.curp_msg.specs.declared.machine.Local as order
use Rattle.curp_msg.specs.declared.message.Message as message

pub data Input : Type 0 where
  Local : order.Local → Input
  Message : message.Message → Input

-- the same, of what a call is given by reference
abbrev pub input_of : borrowed.Input → Input
input_of (given.Local order) = Local order.now
input_of (given.Message message) = Message message.now
