-- The message that an input brings.
use Rattle.std.specs.Prelude.{◌≡◌}
use Rattle.curp_cmd.specs.declared.node.NodeId.{NodeId}
use Rattle.curp_msg.specs.Moved.{says}
use Rattle.curp_msg.specs.declared.body.Body.{Body}
use Rattle.curp_msg.specs.Input.{Input}
use Rattle.curp_msg.specs.Input as input

-- the input is a message from that node that says this
pub record Brings (given : Input) (from : NodeId) (body : Body) : Type 0 where
  pub to : NodeId
  pub is : given ≡ input.Message (says from to body)
