-- What a step gives a node.
use Rattle.std.specs.Prelude.{◌≡◌, ⊤}
use Rattle.curp_cmd.specs.declared.node.NodeId.{NodeId}
use Rattle.curp_msg.specs.Input.{Input}
use Rattle.curp_msg.specs.Input as input
use Rattle.curp_msg.specs.declared.outcome.StepResult.TheVariants as result
use Rattle.curp_msg.specs.declared.script.Step.{Step}
use Rattle.curp_facts.specs.Facts.{WasSent}
use Rattle.curp_model.specs.World.{Deed, Nothing, Gives, Stops, World, deed_of, refusal, result_of}

-- the input is an order, or a message that was sent to the node
abbrev pub IsFor : World → NodeId → Input → Type 0
IsFor w to (input.Local order) = ⊤
IsFor w to (input.Message m) = (m.to ≡ to) × WasSent w m

-- what the deed gives is for the node that gets it
abbrev pub IsMeant : World → Deed → Type 0
IsMeant w Nothing = ⊤
IsMeant w (Gives to given) = IsFor w to given
IsMeant w (Stops node) = ⊤

-- the step is done and gives the node that input, which is for it
pub record Gave (w : World) (s : Step) (to : NodeId) (given : Input) : Type 0 where
  pub deed : deed_of w s ≡ Gives to given
  pub meant : IsFor w to given
  pub made : result_of w s ≡ result.Done
  pub taken : refusal w s ≡ 0
