-- A message that an input brings was sent.
use Rattle.std.proofs.Common.{subst}
use Rattle.curp_cmd.specs.declared.node.NodeId.{NodeId}
use Rattle.curp_msg.specs.Moved.{says}
use Rattle.curp_msg.specs.declared.body.Body.{Body}
use Rattle.curp_msg.specs.Input.{Input}
use Rattle.curp_facts.specs.Facts.{WasSent}
use Rattle.curp_model.specs.World.{World}
use Rattle.curp_law_kept.specs.Deeds.{IsFor}
use Rattle.curp_law_kept.specs.Brought.{Brings}

-- to the node that gets the input
pub brought_sent : (w : World) (to : NodeId) (given : Input) (from : NodeId) (b : Body) → IsFor w to given → Brings given from b → WasSent w (says from to b)
brought_sent w to given from b meant brings =
    let m = subst (IsFor w to) brings.is meant in
    subst (λ (node : NodeId). WasSent w (says from node b)) m.0 m.1
