-- Who moves in a step.
use Rattle.std.specs.Prelude.{◌≡◌, ◌≢◌, List, ◌++◌, Option}
use Rattle.curp_base.specs.Words.{Each}
use Rattle.curp_cmd.specs.Node.{manager_node}
use Rattle.curp_cmd.specs.declared.node.NodeId.{NodeId}
use Rattle.curp_msg.specs.Moved.{within}
use Rattle.curp_msg.specs.Input.{Input}
use Rattle.curp_msg.specs.declared.message.Message.{Message}
use Rattle.curp_order.specs.declared.Event.{Event}
use Rattle.curp_model.specs.Manager.{manager_input, Attempted}
use Rattle.curp_model.specs.World.{World, kept, messages, with_manager}
use Rattle.curp_law_kept.specs.Deeds.{IsFor}

-- the manager stays as it is, and one other node at most has said more
pub record MovesBeside (w v : World) : Type 0 where
  pub out : List Message
  pub mover : NodeId
  pub sent : messages v ≡ messages w ++ out
  pub all : Each (λ (m : Message). m.from ≡ mover) out
  pub not_manager : manager_node ≢ mover
  pub manager : v.manager ≡ w.manager

-- an input has come to the manager, or the manager stays as it is
pub data ManagerMoves (w : World) : World → Type 0 where
  ByManager : (given : Input) (adopted : Option Attempted) (events : List Event) → IsFor w manager_node given
      → ManagerMoves w (kept w events (within (with_manager w adopted) (manager_input w.manager given))).world
  ByOther : (v : World) → MovesBeside w v → ManagerMoves w v
