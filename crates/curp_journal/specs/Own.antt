-- What may come to a node (this project's own).
use Rattle.std.specs.Prelude.{◌≡◌, Bool, true, ⊤}
use Rattle.curp_cmd.specs.declared.node.NodeId.{NodeId}
use Rattle.curp_cmd.specs.declared.node.NodeKind.{NodeKind}
use Rattle.curp_cmd.specs.Node.{same_kind}
use Rattle.curp_msg.specs.declared.machine.Local.{Local}
use Rattle.curp_model.specs.World.{taker_of}
use Rattle.curp_journal.specs.declared.arrived.Arrived.{Arrived}
use Rattle.curp_journal.specs.declared.arrived.Arrived.TheVariants as arrived

-- a script has a step that gives the order to a node of the kind
abbrev pub is_order_of : NodeKind → Local → Bool
is_order_of kind order = same_kind (taker_of order) kind

-- what comes to a node is its own: a message that is addressed to it, or an order that a script can give to it
abbrev pub IsOwn : NodeId → Arrived → Type 0
IsOwn node (arrived.Local order stamp) = is_order_of node.kind order ≡ true
IsOwn node (arrived.Message named) = named.message.to ≡ node

-- what came is a message
abbrev pub IsArrivedMessage : Arrived → Type 0
IsArrivedMessage (arrived.Local order stamp) = ⊥
IsArrivedMessage (arrived.Message named) = ⊤
