-- What journals and steps show of the work that clients were given (this project's own).
use Rattle.std.specs.Prelude.{◌≡◌, ◌≤◌, ℕ, ◌+◌, if◌then◌else◌, List, [], ◌∷◌, ◌++◌, length, Option, Some, None}
use Rattle.curp_base.specs.Words.{At}
use Rattle.curp_cmd.specs.Node.{client_node, manager_node, same_node}
use Rattle.curp_cmd.specs.declared.command.Command.{Command}
use Rattle.curp_cmd.specs.declared.command.RequestId.{RequestId}
use Rattle.curp_cmd.specs.declared.node.NodeId.{NodeId}
use Rattle.curp_msg.specs.declared.machine.Completed.{Completed}
use Rattle.curp_msg.specs.Input as input
use Rattle.curp_msg.specs.declared.machine.Local.{Local}
use Rattle.curp_msg.specs.declared.machine.Local.TheVariants as local
use Rattle.curp_msg.specs.declared.script.Step.{Step}
use Rattle.curp_model.specs.World.{order_of}
use Rattle.curp_journal.specs.declared.arrived.Arrived.{Arrived}
use Rattle.curp_journal.specs.declared.arrived.Arrived.TheVariants as arrived
use Rattle.curp_journal.specs.declared.item.Item.{Item}

-- ---- in a journal

-- the command that came to be invoked
abbrev pub invoked_by : Arrived → List Command
invoked_by (arrived.Local (local.Invoke command) stamp) = command ∷ []
invoked_by _ = []

-- the commands that a client was given to invoke, in order
abbrev pub invoked_in : List Item → List Command
invoked_in [] = []
invoked_in (item ∷ items) = invoked_by item.input ++ invoked_in items

-- whether a recovery was ordered, as a number
abbrev pub recovery_by : Arrived → ℕ
recovery_by (arrived.Local (local.Recover part backup witness) stamp) = 1
recovery_by _ = 0

-- how many recoveries the manager was ordered to make
abbrev pub recoveries_in : List Item → ℕ
recoveries_in [] = 0
recoveries_in (item ∷ items) = recovery_by item.input + recoveries_in items

-- an item completes the request
pub record IsCompletedIn (items : List Item) (id : RequestId) : Type 0 where
  pub place : ℕ
  pub item : Item
  pub completed : Completed
  pub stands : At items place item
  pub is : item.done.completed ≡ Some completed
  pub its_id : completed.id ≡ id

-- a client of that number invoked the commands in order, and each request completed
pub record DidWork (number : ℕ) (commands : List Command) (items : List Item) : Type 0 where
  pub invoked : invoked_in items ≡ commands
  pub completed : (seq : ℕ) → 1 ≤ seq → seq ≤ length commands → IsCompletedIn items (record { client = number; seq = seq })

-- ---- in a script

-- the order, where it is to that node
abbrev pub ordered : NodeId → Option (NodeId × Local) → List Local
ordered node None = []
ordered node (Some order) = if same_node order.0 node then order.1 ∷ [] else []

-- the orders that steps give to a node
abbrev pub orders_to : NodeId → List Step → List Local
orders_to node [] = []
orders_to node (s ∷ ss) = ordered node (order_of s) ++ orders_to node ss

-- the commands among orders
abbrev pub commands_among : List Local → List Command
commands_among [] = []
commands_among (local.Invoke command ∷ orders) = command ∷ commands_among orders
commands_among (_ ∷ orders) = commands_among orders

-- how many recoveries are among orders
abbrev pub recoveries_among : List Local → ℕ
recoveries_among [] = 0
recoveries_among (local.Recover part backup witness ∷ orders) = 1 + recoveries_among orders
recoveries_among (_ ∷ orders) = recoveries_among orders

-- the commands that steps have a client invoke, in order
abbrev pub invocations : ℕ → List Step → List Command
invocations n ss = commands_among (orders_to (client_node n) ss)

-- how many recoveries steps order
abbrev pub recoveries : List Step → ℕ
recoveries ss = recoveries_among (orders_to manager_node ss)
