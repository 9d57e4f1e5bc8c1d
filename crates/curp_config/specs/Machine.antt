-- The machine of the manager, of which there is one: what an input does to it.
use Rattle.curp_msg.specs.Moved.{Moved}
use Rattle.curp_msg.specs.Input.{Input}
use Rattle.curp_model.specs.Manager.{ManagerState, manager_input}

unfoldable pub manager_machine : ManagerState → Input → Moved ManagerState
manager_machine g given = manager_input g given
