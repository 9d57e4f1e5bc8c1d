-- What the driver of a run does (this project's own).
use Rattle.std.specs.Prelude.{ℕ, ◌+◌, ◌*◌, ◌/◌, if◌then◌else◌, List, [], ◌∷◌, ◌++◌, map}
use Rattle.curp_base.specs.Words.{all_of, numbers_from}
use Rattle.curp_cmd.specs.Node.{client_node, manager_node, master_node}
use Rattle.curp_msg.specs.declared.machine.Local.TheVariants.{Fetch}
use Rattle.curp_words.specs.declared.task.LivePlan.{LivePlan}
use Rattle.curp_due.specs.Recoveries.{recovery_of, stops}
use Rattle.curp_due.specs.declared.driving.Need.TheVariants.{Completed, Configured, Serving}
use Rattle.curp_due.specs.declared.driving.Deed.{Deed}
use Rattle.curp_due.specs.declared.driving.Deed.TheVariants.{Await, Order, Stop}

-- how many requests the clients of a plan invoke
abbrev pub requests_of : LivePlan → ℕ
requests_of plan = plan.clients * plan.commands

-- how many of them are completed before the recovery of a number is ordered: recoveries are spread evenly over them
abbrev pub completed_before : LivePlan → ℕ → ℕ
completed_before plan number = number * requests_of plan / (plan.recoveries + 1)

-- the fresh master of that recovery: each takes the next number behind those that are there before any step
abbrev pub fresh_master : LivePlan → ℕ → ℕ
fresh_master plan number = plan.parts + number

-- a client is told to ask for the configuration
abbrev pub fetch_by : ℕ → Deed
fetch_by client = Order (client_node client) Fetch

-- the master that it replaces has its number, and is stopped where the plan stops it
abbrev pub stop_before : LivePlan → ℕ → List Deed
stop_before plan number = if stops plan (master_node number) then Stop (master_node number) ∷ [] else []

-- for a recovery: once so many requests are completed, the replaced master is stopped, where it is to be, and the manager
-- ordered; once the fresh master serves, each client is told to fetch; and then each has to know that master
abbrev pub recovery_deeds : LivePlan → ℕ → List Deed
recovery_deeds plan number =
    (Await (Completed (completed_before plan number)) ∷ [])
    ++ stop_before plan number
    ++ (Order manager_node (recovery_of plan number) ∷ Await (Serving (fresh_master plan number)) ∷ [])
    ++ map fetch_by (numbers_from 1 plan.clients)
    ++ (Await (Configured (fresh_master plan number)) ∷ [])

-- the recoveries one after the other, and then all requests have to be completed
abbrev pub deeds_of : LivePlan → List Deed
deeds_of plan =
    all_of (map (recovery_deeds plan) (numbers_from 1 plan.recoveries)) ++ (Await (Completed (requests_of plan)) ∷ [])
