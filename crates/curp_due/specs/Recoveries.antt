-- The recoveries of a plan, and which masters the driver stops for them (this project's own).
use Rattle.std.specs.Prelude.{◌&&◌, ◌==◌, ◌+◌, ◌-◌, ◌%◌, ℕ, Bool, List, map, nat_le}
use Rattle.curp_base.specs.Words.{numbers_from}
use Rattle.curp_cmd.specs.Node.{same_kind}
use Rattle.curp_cmd.specs.declared.node.NodeId.{NodeId}
use Rattle.curp_cmd.specs.declared.node.NodeKind.TheVariants as kind
use Rattle.curp_msg.specs.declared.machine.Local.{Local}
use Rattle.curp_msg.specs.declared.machine.Local.TheVariants.{Recover}
use Rattle.curp_words.specs.declared.task.LivePlan.{LivePlan}

-- the partition of a plan's recovery of that number: they take turns
abbrev pub part_of : LivePlan → ℕ → ℕ
part_of plan number = (number - 1) % plan.parts + 1

-- what the manager is ordered for it: to recover that partition from its first backup and its first witness
abbrev pub recovery_of : LivePlan → ℕ → Local
recovery_of plan number = Recover (part_of plan number) 1 1

-- and for those from a number on, in order
abbrev pub recoveries_from : LivePlan → ℕ → List Local
recoveries_from plan number = map (recovery_of plan) (numbers_from number (plan.recoveries + 1 - number))

-- whether a node is stopped for a recovery: each recovery replaces the master that has the recovery's number, and stops it
-- before where that number is odd
abbrev pub stops : LivePlan → NodeId → Bool
stops plan node = same_kind node.kind kind.Master && (nat_le node.number plan.recoveries && (node.number % 2 == 1))
