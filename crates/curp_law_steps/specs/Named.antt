-- Which node a step gives something, and which step stops one.
use Rattle.std.specs.Prelude.{◌≢◌, ℕ}
use Rattle.curp_cmd.specs.declared.node.NodeId.{NodeId}
use Rattle.curp_cmd.specs.declared.node.NodeKind.{NodeKind}
use Rattle.curp_msg.specs.Input.{Input}
use Rattle.curp_msg.specs.declared.script.Step.{Step}
use Rattle.curp_msg.specs.declared.script.Step.TheVariants.{Stop}
use Rattle.curp_model.specs.World.{World, Gives, deed_of}

-- the step gives that node no input
abbrev pub IsSpared : World → Step → NodeKind → ℕ → Type 0
IsSpared w s kind n = (given : Input) → deed_of w s ≢ Gives (record { kind = kind; number = n }) given

-- the step stops no node
abbrev pub StopsNone : Step → Type 0
StopsNone s = (node : NodeId) → s ≢ Stop node
