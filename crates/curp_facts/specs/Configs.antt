-- The ranges of all configurations: of the manager's, of those that it has told, and of those that clients know.
use Rattle.std.specs.Prelude.{◌≡◌, ℕ, ◌+◌, true, Some, None}
use Rattle.curp_base.specs.Words.{numbered}
use Rattle.curp_cmd.specs.Node.{manager_node}
use Rattle.curp_cmd.specs.declared.node.NodeId.{NodeId}
use Rattle.curp_msg.specs.Moved.{says}
use Rattle.curp_msg.specs.declared.body.Body.TheVariants as body
use Rattle.curp_msg.specs.declared.config.Config.{Config}
use Rattle.curp_range.specs.Spans.{is_covered}
use Rattle.curp_model.specs.Client.{ClientState}
use Rattle.curp_model.specs.Manager.{Migration}
use Rattle.curp_model.specs.World.{World}
use Rattle.curp_facts.specs.Facts.{HasRanges, WasSent}

-- the manager's entries have the ranges after all migrations but the one in work, whose source has all of its range
pub record PresentRanges (w : World) : Type 0 where
  pub have : HasRanges w w.manager.config
  pub all : w.manager.moving ≡ None → have.count + 1 ≡ w.manager.next.migration
  pub but_one : (m : Migration) → w.manager.moving ≡ Some m
      → (have.count + 1 ≡ m.number) × (is_covered (have.ranges m.source) m.range.lo m.range.hi ≡ true)

-- each configuration has the ranges after some migrations
pub record Configs (w : World) : Type 0 where
  pub present : PresentRanges w
  pub told : (to : NodeId) (config : Config) → WasSent w (says manager_node to (body.Configuration config)) → HasRanges w config
  pub known : (n : ℕ) (c : ClientState) → numbered w.clients n ≡ Some c → HasRanges w c.config
