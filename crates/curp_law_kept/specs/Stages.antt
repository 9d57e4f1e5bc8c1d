-- What a fresh master says, and how a recovered one begins to serve.
use Rattle.std.specs.Prelude.{◌≡◌, [], length}
use Rattle.curp_base.specs.Words.{Each}
use Rattle.curp_cmd.specs.declared.node.NodeId.{NodeId}
use Rattle.curp_msg.specs.declared.body.Body.{Body}
use Rattle.curp_msg.specs.declared.body.Body.TheVariants as body
use Rattle.curp_model.specs.Master.{MasterState}
use Rattle.curp_model.specs.Recovery.{RecoveryState}
use Rattle.curp_model.specs.World.{World}
use Rattle.curp_facts.specs.Entries.{LogOk}
use Rattle.curp_facts.specs.Growth.{ServesByOrder}
use Rattle.curp_facts.specs.Nodes.{AcknowledgedOk}
use Rattle.curp_facts.specs.Reach.{HasStored}
use Rattle.curp_law_kept.specs.Moves.{RefuseSays}

-- what a fresh master says before it gets its order: refusals alone
abbrev pub FreshSays : World → NodeId → Body → Type 0
FreshSays w to (body.Refuse r) = RefuseSays w to r
FreshSays w to _ = ⊥

-- a recovered master serves by its order, with a log that each backup of its list has, and with nothing under way
pub record BeginningOk (w : World) (s : RecoveryState) (k : MasterState) : Type 0 where
  pub ordered : ServesByOrder s k
  pub log : LogOk w k.part k.log
  pub stored : Each (HasStored w (length k.log)) k.backups
  pub acknowledged : Each (AcknowledgedOk w k) k.acknowledged
  pub free : k.free ≡ []
  pub held : k.held ≡ []
  pub queue : k.queue ≡ []
  pub captures : k.captures ≡ []
