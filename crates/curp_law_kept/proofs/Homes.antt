-- Homes of backups and witnesses, nodes by their names, and the order of each master that recovered.
use Rattle.curp_cmd.specs.declared.node.NodeId.{NodeId}
use Rattle.curp_cmd.specs.declared.node.NodeKind.TheVariants as kind
use Rattle.curp_msg.specs.declared.body.Body.TheVariants as body
use Rattle.curp_model.specs.Named.{IsMaster}
use Rattle.curp_model.specs.Recovery.{MasterStage}
use Rattle.curp_model.specs.World.{World}
use Rattle.curp_facts.specs.Names.{IsOf}
use Rattle.curp_base.proofs.Numbered.{numbered_some}

-- ---- nodes by their names

module _ (w : World) where
  pub master_there : (node : NodeId) → IsOf w kind.Master node → (m : MasterStage) × IsMaster w node m
  master_there node of = let x = numbered_some w.masters node.number of.1.0 of.1.1 in (x.0, record { its_kind = of.0; its_state = x.1 })
