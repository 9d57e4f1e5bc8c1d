-- Where gives that were told stand.
use Rattle.std.specs.Prelude.{ℕ}
use Rattle.curp_cmd.specs.declared.node.NodeId.{NodeId}
use Rattle.curp_msg.specs.Moved.{says}
use Rattle.curp_msg.specs.declared.body.Body.TheVariants as body
use Rattle.curp_model.specs.World.{World}
use Rattle.curp_facts.specs.Facts.{FromPart, GiveStands, OnAdopted, WasSent}

-- the give of a migration that a master has told stands on each backup of the adopted list of its partition
pub record GivenStand (w : World) : Type 0 where
  pub stand : (from to : NodeId) (migration : ℕ) → WasSent w (says from to (body.Given migration)) → FromPart w from (λ n. OnAdopted w n (GiveStands migration))
