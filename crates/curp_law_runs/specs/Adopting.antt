-- What a step adopts.
use Rattle.std.specs.Prelude.{◌≡◌, ◌⊎◌}
use Rattle.curp_cmd.specs.Node.{manager_node}
use Rattle.curp_cmd.specs.declared.node.NodeId.{NodeId}
use Rattle.curp_msg.specs.Moved.{says}
use Rattle.curp_msg.specs.declared.body.Body.TheVariants as body
use Rattle.curp_msg.specs.declared.body.Recover.{Recover}
use Rattle.curp_model.specs.World.{World}
use Rattle.curp_facts.specs.Facts.{Lists, WasAdopted, WasSent}
use Rattle.curp_facts.specs.Names.{RecoveringOk, Top}

-- Lists come behind the present ones of their partition: they are of the same master, or of one that recovers from the present
-- ones, as some node has told the manager
pub data Comes (w : World) (l : Lists) : Type 0 where
  FromReplacement : (now : Lists) → Top w now → now.master ≡ l.master → Comes w l
  FromRecovery : (now : Lists) → Top w now → (order : Recover) → RecoveringOk w now l.master order → (from : NodeId)
      → WasSent w (says from manager_node (body.Recovered (record { part = l.part; epoch = l.epoch }))) → Comes w l

-- a step adopts lists of which there are no two, each behind the present ones of its partition
pub record Adopts (w v : World) (IsNew : Lists → Type 0) : Type 0 where
  pub back : (l : Lists) → WasAdopted v l → WasAdopted w l ⊎ IsNew l
  pub comes : (l : Lists) → IsNew l → Comes w l
  pub one : (l k : Lists) → IsNew l → IsNew k → l ≡ k
