-- Nodes and messages of one world.
use Rattle.std.proofs.Common.{◌≡◌}
use Rattle.curp_cmd.specs.declared.node.NodeId.{NodeId}
use Rattle.curp_msg.specs.Moved.{says}
use Rattle.curp_msg.specs.declared.body.Body.{Body}
use Rattle.curp_model.specs.Backup.{BackupState}
use Rattle.curp_model.specs.Named.{IsBackup, IsMaster, IsWitness}
use Rattle.curp_model.specs.Recovery.{MasterStage}
use Rattle.curp_model.specs.Witness.{WitnessState}
use Rattle.curp_model.specs.World.{World}
use Rattle.curp_facts.specs.Facts.{HasLog, Logged, WasSent}
use Rattle.curp_facts.specs.Invariant.{Invariant}
use Rattle.curp_facts.specs.Said.{Says}

module _ {w : World} {node : NodeId} where
  -- a master has one log
  pub one_log : (x y : Logged) → HasLog w node x → HasLog w node y → x ≡ y
  one_log x y p q =
      let same : p.m ≡ q.m = cc (p.is.its_state, q.is.its_state) in
      let a = p.its_log in
      let b = q.its_log in
      cc

  pub one_backup : (b c : BackupState) → IsBackup w node b → IsBackup w node c → b ≡ c
  one_backup b c p q = cc (p.its_state, q.its_state)

  pub one_witness : (x y : WitnessState) → IsWitness w node x → IsWitness w node y → x ≡ y
  one_witness x y p q = cc (p.its_state, q.its_state)

  pub one_master : (m k : MasterStage) → IsMaster w node m → IsMaster w node k → m ≡ k
  one_master m k p q = cc (p.its_state, q.its_state)

-- what was sent says so
pub said : {w : World} → Invariant w → (from to : NodeId) (b : Body) (sent : WasSent w (says from to b)) → Says w sent.place from to b
said inv from to b sent = inv.messages sent.place (says from to b) sent.stands
