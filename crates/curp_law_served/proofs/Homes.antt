-- Backups and witnesses by their names, and the home of the backup that an order names.
use Rattle.std.proofs.Common.{◌≡◌, ◌<◌, ◌∙◌, arith}
use Rattle.curp_cmd.specs.Node.{manager_node}
use Rattle.curp_cmd.specs.declared.node.NodeId.{NodeId}
use Rattle.curp_cmd.specs.declared.node.NodeKind.TheVariants as kind
use Rattle.curp_msg.specs.Moved.{says}
use Rattle.curp_msg.specs.declared.body.Body.TheVariants as body
use Rattle.curp_msg.specs.declared.body.Recover.{Recover}
use Rattle.curp_base.proofs.Numbered.{numbered_some}
use Rattle.curp_model.specs.Backup.{BackupState}
use Rattle.curp_model.specs.Named.{IsBackup, IsWitness}
use Rattle.curp_model.specs.Witness.{WitnessState}
use Rattle.curp_model.specs.World.{World}
use Rattle.curp_facts.specs.Facts.{IsAmong, IsGiven, Lists, WasSent}
use Rattle.curp_facts.specs.Names.{IsOf, Names, RecoverOrderOk}

module _ (w : World) where
  -- a backup of the world has a state
  pub backup_there : (node : NodeId) → IsOf w kind.Backup node → (b : BackupState) × IsBackup w node b
  backup_there node of = let x = numbered_some w.backups node.number of.1.0 of.1.1 in (x.0, record { its_kind = of.0; its_state = x.1 })

  pub witness_there : (node : NodeId) → IsOf w kind.Witness node → (x : WitnessState) × IsWitness w node x
  witness_there node of = let x = numbered_some w.witnesses node.number of.1.0 of.1.1 in (x.0, record { its_kind = of.0; its_state = x.1 })

module _ {w : World} (n : Names w) where
  -- two given lists with a backup in common have one partition and one epoch
  backup_home : (l k : Lists) → IsGiven w l → IsGiven w k → (node : NodeId) → IsAmong node l.backups → IsAmong node k.backups → (l.part ≡ k.part) × (l.epoch ≡ k.epoch)
  backup_home l k gl gk node a b =
      let agree = n.agree l k gl gk in
      agree.by_master (agree.by_backup node a b)

  -- the backup that an order names is at home in the order's partition, in a smaller epoch
  pub ordered_backup_home : (node : NodeId) (o : Recover) → WasSent w (says manager_node node (body.Recover o)) → (l : Lists) → IsGiven w l → IsAmong o.backup l.backups → (l.part ≡ o.part) × (l.epoch < o.epoch)
  ordered_backup_home node o sent l given a =
      let ok : RecoverOrderOk w node o = n.manager_says node (body.Recover o) sent in
      let home = backup_home l ok.before given ok.was.given o.backup a ok.its_backup in
      (home.0 ∙ ok.its_part, omega (arith, home.1, ok.earlier))
