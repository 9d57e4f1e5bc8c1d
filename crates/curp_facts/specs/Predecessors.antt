-- From which lists the adopted masters of a partition came, one after the other.
use Rattle.std.specs.Prelude.{◌≡◌, ◌≤◌, ◌<◌}
use Rattle.curp_cmd.specs.Node.{manager_node}
use Rattle.curp_msg.specs.Moved.{says}
use Rattle.curp_msg.specs.declared.body.Body.TheVariants as body
use Rattle.curp_msg.specs.declared.body.Recover.{Recover}
use Rattle.curp_model.specs.World.{World}
use Rattle.curp_facts.specs.Facts.{IsAmong, Lists, WasAdopted, WasSent}

-- The master of the lists was ordered to recover from a backup and a witness of the last lists that were adopted for its
-- partition before its epoch, and has told the manager that it has recovered
pub record Predecessor (w : World) (l : Lists) : Type 0 where
  pub order : Recover
  pub ordered : WasSent w (says manager_node l.master (body.Recover order))
  pub told : WasSent w (says l.master manager_node (body.Recovered (record { part = l.part; epoch = l.epoch })))
  pub before : Lists
  pub was : WasAdopted w before
  pub its_part : before.part ≡ l.part
  pub earlier : before.epoch < l.epoch
  pub older : before.version < order.version
  pub its_backup : IsAmong order.backup before.backups
  pub its_witness : IsAmong order.witness before.witnesses
  pub last : (k : Lists) → WasAdopted w k → k.part ≡ l.part → k.epoch < l.epoch → k.version ≤ before.version

-- each adopted master but those of the opening came so
abbrev pub Predecessors : World → Type 0
Predecessors w = (l : Lists) → WasAdopted w l → 1 < l.epoch → Predecessor w l
