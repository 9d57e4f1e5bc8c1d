-- What stands of migrations in adopted logs.
use Rattle.std.specs.Prelude.{◌≡◌, ◌≤◌, ℕ, Some, length, ◌+◌, ⊤}
use Rattle.curp_base.specs.Words.{At}
use Rattle.curp_cmd.specs.Node.{manager_node}
use Rattle.curp_cmd.specs.declared.command.Answer.{Answer}
use Rattle.curp_cmd.specs.declared.command.RequestId.{RequestId}
use Rattle.curp_cmd.specs.declared.entry.Entry.{Entry}
use Rattle.curp_cmd.specs.declared.entry.Entry.TheVariants.{Take, Give}
use Rattle.curp_cmd.specs.declared.migration.Package.{Package}
use Rattle.curp_cmd.specs.declared.node.NodeId.{NodeId}
use Rattle.curp_msg.specs.Moved.{says}
use Rattle.curp_msg.specs.declared.body.Body.TheVariants as body
use Rattle.curp_msg.specs.declared.body.Parcel.{Parcel}
use Rattle.curp_msg.specs.declared.config.PartConfig.{PartConfig}
use Rattle.curp_model.specs.Backup.{BackupState}
use Rattle.curp_model.specs.Log.{IsDone}
use Rattle.curp_model.specs.Manager.{Migration}
use Rattle.curp_model.specs.Named.{IsBackup}
use Rattle.curp_model.specs.World.{World}
use Rattle.curp_facts.specs.Facts.{IsAmong, WasSent, hi_of, lo_of}
use Rattle.curp_facts.specs.Kept.{AdoptedLog}

-- each backup of the entry has so many entries
abbrev pub AllStored : World → PartConfig → ℕ → Type 0
AllStored w c n = (node : NodeId) → IsAmong node c.backups → (b : BackupState) → IsBackup w node b → n ≤ length b.log

-- the master of a partition has told the package of a migration
abbrev pub WasTold : World → ℕ → Type 0
WasTold w number = (node : NodeId) × (taken : Package) × WasSent w (says node manager_node (body.Taken (record { migration = number; «package» = taken })))

-- the Take of a migration with its package stands in an adopted log, on each of its backups
pub record TakeStored (w : World) (number : ℕ) (taken : Package) : Type 0 where
  pub source : PartConfig
  pub its : AdoptedLog w source
  pub index : ℕ
  pub stands : At its.its.log index (Take number taken)
  pub stored : AllStored w source (index + 1)

-- Of the migration in work, and its Take wasn't told
abbrev pub OnlyInWork : World → Entry → Type 0
OnlyInWork w (Take number taken) = ((m : Migration) × (w.manager.moving ≡ Some m) × (m.number ≡ number)) × (WasTold w number → ⊥)
OnlyInWork w (Give number given) = (m : Migration) × (w.manager.moving ≡ Some m) × (m.number ≡ number)
OnlyInWork w _ = ⊤

-- an Op of the request with that answer stands in an adopted log, on each of its backups
pub record OpStored (w : World) (id : RequestId) (a : Answer) : Type 0 where
  pub part : PartConfig
  pub its : AdoptedLog w part
  pub done : IsDone (lo_of w part.part) (hi_of w part.part) its.its.log id a
  pub stored : AllStored w part (done.index + 1)

-- what follows of migrations from what nodes keep, from the chain of masters and from the routes
pub record Migrated (w : World) : Type 0 where
  -- one package was told of each
  pub one_package : (node other : NodeId) (g k : Parcel) → WasSent w (says node manager_node (body.Taken g)) → WasSent w (says other manager_node (body.Taken k))
      → g.migration ≡ k.migration → g.package ≡ k.package
  -- a told one stands in the adopted log of its source
  pub told : (node : NodeId) (g : Parcel) → WasSent w (says node manager_node (body.Taken g)) → TakeStored w g.migration g.package
  -- and so does that of each Give that stands in an adopted log
  pub given : (c : PartConfig) (l : AdoptedLog w c) (index number : ℕ) (brought : Package) → At l.its.log index (Give number brought) → TakeStored w number brought
  -- past the length of some backup there is nothing but of the migration in work
  pub past : (c : PartConfig) (l : AdoptedLog w c) (node : NodeId) (b : BackupState) → IsAmong node c.backups → IsBackup w node b
      → (index : ℕ) (e : Entry) → length b.log ≤ index → At l.its.log index e → OnlyInWork w e
  -- a record that a Give has brought is that of an Op
  pub brought : (c : PartConfig) (l : AdoptedLog w c) (index number : ℕ) (p : Package) (id : RequestId) (a : Answer) → At l.its.log index (Give number p) → IsAmong (id, a) p.table.records
      → OpStored w id a
