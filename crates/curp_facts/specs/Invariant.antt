-- What nodes and messages keep, all together.
use Rattle.std.specs.Prelude.{◌≡◌, ℕ, Some, false}
use Rattle.curp_base.specs.Words.{At, numbered}
use Rattle.curp_cmd.specs.declared.command.Answer.{Answer}
use Rattle.curp_cmd.specs.Store as cmd
use Rattle.curp_cmd.specs.declared.command.Command.{Command}
use Rattle.curp_cmd.specs.declared.command.RequestId.{RequestId}
use Rattle.curp_cmd.specs.declared.migration.Package.{Package}
use Rattle.curp_cmd.specs.declared.node.NodeId.{NodeId}
use Rattle.curp_msg.specs.declared.body.Body.TheVariants as body
use Rattle.curp_msg.specs.declared.body.TakeOut.{TakeOut}
use Rattle.curp_msg.specs.declared.config.PartConfig.{PartConfig}
use Rattle.curp_msg.specs.declared.message.Message.{Message}
use Rattle.curp_order.specs.Order.{IsHistory}
use Rattle.curp_order.specs.declared.Event.TheVariants.{Invoke, Complete}
use Rattle.curp_model.specs.Backup.{BackupState}
use Rattle.curp_model.specs.Client.{ClientState}
use Rattle.curp_model.specs.Manager.{Migration}
use Rattle.curp_model.specs.Named.{IsBackup, IsMaster, IsWitness}
use Rattle.curp_model.specs.Recovery.{MasterStage}
use Rattle.curp_model.specs.Witness.{WitnessState}
use Rattle.curp_model.specs.World.{World, messages}
use Rattle.curp_facts.specs.Facts.{EntryWas, IsAdoptedNow, IsAmong, IsGiven, Lists, WasOrdered, WasTaken, lists_of_part}
use Rattle.curp_facts.specs.Nodes.{BackupOk, ClientOk, CompletedBy, MasterOk, StartedAt, WasRead, WitnessOk}
use Rattle.curp_facts.specs.Reach.{IsReady}
use Rattle.curp_facts.specs.Said.{Says}

-- the present entry of a partition was adopted, and its lists are ready
pub record PresentOk (w : World) (c : PartConfig) : Type 0 where
  pub entry : EntryWas w c
  pub ready : IsReady w (lists_of_part c)

-- what the source of a migration is ordered to give away
abbrev pub take_order : Migration → TakeOut
take_order m = record { migration = m.number; lo = m.range.lo; hi = m.range.hi; ordered = m.range.ordered }

-- the migration in work was ordered to be taken out of its source, and a package that is kept was told
pub record MigrationOk (w : World) (m : Migration) : Type 0 where
  pub ordered : WasOrdered w m.source (body.TakeOut (take_order m))
  pub told : (p : Package) → m.moved ≡ Some p → WasTaken w (record { migration = m.number; «package» = p })

-- of every node and of every message, superseded masters and attempts that were given up included
pub record Invariant (w : World) : Type 0 where
  pub masters : (node : NodeId) (m : MasterStage) → IsMaster w node m → MasterOk w node m
  pub backups : (l : Lists) → IsGiven w l → (node : NodeId) → IsAmong node l.backups → (b : BackupState) → IsBackup w node b → BackupOk w l b
  pub witnesses : (node : NodeId) (x : WitnessState) → IsWitness w node x → WitnessOk w x
  pub started : (l : Lists) → IsGiven w l → (node : NodeId) → IsAmong node l.witnesses → (x : WitnessState) → IsWitness w node x → StartedAt l x
  pub clients : (n : ℕ) (c : ClientState) → numbered w.clients n ≡ Some c → ClientOk w n c
  pub history : IsHistory w.history
  pub completed : (i : ℕ) (id : RequestId) (a : Answer) → At w.history i (Complete id a) → CompletedBy w id a
  pub reads : (i j : ℕ) (id : RequestId) (command : Command) (a : Answer) → At w.history i (Invoke id command) → cmd.is_update command ≡ false
      → At w.history j (Complete id a) → WasRead w id a
  pub messages : (k : ℕ) (m : Message) → At (messages w) k m → Says w k m.from m.to m.body
  pub present : (c : PartConfig) → IsAdoptedNow w c → PresentOk w c
  pub moving : (m : Migration) → w.manager.moving ≡ Some m → MigrationOk w m
