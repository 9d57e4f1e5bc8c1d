-- A world in which a partition is recovered: what is on its way, and how far the fresh master is.
use Rattle.std.specs.Prelude.{◌≡◌, ◌≤◌, ◌<◌, ◌+◌, ◌⊎◌, ℕ, true, false, List, [], ◌∷◌, length, Some, None}
use Rattle.curp_base.specs.Words.{At, numbered}
use Rattle.curp_cmd.specs.Node.{backup_node, manager_node, master_node, witness_node}
use Rattle.curp_cmd.specs.declared.entry.Entry.{Entry}
use Rattle.curp_cmd.specs.declared.node.NodeId.{NodeId}
use Rattle.curp_cmd.specs.declared.node.NodeKind.TheVariants as kind
use Rattle.curp_msg.specs.Moved.{says}
use Rattle.curp_msg.specs.declared.body.Body.{Body}
use Rattle.curp_msg.specs.declared.body.Body.TheVariants as body
use Rattle.curp_msg.specs.declared.body.Recover.{Recover}
use Rattle.curp_msg.specs.declared.config.PartConfig.{PartConfig}
use Rattle.curp_msg.specs.declared.message.Message.{Message}
use Rattle.curp_facts.specs.Facts.{IsAmong}
use Rattle.curp_model.specs.Backup.{BackupState}
use Rattle.curp_model.specs.Client.{ClientState}
use Rattle.curp_model.specs.Log.{is_log, IsOp}
use Rattle.curp_model.specs.Manager as manager
use Rattle.curp_model.specs.Manager.{Doing, counter_ends, last_number, recover_order, recovered_part, recovers}
use Rattle.curp_model.specs.Master.{MasterState, Open}
use Rattle.curp_model.specs.Recovery.{Fresh, Recovering, RecoveryState, Replayed, Serving, Waiting}
use Rattle.curp_model.specs.Witness.{WitnessState}
use Rattle.curp_model.specs.World.{World, messages}
use Rattle.curp_law_served.specs.Calm.{IsUndelivered}
use Rattle.curp_law_served.specs.Recovers.{OrdersRecovery, PhaseGoes, TellsRecovered as TellsIt}
use Rattle.curp_law_served.specs.Ways.{Kind, OnWay}

-- what may be on its way; an Adopted, once the manager is steady
abbrev pub RenewFits : Type 0 → ℕ → Recover → NodeId → NodeId → Body → Type 0
RenewFits S q o from to (body.Install epoch) = (to.kind ≡ kind.Backup) × (epoch ≡ o.epoch)
RenewFits S q o from to (body.Start s) = to.kind ≡ kind.Witness
RenewFits S q o from to (body.Recover r) = (to ≡ master_node q) × (r ≡ o)
RenewFits S q o from to (body.Fence epoch) = (from ≡ master_node q) × (to ≡ o.backup) × (epoch ≡ o.epoch)
RenewFits S q o from to (body.FenceAnswer a) = to ≡ master_node q
RenewFits S q o from to (body.Freeze epoch) = (from ≡ master_node q) × (to ≡ o.witness) × (epoch ≡ o.epoch)
RenewFits S q o from to (body.FrozenAnswer requests) = to ≡ master_node q
RenewFits S q o from to (body.Append a) =
    (from ≡ master_node q) × IsAmong to o.backups × (a.epoch ≡ o.epoch) × (a.base ≡ 0)
RenewFits S q o from to (body.Appended a) = to ≡ master_node q
RenewFits S q o from to (body.Recovered r) = (to ≡ manager_node) × (r.part ≡ 1) × (r.epoch ≡ o.epoch)
RenewFits S q o from to (body.Adopted a) = (to ≡ master_node q) × S
RenewFits S q o from to _ = ⊥

-- the master is told that it is adopted
abbrev pub TellsRenewed : ℕ → Kind
TellsRenewed q from to (body.Adopted a) = to ≡ master_node q
TellsRenewed q from to _ = ⊥

-- a fresh backup of the order is installed at its epoch, and not fenced above
pub record IsInstalled (w : World) (o : Recover) (k : NodeId) : Type 0 where
  pub b : BackupState
  pub is : numbered w.backups k.number ≡ Some b
  pub installed : b.installed ≡ Some o.epoch
  pub fence : b.fence ≤ o.epoch

-- it isn't yet, and its Install is on its way, before any order to recover
pub record WillInstall (w : World) (done : ℕ) (o : Recover) (k : NodeId) : Type 0 where
  pub b : BackupState
  pub is : numbered w.backups k.number ≡ Some b
  pub bare : b.installed ≡ None
  pub fence : b.fence ≤ o.epoch
  pub place : ℕ
  pub due : done ≤ place
  pub from : NodeId
  pub sent : At (messages w) place (says from k (body.Install o.epoch))
  pub first : (i : ℕ) (other to : NodeId) (r : Recover) → done ≤ i
      → At (messages w) i (says other to (body.Recover r)) → place < i

-- the entry that is adopted
abbrev pub renewed : PartConfig → ℕ → Recover → PartConfig
renewed c q o = recovered_part c (record { master = master_node q; order = o })

-- a master by the entry, which waits for nothing
pub record ServesIdle (m : MasterState) (o : Recover) : Type 0 where
  pub held : m.held ≡ []
  pub captures : m.captures ≡ []
  pub serves : m.phase ≡ Open
  pub epoch : m.epoch ≡ o.epoch
  pub version : m.version ≡ o.version
  pub backups : m.backups ≡ o.backups
  pub witnesses : m.witnesses ≡ o.witnesses

-- how far it is: the order hasn't come; it is on its way; it is adopted, and will hear of it; it serves
pub data Renewal (w : World) (done : ℕ) (c : PartConfig) (q : ℕ) (o : Recover) : Type 0 where
  Ordered : numbered w.masters q ≡ Some Fresh → OnWay (IsUndelivered w done) (OrdersRecovery q o)
      → ((k : NodeId) → IsAmong k o.backups → IsInstalled w o k ⊎ WillInstall w done o k)
      → w.manager.config.parts ≡ c ∷ [] → w.manager.doing ≡ manager.Recovering (master_node q) o ∷ [] → Renewal w done c q o
  Attempts : (s : RecoveryState) → numbered w.masters q ≡ Some (Recovering s) → s.order ≡ o
      → PhaseGoes (IsUndelivered w done) q o s.phase
      → ((k : NodeId) → IsAmong k o.backups → IsInstalled w o k)
      → w.manager.config.parts ≡ c ∷ [] → w.manager.doing ≡ manager.Recovering (master_node q) o ∷ [] → Renewal w done c q o
  Adopts : (s : RecoveryState) (r : Replayed) → numbered w.masters q ≡ Some (Recovering s) → s.order ≡ o
      → s.phase ≡ Waiting r
      → OnWay (IsUndelivered w done) (TellsRenewed q) → ((k : NodeId) → IsAmong k o.backups → IsInstalled w o k)
      → w.manager.config.parts ≡ renewed c q o ∷ [] → w.manager.doing ≡ manager.Steady ∷ [] → Renewal w done c q o
  Serves : (m : MasterState) → numbered w.masters q ≡ Some (Serving m) → ServesIdle m o
      → ((k : NodeId) → IsAmong k o.backups → IsInstalled w o k)
      → w.manager.config.parts ≡ renewed c q o ∷ [] → w.manager.doing ≡ manager.Steady ∷ [] → Renewal w done c q o

-- nothing is being done with the partition
abbrev pub IsSteady : World → Type 0
IsSteady w = w.manager.doing ≡ manager.Steady ∷ []

-- the world is being renewed
pub record Renewing (w : World) (done : ℕ) (c : PartConfig) (q : ℕ) (o : Recover) (cl : ClientState) : Type 0 where
  pub client : w.clients ≡ cl ∷ []
  pub fits : (x : Message) → IsUndelivered w done x → RenewFits (IsSteady w) q o x.from x.to x.body
  pub renewal : Renewal w done c q o

-- what is used of what holds of every script
pub record RenewGrounds (w : World) (done : ℕ) (q : ℕ) (o : Recover) : Type 0 where
  pub filled : 1 ≤ length o.backups
  pub part : o.part ≡ 1
  pub named : (k : NodeId) → IsAmong k o.backups → k ≡ backup_node k.number
  pub backup : o.backup ≡ backup_node o.backup.number
  pub b : BackupState
  pub its_backup : numbered w.backups o.backup.number ≡ Some b
  pub unfenced : b.fence ≤ o.epoch
  pub its_log : is_log o.lo o.hi b.log ≡ true
  pub apart : (k : NodeId) → IsAmong k o.backups → k.number ≡ o.backup.number → ⊥
  pub witness : o.witness ≡ witness_node o.witness.number
  pub x : WitnessState
  pub its_witness : numbered w.witnesses o.witness.number ≡ Some x
  pub backups : (y : Message) → IsUndelivered w done y → y.to.kind ≡ kind.Backup
      → (s : BackupState) × (numbered w.backups y.to.number ≡ Some s)
  pub witnesses : (y : Message) → IsUndelivered w done y → y.to.kind ≡ kind.Witness
      → (s : WitnessState) × (numbered w.witnesses y.to.number ≡ Some s)
  pub told : (y : Message) → IsUndelivered w done y → TellsIt o y.from y.to y.body
      → (numbered w.masters q ≡ Some Fresh → ⊥) × ((s : RecoveryState) → numbered w.masters q ≡ Some (Recovering s) → (r : Replayed) × (s.phase ≡ Waiting r))
  pub serial : w.manager.config.serial < last_number
  pub ops : (m : MasterState) → numbered w.masters q ≡ Some (Serving m) → (index : ℕ) (e : Entry) → At m.log index e
      → IsOp e

-- where every message is delivered, the fresh master is adopted and serves, and its backups are installed
pub record IsRenewed (w : World) (c : PartConfig) (q : ℕ) (o : Recover) : Type 0 where
  pub m : MasterState
  pub serves : numbered w.masters q ≡ Some (Serving m)
  pub idle : ServesIdle m o
  pub installed : (k : NodeId) → IsAmong k o.backups → IsInstalled w o k
  pub adopted : w.manager.config.parts ≡ renewed c q o ∷ []
  pub steady : IsSteady w

-- a world in which all is delivered and a recovery can be ordered: the names are the next ones, and no number is at its
-- end
pub record CanRecover (w : World) (c : PartConfig) (from other : NodeId) : Type 0 where
  pub more : List NodeId
  pub others : List NodeId
  pub entry : w.manager.config.parts ≡ c ∷ []
  pub backups : c.backups ≡ from ∷ more
  pub witnesses : c.witnesses ≡ other ∷ others
  pub doing : Doing
  pub does : w.manager.doing ≡ doing ∷ []
  pub masters : length w.masters + 1 ≡ w.manager.next.master
  pub stores : length w.backups + 1 ≡ w.manager.next.backup
  pub counters : counter_ends w.manager.next (recovers w.manager 1 (recover_order w.manager c from other)).state.next ≡ false
  pub serial : w.manager.config.serial ≤ last_number
