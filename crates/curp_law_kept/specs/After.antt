-- What one step leaves of each node, and which messages it sends.
use Rattle.std.specs.Prelude.{◌≡◌, ℕ, Some, None}
use Rattle.curp_base.specs.Words.{numbered}
use Rattle.curp_cmd.specs.Node.{backup_node, client_node, master_node, witness_node}
use Rattle.curp_cmd.specs.declared.node.NodeKind.TheVariants as kind
use Rattle.curp_msg.specs.Input.{Input}
use Rattle.curp_msg.specs.declared.message.Message.{Message}
use Rattle.curp_msg.specs.declared.script.Step.{Step}
use Rattle.curp_model.specs.Backup.{BackupState, backup_input, fresh_backup}
use Rattle.curp_model.specs.Client.{ClientState, client_input}
use Rattle.curp_model.specs.Manager.{ManagerState, manager_input}
use Rattle.curp_model.specs.Recovery.{MasterStage, Fresh, master_input}
use Rattle.curp_model.specs.Witness.{WitnessState, fresh_witness, witness_input}
use Rattle.curp_model.specs.World.{World}
use Rattle.curp_facts.specs.Facts.{IsAmong, WasSent}
use Rattle.curp_law_kept.specs.Deeds.{Gave}

-- a client is as it was, or has moved by an order that isn't refused, or a message
pub data ClientAfter (w : World) (s : Step) (n : ℕ) (d : ClientState) : Type 0 where
  ClientStays : numbered w.clients n ≡ Some d → ClientAfter w s n d
  ClientMoves : (c : ClientState) (given : Input) → numbered w.clients n ≡ Some c → Gave w s (client_node n) given → (client_input n c given).refused ≡ 0 → d ≡ (client_input n c given).state → ClientAfter w s n d

-- a master is as it was, has moved by an input, or is new and fresh
pub data MasterAfter (w : World) (s : Step) (n : ℕ) (k : MasterStage) : Type 0 where
  MasterStays : numbered w.masters n ≡ Some k → MasterAfter w s n k
  MasterMoves : (m : MasterStage) (given : Input) → numbered w.masters n ≡ Some m → Gave w s (master_node n) given → k ≡ (master_input n m given).state → MasterAfter w s n k
  MasterNew : numbered w.masters n ≡ None → k ≡ Fresh → MasterAfter w s n k

-- the same of a backup
pub data BackupAfter (w : World) (s : Step) (n : ℕ) (c : BackupState) : Type 0 where
  BackupStays : numbered w.backups n ≡ Some c → BackupAfter w s n c
  BackupMoves : (b : BackupState) (given : Input) → numbered w.backups n ≡ Some b → Gave w s (backup_node n) given → c ≡ (backup_input n b given).state → BackupAfter w s n c
  BackupNew : numbered w.backups n ≡ None → c ≡ fresh_backup → BackupAfter w s n c

-- the same of a witness
pub data WitnessAfter (w : World) (s : Step) (n : ℕ) (y : WitnessState) : Type 0 where
  WitnessStays : numbered w.witnesses n ≡ Some y → WitnessAfter w s n y
  WitnessMoves : (x : WitnessState) (given : Input) → numbered w.witnesses n ≡ Some x → Gave w s (witness_node n) given → y ≡ (witness_input n x given).state → WitnessAfter w s n y
  WitnessNew : numbered w.witnesses n ≡ None → y ≡ fresh_witness w.sets w.ways → WitnessAfter w s n y

-- the manager is as it was, or has moved by an input
pub data ManagerAfter (w : World) (s : Step) (g : ManagerState) : Type 0 where
  ManagerStays : g ≡ w.manager → ManagerAfter w s g
  ManagerMoves : (n : ℕ) (given : Input) → Gave w s (record { kind = kind.Manager; number = n }) given → g ≡ (manager_input w.manager given).state → ManagerAfter w s g

-- a message was sent before, or is one of those that a node sent on its input
pub data MessageAfter (w : World) (s : Step) (m : Message) : Type 0 where
  SentBefore : WasSent w m → MessageAfter w s m
  ByClient : (n : ℕ) (c : ClientState) (given : Input) → numbered w.clients n ≡ Some c → Gave w s (client_node n) given → (client_input n c given).refused ≡ 0 → IsAmong m (client_input n c given).messages → MessageAfter w s m
  ByMaster : (n : ℕ) (k : MasterStage) (given : Input) → numbered w.masters n ≡ Some k → Gave w s (master_node n) given → IsAmong m (master_input n k given).messages → MessageAfter w s m
  ByBackup : (n : ℕ) (b : BackupState) (given : Input) → numbered w.backups n ≡ Some b → Gave w s (backup_node n) given → IsAmong m (backup_input n b given).messages → MessageAfter w s m
  ByWitness : (n : ℕ) (x : WitnessState) (given : Input) → numbered w.witnesses n ≡ Some x → Gave w s (witness_node n) given → IsAmong m (witness_input n x given).messages → MessageAfter w s m
  ByManager : (n : ℕ) (given : Input) → Gave w s (record { kind = kind.Manager; number = n }) given → IsAmong m (manager_input w.manager given).messages → MessageAfter w s m

-- what a step leaves
pub record After (w : World) (s : Step) (v : World) : Type 0 where
  pub clients : (n : ℕ) (c : ClientState) → numbered v.clients n ≡ Some c → ClientAfter w s n c
  pub masters : (n : ℕ) (m : MasterStage) → numbered v.masters n ≡ Some m → MasterAfter w s n m
  pub backups : (n : ℕ) (b : BackupState) → numbered v.backups n ≡ Some b → BackupAfter w s n b
  pub witnesses : (n : ℕ) (x : WitnessState) → numbered v.witnesses n ≡ Some x → WitnessAfter w s n x
  pub manager : ManagerAfter w s v.manager
  pub messages : (m : Message) → WasSent v m → MessageAfter w s m
