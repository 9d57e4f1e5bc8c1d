-- Nodes of a world by their names.
use Rattle.std.specs.Prelude.{◌≡◌, ◌≤◌, ℕ, length, Some}
use Rattle.curp_base.specs.Words.{numbered}
use Rattle.curp_cmd.specs.declared.node.NodeId.{NodeId}
use Rattle.curp_cmd.specs.declared.node.NodeKind.{NodeKind}
use Rattle.curp_cmd.specs.declared.node.NodeKind.TheVariants as kind
use Rattle.curp_model.specs.Backup.{BackupState}
use Rattle.curp_model.specs.Recovery.{MasterStage}
use Rattle.curp_model.specs.Witness.{WitnessState}
use Rattle.curp_model.specs.World.{World}

-- a node of the world, by its kind and its number
abbrev pub IsNodeOf : World → NodeKind → ℕ → Type 0
IsNodeOf w kind.Manager n = n ≡ 0
IsNodeOf w kind.Client n = (1 ≤ n) × (n ≤ length w.clients)
IsNodeOf w kind.Master n = (1 ≤ n) × (n ≤ length w.masters)
IsNodeOf w kind.Backup n = (1 ≤ n) × (n ≤ length w.backups)
IsNodeOf w kind.Witness n = (1 ≤ n) × (n ≤ length w.witnesses)

-- a name of a node of the world
abbrev pub IsNode : World → NodeId → Type 0
IsNode w node = IsNodeOf w node.kind node.number

-- the state of a backup by its name
pub record IsBackup (w : World) (node : NodeId) (b : BackupState) : Type 0 where
  pub its_kind : node.kind ≡ kind.Backup
  pub its_state : numbered w.backups node.number ≡ Some b

-- the state of a witness by its name
pub record IsWitness (w : World) (node : NodeId) (x : WitnessState) : Type 0 where
  pub its_kind : node.kind ≡ kind.Witness
  pub its_state : numbered w.witnesses node.number ≡ Some x

-- the state of a master by its name
pub record IsMaster (w : World) (node : NodeId) (m : MasterStage) : Type 0 where
  pub its_kind : node.kind ≡ kind.Master
  pub its_state : numbered w.masters node.number ≡ Some m
