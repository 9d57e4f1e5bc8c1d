-- Nodes of any kind as one: their states, what inputs do to them, and how they begin (this project's own).
use Rattle.std.specs.Prelude.{ℕ, ◌==◌, if◌then◌else◌, Option, Some, None, option_map, unwrap_or}
use Rattle.curp_base.specs.Words.{numbered}
use Rattle.curp_cmd.specs.declared.node.NodeId.{NodeId}
use Rattle.curp_cmd.specs.declared.node.NodeKind.TheVariants as kind
use Rattle.curp_cmd.specs.declared.node.NodeKind.{NodeKind}
use Rattle.curp_msg.specs.Moved.{Moved, within}
use Rattle.curp_msg.specs.Input.{Input}
use Rattle.curp_msg.specs.declared.script.Header.{Header}
use Rattle.curp_model.specs.Backup.{BackupState, backup_input, fresh_backup}
use Rattle.curp_model.specs.Client.{ClientState, client_input}
use Rattle.curp_model.specs.Manager.{ManagerState, manager_input, opening_manager}
use Rattle.curp_model.specs.Recovery.{Fresh, MasterStage, master_input}
use Rattle.curp_model.specs.Witness.{WitnessState, fresh_witness, witness_input}
use Rattle.curp_model.specs.World.{World, opening, shape_of, opening_client}

-- the state of a node, by its kind
pub data NodeState : Type 0 where
  AClient : (state : ClientState) → NodeState
  AManager : (state : ManagerState) → NodeState
  AMaster : (state : MasterStage) → NodeState
  ABackup : (state : BackupState) → NodeState
  AWitness : (state : WitnessState) → NodeState

-- the node of a kind and a number, where it is there; the manager has the number 0
abbrev pub state_by : World → NodeKind → ℕ → Option NodeState
state_by w kind.Client n = option_map AClient (numbered w.clients n)
state_by w kind.Manager n = if n == 0 then Some (AManager w.manager) else None
state_by w kind.Master n = option_map AMaster (numbered w.masters n)
state_by w kind.Backup n = option_map ABackup (numbered w.backups n)
state_by w kind.Witness n = option_map AWitness (numbered w.witnesses n)

-- the node of a name, where it is there
abbrev pub state_of : World → NodeId → Option NodeState
state_of w node = state_by w node.kind node.number

-- what an input does to the node of a number
abbrev pub machine_by : ℕ → NodeState → Input → Moved NodeState
machine_by n (AClient c) given = within AClient (client_input n c given)
machine_by n (AManager g) given = within AManager (manager_input g given)
machine_by n (AMaster m) given = within AMaster (master_input n m given)
machine_by n (ABackup b) given = within ABackup (backup_input n b given)
machine_by n (AWitness x) given = within AWitness (witness_input n x given)

-- what an input does to the node of a name
abbrev pub machine_of : NodeId → NodeState → Input → Moved NodeState
machine_of node state given = machine_by node.number state given

-- a node of a kind that nothing has come to yet
abbrev pub fresh_state : Header → NodeKind → NodeState
fresh_state h kind.Client = AClient (opening_client h)
fresh_state h kind.Manager = AManager (opening_manager (shape_of h))
fresh_state h kind.Master = AMaster Fresh
fresh_state h kind.Backup = ABackup fresh_backup
fresh_state h kind.Witness = AWitness (fresh_witness h.sets h.ways)

-- the state that a node begins with: that in the world of the header before any step, or a fresh one where it isn't there
abbrev pub opening_of : Header → NodeId → NodeState
opening_of h node = unwrap_or (state_of (opening h) node) (fresh_state h node.kind)
