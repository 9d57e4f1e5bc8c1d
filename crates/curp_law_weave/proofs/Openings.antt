-- The nodes of the header's world before any step.
use Rattle.std.proofs.Common.{◌≡◌, ℕ, zero, suc, ◌<◌, List, length, Some, None, refl, ap, arith}
use Rattle.std.specs.Prelude.{option_map}
use Rattle.std.proofs.lemmas.Option.{slice_get_past}
use Rattle.curp_base.specs.Words.{numbered}
use Rattle.curp_cmd.specs.Node.{backup_node, client_node, manager_node, master_node, witness_node}
use Rattle.curp_cmd.specs.declared.node.NodeId.{NodeId}
use Rattle.curp_msg.specs.declared.script.Header.{Header}
use Rattle.curp_model.specs.Backup.{BackupState, fresh_backup}
use Rattle.curp_model.specs.Client.{ClientState}
use Rattle.curp_model.specs.Recovery.{Fresh, MasterStage}
use Rattle.curp_model.specs.Witness.{WitnessState, fresh_witness}
use Rattle.curp_model.specs.World.{opening}
use Rattle.curp_law_weave.specs.NodeStates.{ABackup, AClient, AManager, AMaster, AWitness, NodeState, fresh_state, state_of}
use Rattle.curp_law_weave.specs.Openings.{ComesAs, OpensAs}

past : {A : Type 0} (xs : List A) (n : ℕ) → length xs < n → numbered xs n ≡ None
past xs zero high = refl
past xs (suc k) high = slice_get_past xs k (omega arith)

module _ (h : Header) where
  opens : (node : NodeId) (x : NodeState) → state_of (opening h) node ≡ Some x → OpensAs h node x
  opens node x at = record { there = at; begins = rw at refl }

  comes : (node : NodeId) → state_of (opening h) node ≡ None → ComesAs h node (fresh_state h node.kind)
  comes node none = record { absent = none; begins = rw none refl }

  pub client_opens : (n : ℕ) (c : ClientState) → numbered (opening h).clients n ≡ Some c → OpensAs h (client_node n) (AClient c)
  client_opens n c at = opens (client_node n) (AClient c) (ap (option_map AClient) at)

  pub manager_opens : OpensAs h manager_node (AManager (opening h).manager)
  manager_opens = opens manager_node (AManager (opening h).manager) refl

  pub master_opens : (n : ℕ) (m : MasterStage) → numbered (opening h).masters n ≡ Some m → OpensAs h (master_node n) (AMaster m)
  master_opens n m at = opens (master_node n) (AMaster m) (ap (option_map AMaster) at)

  pub backup_opens : (n : ℕ) (b : BackupState) → numbered (opening h).backups n ≡ Some b → OpensAs h (backup_node n) (ABackup b)
  backup_opens n b at = opens (backup_node n) (ABackup b) (ap (option_map ABackup) at)

  pub witness_opens : (n : ℕ) (x : WitnessState) → numbered (opening h).witnesses n ≡ Some x → OpensAs h (witness_node n) (AWitness x)
  witness_opens n x at = opens (witness_node n) (AWitness x) (ap (option_map AWitness) at)

  pub master_comes : (n : ℕ) → length (opening h).masters < n → ComesAs h (master_node n) (AMaster Fresh)
  master_comes n high = comes (master_node n) (ap (option_map AMaster) (past (opening h).masters n high))

  pub backup_comes : (n : ℕ) → length (opening h).backups < n → ComesAs h (backup_node n) (ABackup fresh_backup)
  backup_comes n high = comes (backup_node n) (ap (option_map ABackup) (past (opening h).backups n high))

  pub witness_comes : (n : ℕ) → length (opening h).witnesses < n → ComesAs h (witness_node n) (AWitness (fresh_witness h.sets h.ways))
  witness_comes n high = comes (witness_node n) (ap (option_map AWitness) (past (opening h).witnesses n high))
