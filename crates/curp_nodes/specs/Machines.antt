-- The machines of masters, backups and witnesses: what an input does to them.
use Rattle.curp_msg.specs.Moved.{Moved, Node, numbered_move}
use Rattle.curp_msg.specs.Input.{Input}
use Rattle.curp_model.specs.Backup.{BackupState, backup_input}
use Rattle.curp_model.specs.Recovery.{MasterStage, master_input}
use Rattle.curp_model.specs.Witness.{WitnessState, witness_input}

-- a master
unfoldable pub master_machine : Node MasterStage → Input → Moved (Node MasterStage)
master_machine m given = numbered_move m.number (master_input m.number m.state given)

-- a backup
unfoldable pub backup_machine : Node BackupState → Input → Moved (Node BackupState)
backup_machine b given = numbered_move b.number (backup_input b.number b.state given)

-- a witness
unfoldable pub witness_machine : Node WitnessState → Input → Moved (Node WitnessState)
witness_machine w given = numbered_move w.number (witness_input w.number w.state given)
