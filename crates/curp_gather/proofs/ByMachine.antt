-- A journal by the machine of its own kind of node is one by what the model does on each input.
use Rattle.std.proofs.Common.{List}
use Rattle.curp_msg.specs.Moved.{Node}
use Rattle.curp_client.specs.Machine.{client_machine}
use Rattle.curp_config.specs.Machine.{manager_machine}
use Rattle.curp_nodes.specs.Machines.{backup_machine, master_machine, witness_machine}
use Rattle.curp_model.specs.Backup.{BackupState, backup_input}
use Rattle.curp_model.specs.Client.{ClientState, client_input}
use Rattle.curp_model.specs.Manager.{ManagerState, manager_input}
use Rattle.curp_model.specs.Recovery.{MasterStage, master_input}
use Rattle.curp_model.specs.Witness.{WitnessState, witness_input}
use Rattle.curp_journal.specs.Journal.{IsJournal}
use Rattle.curp_journal.specs.declared.item.Item.{Item}
use Rattle.curp_law_weave.specs.Openings.{numbered_machine}

pub manager_is : (g : ManagerState) (items : List Item) → IsJournal manager_machine g items → IsJournal manager_input g items
unfolding manager_machine
manager_is g items j = j

pub client_is : (c : Node ClientState) (items : List Item) → IsJournal client_machine c items → IsJournal (numbered_machine client_input) c items
unfolding client_machine
client_is c items j = j

pub master_is : (m : Node MasterStage) (items : List Item) → IsJournal master_machine m items → IsJournal (numbered_machine master_input) m items
unfolding master_machine
master_is m items j = j

pub backup_is : (b : Node BackupState) (items : List Item) → IsJournal backup_machine b items → IsJournal (numbered_machine backup_input) b items
unfolding backup_machine
backup_is b items j = j

pub witness_is : (x : Node WitnessState) (items : List Item) → IsJournal witness_machine x items → IsJournal (numbered_machine witness_input) x items
unfolding witness_machine
witness_is x items j = j
