-- A journal of a node by the machine of its kind is one of the node among all kinds.
use Rattle.std.proofs.Common.{ℕ, List, refl, ◌∙◌}
use Rattle.curp_cmd.specs.Node.{backup_node, client_node, manager_node, master_node, witness_node}
use Rattle.curp_msg.specs.Moved.{Moved, Node}
use Rattle.curp_msg.specs.Input.{Input}
use Rattle.curp_model.specs.Backup.{BackupState, backup_input}
use Rattle.curp_model.specs.Client.{ClientState, client_input}
use Rattle.curp_model.specs.Manager.{ManagerState, manager_input}
use Rattle.curp_model.specs.Recovery.{MasterStage, master_input}
use Rattle.curp_model.specs.Witness.{WitnessState, witness_input}
use Rattle.curp_journal.specs.Journal.{IsJournal}
use Rattle.curp_journal.specs.declared.item.Item.{Item}
use Rattle.curp_journal.proofs.Replays.{journal-within, replayed-within}
use Rattle.curp_law_weave.specs.NodeStates.{ABackup, AClient, AManager, AMaster, AWitness, machine_of}
use Rattle.curp_law_weave.specs.Openings.{numbered_machine}

-- the state alone has the same journal
without_number : {S : Type 0} (machine : ℕ → S → Input → Moved S) (node : Node S) (items : List Item) → IsJournal (numbered_machine machine) node items → IsJournal (machine node.number) node.state items
without_number {S} machine node items j = record {
  node_is = refl;
  items_are = j.items_are ∙ replayed-within (λ (s : S). record { number = node.number; state = s }) (machine node.number) (numbered_machine machine) (λ s i. refl) node.state 0 items;
  none_refused = j.none_refused;
  last_is = refl;
}

pub client_journal : (c : Node ClientState) (items : List Item) → IsJournal (numbered_machine client_input) c items → IsJournal (machine_of (client_node c.number)) (AClient c.state) items
client_journal c items j = journal-within AClient (client_input c.number) (machine_of (client_node c.number)) (λ s i. refl) c.state items (without_number client_input c items j)

pub manager_journal : (g : ManagerState) (items : List Item) → IsJournal manager_input g items → IsJournal (machine_of manager_node) (AManager g) items
manager_journal g items j = journal-within AManager manager_input (machine_of manager_node) (λ s i. refl) g items j

pub master_journal : (m : Node MasterStage) (items : List Item) → IsJournal (numbered_machine master_input) m items → IsJournal (machine_of (master_node m.number)) (AMaster m.state) items
master_journal m items j = journal-within AMaster (master_input m.number) (machine_of (master_node m.number)) (λ s i. refl) m.state items (without_number master_input m items j)

pub backup_journal : (b : Node BackupState) (items : List Item) → IsJournal (numbered_machine backup_input) b items → IsJournal (machine_of (backup_node b.number)) (ABackup b.state) items
backup_journal b items j = journal-within ABackup (backup_input b.number) (machine_of (backup_node b.number)) (λ s i. refl) b.state items (without_number backup_input b items j)

pub witness_journal : (x : Node WitnessState) (items : List Item) → IsJournal (numbered_machine witness_input) x items → IsJournal (machine_of (witness_node x.number)) (AWitness x.state) items
witness_journal x items j = journal-within AWitness (witness_input x.number) (machine_of (witness_node x.number)) (λ s i. refl) x.state items (without_number witness_input x items j)
