-- The journals of files (this project's own).
use Rattle.std.specs.Prelude.{◌⊎◌, ℕ, List, Option}
use Rattle.curp_base.specs.Words.{At, Each}
use Rattle.curp_cmd.specs.declared.node.NodeId.{NodeId}
use Rattle.curp_msg.specs.declared.script.Header.{Header}
use Rattle.curp_msg.specs.declared.script.Step.{Step}
use Rattle.curp_journal.specs.declared.arrived.Arrived.{Arrived}
use Rattle.curp_client.specs.Machine.{client_machine}
use Rattle.curp_config.specs.Machine.{manager_machine}
use Rattle.curp_nodes.specs.Machines.{backup_machine, master_machine, witness_machine}
use Rattle.curp_journal.specs.Turns.{IsKnown, Journal}
use Rattle.curp_gather.specs.Journals.{AreOf, IsScriptOf, journals_of}
use Rattle.curp_gather.specs.declared.journals.Journals.{Journals}
use Rattle.curp_collected.specs.Files.{IsJournalAt}
use Rattle.curp_collected.specs.Taking.{IsOfFiles, NoneWanted}

-- the file of this number is the journal of one of these nodes, or of a node to which nothing that is wanted came
pub record IsCollected (journals : List Journal) (files : List (List ℕ)) (until : Option ℕ) (h : Header) (file : ℕ) : Type 0 where
  pub node : NodeId
  pub inputs : List Arrived
  pub stands : IsJournalAt files file h node inputs
  pub there : IsKnown journals node ⊎ NoneWanted until 0 inputs

-- The journals of a header's nodes are those of the files up to a stamp: each journal is that of its node's file, where there
-- is one, and of an opening node that did nothing else; and each file is the journal of one of the nodes. A node that isn't
-- there before any step, and to which nothing that is wanted came, has none
pub record AreCollected (files : List (List ℕ)) (until : Option ℕ) (h : Header) (j : Journals) : Type 0 where
  pub are : AreOf h j
  pub manager : IsOfFiles manager_machine files until h j.manager
  pub clients : Each (IsOfFiles client_machine files until h) j.clients.items
  pub masters : Each (IsOfFiles master_machine files until h) j.masters.items
  pub backups : Each (IsOfFiles backup_machine files until h) j.backups.items
  pub witnesses : Each (IsOfFiles witness_machine files until h) j.witnesses.items
  pub whole : (file : ℕ) (content : List ℕ) → At files file content → IsCollected (journals_of j) files until h file

-- the steps are the script of the journals of the files, up to a stamp
pub record IsScriptOfFiles (files : List (List ℕ)) (until : Option ℕ) (h : Header) (steps : List Step) : Type 0 where
  pub journals : Journals
  pub collected : AreCollected files until h journals
  pub script : IsScriptOf h (journals_of journals) steps
