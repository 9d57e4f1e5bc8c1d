-- When journals are those of nodes that a header's world has (this project's own).
use Rattle.std.specs.Prelude.{◌≡◌, ◌<◌, ◌⊎◌, ℕ, false, List, ◌∷◌, ◌++◌, length, map, Some}
use Rattle.curp_base.specs.Words.{At, Each, numbered}
use Rattle.curp_cmd.specs.Node.{backup_node, client_node, manager_node, master_node, witness_node}
use Rattle.curp_msg.specs.Moved.{Node}
use Rattle.curp_msg.specs.declared.script.Header.{Header}
use Rattle.curp_msg.specs.declared.script.Step.{Step}
use Rattle.curp_journal.specs.Journal.{NodeJournal}
use Rattle.curp_journal.specs.declared.item.Item.{Item}
use Rattle.curp_model.specs.Backup.{BackupState, fresh_backup}
use Rattle.curp_model.specs.Client.{ClientState}
use Rattle.curp_model.specs.Manager.{ManagerState}
use Rattle.curp_model.specs.Recovery.{Fresh, MasterStage}
use Rattle.curp_model.specs.Witness.{WitnessState, fresh_witness}
use Rattle.curp_model.specs.World.{opening}
use Rattle.curp_msg.specs.Script.{IsHeader}
use Rattle.curp_journal.specs.Turns.{InOrder, Journal, Placed}
use Rattle.curp_law_weave.specs.Run.{RunOf, TakesFirst}
use Rattle.curp_merge.specs.Merging.{NameTaken}
use Rattle.curp_journal.specs.Own.{IsOwn}
use Rattle.curp_gather.specs.declared.journals.Journals.{Journals}

-- ---- the journals

-- a journal, without the state that its node began with
abbrev pub journal_of : {N : Type 0} → NodeJournal N → Journal
journal_of log = record { id = log.id; items = log.items; ended = log.ended }

-- the journals of all nodes: the manager, the clients, the masters, the backups and the witnesses
abbrev pub journals_of : Journals → List Journal
journals_of j =
    journal_of j.manager
    ∷ (map journal_of j.clients.items
    ++ (map journal_of j.masters.items ++ (map journal_of j.backups.items ++ map journal_of j.witnesses.items)))

-- ---- how nodes begin

-- a node of a kind, of which these are there before any step: it begins as the one of its number among them, or it is fresh
-- and takes a message first
abbrev pub Begins : {S : Type 0} → List S → S → Node S → List Item → Type 0
Begins there fresh node items =
    (numbered there node.number ≡ Some node.state)
    ⊎ ((length there < node.number) × (node.state ≡ fresh) × TakesFirst items)

-- the manager begins as it is before any step, and never stops
pub record IsManagerJournal (h : Header) (log : NodeJournal ManagerState) : Type 0 where
  pub its_name : log.id ≡ manager_node
  pub begins : log.opening ≡ (opening h).manager
  pub runs : log.ended ≡ false

-- a client is there before any step
pub record IsClientJournal (h : Header) (log : NodeJournal (Node ClientState)) : Type 0 where
  pub its_name : log.id ≡ client_node log.opening.number
  pub begins : numbered (opening h).clients log.opening.number ≡ Some log.opening.state

-- a master
pub record IsMasterJournal (h : Header) (log : NodeJournal (Node MasterStage)) : Type 0 where
  pub its_name : log.id ≡ master_node log.opening.number
  pub begins : Begins (opening h).masters Fresh log.opening log.items

-- a backup
pub record IsBackupJournal (h : Header) (log : NodeJournal (Node BackupState)) : Type 0 where
  pub its_name : log.id ≡ backup_node log.opening.number
  pub begins : Begins (opening h).backups fresh_backup log.opening log.items

-- a witness
pub record IsWitnessJournal (h : Header) (log : NodeJournal (Node WitnessState)) : Type 0 where
  pub its_name : log.id ≡ witness_node log.opening.number
  pub begins : Begins (opening h).witnesses (fresh_witness h.sets h.ways) log.opening log.items

-- ---- all of them

-- the numbers of the nodes rise
abbrev pub NodesAscend : {S : Type 0} → List (NodeJournal (Node S)) → Type 0
NodesAscend {S} logs = (i k : ℕ) (a b : NodeJournal (Node S)) → At logs i a → At logs k b → i < k → a.opening.number < b.opening.number

-- Journals that nodes of the header's world can have: each was begun with the node that the world has by its name, the
-- lists ascend, and what came to a node is its own
pub record AreOf (h : Header) (j : Journals) : Type 0 where
  pub header : IsHeader h
  pub manager : IsManagerJournal h j.manager
  pub clients : Each (IsClientJournal h) j.clients.items
  pub masters : Each (IsMasterJournal h) j.masters.items
  pub backups : Each (IsBackupJournal h) j.backups.items
  pub witnesses : Each (IsWitnessJournal h) j.witnesses.items
  pub clients_rise : NodesAscend j.clients.items
  pub masters_rise : NodesAscend j.masters.items
  pub backups_rise : NodesAscend j.backups.items
  pub witnesses_rise : NodesAscend j.witnesses.items
  pub own : (k : ℕ) (one : Journal) (t : ℕ) (item : Item) → At (journals_of j) k one → At one.items t item → IsOwn one.id item.input

-- The script is a run of the journals, in the order of stamps and then of nodes; a delivery names just the message that
-- the item took
pub record IsScriptOf (h : Header) (journals : List Journal) (ss : List Step) : Type 0 where
  pub placed : List Placed
  pub run : RunOf journals h ss placed
  pub in_order : InOrder journals placed
  pub names : NameTaken ss placed
