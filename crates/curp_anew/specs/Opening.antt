-- The nodes that a run begins with, and the journals of such nodes (this project's own).
use Rattle.std.specs.Prelude.{◌≡◌, ◌⊎◌, ◌+◌, ◌*◌, ◌<◌, ◌≤◌, ltb, ℕ, Bool, true, false, not, nat_eq, List, [], ◌∷◌, ◌++◌, length, min, replicate, take, drop}
use Rattle.std.specs.List.{filter}
use Rattle.curp_base.specs.Words.{At, Each}
use Rattle.curp_cmd.specs.declared.node.NodeId.{NodeId}
use Rattle.curp_cmd.specs.declared.node.NodeKind.{NodeKind}
use Rattle.curp_msg.specs.declared.script.Header.{Header}
use Rattle.curp_journal.specs.Journal.{NodeJournal}
use Rattle.curp_journal.specs.declared.item.Item.{Item}
use Rattle.curp_model.specs.Backup.{fresh_backup}
use Rattle.curp_model.specs.Recovery.{Fresh}
use Rattle.curp_model.specs.Witness.{fresh_witness}
use Rattle.curp_model.specs.World.{opening}
use Rattle.curp_law_weave.specs.Run.{TakesFirst}
use Rattle.curp_journal.specs.Own.{IsOwn}
use Rattle.curp_nodes.specs.Nodes.{HasNumbers, states}
use Rattle.curp_anew.specs.declared.nodes.LiveNodes.{LiveNodes}

-- the nodes of a header's world before any step, and behind them the fresh ones of so many recoveries
pub record IsOpening (h : Header) (recoveries : ℕ) (nodes : LiveNodes) : Type 0 where
  pub manager : nodes.manager ≡ (opening h).manager
  pub clients : states nodes.clients.items ≡ (opening h).clients
  pub masters : states nodes.masters.items ≡ (opening h).masters ++ replicate recoveries Fresh
  pub backups : states nodes.backups.items ≡ (opening h).backups ++ replicate (recoveries * h.f) fresh_backup
  pub witnesses : states nodes.witnesses.items ≡ (opening h).witnesses ++ replicate (recoveries * h.f) (fresh_witness h.sets h.ways)
  pub client_numbers : HasNumbers nodes.clients.items
  pub master_numbers : HasNumbers nodes.masters.items
  pub backup_numbers : HasNumbers nodes.backups.items
  pub witness_numbers : HasNumbers nodes.witnesses.items

-- what came to the node is its own
abbrev pub AllOwn : NodeId → List Item → Type 0
AllOwn node items = (t : ℕ) (item : Item) → At items t item → IsOwn node item.input

-- the journal of that node, begun in that state, of what is the node's own
pub record IsAnew {N : Type 0} (id : NodeId) (node : N) (log : NodeJournal N) : Type 0 where
  pub its_name : log.id ≡ id
  pub begins : log.opening ≡ node
  pub own : AllOwn id log.items

-- the same; a node that isn't there before any step takes a message first
pub record IsBegun {N : Type 0} (id : NodeId) (is_there : Bool) (node : N) (log : NodeJournal N) : Type 0 where
  pub anew : IsAnew id node log
  pub first : is_there ≡ false → TakesFirst log.items

-- its journal is put behind those before
pub record IsPut {N : Type 0} (id : NodeId) (is_there : Bool) (node : N) (old new : List (NodeJournal N)) : Type 0 where
  pub log : NodeJournal N
  pub put : new ≡ old ++ log ∷ []
  pub begun : IsBegun id is_there node log

-- it is, or it is that of a fresh node and left out
abbrev pub IsAdded : {N : Type 0} → NodeId → Bool → N → List (NodeJournal N) → List (NodeJournal N) → Type 0
IsAdded id is_there node old new = ((is_there ≡ false) × (new ≡ old)) ⊎ IsPut id is_there node old new

-- a journal is that of one of the nodes of a kind, of which the first so many are there before any step; each has the
-- number of its place, counted from 1
pub record IsOneOf {N : Type 0} (kind : NodeKind) (there : ℕ) (nodes : List N) (log : NodeJournal N) : Type 0 where
  pub place : ℕ
  pub stands : At nodes place log.opening
  pub its_name : log.id ≡ record { kind = kind; number = place + 1 }
  pub own : AllOwn log.id log.items
  pub first : there ≤ place → TakesFirst log.items

-- the numbers of their nodes rise
abbrev pub NamesRise : {N : Type 0} → List (NodeJournal N) → Type 0
NamesRise {N} logs = (i k : ℕ) (a b : NodeJournal N) → At logs i a → At logs k b → i < k → a.id.number < b.id.number

-- each of the first so many nodes has its journal, at its own place
pub record HaveJournals {N : Type 0} (count : ℕ) (logs : List (NodeJournal N)) : Type 0 where
  pub many : count ≤ length logs
  pub places : (k : ℕ) (log : NodeJournal N) → k < count → At logs k log → log.id.number ≡ k + 1

-- journals of nodes of a kind, in the order of their numbers; of those that are there before any step none is left out
pub record AreAnew {N : Type 0} (kind : NodeKind) (there : ℕ) (nodes : List N) (logs : List (NodeJournal N)) : Type 0 where
  pub each : Each (IsOneOf kind there nodes) logs
  pub rise : NamesRise logs
  pub whole : HaveJournals (min (length nodes) there) logs

-- ---- journals as they were taken

-- a journal was taken of that node, begun in that state; one that isn't there before any step took nothing, or a message
-- first
pub record IsTakenOf {N : Type 0} (id : NodeId) (is_there : Bool) (node : N) (log : NodeJournal N) : Type 0 where
  pub anew : IsAnew id node log
  pub first : is_there ≡ false → (log.items ≡ []) ⊎ TakesFirst log.items

-- one was taken of each node of a kind, in the order of their numbers
pub record AreTaken {N : Type 0} (kind : NodeKind) (there : ℕ) (nodes : List N) (logs : List (NodeJournal N)) : Type 0 where
  pub many : length logs ≡ length nodes
  pub each : (k : ℕ) (node : N) (log : NodeJournal N) → At nodes k node → At logs k log
      → IsTakenOf (record { kind = kind; number = k + 1 }) (ltb k there) node log

-- a journal's node took something
abbrev pub took_something : {N : Type 0} → NodeJournal N → Bool
took_something log = not (nat_eq (length log.items) 0)

-- what is handed out of a journal whose node is there before any step, or isn't
abbrev pub handed_out : {N : Type 0} → Bool → NodeJournal N → List (NodeJournal N)
handed_out true log = log ∷ []
handed_out false log = filter took_something (log ∷ [])

-- and of journals of which the first so many are of nodes that are there: these, and of the others those that took something
abbrev pub all_handed_out : {N : Type 0} → ℕ → List (NodeJournal N) → List (NodeJournal N)
all_handed_out there logs = take there logs ++ filter took_something (drop there logs)
