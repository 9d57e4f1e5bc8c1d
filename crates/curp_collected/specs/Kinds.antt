-- The nodes of a kind as they begin, and their journals by files (this project's own).
use Rattle.std.specs.Prelude.{◌≡◌, ◌<◌, ◌⊎◌, ℕ, ◌+◌, List, [], ◌∷◌, ◌++◌, length, Option, Some, ⊤}
use Rattle.curp_base.specs.Words.{At, Each, numbered}
use Rattle.curp_cmd.specs.declared.node.NodeId.{NodeId}
use Rattle.curp_cmd.specs.declared.node.NodeKind.{NodeKind}
use Rattle.curp_msg.specs.Moved.{Moved, Node}
use Rattle.curp_msg.specs.Input.{Input}
use Rattle.curp_msg.specs.declared.script.Header.{Header}
use Rattle.curp_journal.specs.Journal.{NodeJournal}
use Rattle.curp_journal.specs.declared.arrived.Arrived.{Arrived}
use Rattle.curp_law_weave.specs.Run.{TakesFirst}
use Rattle.curp_gather.specs.Journals.{IsManagerJournal, NodesAscend}
use Rattle.curp_anew.specs.Opening.{AllOwn}
use Rattle.curp_nodes.specs.Nodes.{HasNumbers, states}
use Rattle.curp_model.specs.Manager.{ManagerState}
use Rattle.curp_config.specs.Machine.{manager_machine}
use Rattle.curp_collected.specs.Files.{HasTitleAt, IsJournalAt}
use Rattle.curp_collected.specs.declared.files.File.{File}
use Rattle.curp_collected.specs.Taking.{IsOfFiles, NoneWanted}
use Rattle.curp_collected.specs.declared.beginning.Beginning.{Beginning}
use Rattle.curp_journal.specs.declared.origin.Origin.TheVariants.{Opening, Fresh}

-- ---- how nodes begin

-- nodes that are there before any step, numbered from this number on
abbrev pub numbered_from : {N : Type 0} → NodeKind → ℕ → List N → List (Beginning N)
numbered_from kind n [] = []
numbered_from kind n (node ∷ more) =
    record { id = record { kind = kind; number = n }; origin = Opening; node = node } ∷ numbered_from kind (n + 1) more

-- the numbers of their names rise
abbrev pub Rise : {N : Type 0} → List (Beginning N) → Type 0
Rise {N} [] = ⊤
Rise {N} (b ∷ more) = Each (λ (x : Beginning N). b.id.number < x.id.number) more × Rise more

-- one of the nodes has that name
pub record Names {N : Type 0} (begun : List (Beginning N)) (node : NodeId) : Type 0 where
  pub place : ℕ
  pub b : Beginning N
  pub stands : At begun place b
  pub its_name : b.id ≡ node

-- A node of a kind begins as one of those that are there before any step, or it is fresh and has a number behind them
pub record BeginsBy {S : Type 0} (kind : NodeKind) (there : List S) (fresh : S) (b : Beginning (Node S)) : Type 0 where
  pub its_name : b.id ≡ record { kind = kind; number = b.node.number }
  pub begins : (numbered there b.node.number ≡ Some b.node.state)
      ⊎ ((length there < b.node.number) × (b.node.state ≡ fresh) × (b.origin ≡ Fresh))
  pub behind : b.origin ≡ Fresh → length there < b.node.number

-- the nodes of a kind that are there before any step, in the order of their numbers
pub record AreThere {S : Type 0} (kind : NodeKind) (there : List S) (begun : List (Beginning (Node S))) : Type 0 where
  pub nodes : List (Node S)
  pub begun_are : begun ≡ numbered_from kind 1 nodes
  pub numbers : HasNumbers nodes
  pub states_are : states nodes ≡ there

-- all nodes of a kind that are there before any step, and those that files are of, in the order of their numbers
pub record AreBegun {S : Type 0} (kind : NodeKind) (there : List S) (fresh : S) (files : List File) (begun : List (Beginning (Node S))) : Type 0 where
  pub each : Each (BeginsBy kind there fresh) begun
  pub rise : Rise begun
  pub whole : (k : ℕ) (f : File) → At files k f → f.title.node.kind ≡ kind → Names begun f.title.node

-- ---- their journals

-- nothing that is wanted came to the node, by its file
abbrev pub NothingCame : List (List ℕ) → Option ℕ → Header → NodeId → Type 0
NothingCame files until h node = (file : ℕ) → HasTitleAt files file (record { node = node; header = h })
    → (inputs : List Arrived) × IsJournalAt files file h node inputs × NoneWanted until 0 inputs

-- the journal of a node that begins so, of what is its own
pub record IsLogOf {N : Type 0} (machine : N → Input → Moved N) (files : List (List ℕ)) (until : Option ℕ) (h : Header) (b : Beginning N) (log : NodeJournal N) : Type 0 where
  pub its_name : log.id ≡ b.id
  pub begins : log.opening ≡ b.node
  pub its : IsOfFiles machine files until h log
  pub own : AllOwn log.id log.items
  pub first : b.origin ≡ Fresh → TakesFirst log.items

-- a node has its journal; one that isn't there before any step, and to which nothing came, has none
abbrev pub HasLog : {N : Type 0} → (N → Input → Moved N) → List (List ℕ) → Option ℕ → Header → Beginning N → List (NodeJournal N) → Type 0
HasLog {N} machine files until h b logs =
    ((logs ≡ []) × (b.origin ≡ Fresh) × NothingCame files until h b.id)
    ⊎ ((log : NodeJournal N) × (logs ≡ log ∷ []) × IsLogOf machine files until h b log)

-- so have nodes one behind the other
abbrev pub HaveLogs : {N : Type 0} → (N → Input → Moved N) → List (List ℕ) → Option ℕ → Header → List (Beginning N) → List (NodeJournal N) → Type 0
HaveLogs {N} machine files until h [] logs = logs ≡ []
HaveLogs {N} machine files until h (b ∷ more) logs =
    (one : List (NodeJournal N)) × (rest : List (NodeJournal N)) × (logs ≡ one ++ rest) × HasLog machine files until h b one × HaveLogs machine files until h more rest

-- ---- all journals of a kind

-- the node has one of the journals
pub record IsAmong {N : Type 0} (logs : List (NodeJournal N)) (node : NodeId) : Type 0 where
  pub place : ℕ
  pub log : NodeJournal N
  pub stands : At logs place log
  pub its_name : log.id ≡ node

-- the file is the node's journal, which is among these, or nothing that is wanted came to the node
pub record IsReadFor {N : Type 0} (files : List (List ℕ)) (until : Option ℕ) (h : Header) (logs : List (NodeJournal N)) (file : ℕ) (node : NodeId) : Type 0 where
  pub inputs : List Arrived
  pub stands : IsJournalAt files file h node inputs
  pub there : IsAmong logs node ⊎ NoneWanted until 0 inputs

-- Journals of nodes of a kind that fit, by the files, in the order of the nodes' numbers. Each file of such a node is read
pub record AreOfKind {S : Type 0} (kind : NodeKind) (machine : Node S → Input → Moved (Node S)) (Fits : NodeJournal (Node S) → Type 0) (files : List (List ℕ)) (until : Option ℕ) (h : Header) (logs : List (NodeJournal (Node S))) : Type 0 where
  pub each : Each Fits logs
  pub rise : NodesAscend logs
  pub its : Each (IsOfFiles machine files until h) logs
  pub own : Each (λ (log : NodeJournal (Node S)). AllOwn log.id log.items) logs
  pub whole : (file : ℕ) (node : NodeId) → node.kind ≡ kind → HasTitleAt files file (record { node = node; header = h })
      → IsReadFor files until h logs file node

-- the manager's journal, by its file
pub record IsManagerOf (files : List (List ℕ)) (until : Option ℕ) (h : Header) (log : NodeJournal ManagerState) : Type 0 where
  pub journal : IsManagerJournal h log
  pub its : IsOfFiles manager_machine files until h log
  pub own : AllOwn log.id log.items
