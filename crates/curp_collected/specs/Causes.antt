-- Why files aren't the journals of a header's nodes, or no script (this project's own).
use Rattle.std.specs.Prelude.{◌≡◌, ◌≢◌, ◌<◌, ℕ, ◌*◌, ◌+◌, List, [], length, Option, unwrap_or}
use Rattle.curp_base.specs.Words.{At, numbered}
use Rattle.curp_cmd.specs.declared.node.NodeId.{NodeId}
use Rattle.curp_cmd.specs.declared.node.NodeKind.{NodeKind}
use Rattle.curp_cmd.specs.declared.node.NodeKind.TheVariants as kind
use Rattle.curp_msg.specs.Moved.{Moved, Node}
use Rattle.curp_msg.specs.Input.{Input}
use Rattle.curp_msg.specs.declared.script.Header.{Header}
use Rattle.curp_journal.specs.declared.arrived.Arrived.{Arrived}
use Rattle.curp_model.specs.Backup.{fresh_backup}
use Rattle.curp_model.specs.Recovery.{Fresh}
use Rattle.curp_model.specs.Witness.{fresh_witness}
use Rattle.curp_model.specs.World.{opening, opening_client}
use Rattle.curp_client.specs.Machine.{client_machine}
use Rattle.curp_config.specs.Machine.{manager_machine}
use Rattle.curp_nodes.specs.Machines.{backup_machine, master_machine, witness_machine}
use Rattle.curp_durable.specs.Journal.{IsDamaged}
use Rattle.curp_title.specs.Title.{title_bytes}
use Rattle.curp_title.specs.declared.title.Title.{Title}
use Rattle.curp_gather.specs.Journals.{journals_of}
use Rattle.curp_gather.specs.declared.journals.Journals.{Journals}
use Rattle.curp_journal.specs.Journal.{NodeJournal}
use Rattle.curp_journal.specs.Own.{IsOwn}
use Rattle.curp_merge.specs.Causes as merge
use Rattle.curp_merge.specs.declared.error.GatherError.{GatherError}
use Rattle.curp_collected.specs.Collected.{AreCollected}
use Rattle.curp_collected.specs.Files.{HasNoTitle, HasTitleAt, IsJournalAt}
use Rattle.curp_collected.specs.Taking.{IsForeignAt, IsRefusedAt, IsRefusedBy, StartsWithOrder}
use Rattle.curp_collected.specs.declared.beginning.Beginning.{Beginning}
use Rattle.curp_journal.specs.declared.origin.Origin.TheVariants as origin
use Rattle.curp_collected.specs.declared.error.CollectError.{CollectError}
use Rattle.curp_collected.specs.declared.error.CollectError.TheVariants as error
use Rattle.curp_collected.specs.declared.error.ScriptError.{ScriptError}
use Rattle.curp_collected.specs.declared.error.ScriptError.TheVariants as script

-- ---- causes that a title shows

-- no title stands at the file's start
pub record IsNoJournal (files : List (List ℕ)) (file : ℕ) : Type 0 where
  pub content : List ℕ
  pub stands : At files file content
  pub none : HasNoTitle content

-- the file's header isn't that of the first file
pub record HasOtherHeader (files : List (List ℕ)) (file : ℕ) : Type 0 where
  pub first : Title
  pub title : Title
  pub first_is : HasTitleAt files 0 first
  pub title_is : HasTitleAt files file title
  pub other : title.header ≢ first.header

-- the file's header has no such client
pub record HasNoSuchNode (files : List (List ℕ)) (file : ℕ) : Type 0 where
  pub title : Title
  pub title_is : HasTitleAt files file title
  pub client : title.node.kind ≡ kind.Client
  pub beyond : title.header.clients < title.node.number

-- a file before it is of the same node
pub record IsTwice (files : List (List ℕ)) (file : ℕ) : Type 0 where
  pub earlier : ℕ
  pub before : earlier < file
  pub first : Title
  pub title : Title
  pub first_is : HasTitleAt files earlier first
  pub title_is : HasTitleAt files file title
  pub same : title.node ≡ first.node

-- ---- causes that the inputs show

-- the journal in the file is damaged there
pub record IsDamagedAt (files : List (List ℕ)) (file place : ℕ) : Type 0 where
  pub content : List ℕ
  pub title : Title
  pub stands : At files file content
  pub damaged : IsDamaged content (title_bytes title) place

-- the journal in the file is of a node of a header, and of these inputs
pub record HasJournal (files : List (List ℕ)) (file : ℕ) : Type 0 where
  pub h : Header
  pub node : NodeId
  pub inputs : List Arrived
  pub stands : IsJournalAt files file h node inputs

-- the input of that number isn't its node's own
pub record IsForeign (files : List (List ℕ)) (file number : ℕ) : Type 0 where
  pub journal : HasJournal files file
  pub foreign : IsForeignAt journal.node journal.inputs number

-- a node as it begins: in the state that one of its number has before any step, or fresh
abbrev pub begun_as : {S : Type 0} → List S → S → ℕ → Node S
begun_as there fresh n = record { number = n; state = unwrap_or (numbered there n) fresh }

-- the node of a kind and a number refuses the input of that number, counted from 1
abbrev pub RefusedBy : Header → NodeKind → ℕ → List Arrived → ℕ → Type 0
RefusedBy h kind.Manager n inputs number = IsRefusedAt manager_machine (opening h).manager inputs number
RefusedBy h kind.Client n inputs number = IsRefusedAt client_machine (begun_as (opening h).clients (opening_client h) n) inputs number
RefusedBy h kind.Master n inputs number = IsRefusedAt master_machine (begun_as (opening h).masters Fresh n) inputs number
RefusedBy h kind.Backup n inputs number = IsRefusedAt backup_machine (begun_as (opening h).backups fresh_backup n) inputs number
RefusedBy h kind.Witness n inputs number =
    IsRefusedAt witness_machine (begun_as (opening h).witnesses (fresh_witness h.sets h.ways) n) inputs number

-- how many nodes of a kind that has numbers are there before any step
abbrev pub count_there : Header → NodeKind → ℕ
count_there h kind.Manager = 0
count_there h kind.Client = h.clients
count_there h kind.Master = h.parts
count_there h kind.Backup = h.parts * h.f
count_there h kind.Witness = h.parts * h.f

-- its node refuses the input of that number, which it gets behind those before from its opening on
pub record IsRefused (files : List (List ℕ)) (file number : ℕ) : Type 0 where
  pub journal : HasJournal files file
  pub refused : RefusedBy journal.h journal.node.kind journal.node.number journal.inputs number

-- its node isn't there before any step, and the first that came to it was an order
pub record IsOrderedFirst (files : List (List ℕ)) (file : ℕ) : Type 0 where
  pub journal : HasJournal files file
  pub absent : count_there journal.h journal.node.kind < journal.node.number
  pub order : StartsWithOrder journal.inputs

-- ---- all causes

-- an error has its cause
abbrev pub IsCause : List (List ℕ) → CollectError → Type 0
IsCause files error.NoFile = files ≡ []
IsCause files (error.NotAJournal file) = IsNoJournal files file
IsCause files (error.OtherHeader file) = HasOtherHeader files file
IsCause files (error.NoSuchNode file) = HasNoSuchNode files file
IsCause files (error.Twice file) = IsTwice files file
IsCause files (error.Damaged file place) = IsDamagedAt files file place
IsCause files (error.Foreign file number) = IsForeign files file number
IsCause files (error.Refused file number) = IsRefused files file number
IsCause files (error.OrderFirst file) = IsOrderedFirst files file

-- the files' journals are no script, by an error of gathering
pub record AreNoScript (files : List (List ℕ)) (until : Option ℕ) (why : GatherError) : Type 0 where
  pub h : Header
  pub journals : Journals
  pub collected : AreCollected files until h journals
  pub cause : merge.IsCause (journals_of journals) why

abbrev pub IsScriptCause : List (List ℕ) → Option ℕ → ScriptError → Type 0
IsScriptCause files until (script.Collect why) = IsCause files why
IsScriptCause files until (script.Gather why) = AreNoScript files until why

-- ---- the causes of one node's journal, by how the node begins

-- the input of that number is refused by the node
pub record IsRefusedIn {N : Type 0} (machine : N → Input → Moved N) (files : List (List ℕ)) (h : Header) (id : NodeId) (node : N) (file number : ℕ) : Type 0 where
  pub inputs : List Arrived
  pub stands : IsJournalAt files file h id inputs
  pub refused : IsRefusedAt machine node inputs number

-- the input of that number isn't the node's own
pub record IsForeignIn (files : List (List ℕ)) (h : Header) (node : NodeId) (file number : ℕ) : Type 0 where
  pub inputs : List Arrived
  pub stands : IsJournalAt files file h node inputs
  pub foreign : IsForeignAt node inputs number

-- the first input is an order, and the node isn't there before any step
pub record IsOrderedIn {N : Type 0} (files : List (List ℕ)) (h : Header) (b : Beginning N) (file : ℕ) : Type 0 where
  pub inputs : List Arrived
  pub stands : IsJournalAt files file h b.id inputs
  pub fresh : b.origin ≡ origin.Fresh
  pub order : StartsWithOrder inputs

-- the journal of a node that begins so fails by what stands in its file
abbrev pub FailsSo : {N : Type 0} → (N → Input → Moved N) → List (List ℕ) → Header → NodeId → N → CollectError → Type 0
FailsSo machine files h id node (error.Damaged file place) = IsDamagedAt files file place
FailsSo machine files h id node (error.Foreign file number) = IsForeignIn files h id file number
FailsSo machine files h id node (error.Refused file number) = IsRefusedIn machine files h id node file number
FailsSo machine files h id node _ = ⊥

-- what stands in a file isn't read
abbrev pub IsUnread : List (List ℕ) → CollectError → Type 0
IsUnread files (error.Damaged file place) = IsDamagedAt files file place
IsUnread files _ = ⊥

-- so it does, or the node isn't there before any step and took an order first
abbrev pub Fails : {N : Type 0} → (N → Input → Moved N) → List (List ℕ) → Header → Beginning N → CollectError → Type 0
Fails machine files h b (error.OrderFirst file) = IsOrderedIn files h b file
Fails machine files h b why = FailsSo machine files h b.id b.node why

-- the journal of one of these nodes fails
pub record OneFails {N : Type 0} (machine : N → Input → Moved N) (files : List (List ℕ)) (h : Header) (begun : List (Beginning N)) (why : CollectError) : Type 0 where
  pub place : ℕ
  pub b : Beginning N
  pub stands : At begun place b
  pub fails : Fails machine files h b why

-- ---- why an input isn't taken

-- why the input isn't taken by a node with this journal; the inputs are those of that file
abbrev pub StopsBy : {N : Type 0} → (N → Input → Moved N) → NodeJournal N → Arrived → (file : ℕ) → CollectError → Type 0
StopsBy machine log input file (error.Foreign at number) = (at ≡ file) × (number ≡ length log.items + 1) × (IsOwn log.id input → ⊥)
StopsBy machine log input file (error.Refused at number) = (at ≡ file) × (number ≡ length log.items + 1) × IsRefusedBy machine log input
StopsBy machine log input file _ = ⊥

-- why one of the inputs isn't
abbrev pub StopsAt : {N : Type 0} → (N → Input → Moved N) → NodeId → N → List Arrived → (file : ℕ) → CollectError → Type 0
StopsAt machine id node inputs file (error.Foreign at number) = (at ≡ file) × IsForeignAt id inputs number
StopsAt machine id node inputs file (error.Refused at number) = (at ≡ file) × IsRefusedAt machine node inputs number
StopsAt machine id node inputs file _ = ⊥
