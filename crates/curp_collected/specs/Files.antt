-- What the bytes of files are: each the journal of a node, by its title (this project's own).
use Rattle.std.specs.Prelude.{◌≡◌, ◌≢◌, ◌<◌, ◌≤◌, ℕ, nat_lt, ◌&&◌, if◌then◌else◌, Bool, true, List, map, Option, Some, None}
use Rattle.curp_base.specs.Words.{At, Each}
use Rattle.curp_cmd.specs.Node.{same_kind}
use Rattle.curp_cmd.specs.declared.node.NodeId.{NodeId}
use Rattle.curp_cmd.specs.declared.node.NodeKind.{NodeKind}
use Rattle.curp_cmd.specs.declared.node.NodeKind.TheVariants as kinds
use Rattle.curp_msg.specs.Script.{IsHeader}
use Rattle.curp_msg.specs.declared.script.Header.{Header}
use Rattle.curp_journal.specs.declared.arrived.Arrived.{Arrived}
use Rattle.curp_title.specs.Title.{IsTitle, title_bytes}
use Rattle.curp_title.specs.declared.title.Title.{Title}
use Rattle.curp_durable.specs.Journal.{HoldsJournal, IsNotFormatted}
use Rattle.curp_durable.specs.Opening.{StartsJournal}
use Rattle.curp_collected.specs.declared.files.File.{File}
use Rattle.curp_collected.specs.declared.files.Files.{Files}

-- ---- bytes

-- the title stands at the start, and a commit byte behind it
pub record HasTitle (content : List ℕ) (title : Title) : Type 0 where
  pub is : IsTitle title
  pub starts : StartsJournal content (title_bytes title)

-- no title does
abbrev pub HasNoTitle : List ℕ → Type 0
HasNoTitle content = (title : Title) → IsTitle title → IsNotFormatted content (title_bytes title)

-- the file of this number, counted from 0, has the title of that node and header
pub record HasTitleAt (files : List (List ℕ)) (file : ℕ) (title : Title) : Type 0 where
  pub content : List ℕ
  pub stands : At files file content
  pub titled : HasTitle content title

-- it is the journal of that node of the header, of these inputs
pub record IsJournalAt (files : List (List ℕ)) (file : ℕ) (h : Header) (node : NodeId) (inputs : List Arrived) : Type 0 where
  pub content : List ℕ
  pub stands : At files file content
  pub titled : HasTitle content (record { node = node; header = h })
  pub holds : HoldsJournal content (title_bytes (record { node = node; header = h })) inputs

-- ---- files whose titles were read

abbrev pub contents_of : List File → List (List ℕ)
contents_of files = map (λ (f : File). f.content.now) files

-- the file has the title that was read
abbrev pub IsRead : File → Type 0
IsRead f = HasTitle f.content.now f.title

-- a client is one of the header's
abbrev pub IsPossible : Header → NodeId → Type 0
IsPossible h node = node.kind ≡ kinds.Client → node.number ≤ h.clients

-- the file's title was read, it is of that header, and of a node that there may be
pub record IsOfHeader (h : Header) (f : File) : Type 0 where
  pub read : IsRead f
  pub same : f.title.header ≡ h
  pub possible : IsPossible h f.title.node

-- no two files are of one node
abbrev pub AreApart : List File → Type 0
AreApart files = (i k : ℕ) (a b : File) → At files i a → At files k b → a.title.node ≡ b.title.node → i ≡ k

-- files of one header's nodes, none of which stands twice
pub record AreOfHeader (files : Files) : Type 0 where
  pub header : IsHeader files.header
  pub each : Each (IsOfHeader files.header) files.each.items
  pub apart : AreApart files.each.items

-- the file of this number is that node's
pub record IsFileOf (files : List File) (node : NodeId) (file : ℕ) : Type 0 where
  pub one : File
  pub stands : At files file one
  pub its_name : one.title.node ≡ node

-- no file is that node's
abbrev pub HasNoFile : List File → NodeId → Type 0
HasNoFile files node = Each (λ (f : File). f.title.node ≢ node) files

-- ---- numbers of nodes

-- a file is of the node of that kind and number
abbrev pub HasNumber : List File → NodeKind → ℕ → Type 0
HasNumber files kind number = (k : ℕ) × IsFileOf files (record { kind = kind; number = number }) k

-- the files' nodes of that kind have no number above this one that is less than the other
abbrev pub HasNoneBetween : List File → NodeKind → (low high : ℕ) → Type 0
HasNoneBetween files kind low high =
    Each (λ (f : File). f.title.node.kind ≡ kind → low < f.title.node.number → high ≤ f.title.node.number) files

-- the least number above this one
pub record IsNextNumber (files : List File) (kind : NodeKind) (above number : ℕ) : Type 0 where
  pub has : HasNumber files kind number
  pub higher : above < number
  pub least : HasNoneBetween files kind above number

-- there is none above this one
abbrev pub HasNoneAbove : List File → NodeKind → ℕ → Type 0
HasNoneAbove files kind above = Each (λ (f : File). f.title.node.kind ≡ kind → f.title.node.number ≤ above) files

-- the next number above this one, if there is one
abbrev pub IsNext : List File → NodeKind → (above : ℕ) → Option ℕ → Type 0
IsNext files kind above (Some number) = IsNextNumber files kind above number
IsNext files kind above None = HasNoneAbove files kind above

abbrev pub is_below : ℕ → Option ℕ → Bool
is_below number (Some other) = nat_lt number other
is_below number None = true

-- the node's number, where it is one of that kind above this number and below what was found before
abbrev pub nearer : NodeKind → ℕ → NodeId → Option ℕ → Option ℕ
nearer kind above node found =
    if same_kind node.kind kind && (nat_lt above node.number && is_below node.number found) then Some node.number else found
