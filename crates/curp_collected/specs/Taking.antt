-- Which inputs of a journal are taken again, and what a node does by them (this project's own).
use Rattle.std.specs.Prelude.{◌≡◌, ◌≢◌, ◌⊎◌, ◌≤◌, ℕ, ◌+◌, ◌^◌, nat_lt, Bool, true, false, List, [], ◌∷◌, length, take, drop, Option, Some, None, ⊤}
use Rattle.curp_base.specs.Words.{At, Each, first_of}
use Rattle.curp_cmd.specs.declared.node.NodeId.{NodeId}
use Rattle.curp_msg.specs.Moved.{Moved}
use Rattle.curp_msg.specs.Input.{Input}
use Rattle.curp_msg.specs.declared.machine.Local.{Local}
use Rattle.curp_msg.specs.declared.script.Header.{Header}
use Rattle.curp_anew.specs.Opening.{AllOwn}
use Rattle.curp_journal.specs.Given.{given}
use Rattle.curp_journal.specs.Journal as journal
use Rattle.curp_journal.specs.Journal.{NodeJournal, last_stamp, next_stamp}
use Rattle.curp_journal.specs.declared.arrived.Arrived.{Arrived}
use Rattle.curp_journal.specs.declared.arrived.Arrived.TheVariants as arrived
use Rattle.curp_journal.specs.declared.item.Item.{Item}
use Rattle.curp_durable.specs.Standing.{after, begun, number_of}
use Rattle.curp_journal.specs.Own.{IsOwn}
use Rattle.curp_read_journal.specs.Items.{items_of}
use Rattle.curp_collected.specs.Files.{HasTitleAt, IsJournalAt}

-- ---- the inputs up to a stamp

-- a stamp is past the last one that is wanted
abbrev pub is_past : Option ℕ → ℕ → Bool
is_past None stamp = false
is_past (Some until) stamp = nat_lt until stamp

-- where the last stamp is this one, none of these inputs is wanted: there is none, or the stamp of the first is past
abbrev pub NoneWanted : Option ℕ → ℕ → List Arrived → Type 0
NoneWanted until last [] = ⊤
NoneWanted until last (a ∷ more) = is_past until (next_stamp last a) ≡ true

-- The items are what the machine makes of the first of these inputs, each of which it takes. None of their stamps is past
-- the last one that is wanted, and of the inputs behind them none is wanted
pub record AreTaken {N : Type 0} (machine : N → Input → Moved N) (until : Option ℕ) (node : N) (inputs : List Arrived) (items : List Item) : Type 0 where
  pub made : items ≡ items_of machine (begun node) (take (length items) inputs)
  pub wanted : Each (λ (item : Item). is_past until item.stamp ≡ false) items
  pub rest : NoneWanted until (last_stamp 0 items) (drop (length items) inputs)

-- ---- the journal of a node

-- no file has the title of that node
abbrev pub HasNone : List (List ℕ) → Header → NodeId → Type 0
HasNone files h node = (file : ℕ) → HasTitleAt files file (record { node = node; header = h }) → ⊥

-- the journal is that of one of the files, up to a stamp
pub record IsReplayed {N : Type 0} (machine : N → Input → Moved N) (files : List (List ℕ)) (until : Option ℕ) (h : Header) (log : NodeJournal N) : Type 0 where
  pub file : ℕ
  pub inputs : List Arrived
  pub stands : IsJournalAt files file h log.id inputs
  pub taken : AreTaken machine until log.opening inputs log.items

-- The journal is that of its node's file up to a stamp, or its node has no file and did nothing. The node didn't stop
pub record IsOfFiles {N : Type 0} (machine : N → Input → Moved N) (files : List (List ℕ)) (until : Option ℕ) (h : Header) (log : NodeJournal N) : Type 0 where
  pub goes_on : log.ended ≡ false
  pub its_items : IsReplayed machine files until h log ⊎ (HasNone files h log.id × (log.items ≡ []))

-- ---- what can't be given to a node

-- the input of that number, counted from 1, isn't the node's own
pub record IsForeignAt (node : NodeId) (inputs : List Arrived) (number : ℕ) : Type 0 where
  pub place : ℕ
  pub input : Arrived
  pub stands : At inputs place input
  pub number_is : number ≡ place + 1
  pub foreign : IsOwn node input → ⊥

-- the input of that number, counted from 1, is refused by the machine behind those before it, or no stamp is left for it
pub record IsRefusedAt {N : Type 0} (machine : N → Input → Moved N) (node : N) (inputs : List Arrived) (number : ℕ) : Type 0 where
  pub place : ℕ
  pub input : Arrived
  pub stands : At inputs place input
  pub number_is : number ≡ place + 1
  pub refused : number_of machine (after machine (begun node) (take place inputs)) input ≢ 0

-- the first input is an order
pub record StartsWithOrder (inputs : List Arrived) : Type 0 where
  pub order : Local
  pub stamp : ℕ
  pub first : first_of inputs ≡ Some (arrived.Local order stamp)

-- ---- one node's journal as it is read

-- the journal of the node of that name, begun so, of such inputs, which are its own
pub record IsTakenOf {N : Type 0} (machine : N → Input → Moved N) (until : Option ℕ) (id : NodeId) (node : N) (inputs : List Arrived) (log : NodeJournal N) : Type 0 where
  pub its_name : log.id ≡ id
  pub begins : log.opening ≡ node
  pub goes_on : log.ended ≡ false
  pub taken : AreTaken machine until node inputs log.items
  pub own : AllOwn id log.items

-- so it is of the inputs in the file of that number
pub record IsReplayOf {N : Type 0} (machine : N → Input → Moved N) (files : List (List ℕ)) (until : Option ℕ) (h : Header) (file : ℕ) (id : NodeId) (node : N) (log : NodeJournal N) : Type 0 where
  pub inputs : List Arrived
  pub stands : IsJournalAt files file h id inputs
  pub taken : IsTakenOf machine until id node inputs log

-- a node with this journal refuses the input, or no stamp is left for it
abbrev pub IsRefusedBy : {N : Type 0} → (N → Input → Moved N) → NodeJournal N → Arrived → Type 0
IsRefusedBy machine log input =
    (2 ^ 64 ≤ next_stamp (last_stamp 0 log.items) input) ⊎ ((machine (journal.after machine log.opening log.items) (given input)).refused ≢ 0)
