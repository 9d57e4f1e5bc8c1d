-- A journal with the item that an input makes, and what a node does by the inputs of items (this project's own).
use Rattle.std.specs.Prelude.{◌≡◌, ◌≢◌, ◌⊎◌, ◌^◌, ◌≤◌, List, ◌++◌, ◌∷◌, [], ⊤}
use Rattle.curp_msg.specs.Moved.{Moved, done_of}
use Rattle.curp_msg.specs.Input.{Input}
use Rattle.curp_journal.specs.Given.{given}
use Rattle.curp_journal.specs.Journal.{NodeJournal, after, last_stamp, made, next_stamp}
use Rattle.curp_journal.specs.declared.arrived.Arrived.{Arrived}
use Rattle.curp_journal.specs.declared.item.Item.{Item}

-- the item that an input makes of a node with this journal
abbrev pub item_of : {N : Type 0} → (N → Input → Moved N) → NodeJournal N → Arrived → Item
item_of machine log arrived = made machine (after machine log.opening log.items) (last_stamp 0 log.items) arrived

-- the journal with that item
abbrev pub with_item : {N : Type 0} → (N → Input → Moved N) → NodeJournal N → Arrived → NodeJournal N
with_item machine log arrived = record log { items = log.items ++ item_of machine log arrived ∷ [] }

-- no stamp is left for the input, or the node refuses it
abbrev pub IsRefused : {N : Type 0} → (N → Input → Moved N) → NodeJournal N → Arrived → Type 0
IsRefused machine log arrived =
    (2 ^ 64 ≤ next_stamp (last_stamp 0 log.items) arrived) ⊎ ((machine (after machine log.opening log.items) (given arrived)).refused ≢ 0)

-- given the inputs of these items from this state on, the machine does by each what the item says
abbrev pub DoesAll : {N : Type 0} → (N → Input → Moved N) → N → List Item → Type 0
DoesAll machine node [] = ⊤
DoesAll machine node (item ∷ items) =
    (item.done ≡ done_of (machine node (given item.input))) × DoesAll machine (machine node (given item.input)).state items
