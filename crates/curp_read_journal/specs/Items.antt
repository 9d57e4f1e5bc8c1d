-- What a node did by inputs, as a journal (this project's own).
use Rattle.std.specs.Prelude.{ℕ, false, List, [], ◌∷◌, ◌++◌}
use Rattle.curp_cmd.specs.declared.node.NodeId.{NodeId}
use Rattle.curp_durable.specs.Standing.{Standing, answers_of, begun}
use Rattle.curp_durable.specs.declared.stand.Answered.{Answered}
use Rattle.curp_durable.specs.declared.stand.Answered.TheVariants as answered
use Rattle.curp_journal.specs.Journal.{NodeJournal}
use Rattle.curp_journal.specs.declared.arrived.Arrived.{Arrived}
use Rattle.curp_journal.specs.declared.item.Item.{Item}
use Rattle.curp_msg.specs.Moved.{Moved}
use Rattle.curp_msg.specs.Input.{Input}

-- the item that was made, if one was
abbrev pub item_in : Answered → List Item
item_in (answered.Made step item) = item ∷ []
item_in (answered.Refused number) = []

abbrev pub items_in : List Answered → List Item
items_in [] = []
items_in (a ∷ more) = item_in a ++ items_in more

-- the items that the inputs make of a node that stands so
abbrev pub items_of : {N : Type 0} → (N → Input → Moved N) → Standing N → List Arrived → List Item
items_of machine s inputs = items_in (answers_of machine s inputs)

-- the journal of a node that got these inputs, and goes on
abbrev pub log_of : {N : Type 0} → (N → Input → Moved N) → NodeId → N → List Arrived → NodeJournal N
log_of machine id node inputs = record { id = id; opening = node; items = items_of machine (begun node) inputs; ended = false }
