-- What a node's journal shows: replayed from the opening node, it gives the node, all outputs and rising stamps (this
-- project's own).
use Rattle.std.specs.Prelude.{◌≡◌, ℕ, ◌+◌, max, Bool, List, [], ◌∷◌, ⊤}
use Rattle.curp_base.specs.Words.{Each}
use Rattle.curp_cmd.specs.declared.node.NodeId.{NodeId}
use Rattle.curp_msg.specs.Moved.{Moved, done_of}
use Rattle.curp_msg.specs.Input.{Input}
use Rattle.curp_journal.specs.Given.{given, stamp_of}
use Rattle.curp_journal.specs.declared.arrived.Arrived.{Arrived}
use Rattle.curp_journal.specs.declared.item.Item.{Item}

-- a node's name and opening state, what it has done, and whether it has stopped for good
pub record NodeJournal (N : Type 0) : Type 0 where
  pub id : NodeId
  pub opening : N
  pub items : List Item
  pub ended : Bool

-- the node after these items
abbrev pub after : {N : Type 0} → (N → Input → Moved N) → N → List Item → N
after machine node [] = node
after machine node (item ∷ items) = after machine (machine node (given item.input)).state items

-- the stamp of what comes to a node whose last stamp is this one
abbrev pub next_stamp : ℕ → Arrived → ℕ
next_stamp last arrived = max last (stamp_of arrived) + 1

-- the item that an input makes, of a node whose last stamp is this one
abbrev pub made : {N : Type 0} → (N → Input → Moved N) → N → ℕ → Arrived → Item
made machine node last arrived = record { stamp = next_stamp last arrived; input = arrived; done = done_of (machine node (given arrived)) }

-- the items that the machine makes of the same inputs, of a node whose last stamp is this one
abbrev pub replayed : {N : Type 0} → (N → Input → Moved N) → N → ℕ → List Item → List Item
replayed machine node last [] = []
replayed machine node last (item ∷ items) =
    made machine node last item.input
    ∷ replayed machine (machine node (given item.input)).state (next_stamp last item.input) items

-- the last stamp of these items, where it is this one before them
abbrev pub last_stamp : ℕ → List Item → ℕ
last_stamp last [] = last
last_stamp last (item ∷ items) = last_stamp item.stamp items

-- replaying the items from the opening node gives this node, their outputs and their stamps, and none was refused
pub record IsReplay {N : Type 0} (machine : N → Input → Moved N) (opening : N) (items : List Item) (node : N) (last : ℕ) : Type 0 where
  pub node_is : node ≡ after machine opening items
  pub items_are : items ≡ replayed machine opening 0 items
  pub none_refused : Each (λ (item : Item). item.done.refused ≡ 0) items
  pub last_is : last ≡ last_stamp 0 items

-- the items are what the machine makes of their inputs from the opening node on
abbrev pub IsJournal : {N : Type 0} → (N → Input → Moved N) → N → List Item → Type 0
IsJournal machine opening items = IsReplay machine opening items (after machine opening items) (last_stamp 0 items)

-- each stamp is one more than the larger of the one before it and that of what came
abbrev pub Stamped : ℕ → List Item → Type 0
Stamped last [] = ⊤
Stamped last (item ∷ items) = (item.stamp ≡ next_stamp last item.input) × Stamped item.stamp items
