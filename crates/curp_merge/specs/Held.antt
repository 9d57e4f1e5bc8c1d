-- Which message a journal holds by a name, and whether what a node took is that (this project's own).
use Rattle.std.specs.Prelude.{◌≡◌, ◌≢◌, ℕ, List, find, Option, Some, option_and_then, ⊤}
use Rattle.curp_base.specs.Words.{At, numbered}
use Rattle.curp_cmd.specs.Node.{same_node}
use Rattle.curp_cmd.specs.declared.node.NodeId.{NodeId}
use Rattle.curp_msg.specs.declared.message.Message.{Message}
use Rattle.curp_journal.specs.declared.arrived.Arrived.{Arrived}
use Rattle.curp_journal.specs.declared.arrived.Arrived.TheVariants as arrived
use Rattle.curp_journal.specs.declared.arrived.Named.{Named}
use Rattle.curp_journal.specs.declared.item.Item.{Item}
use Rattle.curp_journal.specs.Turns.{Journal}

-- the journal of a node
abbrev pub journal_of : List Journal → NodeId → Option Journal
journal_of journals node = find (λ (j : Journal). same_node j.id node) journals

-- the message that an item of that node and of that number sent at a place; places count from 1
abbrev pub held_by : NodeId → ℕ → ℕ → Item → Option Named
held_by from step place item =
    option_and_then (λ (m : Message). Some (record { from = from; step = step; place = place; stamp = item.stamp; message = m }))
    (numbered item.done.sent place)

-- the message that stands in its sender's journal at the step and the place of a name; both count from 1
abbrev pub kept_at : List Journal → Named → Option Named
kept_at journals named =
    option_and_then (λ (j : Journal). option_and_then (held_by named.from named.step named.place) (numbered j.items named.step))
    (journal_of journals named.from)

-- what came is an order, or the message that its sender's journal holds by its name
abbrev pub IsHeld : List Journal → Arrived → Type 0
IsHeld journals (arrived.Local order stamp) = ⊤
IsHeld journals (arrived.Message named) = kept_at journals named ≡ Some named

-- so is all that came to the nodes
abbrev pub AllHeld : List Journal → Type 0
AllHeld journals = (k : ℕ) (j : Journal) (t : ℕ) (item : Item) → At journals k j → At j.items t item → IsHeld journals item.input

-- the item of that number of a node took a message which isn't the one that its sender's journal holds by its name
pub record IsMismatch (journals : List Journal) (node : NodeId) (step : ℕ) (got : Named) (kept : Option Named) : Type 0 where
  pub place : ℕ
  pub journal : Journal
  pub item : Item
  pub stands : At journals place journal
  pub its_name : journal.id ≡ node
  pub taken : numbered journal.items step ≡ Some item
  pub came : item.input ≡ arrived.Message got
  pub kept_is : kept ≡ kept_at journals got
  pub differs : kept ≢ Some got

-- what came by each of these items is held
abbrev pub ItemsHeld : List Journal → List Item → Type 0
ItemsHeld journals items = (t : ℕ) (item : Item) → At items t item → IsHeld journals item.input

-- what came is a message which isn't the one that its sender's journal holds by its name
pub record IsOther (journals : List Journal) (input : Arrived) (got : Named) (kept : Option Named) : Type 0 where
  pub came : input ≡ arrived.Message got
  pub kept_is : kept ≡ kept_at journals got
  pub differs : kept ≢ Some got
