-- Journals in which what each node took of each other is the prefix of what that sent to it (this project's own).
use Rattle.std.specs.Prelude.{◌≡◌, ℕ, ◌+◌, List, [], ◌∷◌, ◌++◌, filter}
use Rattle.curp_base.specs.Words.{At, IsPrefix}
use Rattle.curp_cmd.specs.Node.{same_node}
use Rattle.curp_cmd.specs.declared.node.NodeId.{NodeId}
use Rattle.curp_journal.specs.Sending.{named_of}
use Rattle.curp_journal.specs.declared.arrived.Arrived.{Arrived}
use Rattle.curp_journal.specs.declared.arrived.Arrived.TheVariants as arrived
use Rattle.curp_journal.specs.declared.arrived.Named.{Named}
use Rattle.curp_journal.specs.declared.item.Item.{Item}
use Rattle.curp_journal.specs.Turns.{IsKnown, Journal}

-- the message that came from that node, if it is one
abbrev pub came_from : NodeId → Arrived → List Named
came_from node (arrived.Local order stamp) = []
came_from node (arrived.Message named) = filter (λ (n : Named). same_node n.from node) (named ∷ [])

-- the messages that were taken of that node, in order
abbrev pub taken_of : NodeId → List Item → List Named
taken_of node [] = []
taken_of node (item ∷ items) = came_from node item.input ++ taken_of node items

-- those that are addressed to that node
abbrev pub to_node : NodeId → List Named → List Named
to_node node named = filter (λ (n : Named). same_node n.message.to node) named

-- what the items of a node, numbered from there on, sent to another, in order
abbrev pub sent_to : NodeId → NodeId → ℕ → List Item → List Named
sent_to node from step [] = []
sent_to node from step (item ∷ items) =
    to_node node (named_of from step item.stamp 1 item.done.sent) ++ sent_to node from (step + 1) items

-- each message that these items took came from a node with a journal
unfoldable pub AllKnown : List Journal → List Item → Type 0
AllKnown journals items = (t : ℕ) (item : Item) (named : Named) → At items t item → item.input ≡ arrived.Message named → IsKnown journals named.from

-- what a node took of each other is the prefix of what that sent to it
unfoldable pub ArePrefixes : List Journal → NodeId → List Item → Type 0
ArePrefixes journals node items = (k : ℕ) (other : Journal) → At journals k other → IsPrefix (taken_of other.id items) (sent_to node other.id 1 other.items)

-- each message came from a node with a journal, and what a node took of each is the prefix of what that sent to it: by name,
-- with step, place and stamp
pub record AreRuled (journals : List Journal) : Type 0 where
  pub known : (k : ℕ) (one : Journal) → At journals k one → AllKnown journals one.items
  pub prefixes : (k : ℕ) (one : Journal) → At journals k one → ArePrefixes journals one.id one.items
