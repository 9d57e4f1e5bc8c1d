-- What journals hold, turn by turn (this project's own).
use Rattle.std.specs.Prelude.{◌≡◌, ◌<◌, ◌≤◌, ◌⊎◌, ℕ, if◌then◌else◌, Bool, List, [], ◌∷◌, ◌++◌, map, Option, None}
use Rattle.curp_base.specs.Words.{At, Each}
use Rattle.curp_cmd.specs.Node.{same_node}
use Rattle.curp_cmd.specs.declared.node.NodeId.{NodeId}
use Rattle.curp_msg.specs.declared.machine.Completed.{Completed}
use Rattle.curp_msg.specs.declared.message.Message.{Message}
use Rattle.curp_journal.specs.Journal.{last_stamp}
use Rattle.curp_journal.specs.declared.item.Item.{Item}

-- a node's journal: its name, its items, and whether it has a last stop
pub record Journal : Type 0 where
  pub id : NodeId
  pub items : List Item
  pub ended : Bool

-- a thing that a journal holds: an item, or the last stop, which has the stamp of the last item, and 0 where there is none
pub data Turn : Type 0 where
  Did : (item : Item) → Turn
  Quits : (stamp : ℕ) → Turn

-- all that a journal holds, in order
abbrev pub turns_of : Journal → List Turn
turns_of j = map Did j.items ++ (if j.ended then Quits (last_stamp 0 j.items) ∷ [] else [])

-- when it was
abbrev pub turn_stamp : Turn → ℕ
turn_stamp (Did item) = item.stamp
turn_stamp (Quits stamp) = stamp

-- the messages that it sent then
abbrev pub sent_by : Turn → List Message
sent_by (Did item) = item.done.sent
sent_by (Quits stamp) = []

-- the request that it completed then
abbrev pub completed_by : Turn → Option Completed
completed_by (Did item) = item.done.completed
completed_by (Quits stamp) = None

-- a turn with its node
pub record Placed : Type 0 where
  pub node : NodeId
  pub turn : Turn

-- the turns of a node, in order
abbrev pub of : NodeId → List Placed → List Turn
of node [] = []
of node (p ∷ ps) = if same_node p.node node then p.turn ∷ of node ps else of node ps

-- the messages that were sent by these turns, in order
abbrev pub said : List Placed → List Message
said [] = []
said (p ∷ ps) = sent_by p.turn ++ said ps

-- no two journals are of one node
abbrev pub AreApart : List Journal → Type 0
AreApart journals = (i k : ℕ) (a b : Journal) → At journals i a → At journals k b → a.id ≡ b.id → i ≡ k

-- the node has a journal
pub record IsKnown (journals : List Journal) (node : NodeId) : Type 0 where
  pub place : ℕ
  pub journal : Journal
  pub stands : At journals place journal
  pub its_name : journal.id ≡ node

-- they are the turns of the journals: each is of a node that has one, and those of a node are all that its journal
-- holds, in order
pub record AreTurns (journals : List Journal) (placed : List Placed) : Type 0 where
  pub known : Each (λ p. IsKnown journals p.node) placed
  pub whole : (k : ℕ) (j : Journal) → At journals k j → of j.id placed ≡ turns_of j

-- ---- the order in which journals are merged

-- the journal of the one node doesn't stand behind that of the other
abbrev pub IsNotBehind : List Journal → NodeId → NodeId → Type 0
IsNotBehind journals node other = (i k : ℕ) (a b : Journal) → At journals i a → At journals k b → a.id ≡ node → b.id ≡ other → i ≤ k

-- the first turn has the lesser stamp or, where the stamps are the same, not the later journal
abbrev pub Precedes : List Journal → Placed → Placed → Type 0
Precedes journals p q = (turn_stamp p.turn < turn_stamp q.turn) ⊎ ((turn_stamp p.turn ≡ turn_stamp q.turn) × IsNotBehind journals p.node q.node)

-- the turns stand in the order of their stamps and, where these are the same, in that of the journals
abbrev pub InOrder : List Journal → List Placed → Type 0
InOrder journals placed = (t u : ℕ) (p q : Placed) → At placed t p → At placed u q → t < u → Precedes journals p q
