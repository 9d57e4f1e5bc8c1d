-- What a merge of journals is (this project's own).
use Rattle.std.specs.Prelude.{◌≡◌, ℕ, ◌+◌, Bool, true, List, [], ◌∷◌, ◌++◌, length, map, Some}
use Rattle.std.specs.List.{sum}
use Rattle.curp_base.specs.Words.{At, numbered}
use Rattle.curp_cmd.specs.declared.node.NodeId.{NodeId}
use Rattle.curp_cmd.specs.declared.node.NodeKind.{NodeKind}
use Rattle.curp_cmd.specs.declared.node.NodeKind.TheVariants as kind
use Rattle.curp_cmd.specs.Node.{manager_node}
use Rattle.curp_msg.specs.Weight.{weight_of}
use Rattle.curp_msg.specs.declared.machine.Local.{Local}
use Rattle.curp_msg.specs.declared.script.Step.{Step}
use Rattle.curp_msg.specs.declared.script.Step.TheVariants as steps
use Rattle.curp_journal.specs.Journal.{Stamped}
use Rattle.curp_journal.specs.Own.{IsOwn}
use Rattle.curp_journal.specs.declared.arrived.Arrived.{Arrived}
use Rattle.curp_journal.specs.declared.arrived.Arrived.TheVariants as arrived
use Rattle.curp_journal.specs.declared.arrived.Named.{Named}
use Rattle.curp_journal.specs.declared.item.Item.{Item}
use Rattle.curp_journal.specs.Legal.{LegalFrom}
use Rattle.curp_journal.specs.Turns.{AreApart, AreTurns, Did, InOrder, Journal, Placed, Turn, of, said, sent_by, turns_of}

-- Journals that can be merged: no two are of one node, there is one manager, stamps rise as a node gives them, and what
-- came to each node is its own
pub record AreJournals (journals : List Journal) : Type 0 where
  pub apart : AreApart journals
  pub one_manager : (k : ℕ) (j : Journal) → At journals k j → j.id.kind ≡ kind.Manager → j.id ≡ manager_node
  pub stamped : (k : ℕ) (j : Journal) → At journals k j → Stamped 0 j.items
  pub own : (k : ℕ) (j : Journal) (t : ℕ) (item : Item) → At journals k j → At j.items t item → IsOwn j.id item.input

-- how much the journals hold, and how much what they sent weighs
abbrev pub turn_count : List Journal → ℕ
turn_count journals = sum (map (λ (j : Journal). length (turns_of j)) journals)

abbrev pub turn_weight : Turn → ℕ
turn_weight turn = sum (map weight_of (sent_by turn))

abbrev pub weight_sent : List Journal → ℕ
weight_sent journals = sum (map (λ (j : Journal). sum (map turn_weight (turns_of j))) journals)

-- ---- which message a delivery names

-- The message of that name has this number among all that the turns send, in their order: its sender's item of its step
-- stands behind turns that sent so many messages, and the message stands at its place in what that item sent. The turns
-- of a node are those of its journal in order, so it is the journal's item of that step. Steps, places and numbers count
-- from 1
pub record IsNumberIn (placed : List Placed) (named : Named) (number : ℕ) : Type 0 where
  pub before : List Placed
  pub item : Item
  pub after : List Placed
  pub parts : placed ≡ before ++ (record { node = named.from; turn = Did item } ∷ after)
  pub its_step : named.step ≡ length (of named.from before) + 1
  pub its_place : numbered item.done.sent named.place ≡ Some named.message
  pub number_is : number ≡ length (said before) + named.place

-- the step delivers just the message of that name, and not another that is equal to it
pub record Delivers (placed : List Placed) (named : Named) (step : Step) : Type 0 where
  pub number : ℕ
  pub step_is : step ≡ steps.Deliver number
  pub is : IsNumberIn placed named number

-- the step of each item that took a message delivers just that message
abbrev pub NameTaken : List Step → List Placed → Type 0
NameTaken ss placed = (t : ℕ) (s : Step) (p : Placed) (item : Item) (named : Named)
    → At ss t s → At placed t p → p.turn ≡ Did item → item.input ≡ arrived.Message named → Delivers placed named s

-- ---- the merge

-- The steps are the turns of the journals, in order of stamps and then of journals, and each is to do what its turn
-- says; a delivery names just the message that the item took
pub record IsMerge (journals : List Journal) (ss : List Step) (placed : List Placed) : Type 0 where
  pub turns : AreTurns journals placed
  pub legal : LegalFrom [] ss placed
  pub in_order : InOrder journals placed
  pub names : NameTaken ss placed

-- some order of the turns is such a merge
pub record Merged (journals : List Journal) (ss : List Step) : Type 0 where
  pub placed : List Placed
  pub is : IsMerge journals ss placed
