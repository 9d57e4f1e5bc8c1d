-- What it is that steps are a run of journals: one step for each thing that a journal holds (this project's own).
use Rattle.std.specs.Prelude.{◌≡◌, ◌≢◌, ◌≤◌, ◌⊎◌, ℕ, true, false, List, [], ◌∷◌, ◌++◌, map, Some, None, option_to_list, ⊤}
use Rattle.std.specs.List.{sum}
use Rattle.curp_base.specs.Words.{At, first_of}
use Rattle.curp_cmd.specs.Node.{manager_node}
use Rattle.curp_cmd.specs.declared.command.RequestId.{RequestId}
use Rattle.curp_cmd.specs.declared.node.NodeId.{NodeId}
use Rattle.curp_msg.specs.Weight.{weight_of}
use Rattle.curp_msg.specs.declared.machine.Completed.{Completed}
use Rattle.curp_msg.specs.declared.machine.Local.{Local}
use Rattle.curp_msg.specs.declared.outcome.StepResult.TheVariants.{Done}
use Rattle.curp_msg.specs.declared.script.Header.{Header}
use Rattle.curp_msg.specs.declared.script.Step.{Step}
use Rattle.curp_msg.specs.declared.script.Step.TheVariants as steps
use Rattle.curp_model.specs.World.{World, deed_of, messages, opening, step}
use Rattle.curp_msg.specs.Limits.{weight_limit}
use Rattle.curp_msg.specs.Script.{IsHeader}
use Rattle.curp_journal.specs.Journal.{IsJournal}
use Rattle.curp_journal.specs.Own.{IsArrivedMessage}
use Rattle.curp_journal.specs.declared.arrived.Arrived.{Arrived}
use Rattle.curp_journal.specs.declared.arrived.Arrived.TheVariants as arrived
use Rattle.curp_journal.specs.declared.item.Item.{Item}
use Rattle.curp_journal.specs.Legal.{LegalFrom, deed_for}
use Rattle.curp_journal.specs.Turns.{AreApart, AreTurns, Journal, Placed, completed_by, said, sent_by}
use Rattle.curp_law_weave.specs.NodeStates.{machine_of, opening_of, state_of}

-- ---- runs

-- the step of a turn is made, and the world does what the turn says
pub record IsMade (w : World) (s : Step) (p : Placed) : Type 0 where
  pub deed : deed_of w s ≡ deed_for p
  pub made : (step w s).outcome.result ≡ Done
  pub sent : messages (step w s).world ≡ messages w ++ sent_by p.turn
  pub completed : (step w s).outcome.completed ≡ completed_by p.turn

-- the steps are those of these turns, one for each, from that world on
abbrev pub Runs : World → List Step → List Placed → Type 0
Runs w [] [] = ⊤
Runs w (s ∷ ss) (p ∷ ps) = IsMade w s p × Runs (step w s).world ss ps
Runs w _ _ = ⊥

-- The steps are a run of the journals: there is one step for each item and for each last stop, those of a node are in the
-- order of its journal, and the world does on each what the journal says; `placed` is which step is which
pub record RunOf (journals : List Journal) (h : Header) (ss : List Step) (placed : List Placed) : Type 0 where
  pub apart : AreApart journals
  pub turns : AreTurns journals placed
  pub runs : Runs (opening h) ss placed

-- ---- what a journal was ordered

-- the order among what came
abbrev pub ordered_by : Arrived → List Local
ordered_by (arrived.Local order stamp) = order ∷ []
ordered_by (arrived.Message named) = []

-- what a node was ordered, in order
abbrev pub ordered_in : List Item → List Local
ordered_in [] = []
ordered_in (item ∷ items) = ordered_by item.input ++ ordered_in items

-- ---- what a run completes

-- what steps complete, from a world on
abbrev pub completions : World → List Step → List Completed
completions w [] = []
completions w (s ∷ ss) = option_to_list (step w s).outcome.completed ++ completions (step w s).world ss

-- the script completes the request
pub record IsCompletedBy (h : Header) (ss : List Step) (id : RequestId) : Type 0 where
  pub place : ℕ
  pub completed : Completed
  pub stands : At (completions (opening h) ss) place completed
  pub its_id : completed.id ≡ id

-- the node has a journal with a last stop
pub record HasEnded (journals : List Journal) (node : NodeId) : Type 0 where
  pub place : ℕ
  pub journal : Journal
  pub stands : At journals place journal
  pub its_name : journal.id ≡ node
  pub ended : journal.ended ≡ true

-- where a step stops a node, that has a journal with a last stop
abbrev pub StopsEnded : List Journal → Step → Type 0
StopsEnded journals (steps.Stop node) = HasEnded journals node
StopsEnded journals _ = ⊤

-- ---- what is asked of lists alone

-- there is a first item, and what came then is a message
pub record TakesFirst (items : List Item) : Type 0 where
  pub item : Item
  pub first : first_of items ≡ Some item
  pub message : IsArrivedMessage item.input

-- A journal that a node of the header's worlds can have: replayed from the state that the node begins with, it gives
-- itself; a node that isn't there at opening takes a message first; and the manager doesn't stop
pub record IsJournalOf (h : Header) (j : Journal) : Type 0 where
  pub replay : IsJournal (machine_of j.id) (opening_of h j.id) j.items
  pub begins : (state_of (opening h) j.id ≢ None) ⊎ TakesFirst j.items
  pub stops : j.id ≡ manager_node → j.ended ≡ false

-- The steps have the turns of the journals, each step is to do what its turn says, and what was sent isn't too heavy. No
-- world is run here
pub record Legal (journals : List Journal) (h : Header) (ss : List Step) (placed : List Placed) : Type 0 where
  pub header : IsHeader h
  pub apart : AreApart journals
  pub turns : AreTurns journals placed
  pub journals_are : (k : ℕ) (j : Journal) → At journals k j → IsJournalOf h j
  pub light : sum (map weight_of (said placed)) ≤ weight_limit
  pub legal : LegalFrom [] ss placed
