-- The work that clients did, as it was taken of them (this project's own).
use Rattle.std.specs.Prelude.{◌≡◌, ◌≤◌, ◌+◌, ℕ, if◌then◌else◌, List, [], ◌∷◌, length, take, is_some}
use Rattle.curp_base.specs.Words.{At}
use Rattle.curp_cmd.specs.declared.command.Command.{Command}
use Rattle.curp_msg.specs.Moved.{Node}
use Rattle.curp_journal.specs.Journal.{NodeJournal}
use Rattle.curp_journal.specs.declared.item.Item.{Item}
use Rattle.curp_journal.specs.Work.{DidWork, invoked_in}
use Rattle.curp_model.specs.Client.{ClientState}

-- there is a client for each list of commands, taken to be that of its name; it invoked the commands of its list in order, and
-- each completed
pub record DidInOrder (work : List (List Command)) (clients : List (NodeJournal (Node ClientState))) : Type 0 where
  pub count : length clients ≡ length work
  pub each : (k : ℕ) (log : NodeJournal (Node ClientState)) (commands : List Command) → At clients k log → At work k commands
      → (log.id.number ≡ k + 1) × DidWork (k + 1) commands log.items

-- how many of the items complete a request
abbrev pub completed_count : List Item → ℕ
completed_count [] = 0
completed_count (item ∷ items) = (if is_some item.done.completed then 1 else 0) + completed_count items

-- how many requests of a client are pending at a time
abbrev pub most_pending : ℕ
most_pending = 4

-- a client never has more requests pending: after each of its items so many at most are invoked and not completed
abbrev pub FewPending : List Item → Type 0
FewPending items = (t : ℕ) → length (invoked_in (take t items)) ≤ completed_count (take t items) + most_pending
