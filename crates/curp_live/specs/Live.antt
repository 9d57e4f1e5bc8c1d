-- What a run on threads leaves (this project's own).
use Rattle.std.specs.Prelude.{◌≡◌, ◌+◌, ℕ, List, length}
use Rattle.curp_base.specs.Words.{At, Each}
use Rattle.curp_cmd.specs.declared.command.Command.{Command}
use Rattle.curp_msg.specs.Moved.{Node}
use Rattle.curp_journal.specs.Journal.{NodeJournal}
use Rattle.curp_model.specs.Client.{ClientState}
use Rattle.curp_journal.specs.Turns.{Journal}
use Rattle.curp_journal.specs.Work.{DidWork}
use Rattle.curp_law_weave.specs.Run.{ordered_in}
use Rattle.curp_gather.specs.Journals.{AreOf, journals_of}
use Rattle.curp_gather.specs.declared.journals.Journals.{Journals}
use Rattle.curp_due.specs.Recoveries.{recoveries_from, stops}
use Rattle.curp_anew.specs.Work.{DidInOrder, FewPending}
use Rattle.curp_live.specs.Taken.{AreAllTaken}
use Rattle.curp_words.specs.Plan.{live_header}
use Rattle.curp_words.specs.declared.task.LivePlan.{LivePlan}

-- there is a client for each list of commands; it invoked the commands of its list in order, and each completed
pub record DidAll (work : List (List Command)) (clients : List (NodeJournal (Node ClientState))) : Type 0 where
  pub count : length clients ≡ length work
  pub each : (k : ℕ) (log : NodeJournal (Node ClientState)) (commands : List Command) → At clients k log → At work k commands
      → (log.opening.number ≡ k + 1) × DidWork (k + 1) commands log.items

-- a journal has a last stop just where the plan stops its node
abbrev pub EndsAsPlanned : {N : Type 0} → LivePlan → NodeJournal N → Type 0
EndsAsPlanned plan log = log.ended ≡ stops plan log.id

-- so do those of all nodes but the manager
pub record AllEndAsPlanned (plan : LivePlan) (journals : Journals) : Type 0 where
  pub clients : Each (EndsAsPlanned plan) journals.clients.items
  pub masters : Each (EndsAsPlanned plan) journals.masters.items
  pub backups : Each (EndsAsPlanned plan) journals.backups.items
  pub witnesses : Each (EndsAsPlanned plan) journals.witnesses.items

-- the journals are of the header's nodes, all work was done, with few requests pending at a time, the manager was ordered
-- just the recoveries of the plan, in their order, and just the masters stopped that the plan stops
pub record IsLiveRun (plan : LivePlan) (work : List (List Command)) (journals : Journals) : Type 0 where
  pub are : AreOf (live_header plan) journals
  pub did : DidAll work journals.clients.items
  pub pending : Each (λ log. FewPending log.items) journals.clients.items
  pub recovered : ordered_in journals.manager.items ≡ recoveries_from plan 1
  pub stopped : (k : ℕ) (j : Journal) → At (journals_of journals) k j → j.ended ≡ stops plan j.id

-- journals, as they were taken of all nodes, are those of such a run
pub record IsTakenRun (plan : LivePlan) (work : List (List Command)) (taken : Journals) : Type 0 where
  pub are : AreAllTaken (live_header plan) plan.recoveries taken
  pub did : DidInOrder work taken.clients.items
  pub pending : Each (λ log. FewPending log.items) taken.clients.items
  pub recovered : ordered_in taken.manager.items ≡ recoveries_from plan 1
  pub ends : AllEndAsPlanned plan taken
