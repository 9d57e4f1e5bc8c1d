-- What `live` writes, and what the script in it shows of the work.
use Rattle.std.specs.Prelude.{◌≡◌, ◌≤◌, ◌⊎◌, ℕ, List, ◌++◌, map, Some, true, ⊤}
use Rattle.curp_base.specs.Words.{Each, numbers_from}
use Rattle.curp_io.specs.Streams.{HoldsPart}
use Rattle.curp_cmd.specs.Node.{manager_node}
use Rattle.curp_cmd.specs.declared.command.Command.{Command}
use Rattle.curp_msg.specs.Limits.{step_limit, weight_limit}
use Rattle.curp_msg.specs.declared.script.Step.{Step}
use Rattle.curp_msg.specs.declared.script.Step.TheVariants.{Stop}
use Rattle.curp_script.specs.Printed.{NamesNode}
use Rattle.curp_script.specs.Script.{Script, Whole}
use Rattle.curp_script.specs.Texts.{script_lines}
use Rattle.curp_model.specs.World.{world}
use Rattle.curp_journal.specs.Turns.{Journal}
use Rattle.curp_journal.specs.Work.{invocations, orders_to, recoveries}
use Rattle.curp_gather.specs.Journals.{journals_of}
use Rattle.curp_gather.specs.declared.journals.Journals.{Journals}
use Rattle.curp_due.specs.Recoveries.{recoveries_from, stops}
use Rattle.curp_live.specs.Live.{IsLiveRun}
use Rattle.curp_merge.specs.Held.{AllHeld}
use Rattle.curp_merge.specs.Merging.{turn_count, weight_sent}
use Rattle.curp_gather.specs.Causes.{IsRuledCause}
use Rattle.curp_gather.specs.declared.error.RuledError.{RuledError}
use Rattle.curp_law_weave.specs.Run.{IsCompletedBy}
use Rattle.curp_words.specs.declared.task.LivePlan.{LivePlan}
use Rattle.curp_words.specs.Plan.{live_header}
use Rattle.curp_gen.specs.Commands.{workload_of}
use Rattle.curp_play.specs.Play.{OrderStands}
use Rattle.curp_runner.specs.Reading.{script_in}
use Rattle.curp_play.specs.Show.{played}

-- the work of each client, that of client 1 first
abbrev pub work_of : LivePlan → List (List Command)
work_of plan = map (λ n. workload_of plan.number n plan.commands) (numbers_from 1 plan.clients)

-- where a step stops a node, the plan stops it: a master that a recovery with an odd number replaces
abbrev pub StopsAsPlanned : LivePlan → Step → Type 0
StopsAsPlanned plan (Stop node) = stops plan node ≡ true
StopsAsPlanned plan _ = ⊤

-- In the steps each client invokes its workload in order, and each of these requests completes. As many recoveries are
-- ordered as the plan asks, and the manager is ordered just these, in their order; no node is stopped that the plan doesn't
-- stop, and each step can be printed
pub record Shows (plan : LivePlan) (steps : List Step) : Type 0 where
  pub invoked : (n : ℕ) → 1 ≤ n → n ≤ plan.clients → invocations n steps ≡ workload_of plan.number n plan.commands
  pub completed : (n seq : ℕ) → 1 ≤ n → n ≤ plan.clients → 1 ≤ seq → seq ≤ plan.commands
      → IsCompletedBy (live_header plan) steps (record { client = n; seq = seq })
  pub recovered : recoveries steps ≡ plan.recoveries
  pub ordered : orders_to manager_node steps ≡ recoveries_from plan 1
  pub stopped : Each (StopsAsPlanned plan) steps
  pub printable : Each NamesNode steps

-- journals are a script that is short and light enough to be played
pub record IsPlayable (journals : List Journal) : Type 0 where
  pub held : AllHeld journals
  pub few : turn_count journals ≤ step_limit
  pub light : weight_sent journals ≤ weight_limit

-- they aren't: there are too many items, or they sent too much
pub record IsUnplayable (journals : List Journal) : Type 0 where
  pub why : RuledError
  pub cause : IsRuledCause journals why

-- there is a run of the plan in which its work was done, and its journals are none that can be played
pub record HasUnplayableRun (plan : LivePlan) : Type 0 where
  pub journals : Journals
  pub run : IsLiveRun plan (work_of plan) journals
  pub cause : IsUnplayable (journals_of journals)

-- the script of these steps, read to its end
abbrev pub whole_script : LivePlan → List Step → Script
whole_script plan steps = record { header = Some (live_header plan); body = record { steps = steps; ending = Whole } }

-- a text is that of a script that shows the work, and it is read back whole
pub record IsLiveText (plan : LivePlan) (text : List ℕ) : Type 0 where
  pub steps : List Step
  pub printed : text ≡ script_lines (live_header plan) steps
  pub reads : script_in text ≡ whole_script plan steps
  pub shows : Shows plan steps

-- what was written is a script, an empty line, and the script's text; the script shows the work
pub record IsLive (plan : LivePlan) (old new : List ℕ) : Type 0 where
  pub steps : List Step
  pub text : new ≡ old ++ played (script_lines (live_header plan) steps)
  pub reads : script_in (script_lines (live_header plan) steps) ≡ whole_script plan steps
  pub order : OrderStands (world (live_header plan) steps)
  pub shows : Shows plan steps

-- a prefix of such a script, an empty line, and the script's text was written
pub record IsLivePart (plan : LivePlan) (old new : List ℕ) : Type 0 where
  pub text : List ℕ
  pub is : IsLiveText plan text
  pub part : HoldsPart old new (played text)

-- nothing was written, or such a prefix
abbrev pub IsLivePrefix : LivePlan → List ℕ → List ℕ → Type 0
IsLivePrefix plan old new = (new ≡ old) ⊎ IsLivePart plan old new
