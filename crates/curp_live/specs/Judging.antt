-- Journals that were taken of a run (this project's own).
use Rattle.std.specs.Prelude.{List}
use Rattle.curp_cmd.specs.declared.command.Command.{Command}
use Rattle.curp_gather.specs.Ruled.{AreRuled}
use Rattle.curp_gather.specs.Journals.{journals_of}
use Rattle.curp_gather.specs.declared.journals.Journals.{Journals}
use Rattle.curp_words.specs.Plan.{live_header}
use Rattle.curp_words.specs.declared.task.LivePlan.{LivePlan}
use Rattle.curp_live.specs.Live.{IsTakenRun}
use Rattle.curp_live.specs.Taken.{AreHandedOut}

-- the journals that were taken are those of a run of the plan in which the work was done, and those that are handed out of
-- them are ruled: what each node took of each other is the prefix of what that sent to it
pub record IsRuledRun (plan : LivePlan) (work : List (List Command)) (taken : Journals) : Type 0 where
  pub run : IsTakenRun plan work taken
  pub ruled : (journals : Journals) → AreHandedOut (live_header plan) taken journals → AreRuled (journals_of journals)
