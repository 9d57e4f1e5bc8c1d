-- How steps end that are to lead from one state to another.
use Rattle.std.specs.Prelude.{◌≡◌, ◌≤◌, ℕ, List, length, Option, Some, None, Result, Ok, Err, ⊤}
use Rattle.curp_base.specs.declared.failed.Failed.{Failed}
use Rattle.curp_base.specs.declared.failed.Failed.TheVariants as failed
use Rattle.curp_base.specs.Words.{IsPrefix}
use Rattle.curp_cmd.specs.declared.command.Answer.{Answer}
use Rattle.curp_msg.specs.declared.script.Step.{Step}
use Rattle.curp_model.specs.World.{World}
use Rattle.curp_law_served.specs.Served.{Limit, Served, TooLarge, TooManySteps, most_steps}
use Rattle.curp_serve.specs.declared.stepper.Stop.{Stop}
use Rattle.curp_serve.specs.declared.stepper.Stop.TheVariants as stop

-- the limit that stops them, unless it is running out of memory
abbrev pub limit_of : Failed Stop → Option Limit
limit_of (failed.Because stop.TooManySteps) = Some TooManySteps
limit_of (failed.Because (stop.TooLarge weight)) = Some (TooLarge weight)
limit_of failed.NoMemory = None

-- they were to lead to `next` and have led to `new`: to all of it, or to where a limit stopped them; where memory
-- wanted, no other steps were made
abbrev pub Ended : Result ⊤ (Failed Stop) → Served → Served → Type 0
Ended (Ok _) new next = (new ≡ next) × (next.stopped ≡ None)
Ended (Err (failed.Because stop.TooManySteps)) new next = record new { stopped = Some TooManySteps } ≡ next
Ended (Err (failed.Because (stop.TooLarge weight))) new next = record new { stopped = Some (TooLarge weight) } ≡ next
Ended (Err failed.NoMemory) new next = IsPrefix new.steps next.steps

-- so have they ended, and none of the steps before them is gone
pub record Led (result : Result ⊤ (Failed Stop)) (old new next : Served) : Type 0 where
  pub ended : Ended result new next
  pub grows : IsPrefix old.steps new.steps

-- no more steps were made than may be, and no more messages delivered or commands served than steps were made
pub record IsBounded (s : Served) : Type 0 where
  pub few : length s.steps ≤ most_steps
  pub delivered : s.delivered ≤ length s.steps
  pub commands : s.commands ≤ length s.steps

-- the state that a cluster is in after steps, so many deliveries and so many commands, where nothing has stopped them
abbrev pub going : World → List Step → ℕ → ℕ → Option Answer → Served
going world steps delivered commands answer = record {
  world = world;
  steps = steps;
  delivered = delivered;
  commands = commands;
  answer = answer;
  stopped = None;
}
