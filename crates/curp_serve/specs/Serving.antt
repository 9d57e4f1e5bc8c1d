-- A cluster that serves commands, and how a call for a command ends.
use Rattle.std.specs.Prelude.{◌≡◌, ℕ, List, Bool, false, Option, Some, None, Result, Ok, Err, is_some}
use Rattle.std.specs.Option.{option_and_then}
use Rattle.curp_base.specs.declared.failed.Failed.{Failed}
use Rattle.curp_base.specs.Words.{IsPrefix}
use Rattle.curp_cmd.specs.declared.command.Answer.{Answer}
use Rattle.curp_cmd.specs.declared.command.Command.{Command}
use Rattle.curp_msg.specs.declared.script.Header.{Header}
use Rattle.curp_law_served.specs.Served.{AreServed, Served, after, begun, header_of, serve}
use Rattle.curp_law_served.specs.Served.{Limit, TooLarge, TooManySteps}
use Rattle.curp_serve.specs.Ended.{limit_of}
use Rattle.curp_serve.specs.declared.served.ServeError.{ServeError}
use Rattle.curp_serve.specs.declared.served.ServeError.TheVariants as error
use Rattle.curp_serve.specs.declared.stepper.Stop.{Stop}

-- ---- a cluster that serves

-- how many backups and as many witnesses it has, after how many commands a recovery follows, the state that the steps
-- so far have led to, and whether a command was refused: then it serves none any more
pub record Serving : Type 0 where
  pub f : ℕ
  pub every : ℕ
  pub state : Served
  pub is_spent : Bool

-- before any command
abbrev pub begins : ℕ → ℕ → Serving
begins f every = record { f = f; every = every; state = begun f; is_spent = false }

-- the state that a command is to lead to
abbrev pub next : Serving → Command → Served
next s command = serve s.every command s.state

-- these commands have led to its state
pub record LedBy (commands : List Command) (s : Serving) : Type 0 where
  pub are : AreServed s.f commands
  pub is : s.state ≡ after s.f s.every commands

-- ---- how a call ends

-- the limit that it tells of
abbrev pub limit_in : Result Answer ServeError → Option Limit
limit_in (Ok answer) = None
limit_in (Err (error.TooManySteps answer)) = Some TooManySteps
limit_in (Err (error.TooLarge weight answer)) = Some (TooLarge weight)
limit_in (Err error.NoMemory) = None

-- the answer to the command, where it gives one
abbrev pub answer_in : Result Answer ServeError → Option Answer
answer_in (Ok answer) = Some answer
answer_in (Err (error.TooManySteps answer)) = answer
answer_in (Err (error.TooLarge weight answer)) = answer
answer_in (Err error.NoMemory) = None

-- ---- what it keeps

-- what is seen of the header, the number of commands, the state and why it stopped
abbrev pub serving : Header → ℕ → Served → Option (Failed Stop) → Serving
serving header every state stop = record {
  f = header.f;
  every = every;
  state = record state { stopped = option_and_then limit_of stop };
  is_spent = is_some stop;
}

-- its steps are the first ones for some commands, and all of them unless it has stopped
pub record IsServing (header : Header) (every : ℕ) (state : Served) (stop : Option (Failed Stop)) : Type 0 where
  pub header_is : header ≡ header_of header.f
  pub free : state.stopped ≡ None
  pub commands : List Command
  pub are : AreServed header.f commands
  pub prefix : IsPrefix state.steps (after header.f every commands).steps
  pub whole : stop ≡ None → state ≡ after header.f every commands
