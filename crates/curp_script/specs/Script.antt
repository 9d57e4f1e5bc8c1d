-- A whole script: the header, the steps, and how it ends.
use Rattle.std.specs.Prelude.{ℕ, ◌+◌, ◌-◌, nat_lt, if◌then◌else◌, List, [], ◌∷◌, length, Option, Some, None, Result, Ok, Err}
use Rattle.curp_base.specs.Limits.{line_limit}
use Rattle.curp_msg.specs.Limits.{step_limit}
use Rattle.curp_msg.specs.declared.script.Header.{Header}
use Rattle.curp_msg.specs.declared.script.Step.{Step}
use Rattle.curp_script.specs.declared.error.LineError.{LineError}
use Rattle.curp_script.specs.declared.error.LineError.TheVariants.{BadJson}
use Rattle.curp_script.specs.Grammar.{header_in, step_in}

-- A script is read to its end, or up to the first line that is refused, is too long, or holds a step too many.
pub data Ending : Type 0 where
  Whole : Ending
  Bad : (line : ℕ) (reason : LineError) → Ending
  TooLong : (line : ℕ) → Ending
  TooMany : Ending

-- steps, and how the script ends behind them
pub record Steps : Type 0 where
  pub steps : List Step
  pub ending : Ending

-- no step, and this end
abbrev pub ends : Ending → Steps
ends ending = record { steps = []; ending = ending }

-- line number n is that step, which is step number n - 1 and may be one too many, or is refused
abbrev pub with_step : ℕ → Result Step LineError → Steps → Steps
with_step n (Err reason) more = ends (Bad n reason)
with_step n (Ok step) more = if nat_lt step_limit (n - 1) then ends TooMany else record { steps = step ∷ more.steps; ending = more.ending }

-- the steps that lines are, from line number n on
abbrev pub steps_in : ℕ → List (List ℕ) → Steps
steps_in n [] = ends Whole
steps_in n (line ∷ lines) =
    if nat_lt line_limit (length line) then ends (TooLong n) else with_step n (step_in line) (steps_in (n + 1) lines)

-- the header, where there is one, and what stands behind it
pub record Script : Type 0 where
  pub header : Option Header
  pub body : Steps

-- the script that begins with a line that was read so
abbrev pub begun_with : Result Header LineError → Steps → Script
begun_with (Err reason) more = record { header = None; body = ends (Bad 1 reason) }
begun_with (Ok header) more = record { header = Some header; body = more }

-- the script that lines are. One without any line is refused as if its first line were no JSON
abbrev pub script_of : List (List ℕ) → Script
script_of [] = record { header = None; body = ends (Bad 1 BadJson) }
script_of (line ∷ lines) =
    if nat_lt line_limit (length line) then record { header = None; body = ends (TooLong 1) }
    else begun_with (header_in line) (steps_in 2 lines)
