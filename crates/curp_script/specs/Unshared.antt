-- A step that was read, before its command is shared.
use Rattle.std.specs.Prelude.{Result, Ok, Err}
use Rattle.curp_msg.specs.declared.script.Step.{Step}
use Rattle.curp_msg.specs.declared.script.Step.TheVariants.{Invoke}
use Rattle.curp_script.specs.declared.error.LineError.{LineError}
use Rattle.curp_script.specs.declared.read.steps.Unshared.{Unshared}
use Rattle.curp_script.specs.declared.read.steps.Unshared.TheVariants as unshared

-- the step
abbrev pub step_said : Unshared → Step
step_said (unshared.Invoke client command) = Invoke client command
step_said (unshared.Other step) = step

-- the step that was read, or why there is none
abbrev pub said : Result Unshared LineError → Result Step LineError
said (Ok read) = Ok (step_said read)
said (Err reason) = Err reason
