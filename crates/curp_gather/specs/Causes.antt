-- Why ruled journals aren't a script (this project's own).
use Rattle.std.specs.Prelude.{◌≡◌, ◌≤◌, ◌<◌, ◌^◌, ◌-◌, min, List}
use Rattle.curp_msg.specs.Limits.{step_limit, weight_limit}
use Rattle.curp_journal.specs.Turns.{Journal}
use Rattle.curp_merge.specs.Merging.{turn_count, weight_sent}
use Rattle.curp_gather.specs.declared.error.RuledError.{RuledError}
use Rattle.curp_gather.specs.declared.error.RuledError.TheVariants as error

-- an error has its cause, and the causes of those before it in their order don't hold
abbrev pub IsRuledCause : List Journal → RuledError → Type 0
IsRuledCause journals error.TooManySteps = step_limit < turn_count journals
IsRuledCause journals (error.TooLarge weight) =
    (turn_count journals ≤ step_limit) × (weight_limit < weight_sent journals) × (weight ≡ min (weight_sent journals) (2 ^ 64 - 1))
