-- Why journals aren't a script (this project's own).
use Rattle.std.specs.Prelude.{◌≡◌, ◌≤◌, ◌<◌, ◌^◌, ◌-◌, min, List}
use Rattle.curp_msg.specs.Limits.{step_limit, weight_limit}
use Rattle.curp_journal.specs.Turns.{Journal}
use Rattle.curp_merge.specs.Held.{AllHeld, IsMismatch}
use Rattle.curp_merge.specs.Merging.{turn_count, weight_sent}
use Rattle.curp_merge.specs.declared.error.GatherError.{GatherError}
use Rattle.curp_merge.specs.declared.error.GatherError.TheVariants as error

-- an error has its cause, and the causes of those before it in their order don't hold
abbrev pub IsCause : List Journal → GatherError → Type 0
IsCause journals (error.Mismatch node step got kept) = IsMismatch journals node step got kept
IsCause journals error.TooManySteps = AllHeld journals × (step_limit < turn_count journals)
IsCause journals (error.TooLarge weight) =
    AllHeld journals × (turn_count journals ≤ step_limit) × (weight_limit < weight_sent journals)
    × (weight ≡ min (weight_sent journals) (2 ^ 64 - 1))
