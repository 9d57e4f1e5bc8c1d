-- Whether a witness is frozen, and its mode.
use Rattle.std.specs.Prelude.{Bool, true, false}
use Rattle.curp_model.specs.declared.Mode.{Mode}
use Rattle.curp_model.specs.declared.Mode.TheVariants.{Idle, Normal, Frozen}

-- the mode of one that wasn't started
abbrev pub unstarted_mode : Bool → Mode
unstarted_mode true = Frozen
unstarted_mode false = Idle

-- the mode of one that was started
abbrev pub started_mode : Bool → Mode
started_mode true = Frozen
started_mode false = Normal
