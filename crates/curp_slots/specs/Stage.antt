-- A witness before and after it is started.
use Rattle.std.specs.Prelude.{⊤}
use Rattle.curp_model.specs.Witness.{WitnessState, fresh_witness}
use Rattle.curp_slots.specs.Modes.{unstarted_mode}
use Rattle.curp_slots.specs.Shape.{IsShape}
use Rattle.curp_slots.specs.declared.witness.Stage.{Stage}
use Rattle.curp_slots.specs.declared.witness.Stage.TheVariants.{Unstarted, Started}

-- what a witness is
abbrev pub state_of : Stage → WitnessState
state_of (Unstarted frozen sets ways) = record (fresh_witness sets ways) { mode = unstarted_mode frozen }
state_of (Started w) = w

-- one that wasn't started has the numbers of a witness
abbrev pub HasShape : Stage → Type 0
HasShape (Unstarted frozen sets ways) = IsShape sets ways
HasShape (Started w) = ⊤
