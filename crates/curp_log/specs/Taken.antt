-- The last package taken, as the log lends it.
use Rattle.std.specs.Prelude.{Option, Some, None}
use Rattle.curp_model.specs.Log.{LastTake}
use Rattle.curp_log.specs.declared.log.TakenPackage.{TakenPackage}

-- with its migration and the index of its entry
abbrev pub taken_of : Option TakenPackage → Option LastTake
taken_of None = None
taken_of (Some t) = Some (record { migration = t.migration; taken = t.«package».now; index = t.index })
