-- What a load is seen as (this project's own).
use Rattle.std.specs.Prelude.{Option, Some, None}
use Rattle.curp_journal.specs.declared.arrived.Arrived.{Arrived}
use Rattle.curp_journal.specs.declared.arrived.Arrived.TheVariants as arrived
use Rattle.curp_ruled.specs.declared.envelope.Load.{Load}
use Rattle.curp_ruled.specs.declared.envelope.Load.TheVariants as load

-- the input for a node; none at a sender's end
abbrev pub loaded_input : Load → Option Arrived
loaded_input load.End = None
loaded_input (load.Order order stamp) = Some (arrived.Local order stamp)
loaded_input (load.Message framed) = Some (arrived.Message framed)
