-- What kind of input a node took (this project's own).
use Rattle.std.specs.Prelude.{ℕ, max, List, [], ◌∷◌}
use Rattle.curp_msg.specs.declared.body.Body.{Body}
use Rattle.curp_msg.specs.declared.body.Body.TheVariants as body
use Rattle.curp_msg.specs.declared.config.PartConfig.{PartConfig}
use Rattle.curp_journal.specs.declared.arrived.Arrived.{Arrived}
use Rattle.curp_journal.specs.declared.arrived.Arrived.TheVariants as arrived
use Rattle.curp_seat.specs.declared.took.Took.{Took}
use Rattle.curp_seat.specs.declared.took.Took.TheVariants as took

-- the greatest number of a master of these partitions, 0 where there is none
abbrev pub newest_in : List PartConfig → ℕ
newest_in [] = 0
newest_in (part ∷ parts) = max part.master.number (newest_in parts)

-- by what a message says
abbrev pub took_of : Body → Took
took_of (body.Update ask) = took.Asks
took_of (body.Sync ask) = took.Asks
took_of (body.Configuration config) = took.Configuration (newest_in config.parts)
took_of (body.Adopted adopted) = took.Adopted
took_of _ = took.Other

-- by what came
abbrev pub took_by : Arrived → Took
took_by (arrived.Local order stamp) = took.Order
took_by (arrived.Message named) = took_of named.message.body
