-- A reply table in memory.
use Rattle.std.specs.Prelude.{ℕ, ◌+◌, ◌-◌, ◌^◌, min, length}
use Rattle.curp_cmd.specs.declared.migration.TablePart.{TablePart}
use Rattle.curp_model.specs.Table.{Table}

-- what the table says, and for how many more requests and clients it has room
pub record StoredTable : Type 0 where
  pub table : Table
  pub spare : ℕ

-- how much room a part takes
abbrev pub room_of : TablePart → ℕ
room_of part = min (length part.records + length part.firsts + length part.gone) (2 ^ 64 - 1)
