-- Entries of a log, and how much room they take.
use Rattle.std.specs.Prelude.{ℕ, ◌+◌, ◌-◌, ◌^◌, min, length}
use Rattle.curp_cmd.specs.declared.command.Command.{Command}
use Rattle.curp_cmd.specs.declared.command.Command.TheVariants.{Get, Put, Delete, Incr, Append, CondPut, Multi}
use Rattle.curp_cmd.specs.declared.entry.Entry.{Entry}
use Rattle.curp_cmd.specs.declared.entry.Entry.TheVariants.{Op, Take, Give, Expire}
use Rattle.curp_cmd.specs.Migration.{package_len}

-- the pairs of a multi-put
abbrev pub pairs_put : Command → ℕ
pairs_put (Get key) = 0
pairs_put (Put key value) = 0
pairs_put (Delete key) = 0
pairs_put (Incr key) = 0
pairs_put (Append key more) = 0
pairs_put (CondPut key expected value) = 0
pairs_put (Multi pairs) = length pairs

-- what an entry brings besides itself
abbrev pub items_of : Entry → ℕ
items_of (Op request acknowledge) = pairs_put request.command
items_of (Take migration taken) = package_len taken
items_of (Give migration given) = package_len given
items_of (Expire client) = 0

-- how much room an entry takes
abbrev pub room_of : Entry → ℕ
room_of entry = min (1 + items_of entry) (2 ^ 64 - 1)
