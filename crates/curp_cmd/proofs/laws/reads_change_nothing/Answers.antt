use Rattle.std.proofs.Common.{◌≡◌, false, refl}
use Rattle.curp_cmd.specs.Store.{Contents, applied, is_update}
use Rattle.curp_cmd.specs.declared.command.Command.{Command}
use Rattle.curp_cmd.specs.declared.command.Command.TheVariants.{Get, Put, Delete, Incr, Append, CondPut, Multi}
use Rattle.curp_cmd.proofs.laws.reads_change_nothing.Goals as goal

read_only : (s : Contents) (command : Command) → is_update command ≡ false → (applied s command).after ≡ s
unfolding applied
read_only s (Get key) e = refl
read_only s (Put key value) e = absurd cc
read_only s (Delete key) e = absurd cc
read_only s (Incr key) e = absurd cc
read_only s (Append key more) e = absurd cc
read_only s (CondPut key expected value) e = absurd cc
read_only s (Multi pairs) e = absurd cc

pub returns : goal.returns
returns c = read_only
