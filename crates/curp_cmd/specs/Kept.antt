-- The command of a request that is kept, by where it stands.
use Rattle.curp_cmd.specs.declared.command.Command.{Command}
use Rattle.curp_cmd.specs.declared.kept.Place.{Place}
use Rattle.curp_cmd.specs.declared.kept.Place.TheVariants as place

abbrev pub command_at : Place → Command
command_at (place.Shared request) = request.command
command_at (place.Own command) = command
