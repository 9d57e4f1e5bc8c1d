use Rattle.std.proofs.Common.{◌≡◌, ◌++◌, ◌-◌}
use Rattle.curp_gen.specs.Commands.{made_commands, workload_of}
use Rattle.curp_gen.proofs.commands.workload.Given as goal

-- the commands so far, and the others
abbrev pub invariant-commands : goal.invariant-commands
invariant-commands l = l.list.items ++ made_commands (l.count - l._made) l.words ≡ workload_of l.number l.client l.count
