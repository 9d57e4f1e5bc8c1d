use Rattle.std.proofs.Common.{◌-◌, arith}
use Rattle.curp_gen.proofs.Made.{commands_go_on, no_commands}
use Rattle.curp_gen.proofs.commands.workload.Goals as goal

pub commands-preserved : goal.commands-preserved
commands-preserved c =
    rw c.in_ok-extend_from_slice.ensures.items
    (commands_go_on c.commands.list.items c.args.count c.commands._made c.commands.words c.made_command.new.words _ c.made_command.result
    c.commands-test.true c.made_command.ensures c.commands.invariant)

pub returns : goal.returns
returns c =
    no_commands c.commands.list.items (c.args.count - c.commands._made) c.commands.words _ (omega arith) c.commands.invariant
