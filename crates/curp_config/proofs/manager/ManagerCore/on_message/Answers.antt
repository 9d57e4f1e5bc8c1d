use Rattle.curp_config.specs.Machine.{manager_machine}
use Rattle.curp_config.proofs.Again.{left_alone}
use Rattle.curp_config.proofs.manager.ManagerCore.on_message.Goals as goal

pub returns-in_default : goal.returns-in_default
unfolding manager_machine
returns-in_default c = record {
  moves = left_alone c.args.self.now c.args.message.now.from c.args.message.now.body c.quiet.result c.in_default.not-Fetch c.in_default.not-Recovered c.in_default.not-Prepared c.in_default.not-Taken c.in_default.not-Given c.quiet.ensures;
}
