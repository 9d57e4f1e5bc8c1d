use Rattle.std.proofs.Common.{◌≡◌}
use Rattle.curp_msg.specs.declared.machine.Local.TheVariants as local
use Rattle.curp_model.specs.Manager.{manager_ordered}
use Rattle.curp_config.specs.Machine.{manager_machine}
use Rattle.curp_config.proofs.Again.{nudge_goes}
use Rattle.curp_config.proofs.manager.ManagerCore.on_order.Goals as goal

pub returns-in-Nudge-clause-refused : goal.returns-in-Nudge-clause-refused
unfolding manager_machine
returns-in-Nudge-clause-refused c =
    let goes : (manager_ordered c.args.self.now local.Nudge).refused ≡ 0 = nudge_goes c.args.self.now in
    λ some. absurd (some (cc))
