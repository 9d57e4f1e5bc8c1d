use Rattle.curp_model.specs.Manager.{manager_ordered}
use Rattle.curp_msg.proofs.Telling.{told_moves, told_refusal}
use Rattle.curp_msg.specs.declared.machine.Local.TheVariants as local
use Rattle.curp_config.specs.Refusals.{recover_number, recover_numbers_refuse}
use Rattle.curp_config.specs.Refused.{order_refuses}
use Rattle.curp_config.proofs.manager.Manager.told_to_recover.Goals as goal

pub returns-clause-moves : goal.returns-clause-moves
returns-clause-moves c =
    let g = c.args.self.now in
    let order = local.Recover c.args.part c.args.backup c.args.witness in
    rw c.told.ensures (told_moves recover_number g _ (manager_ordered g order) _ recover_numbers_refuse (order_refuses g order) c.recover.ensures.refused c.recover.ensures.moves)

pub returns-clause-refused : goal.returns-clause-refused
returns-clause-refused c = rw c.told.ensures (told_refusal recover_number _ _ c.recover.ensures.refused)
