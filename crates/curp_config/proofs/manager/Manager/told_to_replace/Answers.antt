use Rattle.curp_model.specs.Manager.{manager_ordered}
use Rattle.curp_msg.proofs.Telling.{told_moves, told_refusal}
use Rattle.curp_msg.specs.declared.machine.Local.TheVariants as local
use Rattle.curp_config.specs.Refusals.{replace_number, replace_numbers_refuse}
use Rattle.curp_config.specs.Refused.{order_refuses}
use Rattle.curp_config.proofs.manager.Manager.told_to_replace.Goals as goal

pub returns-clause-moves : goal.returns-clause-moves
returns-clause-moves c =
    let g = c.args.self.now in
    let order = local.Replace c.args.kind c.args.part c.args.place in
    rw c.told.ensures (told_moves replace_number g _ (manager_ordered g order) _ replace_numbers_refuse (order_refuses g order) c.replace.ensures.refused c.replace.ensures.moves)

pub returns-clause-refused : goal.returns-clause-refused
returns-clause-refused c = rw c.told.ensures (told_refusal replace_number _ _ c.replace.ensures.refused)
