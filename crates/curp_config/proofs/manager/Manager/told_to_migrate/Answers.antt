use Rattle.curp_model.specs.Manager.{manager_ordered}
use Rattle.curp_msg.proofs.Telling.{told_moves, told_refusal}
use Rattle.curp_msg.specs.declared.machine.Local.TheVariants as local
use Rattle.curp_config.specs.Refusals.{migrate_number, migrate_numbers_refuse}
use Rattle.curp_config.specs.Refused.{order_refuses}
use Rattle.curp_config.proofs.manager.Manager.told_to_migrate.Goals as goal

pub returns-clause-moves : goal.returns-clause-moves
returns-clause-moves c =
    let g = c.args.self.now in
    let order = local.Migrate c.args.lo c.args.hi c.args.to in
    rw c.told.ensures (told_moves migrate_number g _ (manager_ordered g order) _ migrate_numbers_refuse (order_refuses g order) c.migrate.ensures.refused c.migrate.ensures.moves)

pub returns-clause-refused : goal.returns-clause-refused
returns-clause-refused c = rw c.told.ensures (told_refusal migrate_number _ _ c.migrate.ensures.refused)
