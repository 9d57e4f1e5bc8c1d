use Rattle.curp_manage.proofs.Orders.{small_message}
use Rattle.curp_manage.proofs.managing.recovered.Goals as goal

pub returns-clause-small : goal.returns-clause-small
returns-clause-small c = rw (c.master.ensures, c.master-2.ensures, c.manager.ensures) (small_message c.args.part c.args.epoch c.ranges.part.fits c.ranges.epoch.fits)
