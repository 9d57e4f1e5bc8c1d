use Rattle.curp_manage.proofs.Orders.{small_migrate}
use Rattle.curp_manage.proofs.managing.to_migrate.Goals as goal

pub returns-clause-small : goal.returns-clause-small
returns-clause-small c = small_migrate c.args.lo c.args.hi c.args.to c.ranges.lo.fits c.ranges.hi.fits c.ranges.to.fits
