use Rattle.curp_manage.proofs.Orders.{small_recover}
use Rattle.curp_manage.proofs.managing.to_recover.Goals as goal

pub returns-clause-small : goal.returns-clause-small
returns-clause-small c = small_recover c.args.part c.args.backup c.args.witness c.ranges.part.fits c.ranges.backup.fits c.ranges.witness.fits
