use Rattle.curp_manage.proofs.Orders.{small_replace}
use Rattle.curp_manage.proofs.managing.to_replace.Goals as goal

pub returns-clause-small : goal.returns-clause-small
returns-clause-small c = small_replace c.args.keeper c.args.part c.args.place c.ranges.part.fits c.ranges.place.fits
