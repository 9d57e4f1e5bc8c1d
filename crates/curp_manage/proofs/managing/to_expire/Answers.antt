use Rattle.curp_manage.proofs.Orders.{small_expire}
use Rattle.curp_manage.proofs.managing.to_expire.Goals as goal

pub returns-clause-small : goal.returns-clause-small
returns-clause-small c = small_expire c.args.client c.ranges.client.fits
