use Rattle.curp_check.proofs.Short.{short}
use Rattle.curp_check.proofs.laws.orders_are_short.Goals as goal

pub returns : goal.returns
returns c = short
