use Rattle.curp_law_linear.proofs.Laws.{order_all}
use Rattle.curp_law_linear.proofs.order_stands.Goals as goal

pub returns : goal.returns
returns c = record { order = λ h steps is. order_all h steps is }
