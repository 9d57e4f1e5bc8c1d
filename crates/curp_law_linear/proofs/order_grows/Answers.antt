use Rattle.curp_law_linear.proofs.Laws.{grows_all}
use Rattle.curp_law_linear.proofs.order_grows.Goals as goal

pub returns : goal.returns
returns c = record { grows = λ h steps is s its. grows_all h steps is s its }
