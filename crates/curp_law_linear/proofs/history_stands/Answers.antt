use Rattle.curp_law_linear.proofs.Laws.{history_all}
use Rattle.curp_law_linear.proofs.history_stands.Goals as goal

pub returns : goal.returns
returns c = record { history = λ h steps is. history_all h steps is }
