use Rattle.curp_law_linear.proofs.Laws.{kept_all}
use Rattle.curp_law_linear.proofs.kept_stands.Goals as goal

pub returns : goal.returns
returns c = record { kept = λ h steps is. kept_all h steps is }
