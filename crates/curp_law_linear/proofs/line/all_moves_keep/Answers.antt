use Rattle.curp_law_linear.proofs.Discharged.{pure, second}
use Rattle.curp_law_linear.proofs.Keeps.{all_keep}
use Rattle.curp_law_linear.proofs.line.all_moves_keep.Goals as goal

pub returns : goal.returns
returns c = λ s ms fits ok. all_keep pure second ms s fits ok
