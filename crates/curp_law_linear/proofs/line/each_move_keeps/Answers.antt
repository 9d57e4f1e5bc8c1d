use Rattle.curp_law_linear.proofs.Discharged.{pure, second}
use Rattle.curp_law_linear.proofs.Keeps.{keeps}
use Rattle.curp_law_linear.proofs.line.each_move_keeps.Goals as goal

pub returns : goal.returns
returns c = λ s m fits logs ok. keeps pure second s m fits logs ok
