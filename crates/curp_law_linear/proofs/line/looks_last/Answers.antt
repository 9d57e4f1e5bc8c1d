use Rattle.curp_law_linear.proofs.Discharged.{pure, second}
use Rattle.curp_law_linear.proofs.Keeps.{look_stays}
use Rattle.curp_law_linear.proofs.line.looks_last.Goals as goal

pub returns : goal.returns
returns c = λ s m fits logs ok by part long id a w. look_stays pure second s m fits logs ok by part long id a w
