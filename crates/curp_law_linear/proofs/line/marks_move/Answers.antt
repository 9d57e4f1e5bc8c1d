use Rattle.curp_law_linear.proofs.Discharged.{pure, second}
use Rattle.curp_law_linear.proofs.QuickLaws.{moves}
use Rattle.curp_law_linear.proofs.QuickWas.{marks_came}
use Rattle.curp_law_linear.proofs.line.marks_move.Goals as goal

pub returns : goal.returns
returns c = record {
  back = λ s m fits logs ok k x h. marks_came pure second s m fits logs ok k x h;
  forth = λ s m fits logs ok place x h y. moves pure second s m fits logs ok place x h y;
}
