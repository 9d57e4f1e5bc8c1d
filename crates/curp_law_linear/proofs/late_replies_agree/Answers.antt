use Rattle.curp_law_linear.proofs.Laws.{late_all, quicks_all, values_all}
use Rattle.curp_law_linear.proofs.late_replies_agree.Goals as goal

pub returns : goal.returns
returns c = record {
  update = λ h steps is. late_all h steps is;
  value = λ h steps is. values_all h steps is;
  quick = λ h steps is. quicks_all h steps is;
}
