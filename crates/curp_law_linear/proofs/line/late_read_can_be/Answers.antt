use Rattle.curp_law_linear.proofs.LateRead.{late_moves_fit, late_order}
use Rattle.curp_law_linear.proofs.line.late_read_can_be.Goals as goal

pub returns : goal.returns
returns c = record { fit = λ key value. late_moves_fit key value; order = λ key value. late_order key value }
