use Rattle.std.proofs.Common.{suc, refl}
use Rattle.curp_msg.specs.declared.script.Step.TheVariants as steps
use Rattle.curp_model.specs.World.{step}
use Rattle.curp_cmd.specs.Node.{manager_node}
use Rattle.curp_msg.specs.Input as input
use Rattle.curp_msg.specs.declared.machine.Local.TheVariants as local
use Rattle.curp_law_served.proofs.RenewStarts.{begins_renewal}
use Rattle.curp_law_served.proofs.Starts.{gave}
use Rattle.curp_law_served.proofs.RenewEnds.{renewed_calm}
use Rattle.curp_law_served.proofs.Renews.{renewed_at_end, renewed_on}
use Rattle.curp_law_served.proofs.Steps.{delivered}
use Rattle.curp_law_served.proofs.quiet.recoveries_finish.Goals as goal

pub returns : goal.returns
returns h = record {
  begins = λ w c from other can cl client made. begins_renewal w c from other can (step w (steps.Recover 1 1 1)).world cl client (gave w (steps.Recover 1 1 1) manager_node (input.Local (local.Recover 1 1 1)) refl made);
  delivers = λ w done x at made c q o cl re g. renewed_on w (step w (steps.Deliver (suc done))).world done x at (delivered w done x at made) c q o cl re g;
  at_end = λ w c q o cl re. renewed_at_end w c q o cl re;
  calm = λ w c q o re cl client fast protocol empty. renewed_calm w c q o re cl client fast protocol empty;
}
