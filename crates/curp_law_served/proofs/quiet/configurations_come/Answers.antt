use Rattle.std.proofs.Common.{suc}
use Rattle.curp_msg.specs.declared.script.Step.TheVariants as steps
use Rattle.curp_model.specs.World.{step}
use Rattle.curp_law_served.proofs.Learns.{learns_on, learnt_at_end}
use Rattle.curp_law_served.proofs.Steps.{delivered}
use Rattle.curp_law_served.proofs.quiet.configurations_come.Goals as goal

pub returns : goal.returns
returns h = record {
  delivers = λ w done x at made c q m cl calm grounds behind learns. learns_on w (step w (steps.Deliver (suc done))).world done x at (delivered w done x at made) c q m cl calm grounds behind learns;
  at_end = λ w c cl is learns. learnt_at_end w c cl is learns;
}
