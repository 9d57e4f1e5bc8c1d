use Rattle.curp_law_weave.proofs.Weaving.{legal_runs}
use Rattle.curp_law_weave.proofs.legal_steps_are_a_run.Goals as goal

pub returns : goal.returns
returns c = record { run = legal_runs }
