use Rattle.curp_law_lives.proofs.Runs.{one_run}
use Rattle.curp_law_lives.proofs.lives_are_one_run.Goals as goal

pub returns : goal.returns
returns g c = one_run g.N.Core.machine
