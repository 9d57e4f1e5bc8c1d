use Rattle.curp_model.specs.World.{world}
use Rattle.curp_law_kept.proofs.Gives.{known_all}
use Rattle.curp_law_runs.proofs.Silence.{is_silent}
use Rattle.curp_law_runs.proofs.silent_while_switching.Goals as goal

pub returns : goal.returns
returns c = record { silent = λ h steps is s its. is_silent (world h steps) (known_all h steps is) s its }
