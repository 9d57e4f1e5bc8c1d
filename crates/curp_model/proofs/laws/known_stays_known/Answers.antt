use Rattle.curp_model.proofs.Logs.{known_stays}
use Rattle.curp_model.proofs.laws.known_stays_known.Goals as goal

pub returns : goal.returns
returns c = known_stays
