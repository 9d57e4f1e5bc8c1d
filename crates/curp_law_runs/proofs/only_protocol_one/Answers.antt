use Rattle.curp_law_runs.proofs.ByOne.{by_one_all}
use Rattle.curp_law_runs.proofs.only_protocol_one.Goals as goal

pub returns : goal.returns
returns c = record { one = λ h steps is one. by_one_all h steps is one }
