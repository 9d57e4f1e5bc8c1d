use Rattle.curp_law_runs.proofs.Facts.{pairs_all}
use Rattle.curp_law_runs.proofs.pairs_good.Goals as goal

pub returns : goal.returns
returns c = record { pairs = λ h steps is. pairs_all h steps is }
