use Rattle.curp_law_runs.proofs.Facts.{facts_all, shape_all}
use Rattle.curp_law_runs.proofs.facts_kept.Goals as goal

pub returns : goal.returns
returns c = record { facts = λ h steps is. facts_all h steps is; shape = λ h steps is. shape_all h steps is }
