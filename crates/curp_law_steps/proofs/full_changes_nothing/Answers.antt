use Rattle.curp_law_steps.proofs.Results.{is_full, world_stands}
use Rattle.curp_law_steps.proofs.full_changes_nothing.Goals as goal

pub returns : goal.returns
returns c = record {
  world = λ w s heavy. world_stands w heavy s;
  result = λ w s heavy. is_full w heavy s;
}
