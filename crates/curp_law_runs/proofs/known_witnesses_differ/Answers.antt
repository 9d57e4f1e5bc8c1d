use Rattle.curp_model.specs.World.{world}
use Rattle.curp_law_kept.proofs.Gives.{known_all}
use Rattle.curp_law_runs.proofs.Apart.{brought_apart, known_apart}
use Rattle.curp_law_runs.proofs.known_witnesses_differ.Goals as goal

pub returns : goal.returns
returns c = record {
  known = λ h steps is n client at. known_apart (known_all h steps is) n client at;
  brought = λ h steps is. brought_apart (known_all h steps is);
}
