use Rattle.curp_model.specs.World.{world}
use Rattle.curp_law_kept.proofs.Gives.{answers_go_home, nodes_kept, only_sent_to_nodes}
use Rattle.curp_law_runs.proofs.only_sent_to_nodes.Goals as goal

pub returns : goal.returns
returns c = record {
  between = λ h steps is. only_sent_to_nodes (world h steps) (nodes_kept h steps is);
  home = λ h steps is. answers_go_home (world h steps) (nodes_kept h steps is);
}
