use Rattle.curp_law_steps.proofs.Moving.{only_moves, stops_only_by_stop}
use Rattle.curp_law_steps.proofs.Results.{unchanged}
use Rattle.curp_law_steps.proofs.only_the_named_node_moves.Goals as goal

pub returns : goal.returns
returns c = record {
  clients = λ w s. (only_moves w s).clients;
  masters = λ w s. (only_moves w s).masters;
  backups = λ w s. (only_moves w s).backups;
  witnesses = λ w s. (only_moves w s).witnesses;
  manager = λ w s. (only_moves w s).manager;
  stopped = stops_only_by_stop;
  refused = unchanged;
}
