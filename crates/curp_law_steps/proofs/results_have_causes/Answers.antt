use Rattle.curp_law_steps.proofs.Results.{result, no_message, no_node, manager, gone, full, refused, done}
use Rattle.curp_law_steps.proofs.results_have_causes.Goals as goal

pub returns : goal.returns
returns c = record {
  result = result;
  no_message = no_message;
  no_node = no_node;
  manager = manager;
  gone = gone;
  full = full;
  refused = refused;
  done = done;
}
