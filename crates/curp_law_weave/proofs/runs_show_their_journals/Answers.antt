use Rattle.curp_law_weave.proofs.Shown.{completed_are, invocations_are, recoveries_are, stopped_are}
use Rattle.curp_law_weave.proofs.runs_show_their_journals.Goals as goal

pub returns : goal.returns
returns c = record {
  invocations = invocations_are;
  recoveries = recoveries_are;
  completed = completed_are;
  stopped = stopped_are;
}
