use Rattle.curp_law_steps.proofs.Events.{one_event}
use Rattle.curp_law_steps.proofs.a_step_is_one_event.Goals as goal

pub returns : goal.returns
returns c = one_event
