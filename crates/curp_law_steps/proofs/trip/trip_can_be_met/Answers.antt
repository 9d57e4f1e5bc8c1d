use Rattle.curp_law_steps.proofs.Opening.{at_opening}
use Rattle.curp_law_steps.proofs.trip.trip_can_be_met.Goals as goal

pub returns : goal.returns
returns c = record { at_opening = at_opening }
