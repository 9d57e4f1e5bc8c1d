use Rattle.curp_law_steps.proofs.Opening.{read_at_opening}
use Rattle.curp_law_steps.proofs.trip.read_trip_can_be_met.Goals as goal

pub returns : goal.returns
returns c = record { at_opening = read_at_opening }
