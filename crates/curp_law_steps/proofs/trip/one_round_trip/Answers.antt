use Rattle.curp_law_steps.proofs.Deliveries.{accepted_is, replied_is, sent_is}
use Rattle.curp_law_steps.proofs.Trips.{all_count, completes}
use Rattle.curp_law_steps.proofs.trip.one_round_trip.Goals as goal

pub returns : goal.returns
returns c = record {
  sent = sent_is;
  replied = replied_is;
  accepted = accepted_is;
  completes = completes;
  all_count = all_count;
}
