use Rattle.curp_law_steps.proofs.Deliveries.{glanced_is, live_is, read_sent_is}
use Rattle.curp_law_steps.proofs.Trips.{read_all_count, read_completes}
use Rattle.curp_law_steps.proofs.trip.one_round_trip_read.Goals as goal

pub returns : goal.returns
returns c = record {
  sent = read_sent_is;
  answered = glanced_is;
  live = live_is;
  completes = read_completes;
  all_count = read_all_count;
}
