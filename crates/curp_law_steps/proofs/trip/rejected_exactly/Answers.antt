use Rattle.std.proofs.Common.{Some, None}
use Rattle.curp_msg.specs.declared.answer.Reason.TheVariants as reason
use Rattle.curp_law_steps.proofs.Orders.{stays_in_order}
use Rattle.curp_law_steps.proofs.Verdicts.{accepted_so, conflict_marks, conflict_so, conflict_why, frozen_so, held_again, idle_so, rejection_stands, set_full_so, stranger_so, why}
use Rattle.curp_law_steps.proofs.trip.rejected_exactly.Goals as goal

pub returns : goal.returns
returns c = record {
  idle = λ w epoch r. (why w r epoch (Some reason.Idle), idle_so w r epoch);
  stranger = λ w epoch r own. (why w r epoch (Some (reason.Stranger own)), stranger_so w r epoch own);
  frozen = λ w epoch r. (why w r epoch (Some reason.Frozen), frozen_so w r epoch);
  conflict = λ w epoch r id s. (conflict_why w r epoch id s, conflict_so w r epoch id s);
  set_full = λ w epoch r set. (why w r epoch (Some (reason.SetFull set)), set_full_so w r epoch set);
  accepted = λ w epoch r. (why w r epoch None, accepted_so w r epoch);
  rejection_stands = λ w epoch r. rejection_stands w r epoch;
  conflict_marks = λ w epoch r. conflict_marks w r epoch;
  held_again = λ w epoch r. held_again w r epoch;
  fresh_in_order = λ sets ways. tt;
  stays_in_order = stays_in_order;
}
