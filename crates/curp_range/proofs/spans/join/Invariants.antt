use Rattle.std.proofs.Common.{◌≤◌, length}
use Rattle.curp_range.proofs.Joins.{IsJoining}
use Rattle.curp_range.proofs.spans.join.Given as goal

abbrev pub invariant-met : goal.invariant-met
invariant-met l = record {
  joining : IsJoining l.initial.spans.items l.lo l.hi l.spans.items l.at l.first l.last;
  spare : l.initial.spans.spare ≤ l.spans.spare;
}

abbrev pub decreases-met : goal.decreases-met
decreases-met l = length l.spans.items
