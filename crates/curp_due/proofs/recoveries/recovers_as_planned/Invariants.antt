use Rattle.std.proofs.Common.{◌≡◌, ◌↔◌, ◌+◌, ◌≤◌, drop}
use Rattle.curp_law_weave.specs.Run.{ordered_in}
use Rattle.curp_due.specs.Recoveries.{recoveries_from}
use Rattle.curp_due.proofs.recoveries.recovers_as_planned.Given as goal

-- all items have the recoveries just where those that are left have those that are due
abbrev pub invariant-loop-item : goal.invariant-loop-item
invariant-loop-item l = record {
  low : 1 ≤ l.next;
  high : l.next ≤ l.plan.recoveries + 1;
  left : (ordered_in (drop l.item-index l.items) ≡ recoveries_from l.plan l.next) ↔ (ordered_in l.items ≡ recoveries_from l.plan 1);
}
