use Rattle.std.proofs.Common.{◌↔◌, ◌+◌, ◌≤◌, drop}
use Rattle.curp_anew.specs.Work.{FewPending, most_pending}
use Rattle.curp_anew.proofs.Pendings.{FewFrom}
use Rattle.curp_anew.proofs.work.has_few_pending.Given as goal

-- few are pending after all items just where few are after those that are left
abbrev pub invariant-loop-item : goal.invariant-loop-item
invariant-loop-item l = record {
  left : FewFrom l.invoked l.completed (drop l.item-index l.items) ↔ FewPending l.items;
  now : l.invoked ≤ l.completed + most_pending;
  many_invoked : l.invoked ≤ l.item-index;
  many_completed : l.completed ≤ l.item-index;
}
