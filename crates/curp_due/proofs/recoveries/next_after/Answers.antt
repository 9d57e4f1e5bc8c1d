use Rattle.std.proofs.Common.{rules, ◌≡◌, ◌≤◌, ◌+◌, ◌++◌, ℕ, sym, arith}
use Rattle.curp_msg.specs.declared.machine.Local.{Local}
use Rattle.curp_journal.specs.declared.arrived.Arrived.{Arrived}
use Rattle.curp_journal.specs.declared.arrived.Arrived.TheVariants as arrived
use Rattle.curp_words.specs.declared.task.LivePlan.{LivePlan}
use Rattle.curp_law_weave.specs.Run.{ordered_by}
use Rattle.curp_due.specs.Recoveries.{recoveries_from, recovery_of}
use Rattle.curp_due.proofs.Recovering.{first_recovery}
use Rattle.curp_due.proofs.recoveries.next_after.Goals as goal

due_next : (plan : LivePlan) (due : ℕ) (input : Arrived) (order : Local) (stamp : ℕ) → input ≡ arrived.Local order stamp → order ≡ recovery_of plan due
    → due ≤ plan.recoveries → ordered_by input ++ recoveries_from plan (due + 1) ≡ recoveries_from plan due
due_next plan due input order stamp is same high = rw (is, same) (sym (first_recovery plan due high))

pub returns-then-eq-clause-next : goal.returns-then-eq-clause-next
returns-then-eq-clause-next c =
    let plan = c.args.plan.now in
    let high : c.args.due ≤ plan.recoveries = omega (arith, c.if-due-plan.true) in
    let same : c.in-Local.order ≡ recovery_of plan c.args.due = search rules in
    due_next plan c.args.due c.args.item.now.input c.in-Local.order c.in-Local.field-1 c.in-Local.is same high
