-- A line keeps one input at most.
use Rattle.std.proofs.Common.{◌+◌, ◌≤◌, ◌==◌, Option, Some, None, Bool, true, false, arith}
use Rattle.curp_manage.specs.Managed.{LineDone, Managed, input_accepted, input_given, input_refused, input_stopped, keeps_input, line_done}
use Rattle.curp_manage.specs.declared.managing.Crash.{Crash}
use Rattle.curp_model.specs.Manager.{ManagerState, manager_input}
use Rattle.curp_msg.specs.Moved.{Moved}
use Rattle.curp_msg.specs.Input.{Input}
use Rattle.curp_script.specs.declared.manage.ManageLine.{ManageLine}
use Rattle.curp_script.specs.declared.manage.ManageLine.TheVariants as line
use Rattle.std.proofs.lemmas.Bool.{cond_both}

stopped_few : (m : Managed) (r : Moved ManagerState) (keeps : Bool) → (input_stopped m r keeps).now.decisions ≤ m.decisions + 1
stopped_few m r true = omega arith
stopped_few m r false = omega arith

accepted_few : (m : Managed) (r : Moved ManagerState) (c : Option Crash) → (input_accepted m r c).now.decisions ≤ m.decisions + 1
accepted_few m r None = omega arith
accepted_few m r (Some c) = stopped_few m r (keeps_input c)

given_few : (m : Managed) (i : Input) → (input_given m i).now.decisions ≤ m.decisions + 1
unfolding input_given
given_few m i =
    let r = manager_input m.state i in
    cond_both (r.refused == 0) (input_accepted m r m.crash) (input_refused m r.refused) (λ (d : LineDone). d.now.decisions ≤ m.decisions + 1)
    (λ yes. accepted_few m (manager_input m.state i) m.crash) (λ no. omega arith)

pub one_more_at_most : (m : Managed) (l : ManageLine) → (line_done m l).now.decisions ≤ m.decisions + 1
unfolding line_done
one_more_at_most m (line.Order order) = given_few m _
one_more_at_most m (line.Recovered part epoch) = given_few m _
one_more_at_most m (line.Crash call kept) = omega arith
