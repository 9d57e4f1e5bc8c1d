-- A step adds one event to the history at most: what is invoked doesn't complete in that step.
use Rattle.std.proofs.Common.{◌≡◌, ◌≤◌, ◌+◌, ◌++◌, ℕ, List, [], ◌∷◌, length, Bool, true, false, Option, Some, None, Result, Ok, Err, refl, ap, sym, ◌∙◌, subst, arith, length-append}
use Rattle.curp_base.specs.Words.{numbered}
use Rattle.curp_cmd.specs.Node.{client_node, manager_node, master_node}
use Rattle.curp_cmd.specs.declared.command.Command.{Command}
use Rattle.curp_cmd.specs.declared.node.NodeId.{NodeId}
use Rattle.curp_msg.specs.Moved.{Moved, unless_refused, within}
use Rattle.curp_msg.specs.declared.machine.Completed.{Completed}
use Rattle.curp_msg.specs.Input as input
use Rattle.curp_msg.specs.declared.machine.Local.{Local}
use Rattle.curp_msg.specs.declared.machine.Local.TheVariants as local
use Rattle.curp_msg.specs.declared.message.Message.{Message}
use Rattle.curp_msg.specs.declared.outcome.StepResult.{StepResult}
use Rattle.curp_msg.specs.declared.outcome.StepResult.TheVariants.{Done, NoMessage, NoNode, Manager, Gone, Full, Refused}
use Rattle.curp_msg.specs.declared.script.Step.{Step}
use Rattle.curp_msg.specs.declared.script.Step.TheVariants as steps
use Rattle.curp_model.specs.Client.{ClientState, client_input, client_ordered, invocation_for, invoke, next_request, sends_first}
use Rattle.curp_model.specs.World.{World, Deed, Nothing, Gives, Stops, completion, deed_of, delivery, effect, events_of, invocation_of, messages, moves, moves_one, result_of, step, steps_by, with_client}

-- ---- what is invoked, and what completes

none_done : {S A : Type 0} (s : S) (act : A → Moved S) (r : Result A ℕ) → ((x : A) → (act x).completed ≡ None) → (unless_refused s act r).completed ≡ None
none_done s act (Ok x) all = all x
none_done s act (Err number) all = refl

invoke_done : (n : ℕ) (c : ClientState) (command : Command) → (client_ordered n c (local.Invoke command)).completed ≡ None
unfolding client_ordered invoke
invoke_done n c command = none_done c (sends_first n c (next_request n c command)) (invocation_for c command) (λ x. refl)

-- an order that invokes nothing
abbrev invokes : Local → Bool
invokes (local.Invoke command) = true
invokes _ = false

none_by_order : (to : NodeId) (o : Option ClientState) (order : Local) → invokes order ≡ false → invocation_of to o (input.Local order) ≡ []
none_by_order to None order none = refl
none_by_order to (Some c) (local.Invoke command) none = absurd cc
none_by_order to (Some c) _ none = refl

none_by_message : (to : NodeId) (o : Option ClientState) (m : Message) → invocation_of to o (input.Message m) ≡ []
none_by_message to None m = refl
none_by_message to (Some c) m = refl

one_completion : (o : Option Completed) → length (completion o) ≤ 1
one_completion None = omega arith
one_completion (Some c) = omega arith

-- ---- what a deed adds

-- how many events a deed adds
abbrev count : World → Deed → ℕ
count w deed = length (events_of w deed) + length (completion (effect w deed).completed)

one_by_order : (w : World) (to : NodeId) (order : Local) → invokes order ≡ false → count w (Gives to (input.Local order)) ≤ 1
one_by_order w to order none =
    let events = none_by_order to (numbered w.clients to.number) order none in
    omega (arith, ap length events, one_completion (moves w to (input.Local order)).completed)

one_by_delivery : (w : World) (o : Option Message) → count w (delivery o) ≤ 1
one_by_delivery w None = omega arith
one_by_delivery w (Some m) =
    let events = none_by_message m.to (numbered w.clients m.to.number) m in
    omega (arith, ap length events, one_completion (moves w m.to (input.Message m)).completed)

one_by_invocation : (w : World) (to : NodeId) (n : ℕ) (command : Command) (o : Option ClientState)
    → length (invocation_of to o (input.Local (local.Invoke command)))
    + length (completion (moves_one w (λ c. within (with_client w n) (client_input n c (input.Local (local.Invoke command)))) o).completed) ≤ 1
one_by_invocation w to n command None = omega arith
one_by_invocation w to n command (Some c) = rw (invoke_done n c command) (omega arith)

one_by_step : (w : World) (s : Step) → count w (deed_of w s) ≤ 1
one_by_step w (steps.Invoke n command) = one_by_invocation w (client_node n) n command (numbered w.clients n)
one_by_step w (steps.Deliver number) = one_by_delivery w (numbered (messages w) number)
one_by_step w (steps.Retry n seq) = one_by_order w (client_node n) (local.Retry seq) refl
one_by_step w (steps.Fetch n) = one_by_order w (client_node n) local.Fetch refl
one_by_step w (steps.Sync n) = one_by_order w (master_node n) local.Sync refl
one_by_step w (steps.Collect n) = one_by_order w (master_node n) local.Collect refl
one_by_step w (steps.Recover part backup witness) = one_by_order w manager_node (local.Recover part backup witness) refl
one_by_step w (steps.Replace keeper part place) = one_by_order w manager_node (local.Replace keeper part place) refl
one_by_step w (steps.Migrate lo hi to) = one_by_order w manager_node (local.Migrate lo hi to) refl
one_by_step w steps.Nudge = one_by_order w manager_node local.Nudge refl
one_by_step w (steps.Expire n) = one_by_order w manager_node (local.Expire n) refl
one_by_step w (steps.Stop node) = omega arith

-- ---- what a step adds

by_result : (w : World) (deed : Deed) (r : StepResult) → count w deed ≤ 1 → length (steps_by w deed r).world.history ≤ length w.history + 1
by_result w deed Done one =
    let events = events_of w deed in
    let done = completion (effect w deed).completed in
    omega (arith, one, length-append (w.history ++ events) done, length-append w.history events)
by_result w deed NoMessage one = omega arith
by_result w deed NoNode one = omega arith
by_result w deed Manager one = omega arith
by_result w deed Gone one = omega arith
by_result w deed (Full much) one = omega arith
by_result w deed (Refused number) one = omega arith

pub one_event : (w : World) (s : Step) → length (step w s).world.history ≤ length w.history + 1
unfolding step
one_event w s = by_result w (deed_of w s) (result_of w s) (one_by_step w s)
