-- One input to one node: a message, or an order.
use Rattle.std.specs.Prelude.{◌≡◌, ℕ, nat_lt, ◌==◌, if◌then◌else◌, Bool, false, not, [], ◌∷◌, Option, Some, None, Result, Ok, Err}
use Rattle.std.specs.Option.{option_map}
use Rattle.curp_base.specs.Cases.{first_case, only_if}
use Rattle.curp_cmd.specs.Node.{client_node}
use Rattle.curp_cmd.specs.declared.command.Command.{Command}
use Rattle.curp_cmd.specs.declared.command.Request.{Request}
use Rattle.curp_cmd.specs.declared.command.RequestId.{RequestId}
use Rattle.curp_cmd.specs.declared.node.NodeId.{NodeId}
use Rattle.curp_model.specs.World.{Gives, Stepped, World, has_node, is_stopped, moves, steps_by, weight}
use Rattle.curp_msg.specs.Input.{Input}
use Rattle.curp_msg.specs.Limits.{weight_limit}
use Rattle.curp_msg.specs.declared.machine.Local.{Local}
use Rattle.curp_msg.specs.declared.machine.Local.TheVariants as local
use Rattle.curp_msg.specs.declared.outcome.Outcome.{Outcome}
use Rattle.curp_msg.specs.declared.outcome.StepResult.{StepResult}
use Rattle.curp_msg.specs.declared.outcome.StepResult.TheVariants as result
use Rattle.curp_msg.specs.declared.script.Step.{Step}
use Rattle.curp_msg.specs.declared.script.Step.TheVariants as step
use Rattle.curp_line.specs.Due.{told_op}

-- the step declares a client gone that isn't there
abbrev pub expires_nobody : World → Step → Bool
expires_nobody w (step.Expire n) = not (has_node w (client_node n))
expires_nobody w s = false

-- what a node invoked by an order, of which that request came: only one to invoke does
abbrev pub invoked_by : Local → Option Request → Option (RequestId × Command)
invoked_by (local.Invoke command) request = option_map told_op request
invoked_by order request = None

-- why the node gets nothing, whatever it is: there is no such node, it is stopped, or all messages weigh too much
abbrev pub barrier : World → NodeId → Option StepResult
barrier w to = first_case (
    only_if (not (has_node w to)) (Some result.NoNode)
    ∷ only_if (is_stopped w to) (Some result.Gone)
    ∷ only_if (nat_lt weight_limit (weight w)) (Some (result.Full (weight w)))
    ∷ []) None

-- how it goes: by the barrier, or by the number of the node's refusal, which is 0 where it took the input
abbrev pub goes : Option StepResult → ℕ → StepResult
goes (Some why) number = why
goes None number = if number == 0 then result.Done else result.Refused number

-- a node is handed an input, if it can be
abbrev pub hands : World → NodeId → Input → Stepped
hands w to given = steps_by w (Gives to given) (goes (barrier w to) (moves w to given).refused)

-- the call made the step, and its outcome is handed out; by an error, as by running out of memory, nothing has changed
abbrev pub MakesStep : {E : Type 0} → (old new : World) → Result Outcome E → Stepped → Type 0
MakesStep old new (Ok outcome) s = (new ≡ s.world) × (outcome ≡ s.outcome)
MakesStep old new (Err why) s = new ≡ old
