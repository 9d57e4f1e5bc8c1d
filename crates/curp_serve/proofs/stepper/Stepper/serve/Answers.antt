use Rattle.std.proofs.Common.{◌+◌, Err, None, refl, rules}
use Rattle.curp_msg.specs.declared.script.Step.TheVariants as steps
use Rattle.curp_law_served.specs.Served.{Served, and_then, if_turn, is_turn, replaces_master, serve, tidies, with_quieting}
use Rattle.curp_serve.proofs.Going.{replaces_goes, tidies_goes, turn_goes}
use Rattle.curp_serve.proofs.Leading.{led_on, led_stop}
use Rattle.curp_serve.proofs.stepper.Stepper.serve.Goals as goal

pub returns-in_err-ask : goal.returns-in_err-ask
unfolding serve
returns-in_err-ask c =
    let asked = with_quieting (steps.Invoke 1 c.args.command.now) (record c.args.self.now { answer = None }) in
    let count = λ (k : Served). if_turn (is_turn 16 (k.commands + 1)) tidies (record k { commands = k.commands + 1 }) in
    led_stop c.from_residual.result c.in_err-ask.field-0.0 (search rules) (and_then asked count)
    (λ (k : Served). if_turn (is_turn c.args.every k.commands) replaces_master k)
    (λ (k : Served). (turn_goes (is_turn c.args.every k.commands) replaces_master k replaces_goes).steps)
    (led_stop (Err c.in_err-ask.field-0.0) c.in_err-ask.field-0.0 refl asked count
    (λ (k : Served). (turn_goes (is_turn 16 (k.commands + 1)) tidies (record k { commands = k.commands + 1 }) tidies_goes).steps) c.in_err-ask.ensures.led)

pub returns-in_err-count : goal.returns-in_err-count
unfolding serve
returns-in_err-count c =
    let asked = with_quieting (steps.Invoke 1 c.args.command.now) (record c.args.self.now { answer = None }) in
    let count = λ (k : Served). if_turn (is_turn 16 (k.commands + 1)) tidies (record k { commands = k.commands + 1 }) in
    led_stop c.from_residual-in_err-count.result c.in_err-count.field-0.0 (search rules) (and_then asked count)
    (λ (k : Served). if_turn (is_turn c.args.every k.commands) replaces_master k)
    (λ (k : Served). (turn_goes (is_turn c.args.every k.commands) replaces_master k replaces_goes).steps)
    (led_on asked count c.in_ok-ask.ensures.led c.in_err-count.ensures)
