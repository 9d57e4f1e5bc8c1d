use Rattle.std.proofs.Common.{None, rules}
use Rattle.curp_msg.specs.declared.script.Step.TheVariants.{Invoke}
use Rattle.curp_serve.specs.Ended.{going}
use Rattle.curp_serve.proofs.Going.{quieting_goes}
use Rattle.curp_serve.proofs.Leading.{led_nowhere, longer_on}
use Rattle.curp_serve.proofs.stepper.Stepper.ask.Goals as goal

pub returns-clause-longer : goal.returns-clause-longer
returns-clause-longer c =
    longer_on (Invoke 1 c.in_ok-command.command)
    (going c.self.inside.cluster c.self.inside.steps.items c.self.inside.delivered c.self.inside.commands None) c.make_quieted.new.self
    c.make_quieted.result c.self.invariant.commands c.make_quieted.ensures

pub returns-in_err-command-clause-led : goal.returns-in_err-command-clause-led
returns-in_err-command-clause-led c =
    led_nowhere c.args.self.now _ c.from_residual.result (search rules) (quieting_goes (Invoke 1 c.args.command.now) (record c.args.self.now { answer = None })).steps
