use Rattle.std.proofs.Common.{◌≡◌, Err, Ok, ap, refl, rules, subst, ◌∙◌}
use Rattle.curp_cmd.specs.Node.{master_node}
use Rattle.curp_cmd.specs.declared.node.NodeId.{NodeId}
use Rattle.curp_msg.specs.declared.script.Step.TheVariants as steps
use Rattle.curp_law_served.specs.Served.{and_then, makes, newest, with_quieting}
use Rattle.curp_serve.specs.Ended.{Led}
use Rattle.curp_serve.proofs.Going.{quieting_goes}
use Rattle.curp_serve.proofs.Leading.{led_on, led_stop}
use Rattle.curp_serve.proofs.stepper.Stepper.replace_master.Goals as goal

pub returns-in_err-make : goal.returns-in_err-make
returns-in_err-make c =
    let s = c.args.self.now in
    let stop = makes (steps.Stop (master_node (newest s))) s in
    let named : c.master-node.result ≡ master_node (newest s) = c.master-node.ensures ∙ ap master_node c.newest.ensures in
    led_stop c.from_residual.result c.in_err-make.field-0.0 (search rules) (and_then stop (with_quieting (steps.Recover 1 1 1))) (with_quieting (steps.Fetch 1))
    (λ u. (quieting_goes (steps.Fetch 1) u).steps)
    (led_stop (Err c.in_err-make.field-0.0) c.in_err-make.field-0.0 refl stop (with_quieting (steps.Recover 1 1 1)) (λ u. (quieting_goes (steps.Recover 1 1 1) u).steps)
    (subst (λ (node : NodeId). Led (Err c.in_err-make.field-0.0) s c.make.new.self (makes (steps.Stop node) s)) named c.in_err-make.ensures))

pub returns-in_err-make_quieted : goal.returns-in_err-make_quieted
returns-in_err-make_quieted c =
    let s = c.args.self.now in
    let stop = makes (steps.Stop (master_node (newest s))) s in
    let named : c.master-node.result ≡ master_node (newest s) = c.master-node.ensures ∙ ap master_node c.newest.ensures in
    led_stop c.from_residual-in_err-make_quieted.result c.in_err-make_quieted.field-0.0 (search rules) (and_then stop (with_quieting (steps.Recover 1 1 1))) (with_quieting (steps.Fetch 1))
    (λ u. (quieting_goes (steps.Fetch 1) u).steps)
    (led_on stop (with_quieting (steps.Recover 1 1 1))
    (subst (λ (node : NodeId). Led (Ok tt) s c.make.new.self (makes (steps.Stop node) s)) named c.in_ok-make.ensures) c.in_err-make_quieted.ensures)
