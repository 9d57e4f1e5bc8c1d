use Rattle.std.proofs.Common.{Err, ℕ, rules, subst}
use Rattle.curp_msg.specs.declared.script.Step.TheVariants as steps
use Rattle.curp_law_served.specs.Served.{Served, newest, with_quieting}
use Rattle.curp_serve.specs.Ended.{Led}
use Rattle.curp_serve.proofs.Going.{quieting_goes}
use Rattle.curp_serve.proofs.Leading.{led_stop}
use Rattle.curp_serve.proofs.stepper.Stepper.tidy.Goals as goal

pub returns-in_err-make_quieted : goal.returns-in_err-make_quieted
returns-in_err-make_quieted c =
    let s = c.args.self.now in
    led_stop c.from_residual.result c.in_err-make_quieted.field-0.0 (search rules) (with_quieting (steps.Sync (newest s)) s)
    (λ (k : Served). with_quieting (steps.Collect (newest k)) k) (λ (k : Served). (quieting_goes (steps.Collect (newest k)) k).steps)
    (subst (λ (n : ℕ). Led (Err c.in_err-make_quieted.field-0.0) s c.make_quieted.new.self (with_quieting (steps.Sync n) s)) c.newest-master.ensures c.in_err-make_quieted.ensures)
