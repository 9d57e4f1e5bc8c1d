use Rattle.std.proofs.Common.{rules}
use Rattle.curp_law_served.specs.Served.{makes, quiets}
use Rattle.curp_serve.proofs.Going.{quiets_goes}
use Rattle.curp_serve.proofs.Leading.{led_stop}
use Rattle.curp_serve.proofs.stepper.Stepper.make_quieted.Goals as goal

pub returns-in_err-make : goal.returns-in_err-make
returns-in_err-make c =
    led_stop c.from_residual.result c.in_err-make.field-0.0 (search rules) (makes c.args.step c.args.self.now) quiets (λ u. (quiets_goes u).steps) c.in_err-make.ensures
