use Rattle.curp_serve.proofs.Behind.{begun_serving}
use Rattle.curp_serve.proofs.served.Served.begin.Goals as goal

pub invariant_of-result : goal.invariant_of-result
invariant_of-result c = begun_serving c.args.f c.args.every c.requires.some c.requires.few c.in_ok-begin.field-0 c.in_ok-begin.ensures
