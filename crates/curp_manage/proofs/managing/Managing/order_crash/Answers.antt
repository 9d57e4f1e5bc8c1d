use Rattle.curp_manage.proofs.Given.{managed_armed}
use Rattle.curp_manage.proofs.managing.Managing.order_crash.Goals as goal

pub invariant_of-managing : goal.invariant_of-managing
invariant_of-managing c =
    let inside = c.self.inside in
    rw (c.arm.ensures, c.from.ensures) (managed_armed inside.header inside.manager inside.crash c.args.crash c.self.invariant c.requires)
