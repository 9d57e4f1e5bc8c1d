use Rattle.curp_slots.proofs.Orders.{in_order}
use Rattle.curp_slots.proofs.started.StartedWitness.holds_in_order.Goals as goal

pub returns : goal.returns
returns c = rw (← c.self.view_is) (in_order c.self.inside.register.held c.self.invariant.ascend)
