use Rattle.std.proofs.Common.{refl}
use Rattle.curp_check.proofs.order.PackedOrder.new.Goals as goal

pub invariant_of-result : goal.invariant_of-result
invariant_of-result c = rw c.new-2.ensures.items tt

pub returns : goal.returns
returns c = rw c.new-2.ensures.items refl
