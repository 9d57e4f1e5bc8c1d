use Rattle.curp_slots.proofs.Taken.{table_left}
use Rattle.curp_slots.proofs.slots.Slots.free.Goals as goal

pub invariant_of-self : goal.invariant_of-self
invariant_of-self c = rw c.free_in_each.ensures (table_left c.args.listed.now c.self.inside.ways c.self.inside.sets.items c.self.invariant)
