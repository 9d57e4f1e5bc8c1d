use Rattle.curp_base.proofs.Runs.{ascend_chosen}
use Rattle.curp_base.proofs.reserved_pairs.ReservedPairs.retain.Goals as goal

pub invariant_of-self : goal.invariant_of-self
invariant_of-self g c = rw c.retain.ensures.filtered.4 (ascend_chosen g.K.Ord.cmp c.retain.ensures.filtered.0 c.self.inside.pairs.items c.self.invariant)
