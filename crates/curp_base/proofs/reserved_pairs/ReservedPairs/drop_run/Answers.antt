use Rattle.curp_base.proofs.Runs.{ascend_run}
use Rattle.curp_base.proofs.reserved_pairs.ReservedPairs.drop_run.Goals as goal

pub invariant_of-self : goal.invariant_of-self
invariant_of-self g c = rw c.drop_run.ensures.items (ascend_run g.K.Ord.cmp c.self.inside.pairs.items c.args.start c.args.end c.requires.ordered c.self.invariant)
