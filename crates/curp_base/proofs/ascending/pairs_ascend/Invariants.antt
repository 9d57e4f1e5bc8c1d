use Rattle.curp_base.proofs.Rising.{RisesTo}
use Rattle.curp_base.proofs.ascending.pairs_ascend.Given as goal

abbrev pub invariant-loop-at : goal.invariant-loop-at
invariant-loop-at g l = RisesTo g.K.Ord.cmp l.pairs l.at
