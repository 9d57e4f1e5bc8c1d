use Rattle.curp_base.proofs.Rising.{RisesTo, keyed}
use Rattle.curp_base.proofs.ascending.keys_ascend.Given as goal

abbrev pub invariant-loop-at : goal.invariant-loop-at
invariant-loop-at g l = RisesTo g.K.Ord.cmp (keyed l.keys) l.at
