use Rattle.curp_merge.specs.Weaving.{BestSoFar}
use Rattle.curp_merge.proofs.due.due.Given as goal

abbrev pub invariant-loop-at : goal.invariant-loop-at
invariant-loop-at l = BestSoFar l.strands l.tracks l.at l.best
