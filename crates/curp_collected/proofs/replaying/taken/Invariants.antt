use Rattle.curp_collected.proofs.Taken.{SoFar}
use Rattle.curp_collected.proofs.replaying.taken.Given as goal

-- so many are taken
abbrev pub invariant-loop-input : goal.invariant-loop-input
invariant-loop-input g l = SoFar g.N.Core.machine l.files.until l.fn.id l.fn.node l.yielded l.log
