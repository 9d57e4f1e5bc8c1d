use Rattle.std.proofs.Common.{true}
use Rattle.curp_master.proofs.KeptUp.{pushed}
use Rattle.curp_master.proofs.master.Master.push_free.Goals as goal

pub invariant_of-self-2 : goal.invariant_of-self-2
invariant_of-self-2 c = pushed c.self.invariant _ true c.push_op-answer.ensures.pushed c.in_ok-make_room.ensures.kept

pub invariant_of-self-3 : goal.invariant_of-self-3
invariant_of-self-3 c = pushed c.self.invariant _ true c.push_op-answer.ensures.pushed c.in_ok-make_room.ensures.kept
