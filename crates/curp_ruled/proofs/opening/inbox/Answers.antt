use Rattle.curp_ruled.proofs.Keeps.{begins}
use Rattle.curp_ruled.proofs.opening.inbox.Goals as goal

pub bounded_with-requires-clause-rule : goal.bounded_with-requires-clause-rule
bounded_with-requires-clause-rule c = begins
