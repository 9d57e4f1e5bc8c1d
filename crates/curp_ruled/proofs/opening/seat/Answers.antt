use Rattle.curp_ruled.proofs.Keeps.{seats}
use Rattle.curp_ruled.proofs.opening.seat.Goals as goal

pub another-seated-requires-clause-rule : goal.another-seated-requires-clause-rule
another-seated-requires-clause-rule c = seats _ _ c.requires.takes
