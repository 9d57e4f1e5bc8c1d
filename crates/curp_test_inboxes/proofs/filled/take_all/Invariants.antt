use Rattle.curp_test_inboxes.specs.Ends.{IsSameTake}
use Rattle.curp_test_inboxes.proofs.filled.take_all.Given as goal

-- it is the same end of the inbox
abbrev pub invariant-loop-turn : goal.invariant-loop-turn
invariant-loop-turn g l = IsSameTake l.fn.take l.take
