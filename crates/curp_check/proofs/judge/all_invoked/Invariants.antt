use Rattle.std.proofs.Common.{take}
use Rattle.curp_base.specs.Words.{Each}
use Rattle.curp_check.specs.Found.{IsInvoked}
use Rattle.curp_check.proofs.judge.all_invoked.Given as goal

abbrev pub invariant-loop-at : goal.invariant-loop-at
invariant-loop-at l = Each (IsInvoked l.history) (take l.at l.order)
