use Rattle.std.proofs.Common.{◌≡◌, take}
use Rattle.curp_same.proofs.lists.all_same.Given as goal

-- so far they hold the same
abbrev pub invariant-loop-at : goal.invariant-loop-at
invariant-loop-at g l = take l.at l.a ≡ take l.at l.b
