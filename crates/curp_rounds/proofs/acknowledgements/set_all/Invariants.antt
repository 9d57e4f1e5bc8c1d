use Rattle.std.proofs.Common.{◌≡◌, ◌++◌, take, drop}
use Rattle.curp_rounds.specs.Backups.{all_set}
use Rattle.curp_rounds.proofs.acknowledgements.set_all.Given as goal

-- it is set for those so far
abbrev pub invariant-loop-at : goal.invariant-loop-at
invariant-loop-at l = l.each.items ≡ all_set (take l.at l.initial.each.items) l.long l.round ++ drop l.at l.initial.each.items
