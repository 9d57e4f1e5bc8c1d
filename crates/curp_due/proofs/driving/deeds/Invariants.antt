use Rattle.std.proofs.Common.{◌≡◌, map}
use Rattle.curp_base.specs.Words.{all_of, numbers_from}
use Rattle.curp_due.specs.Driving.{recovery_deeds}
use Rattle.curp_due.proofs.driving.deeds.Given as goal

-- those of so many recoveries
abbrev pub invariant-loop-before : goal.invariant-loop-before
invariant-loop-before l = l.deeds.items ≡ all_of (map (recovery_deeds l.plan) (numbers_from 1 l.before))
