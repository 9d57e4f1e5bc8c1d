use Rattle.std.proofs.Common.{◌≡◌, map}
use Rattle.curp_base.specs.Words.{numbers_from}
use Rattle.curp_model.specs.Manager.{Steady}
use Rattle.curp_changes.proofs.opening.opening_work.Given as goal

-- the partitions so far
abbrev pub invariant-loop-made : goal.invariant-loop-made
invariant-loop-made l = l.work.items ≡ map (λ p. Steady) (numbers_from 1 l.made)
