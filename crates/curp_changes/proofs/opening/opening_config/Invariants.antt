use Rattle.std.proofs.Common.{◌≡◌, map}
use Rattle.curp_base.specs.Words.{numbers_from}
use Rattle.curp_model.specs.Manager.{opening_part}
use Rattle.curp_changes.proofs.opening.opening_config.Given as goal

-- the entries so far
abbrev pub invariant-loop-made : goal.invariant-loop-made
invariant-loop-made l = l.parts.items ≡ map (opening_part l.shape) (numbers_from 1 l.made)
