use Rattle.std.proofs.Common.{◌≡◌}
use Rattle.curp_model.specs.Manager.{witness_nodes}
use Rattle.curp_changes.proofs.names.witness_names.Given as goal

-- the names so far
abbrev pub invariant-loop-made : goal.invariant-loop-made
invariant-loop-made l = l.names.items ≡ witness_nodes l.first l.made
