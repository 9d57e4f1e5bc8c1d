use Rattle.std.proofs.Common.{◌≡◌}
use Rattle.curp_model.specs.Manager.{backup_nodes}
use Rattle.curp_changes.proofs.names.backup_names.Given as goal

-- the names so far
abbrev pub invariant-loop-made : goal.invariant-loop-made
invariant-loop-made l = l.names.items ≡ backup_nodes l.first l.made
