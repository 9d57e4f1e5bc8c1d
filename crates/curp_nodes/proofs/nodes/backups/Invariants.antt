use Rattle.std.proofs.Common.{◌≡◌, replicate}
use Rattle.curp_model.specs.Backup.{installed_backup}
use Rattle.curp_nodes.specs.Nodes.{HasNumbers, states}
use Rattle.curp_nodes.proofs.nodes.backups.Given as goal

-- so many are made, with their numbers
abbrev pub invariant-loop-made : goal.invariant-loop-made
invariant-loop-made l = (states l.nodes.items ≡ replicate l.made (installed_backup 1)) × HasNumbers l.nodes.items
