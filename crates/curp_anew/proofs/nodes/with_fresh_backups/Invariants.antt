use Rattle.curp_model.specs.Backup.{fresh_backup}
use Rattle.curp_nodes.specs.Nodes.{states}
use Rattle.curp_anew.proofs.Fresh.{AreFresh}
use Rattle.curp_anew.proofs.nodes.with_fresh_backups.Given as goal

-- so many fresh ones are made
abbrev pub invariant-loop-made : goal.invariant-loop-made
invariant-loop-made l = AreFresh l.backups.items (states l.fn.backups.items) fresh_backup l.there l.made
