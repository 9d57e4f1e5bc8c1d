use Rattle.std.proofs.Common.{◌-◌, ◌^◌}
use Rattle.curp_cmd.specs.declared.node.NodeKind.TheVariants as kinds
use Rattle.curp_model.specs.Backup.{fresh_backup}
use Rattle.curp_model.specs.World.{opening}
use Rattle.curp_collected.proofs.Begun.{SoFar}
use Rattle.curp_collected.proofs.kinds.with_fresh_backups.Given as goal

-- the backups up to a number begin
abbrev pub invariant-numbers : goal.invariant-numbers
invariant-numbers l = SoFar kinds.Backup (opening l.files.header).backups fresh_backup l.files.each.items l.last l.begun.items

abbrev pub decreases-numbers : goal.decreases-numbers
decreases-numbers l = 2 ^ 32 - l.last
