use Rattle.std.proofs.Common.{◌≡◌, take}
use Rattle.curp_model.specs.Manager.{install_on}
use Rattle.curp_changes.proofs.messages.install_on.Given as goal

-- the messages so far
abbrev pub invariant-loop-backup : goal.invariant-loop-backup
invariant-loop-backup l = l.messages.items ≡ install_on l.epoch (take l.backup-index l.backups)
