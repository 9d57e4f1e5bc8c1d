use Rattle.std.proofs.Common.{◌≡◌, ◌++◌, not, filter, take}
use Rattle.curp_cmd.specs.Node.{is_among}
use Rattle.curp_rounds.proofs.phase.add_fresh.Given as goal

-- those so far that aren't among the backups are added
abbrev pub invariant-loop-backup : goal.invariant-loop-backup
invariant-loop-backup l = l.all.items ≡ l.initial.all.items ++ filter (λ b. not (is_among b l.backups)) (take l.backup-index l.next)
