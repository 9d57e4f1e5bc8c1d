use Rattle.std.proofs.Common.{◌≡◌, ℕ, take}
use Rattle.curp_model.specs.Master.{all_have}
use Rattle.curp_rounds.specs.Backups.{is_within}
use Rattle.curp_rounds.proofs.heard.Heard.reach_of_all.Given as goal

-- what the backups so far have
abbrev pub invariant-loop-backup : goal.invariant-loop-backup
invariant-loop-backup l = (long round : ℕ) → all_have l.self (take l.backup-index l.backups) long round ≡ is_within l.least long round
