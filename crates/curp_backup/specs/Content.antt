-- A backup in memory.
use Rattle.std.specs.Prelude.{ℕ}
use Rattle.curp_model.specs.Backup.{BackupState}

-- what a backup is by its definition, and how many of the oldest entries of its log are packed
pub record Content : Type 0 where
  pub state : BackupState
  pub packed : ℕ
