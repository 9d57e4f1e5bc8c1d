-- What a master keeps beside its log.
use Rattle.std.specs.Prelude.{◌≡◌, ℕ, ◌≤◌, List, length}
use Rattle.curp_cmd.specs.declared.node.NodeId.{NodeId}
use Rattle.curp_master_log.specs.MasterLog.{KeptLog}
use Rattle.curp_model.specs.Master.{Acknowledged}
use Rattle.curp_rounds.specs.Backups.{stored_by_all}
use Rattle.curp_rounds.specs.declared.reach.Reach.{Reach}

-- what all backups of the list have is synced, and neither the log nor the rounds are behind the last read that was captured
pub record KeepsUp (log : KeptLog) (all : List Acknowledged) (backups : List NodeId) (last : Reach) (round : ℕ) : Type 0 where
  pub synced : log.synced ≡ stored_by_all all backups
  pub long : last.long ≤ length log.entries
  pub rounds : last.round ≤ round

-- the same, closed: only lemmas look into it
unfoldable pub keeps_up : KeptLog → List Acknowledged → List NodeId → Reach → ℕ → Type 0
keeps_up log all backups last round = KeepsUp log all backups last round

pub record IsKeptUp (log : KeptLog) (all : List Acknowledged) (backups : List NodeId) (last : Reach) (round : ℕ) : Type 0 where
  pub its : keeps_up log all backups last round
