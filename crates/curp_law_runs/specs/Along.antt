-- What holds of the logs of lists, along the masters of a partition.
use Rattle.std.specs.Prelude.{◌≡◌, ◌≤◌, List}
use Rattle.curp_base.specs.Words.{Each, IsPrefix}
use Rattle.curp_cmd.specs.declared.entry.Entry.{Entry}
use Rattle.curp_cmd.specs.declared.node.NodeId.{NodeId}
use Rattle.curp_model.specs.Backup.{BackupState}
use Rattle.curp_model.specs.Named.{IsBackup, IsWitness}
use Rattle.curp_model.specs.Recovery.{replay}
use Rattle.curp_model.specs.Witness.{WitnessState, frozen_requests}
use Rattle.curp_model.specs.World.{World}
use Rattle.curp_facts.specs.Facts.{HasLog, IsAmong, Lists, Logged, WasAdopted, hi_of, lo_of}

-- it holds of the log of the lists' master, and of the log of each of their backups
pub record HoldsOn (w : World) (l : Lists) (P : List Entry → Type 0) : Type 0 where
  pub its : Logged
  pub its_log : HasLog w l.master its
  pub in_log : P its.log
  pub on_all : Each (λ node. (b : BackupState) → IsBackup w node b → P b.log) l.backups

-- what holds of a log holds of each longer one
abbrev pub IsLasting : (List Entry → Type 0) → Type 0
IsLasting P = (xs ys : List Entry) → IsPrefix xs ys → P xs → P ys

-- no lists of the partition that were adopted up to that epoch have a larger version
abbrev pub IsLast : World → Lists → Type 0
IsLast w l = (k : Lists) → WasAdopted w k → k.part ≡ l.part → k.epoch ≤ l.epoch → k.version ≤ l.version

-- it holds of what is replayed from any pair of a backup and a witness of these lists
abbrev pub IsRecoverable : World → Lists → (List Entry → Type 0) → Type 0
IsRecoverable w l P = (node other : NodeId) → IsAmong node l.backups → IsAmong other l.witnesses
    → (b : BackupState) (x : WitnessState) → IsBackup w node b → IsWitness w other x
    → P (replay (lo_of w l.part) (hi_of w l.part) b.log (frozen_requests x))
