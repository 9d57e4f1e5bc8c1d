-- What can complete was answered by a master.
use Rattle.std.specs.Prelude.{◌≡◌, ◌⊎◌, ℕ}
use Rattle.curp_cmd.specs.declared.command.Answer.{Answer}
use Rattle.curp_cmd.specs.declared.command.RequestId.{RequestId}
use Rattle.curp_cmd.specs.declared.node.NodeId.{NodeId}
use Rattle.curp_model.specs.Backup.{BackupState}
use Rattle.curp_model.specs.Log.{Stands}
use Rattle.curp_model.specs.Named.{IsBackup, IsWitness}
use Rattle.curp_model.specs.Witness.{WitnessState}
use Rattle.curp_model.specs.World.{World}
use Rattle.curp_facts.specs.Facts.{HasLog, IsAmong, IsReplayed, Lists, Logged, WasAdopted, hi_of, lo_of}
use Rattle.curp_law_runs.specs.Along.{IsLast}

-- the request stands with that answer in the backup's log, or the witness holds it and its replay has that answer
abbrev pub PairHas : World → ℕ → BackupState → WitnessState → RequestId → Answer → Type 0
PairHas w p b x id a = Stands (lo_of w p) (hi_of w p) b.log id a ⊎ IsReplayed w p b x id a

-- so it is with each pair of a backup and a witness of these lists
abbrev pub PairsHave : World → ℕ → Lists → RequestId → Answer → Type 0
PairsHave w p l id a = (node other : NodeId) → IsAmong node l.backups → IsAmong other l.witnesses
    → (b : BackupState) (x : WitnessState) → IsBackup w node b → IsWitness w other x → PairHas w p b x id a

-- the master of adopted lists of the partition has the request in its log with that answer, and each pair of its last lists has it
pub record AnsweredBy (w : World) (p : ℕ) (id : RequestId) (a : Answer) : Type 0 where
  pub lists : Lists
  pub adopted : WasAdopted w lists
  pub its_part : lists.part ≡ p
  pub its : Logged
  pub its_log : HasLog w lists.master its
  pub in_log : Stands (lo_of w p) (hi_of w p) its.log id a
  pub pairs : (j : Lists) → WasAdopted w j → j.master ≡ lists.master → IsLast w j → PairsHave w p j id a
