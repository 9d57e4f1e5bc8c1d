-- Whether a master is open to requests, in the words of the definitions, and how far its next lists are.
use Rattle.std.specs.Prelude.{ℕ, ◌&&◌, not, true, if◌then◌else◌, List, Option, Some, None}
use Rattle.curp_model.specs.Master as master
use Rattle.curp_model.specs.Master.{Acknowledged, all_have}
use Rattle.curp_rounds.specs.declared.phase.MasterPhase.{MasterPhase}
use Rattle.curp_rounds.specs.declared.phase.MasterPhase.TheVariants.{Open, Switching}
use Rattle.curp_rounds.specs.declared.phase.Switch.{Switch}

-- the lists that it takes up next
abbrev pub switch_of : Switch → master.Switch
switch_of s = record { version = s.version; backups = s.backups; witnesses = s.witnesses; round = s.round; prepared = s.prepared }

abbrev pub phase_of : MasterPhase → master.Phase
phase_of Open = master.Open
phase_of (Switching s) = master.Switching (switch_of s)

-- the manager was told that the next list has the log
abbrev pub told : master.Phase → master.Phase
told master.Open = master.Open
told (master.Switching s) = master.Switching (record s { prepared = true })

-- the version of the next list, if the manager was told that it has the log
abbrev pub told_version : master.Phase → Option ℕ
told_version master.Open = None
told_version (master.Switching s) = if s.prepared then Some s.version else None

-- the version of the next list, if each of its backups has a log of that length and the manager wasn't told so
abbrev pub ready_version : ℕ → List Acknowledged → master.Phase → Option ℕ
ready_version long all master.Open = None
ready_version long all (master.Switching s) =
    if not s.prepared && all_have all s.backups long s.round then Some s.version else None
