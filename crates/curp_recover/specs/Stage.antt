-- What a recovery has so far, as the definitions have it.
use Rattle.std.specs.Prelude.{◌≡◌, true, List, Option, Some, None, ⊤}
use Rattle.curp_cmd.specs.declared.entry.Entry.{Entry}
use Rattle.curp_log.specs.Content.{Content}
use Rattle.curp_model.specs.Log.{is_log}
use Rattle.curp_model.specs.Recovery.{RecoveryPhase, Asking, Storing, Waiting, Replayed}
use Rattle.curp_msg.specs.declared.body.Recover.{Recover}
use Rattle.curp_recover.specs.declared.stage.Awaited.{Awaited}
use Rattle.curp_recover.specs.declared.stage.Awaited.TheVariants as awaited
use Rattle.curp_recover.specs.declared.stage.FencedLog.{FencedLog}
use Rattle.curp_recover.specs.declared.stage.ReplayedLog.{ReplayedLog}
use Rattle.curp_recover.specs.declared.stage.RecoveryStage.{RecoveryStage}
use Rattle.curp_recover.specs.declared.stage.RecoveryStage.TheVariants as stage

-- a replayed log
abbrev pub replayed_of : ReplayedLog → Replayed
replayed_of r = record { log = r.log.entries; cut = r.cut; round = r.round; complete = r.complete.items }

-- the phase of a replayed log, by what it waits for
abbrev pub replayed_phase : ReplayedLog → Awaited → RecoveryPhase
replayed_phase r awaited.Storing = Storing (replayed_of r)
replayed_phase r awaited.Adoption = Waiting (replayed_of r)

-- what came as the log
abbrev pub fenced_entries : Option FencedLog → Option (List Entry)
fenced_entries None = None
fenced_entries (Some fenced) = Some fenced.entries

-- the phase
abbrev pub phase_of : RecoveryStage → RecoveryPhase
phase_of (stage.Asking log requests) = Asking (fenced_entries log) requests
phase_of (stage.Replayed replayed awaited) = replayed_phase replayed awaited

-- the log of the order's range with these entries, where it is there
abbrev pub IsBuilt : Recover → List Entry → Option Content → Type 0
IsBuilt o entries None = ⊤
IsBuilt o entries (Some log) = (log.lo ≡ o.lo) × (log.hi ≡ o.hi) × (log.entries ≡ entries)

-- what came as the log is one, from the order's range
abbrev pub IsFenced : Recover → FencedLog → Type 0
IsFenced o fenced = (is_log o.lo o.hi fenced.entries ≡ true) × IsBuilt o fenced.entries fenced.log

-- the same, where it came
abbrev pub IsLogOf : Recover → Option FencedLog → Type 0
IsLogOf o None = ⊤
IsLogOf o (Some fenced) = IsFenced o fenced

-- a log that came is one, and a replayed log is from the order's range
abbrev pub IsStage : Recover → RecoveryStage → Type 0
IsStage o (stage.Asking log requests) = IsLogOf o log
IsStage o (stage.Replayed replayed awaited) = (replayed.log.lo ≡ o.lo) × (replayed.log.hi ≡ o.hi)
