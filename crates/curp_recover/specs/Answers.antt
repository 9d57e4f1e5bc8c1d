-- What the calls of a recovery answer, by its phase.
use Rattle.std.specs.Prelude.{◌≡◌, ℕ, ◌+◌, if◌then◌else◌, Bool, true, false, not, List, [], Option, Some, None, Result, Ok, Err}
use Rattle.std.specs.List.{filter}
use Rattle.curp_base.specs.Words.{rises_past}
use Rattle.curp_base.specs.declared.failed.Failed.{Failed}
use Rattle.curp_base.specs.declared.failed.Failed.TheVariants as failed
use Rattle.curp_cmd.specs.Node.{is_among}
use Rattle.curp_cmd.specs.declared.entry.Entry.{Entry}
use Rattle.curp_model.specs.Master.{last_round}
use Rattle.curp_model.specs.Recovery.{RecoveryPhase, Asking, Storing, Waiting, Replayed, appends_whole, next_storing}
use Rattle.curp_msg.specs.declared.body.Recover.{Recover}
use Rattle.curp_msg.specs.declared.message.Message.{Message}
use Rattle.curp_recover.specs.declared.error.Ignored.{Ignored}
use Rattle.curp_recover.specs.declared.phase.Phase.{Phase}
use Rattle.curp_recover.specs.declared.phase.Phase.TheVariants as phase

-- the phase, without what it has
abbrev pub phase_name : RecoveryPhase → Phase
phase_name (Asking log requests) = phase.Asking
phase_name (Storing r) = phase.Storing
phase_name (Waiting r) = phase.Waiting

-- it asks, and has no log yet
abbrev pub awaits_log : RecoveryPhase → Bool
awaits_log (Asking None requests) = true
awaits_log _ = false

-- it asks, and has no requests yet
abbrev pub awaits_requests : RecoveryPhase → Bool
awaits_requests (Asking log None) = true
awaits_requests _ = false

-- it waits for fresh backups
abbrev pub awaits_backups : RecoveryPhase → Bool
awaits_backups (Storing r) = true
awaits_backups _ = false

-- the replayed log, once there is one
abbrev pub replayed_in : RecoveryPhase → Option Replayed
replayed_in (Asking log requests) = None
replayed_in (Storing r) = Some r
replayed_in (Waiting r) = Some r

-- the last round that was begun
abbrev pub round_in : RecoveryPhase → ℕ
round_in (Asking log requests) = 0
round_in (Storing r) = r.round
round_in (Waiting r) = r.round

-- the log to serve with, once all fresh backups have it
abbrev pub finished_log : RecoveryPhase → Option (List Entry)
finished_log (Waiting r) = Some r.log
finished_log _ = None

-- an input is ignored exactly where it isn't waited for
abbrev pub TellsIgnored : {A : Type 0} → Bool → Phase → Result A (Failed Ignored) → Type 0
TellsIgnored waited phase (Ok done) = waited ≡ true
TellsIgnored waited phase (Err (failed.Because ignored)) = (waited ≡ false) × (ignored.phase ≡ phase)
TellsIgnored waited phase (Err failed.NoMemory) = waited ≡ true

-- ---- sending again

-- no new round is begun where its number would pass 2^64 - 1
abbrev pub ends : Replayed → Bool
ends r = rises_past last_round r.round (r.round + 1)

-- a replayed log that is sent again
abbrev pub replayed_again : Replayed → Replayed
replayed_again r = if ends r then r else next_storing r

-- what is sent then
abbrev pub appends_again : ℕ → Recover → Replayed → List Message
appends_again n o r = if ends r then [] else appends_whole n o (next_storing r) (filter (λ b. not (is_among b r.complete)) o.backups)
